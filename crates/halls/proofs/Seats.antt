-- What a till answers and leaves, by its seat and what it holds. Assumes nothing.
use Rattle.std.proofs.Common.{◌≡◌, ℕ, ◌<◌, List, Some, None, Ok, Err, Option, Result, length, sym, refl, ap, ◌∙◌, get_or, set, arith}
use Rattle.std.proofs.lemmas.List.{get_or-map, map-set}
use Rattle.basis.specs.Members.{Numbers}
use Rattle.outcomes.specs.Calls.{offer, hear, close, call_after}
use Rattle.outcomes.specs.Closing.{closing_view, record_answer, record_output, close_answer}
use Rattle.outcomes.specs.Hearing.{hear_answer_lem}
use Rattle.outcomes.specs.Holdings.{Life, Fresh as IsFresh}
use Rattle.outcomes.specs.Opening.{offer_answer}
use Rattle.outcomes.specs.Saying.{say_answer, say_output}
use Rattle.scripts.specs.declared.command.RuleName.{RuleName}
use Rattle.sheets.specs.OfTakings.{takings_rows}
use Rattle.halls.specs.Faults.{Problem, misplaced, as_problem, offered_of, heard_of, said_of, said_output, closed_of, recorded_of, recorded_output}
use Rattle.halls.specs.Plays.{Seated}
use Rattle.halls.specs.Scenes.{shown, till, nobody, by_life, if_offered, offering, offering_left, hearing, hearing_left, closing, closing_left, recording, recording_output}
use Rattle.halls.specs.States.{Held, setting_of, life_of, numbers_in, offer_left, hear_left, close_left}
use Rattle.halls.specs.Sweeps.{Spoken, spoken, said_from, blank}
use Rattle.halls.specs.Packets.{first_message}
use Rattle.halls.specs.Tills.{held_by}
use Rattle.halls.specs.declared.state.Active.TheVariants.{Running, Closed}
use Rattle.halls.specs.declared.state.State.{State}
use Rattle.halls.specs.declared.state.State.TheVariants as state
use Rattle.halls.specs.declared.till.Till.{Till}
use Rattle.halls.proofs.Playing.{same_some}

-- of what a till says from a position, the message, if there is one
abbrev pub spoken_by : Result (Option ℕ) Problem → List ℕ → Option Spoken
spoken_by (Ok (Some p)) out = Some (record { position = p; packet = first_message out })
spoken_by (Ok None) out = None
spoken_by (Err e) out = None

-- the same, where the replica was asked
asked : (r : Result (Option ℕ) Rattle.basis.specs.Refusals.Refused) (out : List ℕ) → spoken_by (as_problem r) out ≡ spoken r out
asked (Ok (Some p)) out = refl
asked (Ok None) out = refl
asked (Err e) out = refl

-- a replica is gone only while a call is on its way
not_gone : {P : Type 0} (m : Numbers) → ◌≡◌ {A = Option Numbers} None (Some m) → P
not_gone m e = absurd (let z : ◌≡◌ {A = ℕ} 0 1 = cc in omega arith)

module _ (rule : RuleName) (n i : ℕ) (h : Held) where
  abbrev Seat : State → Type 0
  Seat st = numbers_in st ≡ Some (record { n = n; own = i })

  -- by its life, whatever is asked of it
  fresh_is : {X : Type 0} (x y z : X) → h.life ≡ IsFresh → by_life h.life x y z ≡ x
  fresh_is x y z e = ap (λ (l : Life). by_life l x y z) e

  module _ {X : Type 0} (f : ℕ → ℕ → X) where
    -- the numbers of a replica are those of its seat
    by_seat : (m : Rattle.basis.specs.declared.member.Member.Member) → ◌≡◌ {A = Option Numbers} (Some (record { n = m.n; own = m.own })) (Some (record { n = n; own = i })) → f m.n m.own ≡ f n i
    by_seat m e = ap (λ (z : Numbers). f z.n z.own) (same_some e)

  abbrev Lives : State → Type 0
  Lives st = h.life ≡ life_of st

  pub offers_seen : (st : State) → Lives st → Seat st → offered_of rule st h ≡ offering rule n i h
  offers_seen (state.Fresh f) l e = by_seat (λ a b. as_problem (offer_answer (setting_of rule) a b h)) f.member e ∙ sym (ap (λ (z : Life). by_life z (as_problem (offer_answer (setting_of rule) n i h)) (Err misplaced) (Err misplaced)) l)
  offers_seen (state.Active (Running r)) l e = sym (ap (λ (z : Life). by_life z (as_problem (offer_answer (setting_of rule) n i h)) (Err misplaced) (Err misplaced)) l)
  offers_seen (state.Active (Closed r)) l e = sym (ap (λ (z : Life). by_life z (as_problem (offer_answer (setting_of rule) n i h)) (Err misplaced) (Err misplaced)) l)
  offers_seen state.Gone l e = not_gone _ e

  pub offer_left_seen : (st : State) (s : List ℕ) → Lives st → Seat st → offer_left rule st s h ≡ offering_left rule n i s h
  offer_left_seen (state.Fresh f) s l e = by_seat (λ a b. call_after (setting_of rule) a b (offer s) h) f.member e ∙ sym (ap (λ (z : Life). by_life z (call_after (setting_of rule) n i (offer s) h) h h) l)
  offer_left_seen (state.Active (Running r)) s l e = sym (ap (λ (z : Life). by_life z (call_after (setting_of rule) n i (offer s) h) h h) l)
  offer_left_seen (state.Active (Closed r)) s l e = sym (ap (λ (z : Life). by_life z (call_after (setting_of rule) n i (offer s) h) h h) l)
  offer_left_seen state.Gone s l e = not_gone _ e

  pub hears_seen : (st : State) (j : ℕ) (xs : List ℕ) → Lives st → Seat st → heard_of rule st j xs h ≡ hearing rule n i j xs h
  hears_seen (state.Fresh f) j xs l e = sym (ap (λ (z : Life). if_offered z (as_problem (hear_answer_lem (setting_of rule) n i j xs h)) (Err misplaced)) l)
  hears_seen (state.Active (Running r)) j xs l e = by_seat (λ a b. as_problem (hear_answer_lem (setting_of rule) a b j xs h)) r.member e ∙ sym (ap (λ (z : Life). if_offered z (as_problem (hear_answer_lem (setting_of rule) n i j xs h)) (Err misplaced)) l)
  hears_seen (state.Active (Closed r)) j xs l e = by_seat (λ a b. as_problem (hear_answer_lem (setting_of rule) a b j xs h)) r.member e ∙ sym (ap (λ (z : Life). if_offered z (as_problem (hear_answer_lem (setting_of rule) n i j xs h)) (Err misplaced)) l)
  hears_seen state.Gone j xs l e = not_gone _ e

  pub hear_left_seen : (st : State) (j : ℕ) (xs : List ℕ) → Lives st → Seat st → hear_left rule st j xs h ≡ hearing_left rule n i j xs h
  hear_left_seen (state.Fresh f) j xs l e = sym (ap (λ (z : Life). if_offered z (call_after (setting_of rule) n i (hear j xs) h) h) l)
  hear_left_seen (state.Active (Running r)) j xs l e = by_seat (λ a b. call_after (setting_of rule) a b (hear j xs) h) r.member e ∙ sym (ap (λ (z : Life). if_offered z (call_after (setting_of rule) n i (hear j xs) h) h) l)
  hear_left_seen (state.Active (Closed r)) j xs l e = by_seat (λ a b. call_after (setting_of rule) a b (hear j xs) h) r.member e ∙ sym (ap (λ (z : Life). if_offered z (call_after (setting_of rule) n i (hear j xs) h) h) l)
  hear_left_seen state.Gone j xs l e = not_gone _ e

  -- what is said from a position
  says_seen : (a : Rattle.halls.specs.declared.state.Active.Active) (p : ℕ) → Lives (state.Active a) → Seat (state.Active a) →
      spoken_by (said_of rule (state.Active a) p blank h) (said_output rule (state.Active a) p blank h) ≡ said_from rule n i p h
  says_seen (Running r) p l e =
      asked _ _
      ∙ by_seat (λ a b. spoken (say_answer (setting_of rule) a b h p blank) (say_output (setting_of rule) a b h p blank)) r.member e
      ∙ sym (ap (λ (z : Life). if_offered z (spoken (say_answer (setting_of rule) n i h p blank) (say_output (setting_of rule) n i h p blank)) None) l)
  says_seen (Closed r) p l e =
      asked _ _
      ∙ by_seat (λ a b. spoken (say_answer (setting_of rule) a b h p blank) (say_output (setting_of rule) a b h p blank)) r.member e
      ∙ sym (ap (λ (z : Life). if_offered z (spoken (say_answer (setting_of rule) n i h p blank) (say_output (setting_of rule) n i h p blank)) None) l)

  pub says_from : (st : State) (p : ℕ) → Lives st → Seat st → spoken_by (said_of rule st p blank h) (said_output rule st p blank h) ≡ said_from rule n i p h
  says_from (state.Fresh f) p l e = sym (ap (λ (z : Life). if_offered z (spoken (say_answer (setting_of rule) n i h p blank) (say_output (setting_of rule) n i h p blank)) None) l)
  says_from (state.Active a) p l e = says_seen a p l e
  says_from state.Gone p l e = not_gone _ e

  pub closes_seen : (st : State) → Lives st → Seat st → closed_of rule st h ≡ closing n h
  closes_seen (state.Fresh f) l e = sym (ap (λ (z : Life). by_life z (Err misplaced) (as_problem (close_answer takings_rows n (closing_view h))) (Err misplaced)) l)
  closes_seen (state.Active (Running r)) l e = by_seat (λ a b. as_problem (close_answer takings_rows a (closing_view h))) r.member e ∙ sym (ap (λ (z : Life). by_life z (Err misplaced) (as_problem (close_answer takings_rows n (closing_view h))) (Err misplaced)) l)
  closes_seen (state.Active (Closed r)) l e = sym (ap (λ (z : Life). by_life z (Err misplaced) (as_problem (close_answer takings_rows n (closing_view h))) (Err misplaced)) l)
  closes_seen state.Gone l e = not_gone _ e

  pub close_left_seen : (st : State) → Lives st → Seat st → close_left rule st h ≡ closing_left rule n i h
  close_left_seen (state.Fresh f) l e = sym (ap (λ (z : Life). by_life z h (call_after (setting_of rule) n i close h) h) l)
  close_left_seen (state.Active (Running r)) l e = by_seat (λ a b. call_after (setting_of rule) a b close h) r.member e ∙ sym (ap (λ (z : Life). by_life z h (call_after (setting_of rule) n i close h) h) l)
  close_left_seen (state.Active (Closed r)) l e = sym (ap (λ (z : Life). by_life z h (call_after (setting_of rule) n i close h) h) l)
  close_left_seen state.Gone l e = not_gone _ e

  pub records_seen : (st : State) (out : List ℕ) → Lives st → Seat st → recorded_of st out h ≡ recording n out h
  records_seen (state.Fresh f) out l e = sym (ap (λ (z : Life). by_life z (Err misplaced) (Err misplaced) (as_problem (record_answer takings_rows n (closing_view h) 12 1 out))) l)
  records_seen (state.Active (Running r)) out l e = sym (ap (λ (z : Life). by_life z (Err misplaced) (Err misplaced) (as_problem (record_answer takings_rows n (closing_view h) 12 1 out))) l)
  records_seen (state.Active (Closed r)) out l e = by_seat (λ a b. as_problem (record_answer takings_rows a (closing_view h) 12 1 out)) r.member e ∙ sym (ap (λ (z : Life). by_life z (Err misplaced) (Err misplaced) (as_problem (record_answer takings_rows n (closing_view h) 12 1 out))) l)
  records_seen state.Gone out l e = not_gone _ e

  pub record_output_seen : (st : State) (out : List ℕ) → Lives st → Seat st → recorded_output st out h ≡ recording_output n out h
  record_output_seen (state.Fresh f) out l e = sym (ap (λ (z : Life). by_life z out out (record_output takings_rows n (closing_view h) 12 1 out)) l)
  record_output_seen (state.Active (Running r)) out l e = sym (ap (λ (z : Life). by_life z out out (record_output takings_rows n (closing_view h) 12 1 out)) l)
  record_output_seen (state.Active (Closed r)) out l e = by_seat (λ a b. record_output takings_rows a (closing_view h) 12 1 out) r.member e ∙ sym (ap (λ (z : Life). by_life z out out (record_output takings_rows n (closing_view h) 12 1 out)) l)
  record_output_seen state.Gone out l e = not_gone _ e

-- the till with the number i, read at its place in the list, and what it leaves there
module _ (rule : RuleName) (n : ℕ) (ts : List Till) (place i : ℕ) (seat : place ≡ i) (told : Till) (low : i < n) (counted : length ts ≡ n) (sat : Seated n ts) (was : told ≡ get_or ts place told) where
  inside : place < length ts
  inside = omega (arith, seat, low, counted)

  numbers : numbers_in told.state ≡ Some (record { n = n; own = i })
  numbers = ap (λ (z : Till). numbers_in z.state) was ∙ sat place told (omega (arith, seat, low)) ∙ ap (λ (z : ℕ). Some (record { n = n; own = z })) seat

  stands : held_by told ≡ till i (shown ts)
  stands = ap held_by was ∙ sym (get_or-map held_by ts place told nobody inside) ∙ ap (λ (z : ℕ). till z (shown ts)) seat

  pub offer_answered : offered_of rule told.state (held_by told) ≡ offering rule n i (till i (shown ts))
  offer_answered = offers_seen rule n i (held_by told) told.state refl numbers ∙ ap (offering rule n i) stands

  pub hear_answered : (j : ℕ) (xs : List ℕ) → heard_of rule told.state j xs (held_by told) ≡ hearing rule n i j xs (till i (shown ts))
  hear_answered j xs = hears_seen rule n i (held_by told) told.state j xs refl numbers ∙ ap (hearing rule n i j xs) stands

  pub say_answered : (p : ℕ) → spoken_by (said_of rule told.state p blank (held_by told)) (said_output rule told.state p blank (held_by told)) ≡ said_from rule n i p (till i (shown ts))
  say_answered p = says_from rule n i (held_by told) told.state p refl numbers ∙ ap (said_from rule n i p) stands

  pub close_answered : closed_of rule told.state (held_by told) ≡ closing n (till i (shown ts))
  close_answered = closes_seen rule n i (held_by told) told.state refl numbers ∙ ap (closing n) stands

  pub record_answered : (out : List ℕ) → recorded_of told.state out (held_by told) ≡ recording n out (till i (shown ts))
  record_answered out = records_seen rule n i (held_by told) told.state out refl numbers ∙ ap (recording n out) stands

  pub record_written : (out : List ℕ) → recorded_output told.state out (held_by told) ≡ recording_output n out (till i (shown ts))
  record_written out = record_output_seen rule n i (held_by told) told.state out refl numbers ∙ ap (recording_output n out) stands

  module _ (t : Till) where
    -- what the list shows with another till in this place
    shown_set : (h : Held) → held_by t ≡ h → shown (set ts place t) ≡ set (shown ts) i h
    shown_set h e = map-set held_by ts place t ∙ ap (λ (z : Held). set (shown ts) place z) e ∙ ap (λ (z : ℕ). set (shown ts) z h) seat

    pub offer_shown : (s : List ℕ) → held_by t ≡ offer_left rule told.state s (held_by told) → shown (set ts place t) ≡ set (shown ts) i (offering_left rule n i s (till i (shown ts)))
    offer_shown s e = shown_set _ (e ∙ offer_left_seen rule n i (held_by told) told.state s refl numbers ∙ ap (offering_left rule n i s) stands)

    pub hear_shown : (j : ℕ) (xs : List ℕ) → held_by t ≡ hear_left rule told.state j xs (held_by told) → shown (set ts place t) ≡ set (shown ts) i (hearing_left rule n i j xs (till i (shown ts)))
    hear_shown j xs e = shown_set _ (e ∙ hear_left_seen rule n i (held_by told) told.state j xs refl numbers ∙ ap (hearing_left rule n i j xs) stands)

    pub close_shown : held_by t ≡ close_left rule told.state (held_by told) → shown (set ts place t) ≡ set (shown ts) i (closing_left rule n i (till i (shown ts)))
    close_shown e = shown_set _ (e ∙ close_left_seen rule n i (held_by told) told.state refl numbers ∙ ap (closing_left rule n i) stands)
