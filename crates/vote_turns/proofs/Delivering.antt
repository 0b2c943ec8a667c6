-- What the steps of a slot's sheets do to the ballots: a delivered slot stays delivered. Assumes nothing.
use Rattle.std.proofs.Common.{◌≡◌, ℕ, zero, suc, ◌<◌, ◌≤◌, Bool, true, false, cond, ◌≢◌, List, length, get_or, set, Some, None, Option, nat_lt, is_some, refl, sym, ap, ◌∙◌, subst, ⊎_elim, arith, get_or-set_other, get_or-set_same}
use Rattle.std.proofs.Math.Path.{fun_ext}
use Rattle.std.proofs.lemmas.Bool.{cond-true, cond-false, cases_eq, cases_lt, lt-ltb, le-ltb, false≢true}
use Rattle.std.proofs.lemmas.List.{set_past}
use Rattle.std.specs.Option.{option_map}
use Rattle.messages.specs.declared.message.Phase.TheVariants.{Echo, Ready}
use Rattle.rules.specs.Rounds.{Vote}
use Rattle.rules.specs.Laws.{Laws}
use Rattle.sheets.specs.Holds.{Rows}
use Rattle.slots.specs.Places.{or_else}
use Rattle.slots.specs.declared.slot.Slot.{Slot}
use Rattle.slots.specs.Steps.{Slots, cleared, noted, echo_due, ready_due, delivery_due, delivered_by, go_on, next, settled}
use Rattle.ballots.specs.States.{BallotState}
use Rattle.outcomes.specs.Holdings.{Setting, Holding, is_delivered, state_of, with_slots}
use Rattle.outcomes.specs.Taking.{sheets_taken}
use Rattle.ballot_runs.specs.Views.{View, OnlyAt}
use Rattle.ballot_runs.specs.Runs.{Ballots, delivers}
use Rattle.ballot_runs.proofs.Several.{Steps, no_step, then_step, Turns, no_turn, turns_join, steps_turns}
use Rattle.vote_turns.proofs.Known.{view_at, no_ballot, view_of, stage_of, Well, coin_none, VotesWell, view_in}
use Rattle.vote_turns.proofs.Pieces.{steps_kept}
use Rattle.vote_turns.proofs.Moved.{Moved}

-- whether slot l is delivered in a table
abbrev delivered_in : {R : Type 0} → ℕ → Slots R → Bool
delivered_in l t = is_some (get_or t.records l cleared).delivered

module _ {R : Type 0} (rows : Rows R) (n own k : ℕ) where
  abbrev Kept : Slots R → Slots R → Type 0
  Kept t t' = (l : ℕ) → delivered_in l t ≡ true → delivered_in l t' ≡ true

  marks : (t : Slots R) (j : ℕ) → Kept t (delivered_by rows n own k t j)
  marks t j l e = ⊎_elim
      (λ lt. ⊎_elim
      (λ same. ap (λ (r : Slot). is_some r.delivered) (ap (λ (z : ℕ). get_or (set t.records k (record { delivered = Some j })) z cleared) same ∙ get_or-set_same t.records k (record { delivered = Some j }) cleared lt))
      (λ ne. ap (λ (r : Slot). is_some r.delivered) (get_or-set_other t.records k l (record { delivered = Some j }) cleared ne) ∙ e) (cases_eq l k))
      (λ ge. ap (λ (rs : List Slot). is_some (get_or rs l cleared).delivered) (set_past t.records k (record { delivered = Some j }) ge) ∙ e)
      (cases_lt k (length t.records))

  step_kept : (t : Slots R) (e r : Option (List ℕ)) (d : Option ℕ) →
      Kept t (go_on rows n own k t (or_else (option_map (noted rows n own k Echo own t) e) (or_else (option_map (noted rows n own k Ready own t) r) (option_map (delivered_by rows n own k t) d))))
  step_kept t (Some x) r d l h = h
  step_kept t None (Some x) d l h = h
  step_kept t None None (Some j) l h = marks t j l h
  step_kept t None None None l h = h

  pub settled_kept : (fuel : ℕ) (t : Slots R) → Kept t (settled rows n own k fuel t)
  unfolding settled
  settled_kept zero t l h = h
  settled_kept (suc fuel) t l h = settled_kept fuel (go_on rows n own k t (next rows n own k t)) l (step_kept t (echo_due rows n own k t) (ready_due rows n own k t) (delivery_due rows n own k t) l h)

module _ {R C : Type 0} (g : Setting R C) (n own : ℕ) (ok : ℕ → ℕ → Vote → Type 0) (okc : ℕ → ℕ → ℕ → ℕ → Type 0) (laws : Laws g.rule n own) where
  -- a slot is delivered, or not
  flag_steps : (l : ℕ) (s : BallotState C) (d d' : Bool) → (d ≡ true → d' ≡ true) → Steps g.rule n own (ok l) (view_at g.coins l d s) (view_at g.coins l d' s)
  flag_steps l s true true h = no_step
  flag_steps l s true false h = absurd (false≢true (h refl))
  flag_steps l s false true h = then_step delivers no_step
  flag_steps l s false false h = no_step

  module _ (h : Holding R C) (t : Slots R) (w : VotesWell g n own h) (kept : (l : ℕ) → is_delivered l h ≡ true → is_delivered l (with_slots t h) ≡ true) where
    abbrev before : Ballots
    before = view_of g n h

    abbrev after : Ballots
    after = view_of g n (with_slots t h)

    -- the ballots below m have changed
    abbrev changed_below : ℕ → Ballots
    changed_below m l = cond (nat_lt l m) (after l) (before l)

    unchanged : (m : ℕ) → OnlyAt m (changed_below m) (changed_below (suc m))
    unchanged m l ne = ⊎_elim
        (λ lt. cond-true _ _ _ (lt-ltb l (suc m) (omega arith)) ∙ sym (cond-true _ _ _ (lt-ltb l m lt)))
        (λ ge. cond-false _ _ _ (le-ltb l (suc m) (let z : l ≢ m = ne in omega arith)) ∙ sym (cond-false _ _ _ (le-ltb l m ge))) (cases_lt l m)

    here_before : (m : ℕ) → m < n → changed_below m m ≡ view_at g.coins m (is_delivered m h) (state_of m h)
    here_before m lt = cond-false (nat_lt m m) (after m) (before m) (le-ltb m m (omega arith)) ∙ view_in g n h m lt

    here_after : (m : ℕ) → m < n → changed_below (suc m) m ≡ view_at g.coins m (is_delivered m (with_slots t h)) (state_of m h)
    here_after m lt = cond-true (nat_lt m (suc m)) (after m) (before m) (lt-ltb m (suc m) (omega arith)) ∙ view_in g n (with_slots t h) m lt

    turns_below : (m : ℕ) → m ≤ n → Turns g.rule n own ok before (changed_below m)
    turns_below zero le = subst (Turns g.rule n own ok before) (fun_ext (λ l. sym (cond-false (nat_lt l 0) (after l) (before l) (le-ltb l 0 (omega arith))))) no_turn
    turns_below (suc m) le = turns_join g.rule n own (turns_below m (omega arith))
        (steps_turns g.rule n own ok m (changed_below m) (changed_below (suc m)) (view_at g.coins m (is_delivered m h) (state_of m h)) (view_at g.coins m (is_delivered m (with_slots t h)) (state_of m h))
        (here_before m (omega arith)) (here_after m (omega arith)) (unchanged m) (flag_steps m (state_of m h) (is_delivered m h) (is_delivered m (with_slots t h)) (kept m)))

    all_changed : changed_below n ≡ after
    all_changed = fun_ext (λ l. ⊎_elim (λ lt. cond-true _ _ _ (lt-ltb l n lt))
        (λ ge. cond-false (nat_lt l n) (after l) (before l) (le-ltb l n ge) ∙ cond-false (nat_lt l n) _ no_ballot (le-ltb l n ge) ∙ sym (cond-false (nat_lt l n) _ no_ballot (le-ltb l n ge))) (cases_lt l n))

    flagged_well : (l : ℕ) → l < n → Well g.rule n own (after l) (stage_of l h)
    flagged_well l lt =
        let x = subst (λ (v : View). Well g.rule n own v (stage_of l h)) (view_in g n h l lt) (w.well l lt) in
        let y = steps_kept g.rule n own (ok l) laws (view_at g.coins l (is_delivered l h) (state_of l h)) (view_at g.coins l (is_delivered l (with_slots t h)) (state_of l h)) x.grounded
        (flag_steps l (state_of l h) (is_delivered l h) (is_delivered l (with_slots t h)) (kept l)) in
        subst (λ (v : View). Well g.rule n own v (stage_of l h)) (sym (view_in g n (with_slots t h) l lt))
        (record { grounded = y.0; low = x.low; entered = x.entered; unentered = x.unentered; verdicts = x.verdicts })

    pub flags_moved : Moved g n own ok okc h (with_slots t h)
    flags_moved = record {
      turns = subst (Turns g.rule n own ok before) all_changed (turns_below n (omega arith));
      well = record { rounds_room = w.rounds_room; ballots_room = w.ballots_room; coin = w.coin; well = flagged_well; alike = w.alike };
      later = λ l ll. omega arith;
      coin = coin_none g.coins own okc h.coin w.coin;
    }

  pub sheets_moved : (k : ℕ) (h : Holding R C) → VotesWell g n own h → Moved g n own ok okc h (sheets_taken g n own k h)
  sheets_moved k h w = flags_moved h (settled g.rows n own k 3 h.slots) w (settled_kept g.rows n own k 3 h.slots)
