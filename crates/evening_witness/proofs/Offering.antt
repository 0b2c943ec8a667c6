-- Such a replica after its offer, and when it closes; the messages that are heard are bytes. Assumes nothing.
use Rattle.std.proofs.Common.{◌≡◌, ℕ, zero, suc, ◌<◌, ◌≤◌, true, List, [], ◌∷◌, ◌++◌, length, Some, None, Option, is_some, sym, refl, ap, ◌∙◌, subst, inl, arith, lit<, length-set}
use Rattle.std.proofs.lemmas.Bool.{eq-eqb, cond-true}
use Rattle.basis.specs.Bytes.{be, Octets}
use Rattle.basis.specs.Halls.{faults}
use Rattle.basis.proofs.Digits.{octets_be, octets_append}
use Rattle.broadcast.specs.Calls.{fits_hall}
use Rattle.broadcast.specs.Claims.{RowLaws}
use Rattle.broadcast.proofs.Moves.{at, note_moves}
use Rattle.broadcast.proofs.Tables.{none_some, noted_here}
use Rattle.messages.specs.declared.message.Message.TheVariants.{Sheet, Bit}
use Rattle.messages.specs.declared.message.Phase.{Phase}
use Rattle.messages.specs.declared.message.Phase.TheVariants.{Send, Echo, Ready}
use Rattle.messages.specs.declared.message.Vote.{Vote}
use Rattle.messages.specs.declared.message.Vote.TheVariants.{First, Second}
use Rattle.messages.specs.Tags.{phase_tag, vote_tag}
use Rattle.messages.specs.Writing.{written}
use Rattle.slots.proofs.Positions.{place_within}
use Rattle.slots.specs.Places.{place, sheet_of}
use Rattle.slots.specs.Steps.{noted}
use Rattle.outcomes.specs.Calls.{close_after, if_accepted}
use Rattle.outcomes.specs.Closing.{closing_view, sheet_of_slot}
use Rattle.outcomes.specs.Holdings.{Running, Closed, Setting, Holding, sizes_ok, is_delivered, ballot_at, with_slots, with_life}
use Rattle.outcomes.specs.Opening.{offer_after, Opened}
use Rattle.outcomes.specs.Taking.{slot_taken}
use Rattle.sheet_turns.proofs.Closing.{MayClose, may_closed}
use Rattle.sheet_turns.proofs.Lengths.{sizes_same}
use Rattle.sheet_turns.proofs.Turns.{opened_well}
use Rattle.evening_witness.proofs.Ballots.{BallotWell, unopened_well}
use Rattle.evening_witness.proofs.Turning.{same_moved, ReplicaWell, slot_later}

octets_cons : (a : ℕ) (s : List ℕ) → a < 256 → Octets s → Octets (a ∷ s)
octets_cons a s h k zero = h
octets_cons a s h k (suc i) = k i

octets_none : Octets []
octets_none i = lit< tt

message_octets : (tag : ℕ) (body : List ℕ) → tag < 256 → Octets body → Octets (tag ∷ (be 2 (length body) ++ body))
message_octets tag body lt oct = octets_cons tag (be 2 (length body) ++ body) lt (octets_append (be 2 (length body)) body (octets_be 2 (length body)) oct)

phase_low : (ph : Phase) → phase_tag ph < 256
phase_low Send = lit< tt
phase_low Echo = lit< tt
phase_low Ready = lit< tt

vote_low : (vote : Vote) → vote_tag vote < 256
vote_low First = lit< tt
vote_low Second = lit< tt

pub sheet_octets : (ph : Phase) (k : ℕ) (x : List ℕ) → k < 256 → Octets x → Octets (written (Sheet ph k x))
sheet_octets ph k x lk oct = message_octets (phase_tag ph) (k ∷ x) (phase_low ph) (octets_cons k x lk oct)

pub vote_octets : (vote : Vote) (k : ℕ) → k < 256 → Octets (written (Bit vote k 0 true))
vote_octets vote k lk = message_octets (vote_tag vote) (k ∷ 0 ∷ 1 ∷ []) (vote_low vote) (octets_cons k (0 ∷ 1 ∷ []) lk (octets_cons 0 (1 ∷ []) (lit< tt) (octets_cons 1 [] (lit< tt) octets_none)))

module _ {R C : Type 0} (g : Setting R C) (laws : RowLaws g.rows g.size g.lawful) (n : ℕ) (some : 1 ≤ faults n) (x : List ℕ) (law : g.lawful x ≡ true) (oct : Octets x) (own : ℕ) where
  -- what is known of a replica once it has offered
  pub record Offered (lo : own < n) (h : Holding R C) : Type 0 where
    pub sizes : sizes_ok n h ≡ true
    pub live : h.life ≡ Running
    pub well : ReplicaWell g laws n some x own lo h

  module _ (h : Holding R C) (o : Opened g n own h) where
    abbrev sends : Holding R C
    sends = with_slots (noted g.rows n own own Send own h.slots x) (with_life Running h)

    nothing : (lo : own < n) (ph : Phase) (k j : ℕ) → k < n → j < n → at g.rows n h.slots ph k j ≡ None
    nothing lo ph k j lk lj = o.tables.empty (place n ph k j) (place_within n ph k j lk lj)

    sends_well : (lo : own < n) → ReplicaWell g laws n some x own lo sends
    sends_well lo =
        let w = opened_well g n own lo h o in
        let a = note_moves g.rows n laws own lo h.slots w.sound own lo Send own x lo (eq-eqb own own refl) law oct (w.fresh o.fresh) (λ ph k j z. z ≡ x) (λ _. tt) (inl refl) in
        let here = noted_here g.rows n own own Send own h.slots x laws lo lo w.sound.places_fit law oct in
        record {
          sound = a.sound;
          sent = here;
          same = same_moved g laws n some x own lo h.slots sends.slots here (λ ph k j z lk lj may e. absurd (none_some (nothing lo ph k j lk lj) e)) a;
          room = (let q = o.tables.ballots in let r = w.sound.records_fit in omega arith);
          ballots_well = λ k lk. subst (BallotWell own) (sym (o.tables.unopened_ballots k lk)) (unopened_well own);
        }

    sends_sizes : sizes_ok n sends ≡ true
    sends_sizes = ap (λ (l : ℕ). fits_hall n (length h.slots.records) (length h.rounds) l) (length-set h.slots.places _ _) ∙ o.tables.sizes

    pub offered : (lo : own < n) → Offered lo (offer_after g n own x h) × (at g.rows n (offer_after g n own x h).slots Send own own ≡ Some x)
    offered lo =
        let l = slot_later g laws n some x own lo own lo sends (sends_well lo) in
        subst (λ (z : Holding R C). Offered lo z × (at g.rows n z.slots Send own own ≡ Some x)) (sym (cond-true (sizes_ok n h) (slot_taken g n own own sends) h o.tables.sizes))
        (record { sizes = sizes_same n l.moved.lengths ∙ sends_sizes; live = l.moved.life; well = l.well }, l.well.sent)

  -- it can close once all slots are delivered and all ballots decided
  module _ (lo : own < n) (h : Holding R C) (w : Offered lo h) (delivered : (k : ℕ) → k < n → is_delivered k h ≡ true) (decided : (k : ℕ) → k < n → 0 < (ballot_at k h).decided) where
    chosen_of : (o : Option ℕ) → is_some o ≡ true → (j : ℕ) × (o ≡ Some j)
    chosen_of None e = absurd (let z : ◌≡◌ {A = ℕ} 0 1 = cc in omega arith)
    chosen_of (Some j) e = (j, refl)

    there : (k : ℕ) → k < n → (z : List ℕ) × (sheet_of_slot g.rows n (closing_view h) k ≡ Some z)
    there k lk =
        let c = chosen_of _ (delivered k lk) in
        let t = w.well.sound.got k c.0 lk c.1 in
        (t.1, ap (sheet_of g.rows n h.slots.places Ready k) c.1 ∙ t.2)

    may : MayClose g n own h
    may = record { sizes = w.sizes; decided = decided; sheets = λ k lk e. there k lk }

    pub closes : (close_after g n own h).life ≡ Closed
    closes = ap (λ r. (if_accepted r (with_life Closed h) h).life) (may_closed g n own h may)
