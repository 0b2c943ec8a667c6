-- Counting deliveries and proposing, by the parts of the opening records. Assumes nothing.
use Rattle.std.proofs.Common.{◌≡◌, ℕ, zero, suc, ◌+◌, ◌<◌, ◌≤◌, List, [], ◌∷◌, length, map, take, get_or, set, count_by, is_some, cond, refl, sym, ap, ◌∙◌, ap₂, add-one}
use Rattle.std.specs.List.{fold}
use Rattle.std.proofs.lemmas.List.{take-map, length-map}
use Rattle.basis.specs.Counts.{count}
use Rattle.ballots.specs.Ballots.{reacted}
use Rattle.ballots.specs.States.{Opened, ballot_meaning}
use Rattle.ballots.specs.declared.ballot.Event.TheVariants.{Proposal}
use Rattle.outcomes.specs.declared.opening_record.OpeningRecord.{OpeningRecord}
use Rattle.outcomes.specs.Holdings.{Life, Setting, Holding, with_ballot}
use Rattle.outcomes.specs.Tables.{slots_in, ballots_in, holding}
use Rattle.outcomes.specs.Taking.{proposed_in, proposed_below}
use Rattle.rules.specs.Rounds.{Round}
use Rattle.slots.specs.declared.slot.Slot.{Slot}
use Rattle.slots.specs.Steps.{cleared}
use Rattle.slots.proofs.Tallies.{count_first}
use Rattle.settling.specs.Proposing.{proposed_ballot, proposed_ballots}
use Rattle.settling.proofs.Parts.{slot_at, ballot_in, ballots_written}

counted : (xs : List OpeningRecord) (a : ℕ) → fold (λ (m : ℕ) (r : OpeningRecord). m + cond (is_some r.slot.delivered) 1 0) a xs ≡ fold (λ (m : ℕ) (s : Slot). m + cond (is_some s.delivered) 1 0) a (slots_in xs)
counted [] a = refl
counted (x ∷ xs) a = counted xs (a + cond (is_some x.slot.delivered) 1 0)

-- the rows that pass among the first n are the slots below n that are delivered
pub deliveries : (n : ℕ) (rs : List OpeningRecord) → n ≤ length rs
    → count_by (λ (r : OpeningRecord). is_some r.slot.delivered) (take n rs) ≡ count n (λ k. is_some (get_or (slots_in rs) k cleared).delivered)
deliveries n rs l =
    counted (take n rs) 0 ∙ ap (count_by (λ (s : Slot). is_some s.delivered)) (sym (take-map (λ (r : OpeningRecord). r.slot) n rs))
    ∙ count_first (λ (s : Slot). is_some s.delivered) cleared n (slots_in rs) (simp length-map l)

-- one ballot more, whose row stands at q
pub proposed_row : (n own m q : ℕ) (rs rs0 : List OpeningRecord) (d r : OpeningRecord) → q ≡ m → m < length rs → r.slot ≡ (get_or rs q d).slot
    → ballot_meaning r.ballot ≡ reacted n own (Proposal (is_some (get_or rs q d).slot.delivered)) (ballot_meaning (get_or rs q d).ballot)
    → slots_in rs ≡ slots_in rs0 → ballots_in rs ≡ proposed_ballots n own m (slots_in rs0) (ballots_in rs0)
    → ballots_in (set rs q r) ≡ proposed_ballots n own (m + 1) (slots_in rs0) (ballots_in rs0)
unfolding proposed_ballots
proposed_row n own m q rs rs0 d r e l es eb hs hb =
    let put : ballots_in (set rs q r) ≡ set (ballots_in rs) m (proposed_ballot n own m (slots_in rs) (ballots_in rs)) =
    ballots_written rs q r ∙ ap₂ (set (ballots_in rs)) e (eb ∙ ap (λ (i : ℕ). reacted n own (Proposal (is_some (get_or rs i d).slot.delivered)) (ballot_meaning (get_or rs i d).ballot)) e
    ∙ sym (ap₂ (λ (s : Slot) (o : Opened). reacted n own (Proposal (is_some s.delivered)) o) (slot_at rs m d l) (ballot_in rs m d l))) in
    put ∙ ap₂ (λ (ss : List Slot) (os : List Opened). set os m (proposed_ballot n own m ss os)) hs hb
    ∙ ap (λ (i : ℕ). proposed_ballots n own i (slots_in rs0) (ballots_in rs0)) (sym (add-one m))

module _ {R C : Type 0} (g : Setting R C) (n own : ℕ) where
  -- proposing changes the ballots' records alone
  pub proposed_is : (m : ℕ) (h : Holding R C) → record { life = h.life; slots = h.slots; ballots = proposed_ballots n own m h.slots.records h.ballots; rounds = h.rounds; coin = h.coin } ≡ proposed_below g n own m h
  unfolding proposed_ballots proposed_below
  proposed_is zero h = refl
  proposed_is (suc m) h = ap (λ (x : Holding R C). with_ballot m (proposed_in g n own m x) x) (proposed_is m h)

  pub proposed_by : {Row : Type 0} (f : Row → Round) (l : Life) (rs rs' : List OpeningRecord) (ms : List Row) (ps : List R) (c : C)
      → slots_in rs' ≡ slots_in rs → ballots_in rs' ≡ proposed_ballots n own n (slots_in rs) (ballots_in rs)
      → holding f l rs' ms ps c ≡ proposed_below g n own n (holding f l rs ms ps c)
  proposed_by f l rs rs' ms ps c es eb =
      ap₂ (λ (t : List Slot) (os : List Opened). record { life = l; slots = record { records = t; places = ps }; ballots = os; rounds = map f ms; coin = c }) es eb
      ∙ proposed_is n (holding f l rs ms ps c)
