-- Taking the steps of a slot: its sheets, proposing, its ballot. Assumes nothing.
use Rattle.std.specs.Prelude.{ℕ, zero, suc, Bool, cond, ◌&&◌, ◌==◌, nat_le}
use Rattle.basis.specs.Counts.{count}
use Rattle.basis.specs.Halls.{quorum}
use Rattle.ballots.specs.Ballots.{reacted}
use Rattle.ballots.specs.declared.ballot.Event.TheVariants.{Proposal}
use Rattle.ballots.specs.Listed.{ballot_taken}
use Rattle.ballots.specs.States.{Opened}
use Rattle.slots.specs.Steps.{settled}
use Rattle.outcomes.specs.Holdings.{Setting, Holding, is_delivered, ballot_at, state_of, with_slots, with_ballot, with_state}

module _ {R C : Type 0} (g : Setting R C) (n own : ℕ) where
  -- echo, ready and deliver, while one applies
  abbrev pub sheets_taken : ℕ → Holding R C → Holding R C
  sheets_taken k h = with_slots (settled g.rows n own k 3 h.slots) h

  -- repropose, the opening round's steps, the rule's, share and going on, while one applies
  abbrev pub votes_taken : ℕ → Holding R C → Holding R C
  votes_taken k h = with_state k (ballot_taken g.rule g.coins n own k (is_delivered k h) (state_of k h)) h

  -- Propose: nothing is proposed, and 2f + 1 slots are delivered
  abbrev pub may_propose : ℕ → Holding R C → Bool
  may_propose k h = (ballot_at k h).opening.entered == 0 && nat_le (quorum n) (count n (λ l. is_delivered l h))

  -- in ballot k: 1 for a delivered slot, and else 0
  abbrev pub proposed_in : ℕ → Holding R C → Opened
  proposed_in k h = reacted n own (Proposal (is_delivered k h)) (ballot_at k h)

  -- the ballots below m are proposed in
  unfoldable pub proposed_below : ℕ → Holding R C → Holding R C
  proposed_below zero h = h
  proposed_below (suc m) h = with_ballot m (proposed_in m (proposed_below m h)) (proposed_below m h)

  -- then the slots below m take their steps, the lowest first
  unfoldable pub taken_below : ℕ → Holding R C → Holding R C
  taken_below zero h = h
  taken_below (suc m) h = votes_taken m (sheets_taken m (taken_below m h))

  -- after the steps of its sheets: proposing, with the steps of all slots, or else those of its ballot
  abbrev pub votes_or_proposal : ℕ → Holding R C → Holding R C
  votes_or_proposal k h = cond (may_propose k h) (taken_below n (proposed_below n h)) (votes_taken k h)

  -- the steps of slot k
  unfoldable pub slot_taken : ℕ → Holding R C → Holding R C
  slot_taken k h = votes_or_proposal k (sheets_taken k h)

  -- the steps of the slots below m, the lowest slot first
  unfoldable pub looked : ℕ → Holding R C → Holding R C
  looked zero h = h
  looked (suc m) h = slot_taken m (looked m h)
