-- Proposing by the parts of the opening records alone. Assumes nothing.
use Rattle.std.specs.Prelude.{ℕ, zero, suc, Bool, ◌&&◌, List, ◌==◌, nat_le, is_some, slice_index_or, slice_set}
use Rattle.basis.specs.Counts.{count}
use Rattle.basis.specs.Halls.{quorum}
use Rattle.ballots.specs.Ballots.{reacted}
use Rattle.ballots.specs.States.{Opened, unopened}
use Rattle.ballots.specs.declared.ballot.Event.TheVariants.{Proposal}
use Rattle.slots.specs.declared.slot.Slot.{Slot}
use Rattle.slots.specs.Steps.{cleared}

-- nothing is proposed in ballot k, and 2f + 1 slots are delivered
abbrev pub proposal_due : ℕ → ℕ → List Slot → List Opened → Bool
proposal_due n k ss os =
    (slice_index_or os k unopened).opening.entered == 0 && nat_le (quorum n) (count n (λ l. is_some (slice_index_or ss l cleared).delivered))

-- ballot k's record, proposed in: 1 for a delivered slot, and else 0
abbrev pub proposed_ballot : ℕ → ℕ → ℕ → List Slot → List Opened → Opened
proposed_ballot n own k ss os = reacted n own (Proposal (is_some (slice_index_or ss k cleared).delivered)) (slice_index_or os k unopened)

-- the ballots' records, those below m proposed in
unfoldable pub proposed_ballots : ℕ → ℕ → ℕ → List Slot → List Opened → List Opened
proposed_ballots n own zero ss os = os
proposed_ballots n own (suc m) ss os = slice_set (proposed_ballots n own m ss os) m (proposed_ballot n own m ss (proposed_ballots n own m ss os))
