-- What the record of a ballot means. Assumes nothing.
use Rattle.std.specs.Prelude.{ℕ, zero, suc, ◌+◌, ◌*◌, ◌<◌, List, slice_index_or}
use Rattle.rules.specs.Rounds.{Round, cleared, bit_if_any}
use Rattle.phases.specs.Records.{meaning_of}
use Rattle.ballots.specs.declared.ballot.Ballot.{Ballot}
use Rattle.ballots.specs.declared.ballot.Stage.{Stage}
use Rattle.ballots.specs.declared.ballot.Stage.TheVariants.{InRound, Finished}

-- what a ballot keeps outside of its later rounds: round 0, the round that it is in (16 where it has gone on from all),
-- and the set of the decided bit, empty before
pub record Opened : Type 0 where
  pub opening : Round
  pub stage : ℕ
  pub decided : ℕ

abbrev pub stage_of : Stage → ℕ
stage_of (InRound r) = r
stage_of Finished = 16

-- a stage in the one form in which it is written: a round below 16, or finished
abbrev pub Plain : Stage → Type 0
Plain (InRound r) = r < 16
Plain Finished = Unit {0}

abbrev pub ballot_meaning : Ballot → Opened
ballot_meaning b = record { opening = meaning_of b.opening; stage = stage_of b.stage; decided = bit_if_any b.decided }

-- a ballot that nobody proposed in
abbrev pub unopened : Opened
unopened = record { opening = cleared; stage = 0; decided = 0 }

-- a ballot as its steps see it: its record, the later rounds of all ballots, and the coin
pub record BallotState (C : Type 0) : Type 0 where
  pub ballot : Opened
  pub rounds : List Round
  pub coin : C

-- round suc r of ballot k stands at 15k + r
abbrev pub place : ℕ → ℕ → ℕ
place k r = 15 * k + r

-- round r of ballot k, round 0 being the opening round
abbrev pub round_at : {C : Type 0} → ℕ → ℕ → BallotState C → Round
round_at k zero s = s.ballot.opening
round_at k (suc r) s = slice_index_or s.rounds (place k r) cleared
