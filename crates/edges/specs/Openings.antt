-- Ballot 0 of replica 0 of four in its opening round, under a supplied rule and any coin. Assumes nothing.
use Rattle.std.specs.Prelude.{ℕ, Bool, false, List, map, slice_index_or}
use Rattle.rules.specs.Rounds.{Round, cleared, bit_if_any}
use Rattle.coins.specs.Coins.{Acts as Coin-acts}
use Rattle.phases.specs.declared.round.PhasedRound.{PhasedRound}
use Rattle.phases.specs.Records.{meaning_of}
use Rattle.phases.specs.Steps.{acts_of, hears}
use Rattle.ballots.specs.declared.ballot.Ballot.{Ballot}
use Rattle.ballots.specs.States.{Opened, BallotState, ballot_meaning}
use Rattle.ballots.specs.Ballots.{with_opening}
use Rattle.ballots.specs.Listed.{ballot_taken}
use Rattle.edges.specs.declared.ballot_edges.Standing.{Standing}
use Rattle.openings.specs.Openings.{proposed as proposal_made}

-- the state of a ballot by its records
abbrev pub state_of : {C : Type 0} → Ballot → List PhasedRound → C → BallotState C
state_of x rs c = record { ballot = ballot_meaning x; rounds = map meaning_of rs; coin = c }

module _ {C : Type 0} (third : Bool) (b : Coin-acts C) where
  -- its steps are taken after a change of the opening round; its slot is not delivered
  abbrev pub taken : Opened → BallotState C → BallotState C
  taken o s = ballot_taken (acts_of third) b 4 0 0 false (record { ballot = o; rounds = s.rounds; coin = s.coin })

  -- it proposes the bit of x
  abbrev pub proposed : ℕ → BallotState C → BallotState C
  proposed x s = taken (with_opening (proposal_made 0 x s.ballot.opening) s.ballot) s

  -- it hears replica j's vote for 1 under a tag
  abbrev pub heard : ℕ → ℕ → BallotState C → BallotState C
  heard t j s = taken (with_opening (hears (record { tag = t; set = 2; sender = j }) s.ballot.opening) s.ballot) s

-- what is told of a ballot: the sets of the decided bit and of the bit with which round 1 was entered, and whether the
-- replica has said first vote 0, first vote 1, second vote 0 and second vote 1 of round 0
pub record Seen : Type 0 where
  pub decided : ℕ
  pub entered : ℕ
  pub first_zero : Bool
  pub first_one : Bool
  pub second_zero : Bool
  pub second_one : Bool

abbrev pub seen : Opened → List Round → Seen
seen o ms = record { decided = o.decided; entered = (slice_index_or ms 0 cleared).entered; first_zero = o.opening.votes 32 1 0; first_one = o.opening.votes 32 2 0; second_zero = o.opening.votes 33 1 0; second_one = o.opening.votes 33 2 0 }

abbrev pub seen_in : {C : Type 0} → BallotState C → Seen
seen_in s = seen s.ballot s.rounds

-- the same of what a function answers
abbrev pub seen_of : Standing → Seen
seen_of x = record { decided = bit_if_any x.decided; entered = bit_if_any x.entered; first_zero = x.first_zero; first_one = x.first_one; second_zero = x.second_zero; second_one = x.second_one }
