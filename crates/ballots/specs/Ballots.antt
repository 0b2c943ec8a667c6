-- The steps of a ballot: its opening round, the rule's steps in every entered round, shares, and going on. Assumes nothing.
use Rattle.std.specs.Prelude.{ℕ, zero, suc, Bool, cond, ◌&&◌, List, Some, None, Option, ◌==◌, nat_le, nat_lt, slice_index_or, slice_set}
use Rattle.messages.specs.Tags.{bits_number}
use Rattle.rules.specs.Rounds.{Round, cleared, bit_set, bit_if_any}
use Rattle.rules.specs.Laws.{Acts}
use Rattle.openings.specs.Openings.{proposed, opening_settled}
use Rattle.coins.specs.Coins.{Acts as Coin-acts}
use Rattle.ballots.specs.declared.ballot.Event.{Event}
use Rattle.ballots.specs.declared.ballot.Event.TheVariants.{Proposal, Vote, Verdict}
use Rattle.ballots.specs.States.{Opened, BallotState, place, round_at}

-- A set of bits is a number: 1 is {0}, 2 is {1}, 3 is both, 0 is the empty set.

-- with which bit a ballot goes on from a verdict and the coin's bit: the one bit of the verdict, or the coin's
abbrev pub next_bit : ℕ → ℕ → ℕ
next_bit v c = cond (v == 3) c v

-- what is decided then: the bit of the verdict, where it is the coin's and nothing is decided yet
abbrev pub decision : ℕ → ℕ → ℕ → ℕ
decision d v c = cond (d == 0 && v == c) v d

-- the ballot's record after going on from the round that it is in
abbrev pub went_on : ℕ → ℕ → Opened → Opened
went_on v c o = record { opening = o.opening; stage = suc o.stage; decided = decision o.decided v c }

abbrev pub with_opening : Round → Opened → Opened
with_opening m o = record { opening = m; stage = o.stage; decided = o.decided }

-- what a ballot's record becomes on an event: a proposal, a vote, or the verdict of its round with the coin's bit; a
-- finished ballot does not go on
abbrev pub reacted : ℕ → ℕ → Event → Opened → Opened
reacted n own (Proposal bit) o = with_opening (proposed own (bit_set bit) o.opening) o
reacted n own Vote o = with_opening (opening_settled n own o.opening) o
reacted n own (Verdict v c) o = cond (nat_lt o.stage 16) (went_on (bits_number v) (bit_set c) o) o

-- the set of the bit with which the next round is entered, if one is
abbrev pub enters_with : Event → ℕ → ℕ
enters_with (Proposal bit) r = 0
enters_with Vote r = 0
enters_with (Verdict v c) r = cond (nat_lt r 15) (next_bit (bits_number v) (bit_set c)) 0

-- Share, in round suc r of ballot k: the round is entered and has its verdict, and the own share is due: the coin uses
-- shares and has a lawful own one, and none is taken under the own number. To say it is to take it.
abbrev pub due_by : Option ℕ → Option ℕ → Option ℕ
due_by None None = None
due_by None (Some v) = cond (nat_le v 250) (Some v) None
due_by (Some w) o = None

module _ {C : Type 0} (b : Coin-acts C) (own k : ℕ) where
  abbrev pub share_due : ℕ → C → Option ℕ
  share_due r c = cond b.uses (due_by (b.taken_of c k (suc r) own) (b.own c k (suc r))) None

  abbrev pub said_share : ℕ → Option ℕ → C → C
  said_share r None c = c
  said_share r (Some v) c = b.taken c (record { ballot = k; round = suc r; sender = own; value = v })

  abbrev pub may_share : ℕ → ℕ → ℕ → Bool
  may_share r stage verdict = nat_lt r stage && nat_lt 0 verdict

  abbrev pub next_coin : ℕ → ℕ → ℕ → C → C
  next_coin r stage verdict c = cond (may_share r stage verdict) (said_share r (share_due r c) c) c

-- Go on from round r: the ballot is in it, it has its verdict, and a coin's bit is shown.
abbrev pub may_go : ℕ → ℕ → ℕ → Opened → Bool
may_go r v c o = o.stage == r && (nat_lt 0 v && nat_lt 0 c)

abbrev pub gone_ballot : ℕ → ℕ → ℕ → Opened → Opened
gone_ballot r v c o = cond (may_go r v c o) (went_on v c o) o

module _ (a : Acts) (n own k : ℕ) where
  -- a later round is entered with a bit: round suc r, where there is one
  abbrev pub entered_later : ℕ → ℕ → List Round → List Round
  entered_later r x ms = cond (nat_lt r 15) (slice_set ms (place k r) (a.enter n own x (slice_index_or ms (place k r) cleared))) ms

  abbrev pub gone_rounds : ℕ → ℕ → ℕ → Opened → List Round → List Round
  gone_rounds r v c o ms = cond (may_go r v c o) (entered_later r (next_bit v c) ms) ms

  -- The rule's steps in round suc r, where it is entered.
  abbrev pub ruled_rounds : ℕ → ℕ → List Round → List Round
  ruled_rounds r stage ms = cond (nat_lt r stage) (slice_set ms (place k r) (a.steps n own (slice_index_or ms (place k r) cleared))) ms

  -- The opening round takes its steps and is gone on from, as if a coin showed 1.
  abbrev pub stepped_opening : Opened → Opened
  stepped_opening o = reacted n own Vote o

  abbrev pub opened_ballot : Opened → Opened
  opened_ballot o = gone_ballot 0 (stepped_opening o).opening.verdict 2 (stepped_opening o)

  abbrev pub opened_rounds : Opened → List Round → List Round
  opened_rounds o ms = gone_rounds 0 (stepped_opening o).opening.verdict 2 (stepped_opening o) ms

module _ {C : Type 0} (a : Acts) (b : Coin-acts C) (n own k : ℕ) where
  -- the set of the bit by which round r is gone on from: the opening round goes on as if a coin showed 1
  abbrev pub face : ℕ → BallotState C → ℕ
  face zero s = 2
  face (suc r) s = bit_if_any (b.shown s.coin k (suc r))

  abbrev pub verdict_at : ℕ → BallotState C → ℕ
  verdict_at r s = (round_at k r s).verdict

  -- one step each: the rule's steps, the share, going on
  abbrev pub ruled : ℕ → BallotState C → BallotState C
  ruled r s = record { ballot = s.ballot; rounds = ruled_rounds a n own k r s.ballot.stage s.rounds; coin = s.coin }

  abbrev pub shared : ℕ → BallotState C → BallotState C
  shared r s = record { ballot = s.ballot; rounds = s.rounds; coin = next_coin b own k r s.ballot.stage (verdict_at (suc r) s) s.coin }

  abbrev pub gone_on : ℕ → BallotState C → BallotState C
  gone_on r s = record { ballot = gone_ballot r (verdict_at r s) (face r s) s.ballot; rounds = gone_rounds a n own k r (verdict_at r s) (face r s) s.ballot s.rounds; coin = s.coin }

  -- a later round: the rule's steps and the share, and then going on
  abbrev pub round_stepped : ℕ → BallotState C → BallotState C
  round_stepped r s = shared r (ruled r s)

  abbrev pub round_settled : ℕ → BallotState C → BallotState C
  round_settled r s = gone_on (suc r) (round_stepped r s)

  -- so many later rounds from suc r on, the lowest first
  unfoldable pub later_settled : ℕ → ℕ → BallotState C → BallotState C
  later_settled zero r s = s
  later_settled (suc u) r s = later_settled u (suc r) (round_settled r s)

  abbrev pub opening_part : BallotState C → BallotState C
  opening_part s = record { ballot = opened_ballot a n own k s.ballot; rounds = opened_rounds a n own k s.ballot s.rounds; coin = s.coin }

  -- all rounds, the lowest first
  abbrev pub ballot_settled : BallotState C → BallotState C
  ballot_settled s = later_settled 15 0 (opening_part s)
