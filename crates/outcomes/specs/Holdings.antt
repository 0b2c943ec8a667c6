-- What a replica holds, by its meaning, and what all its calls go by. Assumes nothing.
use Rattle.std.specs.Prelude.{ℕ, Bool, cond, List, length, Ok, Result, slice_index_or, slice_set, is_some}
use Rattle.basis.specs.Refusals.{Refused, refused}
use Rattle.broadcast.specs.Calls.{fits_hall}
use Rattle.coins.specs.Coins.{Acts as Coin-acts}
use Rattle.ballots.specs.States.{Opened, BallotState, unopened}
use Rattle.messages.specs.Reading.{Syntax}
use Rattle.messages.specs.Tags.{uses}
use Rattle.rules.specs.Laws.{Acts}
use Rattle.rules.specs.Rounds.{Round}
use Rattle.sheets.specs.Holds.{Rows}
use Rattle.slots.specs.Steps.{Slots, cleared}

-- the three states of a replica
pub data Life : Type 0 where
  Fresh : Life
  Running : Life
  Closed : Life

-- what a hall's calls go by: the rows, length, number and lawful bytes of its kind of sheet, its round rule and its coin
pub record Setting (R C : Type 0) : Type 1 where
  pub rows : Rows R
  pub size : ℕ
  pub kind : ℕ
  pub lawful : List ℕ → Bool
  pub rule : Acts
  pub coins : Coin-acts C

-- what a replica holds: its state, its tables (of each opening record the slot's part and the ballot's), its coin
pub record Holding (R C : Type 0) : Type 0 where
  pub life : Life
  pub slots : Slots R
  pub ballots : List Opened
  pub rounds : List Round
  pub coin : C

-- how packets are read in a hall of n
abbrev pub syntax_of : {R C : Type 0} → Setting R C → ℕ → Syntax
syntax_of g n = record { replicas = n; size = g.size; lawful = g.lawful; tags = uses g.rule.tags; shares = g.coins.uses }

module _ {R C : Type 0} where
  -- the tables are large enough: n opening records, 15n round records, n(2n + 1) sheet places
  abbrev pub sizes_ok : ℕ → Holding R C → Bool
  sizes_ok n h = fits_hall n (length h.slots.records) (length h.rounds) (length h.slots.places)

  -- what a call answers that asks for the sizes alone
  abbrev pub large_enough : ℕ → Holding R C → Result (Unit {0}) Refused
  large_enough n h = cond (sizes_ok n h) (Ok tt) (refused 4 0)

  -- whether slot k is delivered
  abbrev pub is_delivered : ℕ → Holding R C → Bool
  is_delivered k h = is_some (slice_index_or h.slots.records k cleared).delivered

  -- the record of ballot k, and all that its steps look at
  abbrev pub ballot_at : ℕ → Holding R C → Opened
  ballot_at k h = slice_index_or h.ballots k unopened

  abbrev pub state_of : ℕ → Holding R C → BallotState C
  state_of k h = record { ballot = ballot_at k h; rounds = h.rounds; coin = h.coin }

  -- the same with a part of it changed
  abbrev pub with_life : Life → Holding R C → Holding R C
  with_life l h = record { life = l; slots = h.slots; ballots = h.ballots; rounds = h.rounds; coin = h.coin }

  abbrev pub with_slots : Slots R → Holding R C → Holding R C
  with_slots t h = record { life = h.life; slots = t; ballots = h.ballots; rounds = h.rounds; coin = h.coin }

  abbrev pub with_ballot : ℕ → Opened → Holding R C → Holding R C
  with_ballot k o h = record { life = h.life; slots = h.slots; ballots = slice_set h.ballots k o; rounds = h.rounds; coin = h.coin }

  abbrev pub with_rounds : List Round → Holding R C → Holding R C
  with_rounds ms h = record { life = h.life; slots = h.slots; ballots = h.ballots; rounds = ms; coin = h.coin }

  abbrev pub with_coin : C → Holding R C → Holding R C
  with_coin c h = record { life = h.life; slots = h.slots; ballots = h.ballots; rounds = h.rounds; coin = c }

  abbrev pub with_state : ℕ → BallotState C → Holding R C → Holding R C
  with_state k s h = record { life = h.life; slots = h.slots; ballots = slice_set h.ballots k s.ballot; rounds = s.rounds; coin = s.coin }
