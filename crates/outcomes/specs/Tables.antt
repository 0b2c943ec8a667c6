-- What the tables that a caller lends mean. Assumes nothing.
use Rattle.std.specs.Prelude.{ℕ, Bool, List, map}
use Rattle.ballots.specs.States.{Opened, ballot_meaning}
use Rattle.outcomes.specs.declared.opening_record.OpeningRecord.{OpeningRecord}
use Rattle.coins.specs.Coins.{Acts as Coin-acts}
use Rattle.rules.specs.Laws.{Acts}
use Rattle.rules.specs.Rounds.{Round}
use Rattle.sheets.specs.Holds.{Rows}
use Rattle.slots.specs.declared.slot.Slot.{Slot}
use Rattle.slots.specs.Steps.{Slots}
use Rattle.outcomes.specs.Opening.{LentTables}
use Rattle.outcomes.specs.Holdings.{Life, Setting, Holding}
use Rattle.outcomes.specs.Closing.{ClosingView}

-- of each opening record the slot's part, and what the ballot's part means
abbrev pub slots_in : List OpeningRecord → List Slot
slots_in rs = map (λ (r : OpeningRecord). r.slot) rs

abbrev pub ballots_in : List OpeningRecord → List Opened
ballots_in rs = map (λ (r : OpeningRecord). ballot_meaning r.ballot) rs

abbrev pub slots_of : {R : Type 0} → List OpeningRecord → List R → Slots R
slots_of records places = record { records = slots_in records; places = places }

-- what close, list and record look at
abbrev pub viewed : {R : Type 0} → List OpeningRecord → ℕ → List R → ClosingView R
viewed records rounds places = record { slots = slots_of records places; ballots = ballots_in records; rounds = rounds }

-- what a replica holds, by its state, opening records, round records, sheet places and coin
abbrev pub holding : {R C Row : Type 0} → (Row → Round) → Life → List OpeningRecord → List Row → List R → C → Holding R C
holding meaning life records rounds places coin = record {
  life = life;
  slots = slots_of records places;
  ballots = ballots_in records;
  rounds = map meaning rounds;
  coin = coin;
}

-- what the calls go by, from a kind of sheet, a round rule and a coin
abbrev pub setting : {R C : Type 0} → Rows R → ℕ → ℕ → (List ℕ → Bool) → Acts → Coin-acts C → Setting R C
setting rows size kind lawful rule coins = record { rows = rows; size = size; kind = kind; lawful = lawful; rule = rule; coins = coins }

-- the tables of a replica that are lent to a call
abbrev pub lent : {R Row : Type 0} → (Row → Round) → List OpeningRecord → List Row → List R → LentTables R
lent meaning records rounds places = record { slots = slots_of records places; ballots = ballots_in records; rounds = map meaning rounds }
