-- A run that delivers: the claims on runs speak of something. Assumes nothing.
use Rattle.std.specs.Prelude.{◌≡◌, ℕ, ◌<◌, Bool, List, pos, Some, nat_lt}
use Rattle.messages.specs.Reading.{Syntax}
use Rattle.sheets.specs.declared.kinds.TakingsRow.{TakingsRow}
use Rattle.sheets.specs.OfTakings.{amount_bytes, takings_lawful, takings_rows}
use Rattle.slots.specs.Steps.{delivered_sheet_lem}
use Rattle.broadcast.specs.Runs.{Run}
use Rattle.broadcast.specs.Calls.{Holding, of_hall, replicas}

-- a hall of four that lists takings
abbrev pub four_takings : Syntax
four_takings = of_hall 4 12 takings_lawful

-- all but the last are honest
abbrev pub first_three : ℕ → Bool
first_three i = nat_lt i 3

-- 1250 cents, 3 receipts
abbrev pub some_takings : List ℕ
some_takings = amount_bytes (pos 1250) 3

-- in some run each honest replica delivers these takings for slot 0
abbrev pub SomeRunDelivers : Type 0
SomeRunDelivers =
    (s : ℕ → Holding TakingsRow) × Run (replicas takings_rows four_takings) 4 first_three s × ((i : ℕ) → i < 3 → delivered_sheet_lem takings_rows 4 i 0 (s i).slots ≡ Some some_takings)
