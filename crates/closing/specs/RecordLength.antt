-- How long the closing record is. Assumes nothing.
use Rattle.std.specs.Prelude.{◌≡◌, ℕ, ◌+◌, ◌*◌, length}
use Rattle.sheets.specs.Holds.{Rows}
use Rattle.outcomes.specs.Closing.{ClosingView, closing_record, sheets_listed}

-- the first field has seven bytes, and that of each listed sheet four more than the sheet
abbrev pub RecordLength : {R : Type 0} → Rows R → ℕ → Type 0
RecordLength {R} rows size = (n kind : ℕ) (v : ClosingView R) → length (closing_record rows n v size kind) ≡ 7 + (size + 4) * sheets_listed rows n v
