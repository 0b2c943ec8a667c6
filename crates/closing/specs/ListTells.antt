-- What the list tells: how many entries it has, which they are, and that the closing record has just these. Assumes nothing.
use Rattle.std.specs.Prelude.{◌≡◌, ℕ, zero, suc, ◌<◌, ◌≤◌, true, List, [], ◌++◌, Some, Ok, Err, Result}
use Rattle.basis.specs.Counts.{count}
use Rattle.basis.specs.Refusals.{Refused, refused}
use Rattle.sheets.specs.Holds.{Rows}
use Rattle.outcomes.specs.Closing.{Entry, ClosingView, view_fits, listed_sheet, is_listed, sheets_listed, list_answer, sheet_field, head_field, closing_record}

-- the field of an entry that list answers
abbrev pub field_told : ℕ → Result Entry Refused → List ℕ
field_told size (Ok e) = sheet_field size e.replica e.sheet
field_told size (Err r) = []

module _ {R : Type 0} (rows : Rows R) (n : ℕ) (v : ClosingView R) where
  -- the fields of the entries at the indices below m, in their order
  unfoldable pub entry_fields : ℕ → ℕ → List ℕ
  entry_fields size zero = []
  entry_fields size (suc m) = entry_fields size m ++ field_told size (list_answer rows n v m)

  pub record Listing : Type 0 where
    -- there is an entry at each index below the number of listed sheets, and none from there on
    pub answered : (index : ℕ) → index < sheets_listed rows n v → (e : Entry) × (list_answer rows n v index ≡ Ok e)
    pub ended : (index : ℕ) → sheets_listed rows n v ≤ index → list_answer rows n v index ≡ refused 17 0
    -- it is a listed replica's sheet, and so many are listed below that replica
    pub listed_one : (index : ℕ) (e : Entry) → list_answer rows n v index ≡ Ok e → (e.replica < n) × (listed_sheet rows n v e.replica ≡ Some e.sheet) × (count e.replica (is_listed rows n v) ≡ index)
    -- entries rise by replica
    pub rising : (i j : ℕ) (e e' : Entry) → i < j → list_answer rows n v i ≡ Ok e → list_answer rows n v j ≡ Ok e' → e.replica < e'.replica
    -- the closing record has the fields of all entries after its first field, in their order
    pub recorded : (size kind : ℕ) → closing_record rows n v size kind ≡ head_field rows n v size kind ++ entry_fields size (sheets_listed rows n v)

-- of every hall size, and tables that are large enough for it
abbrev pub ListTells : {R : Type 0} → Rows R → Type 0
ListTells {R} rows = (n : ℕ) (v : ClosingView R) → view_fits rows n v ≡ true → Listing rows n v
