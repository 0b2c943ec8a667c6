-- Whether a table's row holds a sheet, by its bytes. Assumes nothing.
use Rattle.std.specs.Prelude.{ℕ, Bool, false, cond, List, Some, None, Option}
use Rattle.std.specs.Str.{bytes_eq}

-- a place that holds nothing, or the sheet of the given bytes: does it hold that of the bytes s?
abbrev pub holds : List ℕ → Option (List ℕ) → Bool
holds s None = false
holds s (Some t) = bytes_eq t s

-- the bytes themselves where they are lawful, else nothing
abbrev pub if_lawful : (List ℕ → Bool) → List ℕ → Option (List ℕ)
if_lawful lawful s = cond (lawful s) (Some s) None

-- what a kind of sheet says of its rows: the bytes of the sheet that a row holds, if it holds one; the row made of a
-- sheet's bytes; the row of an empty place
pub record Rows (R : Type 0) : Type 0 where
  pub held : R → Option (List ℕ)
  pub row : List ℕ → R
  pub vacant : R
