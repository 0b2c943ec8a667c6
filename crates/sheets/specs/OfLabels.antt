-- Labels: their bytes, and what a row holds. Assumes nothing.
use Rattle.std.specs.Prelude.{ℕ, Bool, true, false, cond, List, [], ◌∷◌, ◌++◌, length, take, drop, Some, None, Option, ◌==◌, slice_index}
use Rattle.basis.specs.Bytes.{be, value}
use Rattle.sheets.specs.Holds.{Rows}
use Rattle.sheets.specs.declared.kinds.Label.{Label}
use Rattle.sheets.specs.declared.kinds.LabelRow.{LabelRow}

-- the fingerprint's four numbers in 8 bytes each, and the file's size in 4
abbrev pub file_bytes : List ℕ → ℕ → List ℕ
file_bytes p n = be 8 (slice_index p 0) ++ (be 8 (slice_index p 1) ++ (be 8 (slice_index p 2) ++ (be 8 (slice_index p 3) ++ be 4 n)))

abbrev pub label_bytes : Label → List ℕ
label_bytes x = file_bytes x.fingerprint x.size

-- any 36 bytes
abbrev pub label_lawful : List ℕ → Bool
label_lawful s = length s == 36

-- what a row holds: one that is not present is no sheet
abbrev pub label_held : LabelRow → Option (List ℕ)
label_held r = cond r.present (Some (file_bytes r.fingerprint r.size)) None

-- the number in 8 bytes from i on
abbrev pub part : ℕ → List ℕ → ℕ
part i s = value (take 8 (drop i s))

-- the row made of a sheet's bytes
abbrev pub label_row : List ℕ → LabelRow
label_row s = record { present = true; fingerprint = part 0 s ∷ part 8 s ∷ part 16 s ∷ part 24 s ∷ []; size = value (drop 32 s) }

-- an empty place
abbrev pub label_empty : LabelRow
label_empty = record { present = false; fingerprint = 0 ∷ 0 ∷ 0 ∷ 0 ∷ []; size = 0 }

-- what its rows hold
abbrev pub label_rows : Rows LabelRow
label_rows = record { held = label_held; row = label_row; vacant = label_empty }
