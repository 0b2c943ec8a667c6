-- Takings: which amounts are lawful, their bytes, and what a row holds. Assumes nothing.
use Rattle.std.specs.Prelude.{ℕ, Bool, cond, ◌&&◌, List, ◌++◌, length, take, drop, ℤ, pos, negsuc, Some, None, Ok, Err, Option, Result, ◌==◌, int_le}
use Rattle.std.specs.Int.{w64}
use Rattle.std.proofs.Common.{of_z, to_z}
use Rattle.basis.specs.Bytes.{be, value}
use Rattle.basis.specs.Refusals.{Refused, refused, told}
use Rattle.basis.specs.declared.refusal.Refusal.{Refusal}
use Rattle.sheets.specs.Holds.{Rows}
use Rattle.sheets.specs.declared.kinds.Takings.{Takings}
use Rattle.sheets.specs.declared.kinds.TakingsRow.{TakingsRow}

-- from -10^12 to 10^12 cents
abbrev pub in_range_lem : ℤ → Bool
in_range_lem z = int_le (negsuc 999999999999) z && int_le z (pos 1000000000000)

-- the amount in 8 bytes, two's complement, and the receipts in 4
abbrev pub amount_bytes : ℤ → ℕ → List ℕ
amount_bytes z n = be 8 (of_z w64 z) ++ be 4 n

abbrev pub takings_bytes : Takings → List ℕ
takings_bytes t = amount_bytes t.cents t.receipts

-- 12 bytes, the first 8 of which stand for an amount in range
abbrev pub takings_lawful : List ℕ → Bool
takings_lawful s = length s == 12 && in_range_lem (to_z w64 (value (take 8 s)))

-- what a row holds: an amount out of range is no sheet
abbrev pub takings_held : TakingsRow → Option (List ℕ)
takings_held r = cond (in_range_lem r.cents) (Some (amount_bytes r.cents r.receipts)) None

-- the row made of a sheet's bytes
abbrev pub takings_row : List ℕ → TakingsRow
takings_row s = record { cents = to_z w64 (value (take 8 s)); receipts = value (drop 8 s) }

-- an empty place: an amount below every lawful one
abbrev pub takings_empty : TakingsRow
takings_empty = record { cents = negsuc 9223372036854775807; receipts = 0 }

-- what its rows hold
abbrev pub takings_rows : Rows TakingsRow
takings_rows = record { held = takings_held; row = takings_row; vacant = takings_empty }

-- making takings: refused with 1 where the amount is out of range
abbrev pub takings_made : ℤ → ℕ → Result TakingsRow Refused
takings_made z n = cond (in_range_lem z) (Ok (record { cents = z; receipts = n })) (refused 1 0)

-- takings by their fields
abbrev pub fields : Takings → TakingsRow
fields t = record { cents = t.cents; receipts = t.receipts }

abbrev pub fields_told : Result Takings Refusal → Result TakingsRow Refused
fields_told (Ok t) = Ok (fields t)
fields_told (Err e) = told (Err e)
