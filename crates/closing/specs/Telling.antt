-- The answers of close and list as callers are told them. Assumes nothing.
use Rattle.std.specs.Prelude.{ℕ, List, ◌++◌, length, drop, Ok, Err, Result}
use Rattle.basis.specs.Refusals.{Refused, told}
use Rattle.basis.specs.declared.refusal.Refusal.{Refusal}
use Rattle.closing.specs.declared.list.ListEntry.{ListEntry}
use Rattle.outcomes.specs.Closing.{Entry}

-- an entry with its sheet by bytes
abbrev pub entry_bytes : {S : Type 0} → (S → List ℕ) → ListEntry S → Entry
entry_bytes bytes e = record { replica = e.replica; sheet = bytes e.sheet }

abbrev pub entry_told : {S : Type 0} → (S → List ℕ) → Result (ListEntry S) Refusal → Result Entry Refused
entry_told bytes (Ok e) = Ok (entry_bytes bytes e)
entry_told bytes (Err e) = told (Err e)

-- bytes written at the start of an output that is long enough
abbrev pub over : List ℕ → List ℕ → List ℕ
over bytes out = bytes ++ drop (length bytes) out
