-- The run of takings that delivers. Assumes nothing.
use Rattle.std.proofs.Common.{◌≤◌, not, replicate, pos, refl, ap, arith, lit<, lit≤}
use lib.ListN.{get_or-replicate}
use Rattle.std.proofs.lemmas.Bool.{and_parts, eqb-true, lt-ltb}
use Rattle.basis.specs.Counts.{count}
use Rattle.basis.specs.Halls.{faults}
use Rattle.sheets.specs.declared.kinds.TakingsRow.{TakingsRow}
use Rattle.sheets.specs.OfTakings.{takings_lawful, takings_held, takings_empty, takings_rows}
use Rattle.sheets.specs.OfTakingsLemmas.{amount_octets, amount_lawful, held_row, kept_of}
use Rattle.slots.specs.declared.slot.Slot.{Slot}
use Rattle.slots.specs.Steps.{cleared}
use Rattle.broadcast.specs.Calls.{Fresh, Holding, Opened}
use Rattle.broadcast.specs.Claims.{RowLaws}
use Rattle.broadcast.specs.Witness.{four_takings, first_three, some_takings, SomeRunDelivers}
use Rattle.broadcast.proofs.Delivering.{run_delivers}

takings_laws : RowLaws takings_rows 12 takings_lawful
takings_laws = record { short = lit< tt; sized = λ s h. eqb-true _ _ (and_parts _ _ h).0; restored = λ s h l. held_row s h l; kept = λ r s h. kept_of r s h }

-- tables as open leaves them
abbrev empty_tables : Holding TakingsRow
empty_tables = record { life = Fresh; slots = record { records = replicate 4 cleared; places = replicate 36 takings_empty }; rounds = 60 }

opened : Opened takings_rows four_takings empty_tables
opened = record {
  fresh = refl;
  sizes = refl;
  undelivered = λ k h. ap (λ (r : Slot). r.delivered) (get_or-replicate 4 k cleared cleared h);
  empty = λ p h. ap takings_held (get_or-replicate 36 p takings_empty takings_empty h);
}

few : count 4 (λ j. not (first_three j)) ≤ faults 4
unfolding count
few = lit≤ tt

pub some_run_delivers : SomeRunDelivers
some_run_delivers =
    let d = run_delivers takings_rows four_takings takings_laws first_three few refl (lit≤ tt) 0 (lit< tt, refl) some_takings (amount_lawful (pos 1250) 3 refl) (amount_octets (pos 1250) 3) (λ _. empty_tables) (λ i li hi. opened) in
    (d.0, d.1, λ i li. d.2 i (omega arith, lt-ltb i 3 li))
