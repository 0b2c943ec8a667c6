-- The claims, from the laws of a kind of sheet.
use Rattle.broadcast.specs.Claims.{RowLaws}
use Rattle.broadcast.proofs.OfRuns.{broadcast_holds}
use Rattle.broadcast.proofs.OfWitness.{some_run_delivers}
use Rattle.broadcast.proofs.states.Running.delivered.Goals as goal

pub returns : goal.returns
returns g c =
    let m = g.S.Sheet in
    let met = g.met.S.Sheet in
    let rows = m.rows in
    let laws : RowLaws rows m.LEN m.lawful = record { short = met.short; sized = met.sized; restored = met.restored; kept = met.kept } in
    record { value = c.delivered_sheet.ensures; runs = broadcast_holds rows m.LEN m.lawful laws; witness = some_run_delivers }
