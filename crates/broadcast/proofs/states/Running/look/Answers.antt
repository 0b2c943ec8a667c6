-- What looking does, and that a slot's steps end.
use Rattle.broadcast.specs.Claims.{RowLaws}
use Rattle.broadcast.proofs.Ending.{steps_end}
use Rattle.broadcast.proofs.states.Running.look.Goals as goal

pub returns : goal.returns
returns g c =
    let m = g.S.Sheet in
    let met = g.met.S.Sheet in
    let laws : RowLaws m.rows m.LEN m.lawful = record { short = met.short; sized = met.sized; restored = met.restored; kept = met.kept } in
    record { answer = c.look.ensures.answer; left = c.look.ensures.left; ends = steps_end m.rows laws }
