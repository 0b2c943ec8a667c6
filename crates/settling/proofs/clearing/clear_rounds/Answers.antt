-- One row more; and the rows beyond the first stay.
use Rattle.std.proofs.Common.{◌≡◌, ◌≤◌, length, take, length-take, arith}
use Rattle.rules.specs.Rounds.{cleared}
use Rattle.settling.proofs.Cleared.{row_cleared, rows_cleared}
use Rattle.settling.proofs.clearing.clear_rounds.Goals as goal

pub loop-row-preserved : goal.loop-row-preserved
loop-row-preserved g c =
    row_cleared g.R.Rule.meaning cleared c.loop-row.row-index c.loop-row.row-items (take c.args.count c.args.rounds.now) c.clear.new.row c.clear.ensures c.loop-row-test.true c.loop-row.invariant

pub returns : goal.returns
returns g c =
    let k = c.args.count in
    let xs = c.args.rounds.now in
    let fits : k ≤ length xs = c.requires in
    let l : length (take k xs) ≡ k = simp length-take (omega arith) in
    let all : c.loop-row.row-index ≡ k = omega (arith, c.loop-row-test.false, c.loop-row.auto.row-index-end, l) in
    rows_cleared g.R.Rule.meaning cleared c.loop-row.row-index k xs c.loop-row.row-items all c.loop-row.invariant
