-- One row more; and the rows beyond the first stay.
use Rattle.std.proofs.Common.{◌≡◌, ◌++◌, length, take, drop, set, ap, ◌∙◌, arith, length-take}
use Rattle.broadcast.specs.Opening.{cleared_to}
use Rattle.broadcast.proofs.Clearing.{clear_more, cleared_front}
use Rattle.broadcast.proofs.open.clear_to.Goals as goal

pub loop-row-preserved : goal.loop-row-preserved
loop-row-preserved g c = ap (λ l. set l c.loop-row.row-index c.args.empty) c.loop-row.invariant ∙ clear_more c.loop-row.row-index c.args.empty _ c.loop-row-test.true

pub returns : goal.returns
returns g c =
    let xs = c.args.rows.now in
    let k = c.args.count in
    let l : length (take k xs) ≡ k = simp length-take (omega arith) in
    let all : c.loop-row.row-index ≡ k = omega (arith, c.loop-row-test.false, c.loop-row.auto.row-index-end, l) in
    ap (λ ys. ys ++ drop k xs) (c.loop-row.invariant ∙ ap (λ i. cleared_to i c.args.empty (take k xs)) all) ∙ cleared_front k c.args.empty xs
