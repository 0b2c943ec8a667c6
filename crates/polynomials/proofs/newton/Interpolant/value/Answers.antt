-- A turn of Newton's rule, at a chosen point and at another.
use Rattle.std.proofs.Common.{sym, refl, ◌∙◌}
use Rattle.basis.specs.Counts.{has}
use Rattle.polynomials.specs.Polynomials.{at, nval}
use Rattle.polynomials.proofs.Turns.{value_in, value_out}
use Rattle.polynomials.proofs.newton.Interpolant.value.Goals as goal
use Rattle.polynomials.proofs.newton.Interpolant.value.Goals.{then-contains, else-contains}

pub loop-i-init : goal.loop-i-init
unfolding nval
loop-i-init c = refl

pub loop-i-preserved : goal.loop-i-preserved
loop-i-preserved c = elim c.if-contains.branch [
  | then-contains w ↦ w.v-is ∙ value_in c.loop-i.i c.args.z _ _ _ (has c.args.self.now.choice) (at c.args.self.now.numbers.now) w.from.ensures w.from-then-contains.ensures c.loop-i.invariant (sym c.contains.ensures ∙ w.if-contains.true)
  | else-contains w ↦ w.v-is ∙ value_out c.loop-i.i c.args.z _ (has c.args.self.now.choice) (at c.args.self.now.numbers.now) c.loop-i.invariant (sym c.contains.ensures ∙ w.if-contains.false)
]
