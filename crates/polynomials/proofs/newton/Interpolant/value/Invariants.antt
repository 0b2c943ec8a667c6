-- The value by the numbers below i.
use Rattle.std.proofs.Common.{◌≡◌, ◌%◌}
use Rattle.basis.specs.Counts.{has}
use Rattle.polynomials.specs.Polynomials.{at, nval}
use Rattle.polynomials.proofs.newton.Interpolant.value.Given as goal

abbrev pub invariant-loop-i : goal.invariant-loop-i
invariant-loop-i l = l.v ≡ nval l.i (has l.self.choice) (at l.self.numbers.now) l.z % 251
