-- What the lower numbers still have to give, at any value z.
use Rattle.std.proofs.Common.{◌≡◌, ℕ, ◌≤◌, length}
use Rattle.basis.specs.Counts.{has}
use Rattle.polynomials.specs.Polynomials.{ev, Same, through, at, nval}
use Rattle.polynomials.proofs.newton.interpolate.Given as goal

abbrev pub invariant-loop-i : goal.invariant-loop-i
invariant-loop-i l = (d : ℕ → ℕ) (z : ℕ) → ((j : ℕ) → l.i ≤ j → d j ≡ at l.ys j) → Same (nval l.i (has l.choice) d z) (ev (through l.i (has l.choice) (at l.ys)) z) → Same (nval (length l.initial.ys) (has l.choice) d z) (ev (through (length l.initial.ys) (has l.choice) (at l.initial.ys)) z)
