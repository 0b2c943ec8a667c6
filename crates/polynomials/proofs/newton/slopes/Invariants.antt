-- Slopes of the chosen ones below j, and the values as they were from j on.
use Rattle.std.proofs.Common.{◌≡◌, ℕ, ◌-◌, ◌%◌, ◌<◌, ◌≤◌, true, length}
use Rattle.basis.specs.Counts.{has}
use Rattle.polynomials.specs.Polynomials.{slope_to, at}
use Rattle.polynomials.proofs.newton.slopes.Given as goal

abbrev pub invariant-loop-j : goal.invariant-loop-j
invariant-loop-j l = ((j : ℕ) → j < l.j → has l.choice j ≡ true → at l.lower j ≡ slope_to l.high (at l.initial.lower j) (length l.initial.lower - j) % 251) × ((j : ℕ) → l.j ≤ j → at l.lower j ≡ at l.initial.lower j)
