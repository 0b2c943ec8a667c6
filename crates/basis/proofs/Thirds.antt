-- A listed hall has 3f + 1 replicas, with f from 1 on. Assumes nothing.
use Rattle.std.proofs.Common.{◌≡◌, ℕ, ◌+◌, ◌*◌, ◌≤◌, T, arith}
use Rattle.std.proofs.lemmas.Bool.Decides.{nat_tests}
use Rattle.basis.specs.Halls.{listed, faults}

pub thirds : (n : ℕ) → T (listed n) → n ≡ 3 * faults n + 1
thirds n h = grind (arith, nat_tests)

pub some_faults : (n : ℕ) → T (listed n) → 1 ≤ faults n
some_faults n h = grind (arith, nat_tests)

pub at_most_16 : (n : ℕ) → T (listed n) → n ≤ 16
at_most_16 n h = grind (arith, nat_tests)
