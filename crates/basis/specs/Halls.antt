-- Hall sizes and how many faulty replicas each bears. Assumes nothing.
use Rattle.std.specs.Prelude.{◌≡◌, ℕ, ◌+◌, ◌-◌, ◌*◌, ◌/◌, ◌%◌, ◌≤◌, Bool, ◌&&◌, T, ◌==◌, nat_le}

-- the largest hall
abbrev pub largest : ℕ
largest = 16

-- 4, 7, 10, 13 and 16
abbrev pub listed : ℕ → Bool
listed n = nat_le 4 n && (nat_le n largest && n % 3 == 1)

-- f, the number of faulty replicas that a hall of n bears
abbrev pub faults : ℕ → ℕ
faults n = (n - 1) / 3

-- 2f + 1, a quorum, and f + 1, which no faulty replicas reach alone
abbrev pub quorum : ℕ → ℕ
quorum n = 2 * faults n + 1

abbrev pub beyond_faults : ℕ → ℕ
beyond_faults n = faults n + 1

-- a listed hall has 3f + 1 replicas, with f from 1 on
abbrev pub Thirds : Type 0
Thirds = (n : ℕ) → T (listed n) → (n ≡ 3 * faults n + 1) × (1 ≤ faults n)
