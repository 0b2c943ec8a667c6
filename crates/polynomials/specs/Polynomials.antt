-- Polynomials modulo 251, by their coefficients, the lowest first. Assumes nothing.
use Rattle.std.specs.Prelude.{◌≡◌, ℕ, zero, suc, ◌+◌, ◌-◌, ◌*◌, ◌%◌, ◌^◌, ◌<◌, ◌≤◌, Bool, true, cond, List, [], ◌∷◌, length, slice_index}
use Rattle.basis.specs.Counts.{count}

-- what stands at j in a table of numbers
abbrev pub at : List ℕ → ℕ → ℕ
at xs j = slice_index xs j

-- the value at z
abbrev pub ev : List ℕ → ℕ → ℕ
ev [] z = 0
ev (a ∷ c) z = a + z * ev c z

-- the same modulo 251
abbrev pub Same : ℕ → ℕ → Type 0
Same a b = a % 251 ≡ b % 251

-- the inverse of d modulo 251, where d is no multiple of 251
unfoldable pub inv : ℕ → ℕ
inv d = d ^ 249 % 251

-- the sum of two polynomials, and a multiple
unfoldable pub plus : List ℕ → List ℕ → List ℕ
plus [] q = q
plus (a ∷ p) [] = a ∷ p
plus (a ∷ p) (b ∷ q) = (a + b) ∷ plus p q

unfoldable pub times : ℕ → List ℕ → List ℕ
times r [] = []
times r (a ∷ p) = (r * a) ∷ times r p

-- what is not 0 cancels
abbrev pub Cancels : Type 0
Cancels = (d u v : ℕ) → 0 < d → d < 251 → Same (d * u) (d * v) → Same u v

-- Two polynomials of at most k coefficients that agree at the points j + 1 of k of the j below n agree everywhere.
abbrev pub AtMostOne : Type 0
AtMostOne = (n k : ℕ) (p q : List ℕ) (s : ℕ → Bool) → n ≤ 251 → length p ≤ k → length q ≤ k → k ≤ count n s → ((j : ℕ) → j < n → s j ≡ true → Same (ev p (j + 1)) (ev q (j + 1))) → (z : ℕ) → Same (ev p z) (ev q z)

-- y + (z + r) p
unfoldable pub newton : ℕ → ℕ → List ℕ → List ℕ
unfolding plus times
newton y r p = plus (y ∷ p) (times r p)

-- the slope from a low value to a high one, d points above it
abbrev pub slope_to : ℕ → ℕ → ℕ → ℕ
slope_to high low d = (high + (251 - low % 251)) * inv d

-- the slope from j to n
unfoldable pub slope : (ℕ → ℕ) → ℕ → ℕ → ℕ
slope y n j = (y n + (251 - y j % 251)) * inv (n - j)

-- The polynomial with the value y j at j + 1 for each j below n of the set s, by Newton's rule from the highest point:
-- y n, and z - (n + 1) times the one with the slopes to there.
unfoldable pub through : ℕ → (ℕ → Bool) → (ℕ → ℕ) → List ℕ
through zero s y = []
through (suc n) s y = cond (s n) (newton (y n) (250 - n) (through n s (slope y n))) (through n s y)

-- as many coefficients as points, and the value y j at each
pub record MeetsAll (n : ℕ) (s : ℕ → Bool) (y : ℕ → ℕ) (p : List ℕ) : Type 0 where
  pub short : length p ≡ count n s
  pub meets_each : (j : ℕ) → j < n → s j ≡ true → Same (ev p (j + 1)) (y j)

abbrev pub Interpolates : Type 0
Interpolates = (n : ℕ) (s : ℕ → Bool) (y : ℕ → ℕ) → n ≤ 251 → MeetsAll n s y (through n s y)

-- The value at z by the numbers d of the set s: d n, and z - (n + 1) times what the lower ones give.
unfoldable pub nval : ℕ → (ℕ → Bool) → (ℕ → ℕ) → ℕ → ℕ
nval zero s d z = 0
nval (suc n) s d z = cond (s n) (d n + (z + (250 - n)) * nval n s d z) (nval n s d z)

-- the numbers d are Newton's for the values y of the set s
abbrev pub Newtons : ℕ → (ℕ → Bool) → (ℕ → ℕ) → (ℕ → ℕ) → Type 0
Newtons n s y d = (z : ℕ) → Same (nval n s d z) (ev (through n s y) z)
