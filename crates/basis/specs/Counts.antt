-- Sets of replicas as masks, how many numbers below n pass a test, and the facts of counting. Assumes nothing.
use Rattle.std.specs.Prelude.{◌≡◌, ℕ, zero, suc, ◌+◌, ◌*◌, ◌/◌, ◌%◌, ◌^◌, ◌<◌, ◌≤◌, Bool, true, cond, not, ◌&&◌, ◌==◌, count_ones}

-- whether replica j, bit j from the lowest, is in the set that a mask stands for
unfoldable pub has : ℕ → ℕ → Bool
has m j = m / 2 ^ j % 2 == 1

-- how many numbers below n pass p
unfoldable pub count : ℕ → (ℕ → Bool) → ℕ
count zero p = 0
count (suc n) p = cond (p n) 1 0 + count n p

-- the sum of g over the numbers below n
unfoldable pub total : ℕ → (ℕ → ℕ) → ℕ
total zero g = 0
total (suc n) g = g n + total n g

-- the ones of a mask of any width are the replicas in its set
abbrev pub OnesCounted : Type 0
OnesCounted = (w m : ℕ) → m < 2 ^ w → count_ones m ≡ count w (has m)

-- two sets of 2f + 1 of 3f + 1 replicas share f + 1
abbrev pub QuorumsMeet : Type 0
QuorumsMeet = (f n : ℕ) (p q : ℕ → Bool) → n ≡ 3 * f + 1 → 2 * f + 1 ≤ count n p → 2 * f + 1 ≤ count n q → f + 1 ≤ count n (λ j. p j && q j)

-- where at most f replicas are faulty, f + 1 contain an honest one
abbrev pub HonestAmong : Type 0
HonestAmong = (f n : ℕ) (p honest : ℕ → Bool) → count n (λ j. not (honest j)) ≤ f → f + 1 ≤ count n p → (j : ℕ) × (j < n) × (p j ≡ true) × (honest j ≡ true)

-- k replicas contain at least k honest ones less the faulty ones
abbrev pub HonestPart : Type 0
HonestPart = (k n : ℕ) (p honest : ℕ → Bool) → k ≤ count n p → k ≤ count n (λ j. p j && honest j) + count n (λ j. not (honest j))

-- a table of tests has the same sum by rows and by columns
abbrev pub RowsColumns : Type 0
RowsColumns = (n m : ℕ) (t : ℕ → ℕ → Bool) → total n (λ i. count m (λ k. t i k)) ≡ total m (λ k. count n (λ i. t i k))
