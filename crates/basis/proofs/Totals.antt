-- Counting pairs two ways. Assumes nothing.
use Rattle.std.proofs.Common.{◌≡◌, ℕ, zero, suc, ◌+◌, ◌*◌, ◌<◌, ◌≤◌, Bool, true, false, cond, sym, refl, ap, ◌∙◌, ⊎_elim, mul-le-mul_right, mul-le-mul_left, arith}
use Rattle.std.proofs.lemmas.Bool.{cases_lt, cases_eq}
use Rattle.basis.specs.Counts.{count, total}

total_none : (n : ℕ) → total n (λ _. 0) ≡ 0
unfolding total
total_none zero = refl
total_none (suc n) = let h = total_none n in omega arith

total_add : (n : ℕ) (g h : ℕ → ℕ) → total n (λ k. g k + h k) ≡ total n g + total n h
unfolding total
total_add zero g h = refl
total_add (suc n) g h = let r = total_add n g h in omega arith

count_total : (n : ℕ) (p : ℕ → Bool) → count n p ≡ total n (λ k. cond (p k) 1 0)
unfolding total count
count_total zero p = refl
count_total (suc n) p = let r = count_total n p in omega arith

-- a table of tests, summed by rows and by columns
pub rows_columns : (n m : ℕ) (M : ℕ → ℕ → Bool) → total n (λ i. count m (λ k. M i k)) ≡ total m (λ k. count n (λ i. M i k))
unfolding total count
rows_columns zero m M = sym (total_none m)
rows_columns (suc n) m M = let r = rows_columns n m M in let c = count_total m (M n) in let d = total_add m (λ k. cond (M n k) 1 0) (λ k. count n (λ i. M i k)) in omega arith

pub total_le : (n c : ℕ) (g : ℕ → ℕ) (p : ℕ → Bool) → ((i : ℕ) → i < n → g i ≤ cond (p i) c 0) → total n g ≤ count n p * c
unfolding total count
total_le zero c g p h = omega arith
total_le (suc n) c g p h = let r = total_le n c g p (λ i lt. h i (omega arith)) in let q = h n (omega arith) in
    elim (p n) as (λ b. g n ≤ cond b c 0 → g n + total n g ≤ (cond b 1 0 + count n p) * c) [ true ↦ λ x. omega arith | false ↦ λ x. omega arith ] q

pub total_ge : (n c : ℕ) (g : ℕ → ℕ) (p : ℕ → Bool) → ((i : ℕ) → i < n → cond (p i) c 0 ≤ g i) → count n p * c ≤ total n g
unfolding total count
total_ge zero c g p h = omega arith
total_ge (suc n) c g p h = let r = total_ge n c g p (λ i lt. h i (omega arith)) in let q = h n (omega arith) in
    elim (p n) as (λ b. cond b c 0 ≤ g n → (cond b 1 0 + count n p) * c ≤ g n + total n g) [ true ↦ λ x. omega arith | false ↦ λ x. omega arith ] q

-- z columns of at least d, h = d + f rows of at most f: then z is below 2f
pub columns : (f d z : ℕ) → 0 < f → f + 1 ≤ d → z * d ≤ (d + f) * f → z < 2 * f
columns f d z pos big le = ⊎_elim (λ h. h) (λ ge. absurd (omega (arith, mul-le-mul_right d ge, mul-le-mul_left f big))) (cases_lt z (2 * f))

-- what holds below n alone counts
pub count_below : (n : ℕ) (p q : ℕ → Bool) → ((j : ℕ) → j < n → p j ≡ true → q j ≡ true) → count n p ≤ count n q
unfolding count
count_below zero p q h = omega arith
count_below (suc n) p q h = let r = count_below n p q (λ j lt. h j (omega arith)) in let s = bit_mono (p n) (q n) (h n (omega arith)) in omega arith
  where
    bit_mono : (a b : Bool) → (a ≡ true → b ≡ true) → cond {A = ℕ} a 1 0 ≤ cond b 1 0
    bit_mono true b h = rw (h refl) (omega arith)
    bit_mono false b h = omega arith

pub count_none : (n : ℕ) (p : ℕ → Bool) → count n p < 1 → (j : ℕ) → j < n → p j ≡ true → ⊥
unfolding count
count_none zero p z j lt h = omega arith
count_none (suc n) p z j lt h = ⊎_elim
    (λ same. let q : ◌≡◌ {A = ℕ} (cond (p n) 1 0) 1 = ap (λ (b : Bool). cond {A = ℕ} b 1 0) (ap p (sym same) ∙ h) in omega arith)
    (λ ne. count_none n p (omega arith) j (omega arith) h) (cases_eq j n)
