-- Counting lemmas: inclusion and exclusion, quorums. Assumes nothing.
use Rattle.std.proofs.Common.{◌≡◌, ℕ, zero, suc, ◌+◌, ◌-◌, ◌*◌, ◌/◌, ◌%◌, ◌^◌, ◌<◌, ◌≤◌, Bool, true, false, cond, not, ◌&&◌, ◌||◌, eqb, sym, refl, ap, ◌∙◌, subst, ap₂, ⊎_elim, lt_of_lt_of_le, mod-lt, pow-suc, div-one, add-one, arith, pow_pos, pow_mono, shr_lt}
use native.Mathlib.Nat.{div-div-eq-div-mul, pow-succ', zero-div, div-eq_of_lt}
use Rattle.std.proofs.lemmas.Bool.Decides.{nat_tests}
use lib.Dec.{eqb-suc-zero, eqb-zero-suc, eqb-suc-suc}
use lib.Bits.{bit_or, or_shr, or_mod, or_zero_l}
use lib.Count.{ones, ones_step}
use lib.Pow.{field, mod-mod-pow}
use Rattle.std.proofs.lemmas.Bool.{and_parts, cases_eq, ne_eqb}
use Rattle.basis.specs.Counts.{has, count}

bits : (x y : Bool) → cond (x && y) 1 0 + cond (x || y) 1 0 ≡ cond x 1 0 + cond y 1 0
bits true true = refl
bits true false = refl
bits false true = refl
bits false false = refl

pub count_both : (n : ℕ) (p q : ℕ → Bool) → count n (λ j. p j && q j) + count n (λ j. p j || q j) ≡ count n p + count n q
unfolding count
count_both zero p q = refl
count_both (suc n) p q = let h = count_both n p q in let b = bits (p n) (q n) in omega arith

pub count_le : (n : ℕ) (p : ℕ → Bool) → count n p ≤ n
unfolding count
count_le zero p = omega arith
count_le (suc n) p = let h = count_le n p in elim (p n) as (λ b. cond b 1 0 + count n p ≤ suc n) [ true ↦ omega arith | false ↦ omega arith ]

pub count_not : (n : ℕ) (p : ℕ → Bool) → count n p + count n (λ j. not (p j)) ≡ n
unfolding count
count_not zero p = refl
count_not (suc n) p =
    let h = count_not n p in
    elim (p n) as (λ b. (cond b 1 0 + count n p) + (cond (not b) 1 0 + count n (λ j. not (p j))) ≡ suc n) [ true ↦ omega arith | false ↦ omega arith ]

-- some number below n passes a test that at least one passes
pub count_some : (n : ℕ) (p : ℕ → Bool) → 0 < count n p → (j : ℕ) × (j < n) × (p j ≡ true)
unfolding count
count_some zero p h = absurd (omega arith)
count_some (suc n) p h = go (count_some n p) (p n) refl
  where
    go : (0 < count n p → (j : ℕ) × (j < n) × (p j ≡ true)) → (b : Bool) → p n ≡ b → (j : ℕ) × (j < suc n) × (p j ≡ true)
    go ih true e = (n, omega arith, e)
    go ih false e =
        let here : ◌≡◌ {A = ℕ} (cond (p n) 1 0) 0 = ap (λ (b : Bool). cond {A = ℕ} b 1 0) e in
        let r = ih (omega arith) in
        (r.0, omega (arith, r.1), r.2)

-- two sets of 2f + 1 among 3f + 1 share f + 1
pub quorums_meet : (f n : ℕ) (p q : ℕ → Bool) → n ≡ 3 * f + 1 → 2 * f + 1 ≤ count n p → 2 * f + 1 ≤ count n q → f + 1 ≤ count n (λ j. p j && q j)
quorums_meet f n p q e hp hq = omega (arith, count_both n p q, count_le n (λ j. p j || q j))

-- of f + 1 one is honest
pub one_honest : (f n : ℕ) (p honest : ℕ → Bool) → count n (λ j. not (honest j)) ≤ f → f + 1 ≤ count n p → (j : ℕ) × (j < n) × (p j ≡ true) × (honest j ≡ true)
one_honest f n p honest few many =
    let some : 0 < count n (λ j. p j && honest j) = omega (arith, count_both n p honest, count_le n (λ j. p j || honest j), count_not n honest) in
    let r = count_some n (λ j. p j && honest j) some in
    let b = and_parts (p r.0) (honest r.0) r.2 in
    (r.0, r.1, b.0, b.1)

-- what the theorems use: an honest till in two quorums
pub honest_in_both : (f n : ℕ) (p q honest : ℕ → Bool) → n ≡ 3 * f + 1 → count n (λ j. not (honest j)) ≤ f → 2 * f + 1 ≤ count n p → 2 * f + 1 ≤ count n q → (j : ℕ) × (j < n) × (p j ≡ true) × (q j ≡ true) × (honest j ≡ true)
honest_in_both f n p q honest e few hp hq =
    let r = one_honest f n (λ j. p j && q j) honest few (quorums_meet f n p q e hp hq) in
    let b = and_parts (p r.0) (q r.0) r.2 in
    (r.0, r.1, b.0, b.1, r.3)

-- counted from below
count_low : (k : ℕ) (p : ℕ → Bool) → count (suc k) p ≡ cond (p 0) 1 0 + count k (λ j. p (suc j))
unfolding count
count_low zero p = refl
count_low (suc k) p = let h = count_low k p in omega arith

pub count_cong : (k : ℕ) (p q : ℕ → Bool) → ((j : ℕ) → p j ≡ q j) → count k p ≡ count k q
unfolding count
count_cong zero p q e = refl
count_cong (suc k) p q e = ap₂ (λ (b : Bool) (m : ℕ). cond b 1 0 + m) (e k) (count_cong k p q e)

has_suc : (m j : ℕ) → has (m / 2) j ≡ has m (suc j)
unfolding has
has_suc m j = ap (λ (x : ℕ). eqb (x % 2) 1) (div-div-eq-div-mul m 2 (2 ^ j) ∙ ap (λ (x : ℕ). m / x) (sym (pow-succ' 2 j)))

-- a mask's lowest bit
has_zero : (m : ℕ) → m % 2 ≡ cond (has m 0) 1 0
unfolding has
has_zero m = rw (div-one m) (grind (arith, nat_tests))

-- a mask's ones are the numbers that it has
pub ones_count : (k m : ℕ) → m < 2 ^ k → ones m ≡ count k (has m)
unfolding count ones
ones_count zero m h = let z : m ≡ 0 = omega arith in ap ones z
ones_count (suc k) m h =
    let small : m / 2 < 2 ^ k = shr_lt k 1 (subst (λ (x : ℕ). m < 2 ^ x) (sym (add-one k)) h) in
    let rest : ones (m / 2) ≡ count k (λ j. has m (suc j)) = ones_count k (m / 2) small ∙ count_cong k (has (m / 2)) (λ j. has m (suc j)) (has_suc m) in
    omega (arith, ones_step m, has_zero m, rest, count_low k (has m))

-- a set of numbers below n has as many below any k past n
pub count_more : (k n : ℕ) (p : ℕ → Bool) → n ≤ k → ((j : ℕ) → p j ≡ true → j < n) → count k p ≡ count n p
unfolding count
count_more zero n p h low = let z : n ≡ 0 = omega arith in rw z refl
count_more (suc k) n p h low = ⊎_elim
    (λ e. rw e refl)
    (λ ne. let m : n ≤ k = omega arith in let r = count_more k n p m low in let z : p k ≡ false = cases_not (p k) (λ t. let l = low k t in omega arith) in omega (arith, r, ap (λ (b : Bool). cond {A = ℕ} b 1 0) z))
    (cases_eq n (suc k))
  where
    cases_not : (b : Bool) → (b ≡ true → ⊥) → b ≡ false
    cases_not true h = absurd (h refl)
    cases_not false h = refl

-- the bits of a union, of a meet, and of one till's mask
pub has_or : (a b j : ℕ) → has (bit_or a b) j ≡ (has a j || has b j)
unfolding has
has_or a b j =
    ap (λ (x : ℕ). eqb (x % 2) 1) (or_shr a b j) ∙ ap (λ (x : ℕ). eqb x 1) (or_mod (a / 2 ^ j) (b / 2 ^ j) 1)
    ∙ or_of_bits (a / 2 ^ j % 2) (b / 2 ^ j % 2) (omega arith) (omega arith)
  where
    or_of_bits : (x y : ℕ) → x < 2 → y < 2 → eqb (bit_or x y) 1 ≡ (eqb x 1 || eqb y 1)
    or_of_bits zero y h k = ap (λ (z : ℕ). eqb z 1) (or_zero_l y)
    or_of_bits (suc zero) zero h k = refl
    or_of_bits (suc zero) (suc zero) h k = refl
    or_of_bits (suc zero) (suc (suc y)) h k = absurd (omega arith)
    or_of_bits (suc (suc x)) y h k = absurd (omega arith)

pub has_none : (j : ℕ) → has 0 j ≡ false
unfolding has
has_none j = ap (λ (x : ℕ). eqb (x % 2) 1) (zero-div (2 ^ j))

even : (x : ℕ) → has (x * 2) 0 ≡ false
unfolding has
even x = rw div-one (ne_eqb (x * 2 % 2) 1 (omega arith))

pub has_one : (i j : ℕ) → has (2 ^ i) j ≡ eqb j i
has_one zero zero = unfold has in refl
has_one zero (suc j) = sym (has_suc 1 j) ∙ has_none j ∙ sym (eqb-suc-zero j)
has_one (suc i) zero = ap (λ (x : ℕ). has x 0) (pow-suc 2 i) ∙ even (2 ^ i) ∙ sym (eqb-zero-suc i)
has_one (suc i) (suc j) = sym (has_suc (2 ^ suc i) j) ∙ ap (λ (x : ℕ). has x j) (let p = pow-suc 2 i in omega arith) ∙ has_one i j ∙ sym (eqb-suc-suc j i)

pub count_mono : (k : ℕ) (p q : ℕ → Bool) → ((j : ℕ) → p j ≡ true → q j ≡ true) → count k p ≤ count k q
unfolding count
count_mono zero p q h = omega arith
count_mono (suc k) p q h = let r = count_mono k p q h in let s = bit_mono (p k) (q k) (h k) in omega arith
  where
    bit_mono : (a b : Bool) → (a ≡ true → b ≡ true) → cond {A = ℕ} a 1 0 ≤ cond b 1 0
    bit_mono true b h = rw (h refl) (omega arith)
    bit_mono false b h = omega arith

pub has_high : (k m j : ℕ) → m < 2 ^ k → k ≤ j → has m j ≡ false
unfolding has
has_high k m j h le = ap (λ (x : ℕ). eqb (x % 2) 1) (div-eq_of_lt (lt_of_lt_of_le h (pow_mono le)))

-- k numbers that pass p contain k honest ones less the faulty ones
pub honest_part : (k n : ℕ) (p honest : ℕ → Bool) → k ≤ count n p → k ≤ count n (λ j. p j && honest j) + count n (λ j. not (honest j))
honest_part k n p honest many = omega (arith, count_both n p honest, count_le n (λ j. p j || honest j), count_not n honest)

-- one number more, that passes or does not
pub count_yes : (n : ℕ) (p : ℕ → Bool) → p n ≡ true → count (n + 1) p ≡ count n p + 1
unfolding count
count_yes n p h = rw (add-one n) (let e : ◌≡◌ {A = ℕ} (cond (p n) 1 0) 1 = ap (λ (b : Bool). cond {A = ℕ} b 1 0) h in omega arith)

pub count_no : (n : ℕ) (p : ℕ → Bool) → p n ≡ false → count (n + 1) p ≡ count n p
unfolding count
count_no n p h = rw (add-one n) (let e : ◌≡◌ {A = ℕ} (cond (p n) 1 0) 0 = ap (λ (b : Bool). cond {A = ℕ} b 1 0) h in omega arith)

-- the members below n, by the remainder
has_low : (n m j : ℕ) → j < n → has (m % 2 ^ n) j ≡ has m j
unfolding has
has_low n m j lt = ap (λ (x : ℕ). eqb x 1) (go (n - suc j) (omega arith))
  where
    go : (d : ℕ) → n ≡ (d + 1) + j → m % 2 ^ n / 2 ^ j % 2 ≡ m / 2 ^ j % 2
    go d e = ap (λ (x : ℕ). m % 2 ^ x / 2 ^ j % 2) e ∙ ap (λ (x : ℕ). x % 2) (field m (d + 1) j) ∙ mod-mod-pow (m / 2 ^ j) d 1

pub count_same : (n : ℕ) (p q : ℕ → Bool) → ((j : ℕ) → j < n → p j ≡ q j) → count n p ≡ count n q
unfolding count
count_same zero p q e = refl
count_same (suc n) p q e = ap₂ (λ (b : Bool) (m : ℕ). cond b 1 0 + m) (e n (omega arith)) (count_same n p q (λ j l. e j (omega arith)))

-- the ones of the lowest n bits
pub ones_low : (n m : ℕ) → ones (m % 2 ^ n) ≡ count n (has m)
ones_low n m = ones_count n (m % 2 ^ n) (mod-lt m (pow_pos n)) ∙ count_same n _ _ (has_low n m)
