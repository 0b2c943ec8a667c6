-- Unions of counted votes: what they hold is admitted, and one bit alone has a quorum. Assumes nothing.
use Rattle.std.specs.Prelude.{◌≡◌, ℕ, zero, suc, ◌+◌, ◌<◌, ◌≤◌, Bool, true, false, cond, ◌&&◌, ◌||◌, ◌⊎◌, nat_le, refl}
use Rattle.std.proofs.Common.{inl, inr}
use Rattle.std.proofs.Math.Logic.{⊎_elim}
use native.Mathlib.Omega.{arith}
use Rattle.std.proofs.lemmas.Bool.{cases_lt, leb-true, leb-false, and_parts, or_cases, or_right}
use Rattle.basis.specs.Counts.{count}
use Rattle.basis.specs.Halls.{quorum}
use Rattle.basis.proofs.Counts.{count_mono, count_both, count_some}
use Rattle.rules.specs.Rounds.{Round}
use Rattle.rules.specs.Laws.{Single, Holds}
use Rattle.phases.specs.Steps.{admitted, counted, enough, union}

-- 2f + 1 first votes for the bit of x, and for each bit of v
abbrev pub Full : ℕ → Round → ℕ → Type 0
Full n m x = quorum n ≤ count n (m.votes 32 x)

abbrev pub Within : ℕ → Round → ℕ → Type 0
Within n m v = (x : ℕ) → Single x → Holds v x → Full n m x

-- one of the two bits
pub one_of : (x : ℕ) → Single x → (x ≡ 1) ⊎ (x ≡ 2)
one_of zero s = absurd (omega arith)
one_of (suc zero) s = inl refl
one_of (suc (suc zero)) s = inr refl
one_of (suc (suc (suc x))) s = absurd (omega arith)

pub by_bit : (P : ℕ → Type 0) → P 1 → P 2 → (x : ℕ) → Single x → P x
by_bit P p q x s = ⊎_elim (λ e. rw e p) (λ e. rw e q) (one_of x s)

pub admitted_full : (n : ℕ) (m : Round) (x : ℕ) → admitted n m x ≡ true → Full n m x
unfolding admitted
admitted_full n m x h = leb-true _ _ h

-- a union of 1 and 2, by whether each is there
union_one : (p q : Bool) → Holds (cond p 1 0 + cond q 2 0) 1 → p ≡ true
union_one true q h = refl
union_one false true h = absurd (⊎_elim (λ z. omega arith) (λ z. omega arith) h)
union_one false false h = absurd (⊎_elim (λ z. omega arith) (λ z. omega arith) h)

union_two : (p q : Bool) → Holds (cond p 1 0 + cond q 2 0) 2 → q ≡ true
union_two p true h = refl
union_two true false h = absurd (⊎_elim (λ z. omega arith) (λ z. omega arith) h)
union_two false false h = absurd (⊎_elim (λ z. omega arith) (λ z. omega arith) h)

-- what a union says of what it lacks
record Lacking (p q : Bool) (u : ℕ) : Type 0 where
  small : u < 4
  alone_one : u ≡ 1 → q ≡ false
  alone_two : u ≡ 2 → p ≡ false
  none : u ≡ 0 → (p ≡ false) × (q ≡ false)

lacking : (p q : Bool) → Lacking p q (cond p 1 0 + cond q 2 0)
lacking true true = record { small = omega arith; alone_one = λ z. absurd (omega arith); alone_two = λ z. absurd (omega arith); none = λ z. absurd (omega arith) }
lacking true false = record { small = omega arith; alone_one = λ z. refl; alone_two = λ z. absurd (omega arith); none = λ z. absurd (omega arith) }
lacking false true = record { small = omega arith; alone_one = λ z. absurd (omega arith); alone_two = λ z. refl; none = λ z. absurd (omega arith) }
lacking false false = record { small = omega arith; alone_one = λ z. refl; alone_two = λ z. refl; none = λ z. (refl, refl) }

le_or : (n : ℕ) (p q : ℕ → Bool) → count n (λ j. p j || q j) ≤ count n p + count n q
le_or n p q = let c = count_both n p q in omega arith

module _ (n : ℕ) (m : Round) (t : ℕ) where
  -- a counted vote names admitted bits
  counted_full : (x j : ℕ) → Single x → counted n m t x j ≡ true → Full n m x
  counted_full x j s h = ⊎_elim (λ one. admitted_full n m x (and_parts _ _ one).1)
      (λ both. let p = and_parts (admitted n m 1) (admitted n m 2) (and_parts (m.votes t 3 j) _ both).1 in
      by_bit (Full n m) (admitted_full n m 1 p.0) (admitted_full n m 2 p.1) x s) (or_cases _ _ h)

  some_counted : (x : ℕ) → Single x → nat_le 1 (count n (counted n m t x)) ≡ true → Full n m x
  some_counted x s h = let o = count_some n (counted n m t x) (leb-true 1 _ h) in counted_full x o.0 s o.2

  pub union_within : Within n m (union n m t)
  unfolding union
  union_within x s = by_bit (λ (y : ℕ). Holds (union n m t) y → Full n m y)
      (λ k. some_counted 1 (omega arith, omega arith) (union_one _ _ k)) (λ k. some_counted 2 (omega arith, omega arith) (union_two (nat_le 1 (count n (counted n m t 1))) _ k)) x s

  pub union_small : union n m t < 4
  unfolding union
  union_small = (lacking (nat_le 1 (count n (counted n m t 1))) (nat_le 1 (count n (counted n m t 2)))).small

  module _ (many : enough n m t ≡ true) where
    both_count : quorum n ≤ count n (counted n m t 1) + count n (counted n m t 2)
    unfolding enough
    both_count = omega (arith, leb-true _ _ many, le_or n (counted n m t 1) (counted n m t 2))

    pub union_some : 0 < union n m t
    unfolding union
    union_some = ⊎_elim (λ h. h) (λ z. absurd (let p = (lacking (nat_le 1 (count n (counted n m t 1))) (nat_le 1 (count n (counted n m t 2)))).none (omega arith) in
        omega (arith, both_count, leb-false _ _ p.0, leb-false _ _ p.1))) (cases_lt 0 (union n m t))

    -- where nobody's counted vote holds y, the votes that hold x are for x alone
    alone : (x y : ℕ) → count n (counted n m t y) < 1 → quorum n ≤ count n (counted n m t x) → quorum n ≤ count n (m.votes t x)
    alone x y none enough-x =
        let all = le_or n (λ j. m.votes t x j && admitted n m x) (λ j. m.votes t 3 j && (admitted n m 1 && admitted n m 2)) in
        let three = count_mono n (λ j. m.votes t 3 j && (admitted n m 1 && admitted n m 2)) (counted n m t y) (λ j h. or_right _ _ h) in
        let one = count_mono n (λ j. m.votes t x j && admitted n m x) (m.votes t x) (λ j h. (and_parts _ _ h).0) in
        omega arith

    pub union_backed : (x : ℕ) → Single x → union n m t ≡ x → quorum n ≤ count n (m.votes t x)
    unfolding union
    union_backed x s = by_bit (λ (y : ℕ). union n m t ≡ y → quorum n ≤ count n (m.votes t y))
        (λ q. let none = leb-false 1 (count n (counted n m t 2)) ((lacking (nat_le 1 (count n (counted n m t 1))) _).alone_one q) in alone 1 2 none (omega (arith, both_count)))
        (λ q. let none = leb-false 1 (count n (counted n m t 1)) ((lacking _ (nat_le 1 (count n (counted n m t 2)))).alone_two q) in alone 2 1 none (omega (arith, both_count))) x s
