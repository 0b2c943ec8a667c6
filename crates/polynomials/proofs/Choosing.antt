-- To try all choices of f + 1 held shares within each half of the replicas is exact. Assumes nothing.
use Rattle.std.proofs.Common.{◌≡◌, ℕ, zero, suc, ◌+◌, ◌*◌, ◌-◌, ◌/◌, ◌%◌, ◌^◌, ◌<◌, ◌≤◌, Bool, true, false, cond, ◌&&◌, ◌||◌, eqb, leb, List, Some, None, Option, sym, refl, ap, ap₂, ◌∙◌, subst, ⊎_elim, zero-add, pow_mono, lt_of_lt_of_le, pow-add, pow-suc, add-zero, add-suc, add-one, arith, le-leb, leb-true}
use lib.Bits.{bit_and, bit_or, or_lt, and_shr, and_mod, and_zero_l}
use lib.Pow.{pow-lt, shl_lt, shl-shr, shr-shr}
use borrow.Author.Tests.{lt-leb}
use Rattle.std.specs.Option.{option_or}
use Rattle.std.proofs.lemmas.Bool.{and_parts, and_from, or_left, eqb-true, eq-eqb, ne_eqb, or_cases, or_right, both_ways, cases_eq, cases_lt, cond-true, cond-false, cond_both}
use Rattle.std.proofs.Math.Bool.{or-false}
use Rattle.basis.specs.Counts.{has, count}
use Rattle.basis.specs.Halls.{largest, faults, quorum, beyond_faults}
use Rattle.basis.proofs.Counts.{count_cong, count_same, count_more, count_yes, count_no, count_mono, quorums_meet, has_or, has_one, has_none, has_high}
use Rattle.polynomials.specs.Polynomials.{ev, Same, nval, Newtons, MeetsAll}
use Rattle.polynomials.specs.Shares.{Hall, meets, meets_by, low_bit, Enough, BitOf, Exact, OneValue, OneBit, of_size, is_choice, chosen, bit_if_met, tried, first_of, half, nth_choice, shown_in, shown_of}
use Rattle.polynomials.proofs.Roots.{at_most_one}
use Rattle.polynomials.proofs.Interpolation.{interpolates}

-- uniqueness
pub one_value : OneValue
one_value n p q held share h ep eq =
    at_most_one n (beyond_faults n) p q (λ j. meets p held share j && meets q held share j) (omega (arith, h.small)) ep.degree eq.degree (quorums_meet (faults n) n (meets p held share) (meets q held share) h.thirds ep.many eq.many)
    (λ j l t. both (held j) _ _ (share j % 251) t)
  where
    both : (h : Bool) (x y w : ℕ) → ((h && eqb x w) && (h && eqb y w)) ≡ true → x ≡ y
    both h x y w t =
        let a = and_parts (h && eqb x w) (h && eqb y w) t in
        let b = and_parts h (eqb x w) a.0 in
        let c = and_parts h (eqb y w) a.1 in
        eqb-true x w b.1 ∙ sym (eqb-true y w c.1)

pub one_bit : OneBit
one_bit n held share a b h x y =
    x.2 ∙ ap (λ (t : ℕ). eqb (t % 2) 1) (one_value n x.0 y.0 held share h x.1 y.1 0) ∙ sym y.2

-- the bits of a meet
pub has_and : (a b j : ℕ) → has (bit_and a b) j ≡ (has a j && has b j)
unfolding has
has_and a b j =
    ap (λ (x : ℕ). eqb (x % 2) 1) (and_shr a b j) ∙ ap (λ (x : ℕ). eqb x 1) (and_mod (a / 2 ^ j) (b / 2 ^ j) 1)
    ∙ and_of_bits (a / 2 ^ j % 2) (b / 2 ^ j % 2) (omega arith) (omega arith)
  where
    and_of_bits : (x y : ℕ) → x < 2 → y < 2 → eqb (bit_and x y) 1 ≡ (eqb x 1 && eqb y 1)
    and_of_bits zero y h k = ap (λ (z : ℕ). eqb z 1) (and_zero_l y)
    and_of_bits (suc zero) zero h k = refl
    and_of_bits (suc zero) (suc zero) h k = refl
    and_of_bits (suc zero) (suc (suc y)) h k = absurd (omega arith)
    and_of_bits (suc (suc x)) y h k = absurd (omega arith)

-- k of a set of at least k, as a mask
record SomeOf (n k : ℕ) (p : ℕ → Bool) (m : ℕ) : Type 0 where
  mask : m < 2 ^ n
  sized : count n (has m) ≡ k
  within : (j : ℕ) → has m j ≡ true → p j ≡ true

one_more : (n k m : ℕ) (p : ℕ → Bool) → SomeOf n k p m → p n ≡ true → SomeOf (suc n) (suc k) p (bit_or m (2 ^ n))
unfolding count
one_more n k m p h t = record {
  mask = or_lt (suc n) m (2 ^ n) (omega (arith, h.mask, pow-lt {i = n} {j = suc n} (omega arith))) (pow-lt (omega arith));
  sized = omega (arith, ap (λ (b : Bool). cond {A = ℕ} b 1 0) top, count_same n (has (bit_or m (2 ^ n))) (has m) low, h.sized);
  within = λ j e. ⊎_elim (λ a. h.within j a) (λ a. ap p (eqb-true j n (sym (has_one n j) ∙ a)) ∙ t) (or_cases (has m j) (has (2 ^ n) j) (sym (has_or m (2 ^ n) j) ∙ e));
}
  where
    top : has (bit_or m (2 ^ n)) n ≡ true
    top = has_or m (2 ^ n) n ∙ or_right (has m n) _ (has_one n n ∙ eq-eqb n n refl)

    low : (j : ℕ) → j < n → has (bit_or m (2 ^ n)) j ≡ has m j
    low j l = has_or m (2 ^ n) j ∙ ap (λ (b : Bool). has m j || b) (has_one n j ∙ ne_eqb j n (λ e. omega arith)) ∙ or-false (has m j)

no_more : (n k m : ℕ) (p : ℕ → Bool) → SomeOf n k p m → SomeOf (suc n) k p m
unfolding count
no_more n k m p h = record {
  mask = omega (arith, h.mask, pow-lt {i = n} {j = suc n} (omega arith));
  sized = omega (arith, ap (λ (b : Bool). cond {A = ℕ} b 1 0) (has_high n m n h.mask (omega arith)), h.sized);
  within = h.within;
}

some_of : (n k : ℕ) (p : ℕ → Bool) → k ≤ count n p → (m : ℕ) × SomeOf n k p m
unfolding count
some_of zero k p h = (0, record { mask = omega arith; sized = omega arith; within = λ j e. absurd (both_ways (has 0 j) (has_none j) e) })
some_of (suc n) k p h = go (λ k l. some_of n k p l) (p n) refl k h
  where
    go : ((k : ℕ) → k ≤ count n p → (m : ℕ) × SomeOf n k p m) → (t : Bool) → p n ≡ t → (k : ℕ) → k ≤ cond (p n) 1 0 + count n p → (m : ℕ) × SomeOf (suc n) k p m
    go ih false t k h = let r = ih k (omega (arith, rw t at h)) in (r.0, no_more n k r.0 p r.1)
    go ih true t zero h = let r = ih 0 (omega arith) in (r.0, no_more n 0 r.0 p r.1)
    go ih true t (suc k) h = let r = ih k (omega (arith, rw t at h)) in (bit_or r.0 (2 ^ n), one_more n k r.0 p r.1 t)

-- of the first a numbers and the next b
pub count_split : (a b : ℕ) (p : ℕ → Bool) → count (a + b) p ≤ count a p + b
unfolding count
count_split a zero p = rw add-zero (omega arith)
count_split a (suc b) p = rw add-suc (let r = count_split a b p in elim (p (a + b)) as (λ t. cond t 1 0 + count (a + b) p ≤ count a p + suc b) [ true ↦ omega arith | false ↦ omega arith ])

pub count_up : (n k : ℕ) (p : ℕ → Bool) → n ≤ k → count n p ≤ count k p
unfolding count
count_up n zero p h = let z : n ≡ 0 = omega arith in rw z (omega arith)
count_up n (suc k) p h = ⊎_elim (λ e. rw e (omega arith)) (λ ne. let r = count_up n k p (omega arith) in omega arith) (cases_eq n (suc k))

-- the first a numbers and the next b
pub count_parts : (a b : ℕ) (p : ℕ → Bool) → count (a + b) p ≡ count a p + count b (λ j. p (a + j))
unfolding count
count_parts a zero p = rw add-zero (omega arith)
count_parts a (suc b) p = rw add-suc (let r = count_parts a b p in omega arith)

count_zero : (a : ℕ) (p : ℕ → Bool) → ((j : ℕ) → j < a → p j ≡ false) → count a p ≡ 0
unfolding count
count_zero zero p h = refl
count_zero (suc a) p h = rw (h a (omega arith)) (let r = count_zero a p (λ j l. h j (omega arith)) in omega arith)

-- a test that is passed by as many as a wider one is passed where that is
count_inside : (n : ℕ) (p q : ℕ → Bool) → ((j : ℕ) → q j ≡ true → p j ≡ true) → count n q ≡ count n p → (j : ℕ) → j < n → p j ≡ true → q j ≡ true
unfolding count
count_inside zero p q h e j l t = absurd (omega arith)
count_inside (suc n) p q h e j l t = go (λ e l. count_inside n p q h e j l t) (p n) refl (q n) refl e (count_mono n q p h)
  where
    go : (count n q ≡ count n p → j < n → q j ≡ true) → (x : Bool) → p n ≡ x → (y : Bool) → q n ≡ y → cond (q n) 1 0 + count n q ≡ cond (p n) 1 0 + count n p → count n q ≤ count n p → q j ≡ true
    go ih true f true g e le = ⊎_elim (λ s. ap q s ∙ g) (λ ne. ih (omega (arith, rw (f, g) at e)) (omega arith)) (cases_eq j n)
    go ih true f false g e le = absurd (omega (arith, rw (f, g) at e))
    go ih false f true g e le = absurd (both_ways (p n) f (h n g))
    go ih false f false g e le = ⊎_elim (λ s. absurd (both_ways (p n) f (ap p (sym s) ∙ t))) (λ ne. ih (omega (arith, rw (f, g) at e)) (omega arith)) (cases_eq j n)

-- a mask moved up by a
has_moved : (a k i : ℕ) → has (k * 2 ^ a) (a + i) ≡ has k i
unfolding has
has_moved a k i = ap (λ (x : ℕ). eqb (x % 2) 1) (sym (shr-shr (k * 2 ^ a) a i) ∙ ap (λ (x : ℕ). x / 2 ^ i) (shl-shr k a))

has_under : (a k j : ℕ) → j < a → has (k * 2 ^ a) j ≡ false
unfolding has
has_under a k j l =
    let e : a ≡ (a - suc j) + suc j = omega arith in
    ap (λ (x : ℕ). has x j) (ap (λ (x : ℕ). k * 2 ^ x) e ∙ ap (λ (x : ℕ). k * x) (pow-add 2 (a - suc j) (suc j) ∙ ap (λ (x : ℕ). 2 ^ (a - suc j) * x) (pow-suc 2 j)) ∙ swap k (2 ^ (a - suc j)) (2 ^ j))
    ∙ bottom (k * 2 ^ (a - suc j)) j
  where
    swap : (k x y : ℕ) → k * (x * (y * 2)) ≡ k * x * 2 * y
    swap k x y = omega arith

    bottom : (x j : ℕ) → has (x * 2 * 2 ^ j) j ≡ false
    bottom x j = ap (λ (y : ℕ). eqb (y % 2) 1) (shl-shr (x * 2) j) ∙ ne_eqb (x * 2 % 2) 1 (omega arith)

pub moved_below : (from to k : ℕ) → from ≤ to → k < 2 ^ (to - from) → nth_choice from k < 2 ^ to
moved_below from to k l h =
    let e : (to - from) + from ≡ to = omega arith in
    subst (λ (x : ℕ). k * 2 ^ from < 2 ^ x) e (shl_lt (to - from) from h)

-- what passes where replicas are counted from another one on
moved : (from to k m : ℕ) (p : ℕ → Bool) → from ≤ to → SomeOf (to - from) k (λ j. p (from + j)) m → SomeOf to k p (nth_choice from m)
moved from to k m p l h = record {
  mask = moved_below from to m l h.mask;
  sized = subst (λ (x : ℕ). count x (has (nth_choice from m)) ≡ k) e
      (count_parts from (to - from) (has (nth_choice from m))
      ∙ ap₂ (λ (x y : ℕ). x + y) (count_zero from (has (nth_choice from m)) (has_under from m)) (count_cong (to - from) _ (has m) (has_moved from m) ∙ h.sized) ∙ zero-add k);
  within = λ j t. ⊎_elim (λ lt. absurd (both_ways (has (nth_choice from m) j) (has_under from m j lt) t)) (λ ge. up j (j - from) (omega arith) t) (cases_lt j from);
}
  where
    e : from + (to - from) ≡ to
    e = omega arith

    up : (j i : ℕ) → from + i ≡ j → has (nth_choice from m) j ≡ true → p j ≡ true
    up j i e t = ap p (sym e) ∙ h.within i (sym (has_moved from m i) ∙ ap (has (nth_choice from m)) e ∙ t)

below_of : (w m j : ℕ) → m < 2 ^ w → has m j ≡ true → j < w
below_of w m j l t = ⊎_elim (λ l. l) (λ g. absurd (both_ways (has m j) (has_high w m j l g) t)) (cases_lt j w)

-- a mask of numbers below w, counted below k
wider : (w k m : ℕ) → w ≤ k → m < 2 ^ w → count k (has m) ≡ count w (has m)
wider w k m h l = count_more k w (has m) h (λ j t. below_of w m j l t)

-- a polynomial that meets enough shares, f + 1 of them in one part, is found by one of that part's choices
found_by : (n held from to : ℕ) (share : ℕ → ℕ) → Hall n → from ≤ to → to ≤ n → (p : List ℕ) → Enough n (has held) share p → beyond_faults n ≤ count (to - from) (λ j. meets p (has held) share (from + j))
    → (k : ℕ) × (k < 2 ^ (to - from)) × (tried n held share to (nth_choice from k) ≡ Some (low_bit p))
found_by n held from to share hall le high p enough many =
    let r = some_of (to - from) (beyond_faults n) (λ j. meets p (has held) share (from + j)) many in
    (r.0, r.1.mask, finish (nth_choice from r.0) (moved from to (beyond_faults n) r.0 (meets p (has held) share) le r.1) (interpolates to (has (nth_choice from r.0)) share (omega (arith, hall.small))))
  where
    finish : (m : ℕ) → SomeOf to (beyond_faults n) (meets p (has held) share) m → MeetsAll to (has m) share (chosen to share m) → tried n held share to m ≡ Some (low_bit p)
    finish m s i =
        let both : (j : ℕ) → has m j ≡ true → (has held j ≡ true) × Same (ev p (j + 1)) (share j) = λ j t.
        let a = and_parts (has held j) _ (s.within j t) in (a.0, eqb-true _ _ a.1) in
        let same : (z : ℕ) → Same (ev (chosen to share m) z) (ev p z) =
        at_most_one to (beyond_faults n) (chosen to share m) p (has m) (omega (arith, hall.small)) (omega (arith, i.short, s.sized)) enough.degree (omega (arith, s.sized)) (λ j l t. i.meets_each j l t ∙ sym (both j t).1) in
        let wide : count largest (has m) ≡ beyond_faults n = wider to largest m (omega (arith, hall.small)) s.mask ∙ s.sized in
        let inside : (j : ℕ) → has (bit_and m held) j ≡ has m j = λ j. has_and m held j ∙ kept (has m j) (has held j) (λ t. (both j t).0) in
        let many : quorum n ≤ count n (meets (chosen to share m) (has held) share) = subst (λ (x : ℕ). quorum n ≤ x) (count_cong n (meets p (has held) share) (meets (chosen to share m) (has held) share) (λ j. ap (λ (x : ℕ). has held j && eqb x (share j % 251)) (sym (same (j + 1))))) enough.many in
        cond-true (is_choice n held m) _ _ (and_from _ _ (eq-eqb _ _ wide) (eq-eqb _ _ (count_cong largest (has (bit_and m held)) (has m) inside ∙ wide)))
        ∙ cond-true (leb (quorum n) (count n (meets (chosen to share m) (has held) share))) _ _ (le-leb _ _ many)
        ∙ ap Some (ap (λ (x : ℕ). eqb (x % 2) 1) (same 0))
      where
        kept : (a b : Bool) → (a ≡ true → b ≡ true) → (a && b) ≡ a
        kept true b h = h refl
        kept false b h = refl

-- and what a choice shows is shown by its polynomial
tried_bit : (n held to : ℕ) (share : ℕ → ℕ) (m : ℕ) (b : Bool) → Hall n → to ≤ n → tried n held share to m ≡ Some b → BitOf n (has held) share b
tried_bit n held to share m b hall le e = go (is_choice n held m) refl (leb (quorum n) (count n (meets (chosen to share m) (has held) share))) refl e
  where
    go : (x : Bool) → is_choice n held m ≡ x → (y : Bool) → leb (quorum n) (count n (meets (chosen to share m) (has held) share)) ≡ y → cond x (cond y (Some (low_bit (chosen to share m))) None) None ≡ Some b → BitOf n (has held) share b
    go true p true q e =
        let size : count largest (has m) ≡ beyond_faults n = eqb-true _ _ (and_parts (of_size n m) _ p).0 in (
          chosen to share m,
          record {
            degree = omega (arith, size, (interpolates to (has m) share (omega (arith, hall.small))).short, count_up to largest (has m) (omega (arith, hall.small)));
            many = leb-true _ _ q;
          },
          (cc),
        )
    go true p false q e = absurd (let z : ◌≡◌ {A = ℕ} 0 1 = cc in omega arith)
    go false p y q e = absurd (let z : ◌≡◌ {A = ℕ} 0 1 = cc in omega arith)

-- the first that shows anything
pub first_none : (k : ℕ) (g : ℕ → Option Bool) → first_of k g ≡ None → g k ≡ None → first_of (k + 1) g ≡ None
unfolding first_of
first_none k g a b = rw (add-one k, a) b

first_stays : (d k : ℕ) (g : ℕ → Option Bool) (b : Bool) → first_of k g ≡ Some b → first_of (k + d) g ≡ Some b
unfolding first_of
first_stays zero k g b h = rw add-zero h
first_stays (suc d) k g b h = rw add-suc (ap (λ (o : Option Bool). option_or o (g (k + d))) (first_stays d k g b h))

pub first_some : (k n : ℕ) (g : ℕ → Option Bool) (b : Bool) → k < n → first_of k g ≡ None → g k ≡ Some b → first_of n g ≡ Some b
unfolding first_of
first_some k n g b l a h =
    let e : suc k + (n - suc k) ≡ n = omega arith in
    subst (λ (x : ℕ). first_of x g ≡ Some b) e (first_stays (n - suc k) (suc k) g b (ap (λ (o : Option Bool). option_or o (g k)) a ∙ h))

none_of : (n : ℕ) (g : ℕ → Option Bool) → first_of n g ≡ None → (m : ℕ) → m < n → g m ≡ None
unfolding first_of
none_of zero g h m l = absurd (omega arith)
none_of (suc n) g h m l = go (λ e k. none_of n g e m k) (first_of n g) refl h
  where
    go : (first_of n g ≡ None → m < n → g m ≡ None) → (o : Option Bool) → first_of n g ≡ o → option_or o (g n) ≡ None → g m ≡ None
    go ih (Some b) e h = absurd (let z : ◌≡◌ {A = ℕ} 0 1 = cc in omega arith)
    go ih None e h = ⊎_elim (λ s. ap g s ∙ h) (λ ne. ih e (omega arith)) (cases_eq m n)

some_from : (n : ℕ) (g : ℕ → Option Bool) (b : Bool) → first_of n g ≡ Some b → (m : ℕ) × (g m ≡ Some b)
unfolding first_of
some_from zero g b h = absurd (let z : ◌≡◌ {A = ℕ} 0 1 = cc in omega arith)
some_from (suc n) g b h = go (λ o e k. some_from n g b (e ∙ k)) (first_of n g) refl h
  where
    go : ((o : Option Bool) → first_of n g ≡ o → o ≡ Some b → (m : ℕ) × (g m ≡ Some b)) → (o : Option Bool) → first_of n g ≡ o → option_or o (g n) ≡ Some b → (m : ℕ) × (g m ≡ Some b)
    go ih (Some x) e h = ih (Some x) e h
    go ih None e h = (n, h)

-- what a part of the replicas shows is exact where f + 1 of the met ones are in it
part_bit : (n held from to : ℕ) (share : ℕ → ℕ) (b : Bool) → Hall n → to ≤ n → shown_in n held share from to ≡ Some b → BitOf n (has held) share b
part_bit n held from to share b hall le e =
    let r = some_from (2 ^ (to - from)) (λ k. tried n held share to (nth_choice from k)) b e in
    tried_bit n held to share (nth_choice from r.0) b hall le r.1

part_none : (n held from to : ℕ) (share : ℕ → ℕ) → Hall n → from ≤ to → to ≤ n → shown_in n held share from to ≡ None → (p : List ℕ) → Enough n (has held) share p
    → count (to - from) (λ j. meets p (has held) share (from + j)) < beyond_faults n
part_none n held from to share hall le high e p enough = ⊎_elim (λ l. l) (λ g. absurd (found g)) (cases_lt (count (to - from) (λ j. meets p (has held) share (from + j))) (beyond_faults n))
  where
    found : beyond_faults n ≤ count (to - from) (λ j. meets p (has held) share (from + j)) → ⊥
    found g =
        let r = found_by n held from to share hall le high p enough g in
        let z : None ≡ Some (low_bit p) = sym (none_of (2 ^ (to - from)) (λ k. tried n held share to (nth_choice from k)) e r.0 r.1) ∙ r.2 in
        let y : ◌≡◌ {A = ℕ} 0 1 = cc in omega arith

-- and of 2f + 1 met ones f + 1 are in one half
pub shown_exact : (n held : ℕ) (share : ℕ → ℕ) → Hall n → Exact n (has held) share (shown_of n held share)
unfolding shown_of
shown_exact n held share hall = go (shown_in n held share 0 (half n)) refl (shown_in n held share (half n) n) refl
  where
    split : (a b : ℕ) → a + b ≡ n → (p : ℕ → Bool) → quorum n ≤ count n p → count (a - 0) (λ j. p (0 + j)) < beyond_faults n → count b (λ j. p (a + j)) < beyond_faults n → ⊥
    split a b e p many low high =
        let c : quorum n ≤ count (a + b) p = subst (λ (x : ℕ). quorum n ≤ count x p) (sym e) many in
        omega (arith, c, count_parts a b p, count_cong a (λ j. p (0 + j)) p (λ j. ap p (zero-add j)), ap (λ (x : ℕ). count x (λ j. p (0 + j))) (let z : a - 0 ≡ a = omega arith in z), low, high)

    go : (x : Option Bool) → shown_in n held share 0 (half n) ≡ x → (y : Option Bool) → shown_in n held share (half n) n ≡ y → Exact n (has held) share (option_or x y)
    go (Some b) e y f = part_bit n held 0 (half n) share b hall (omega arith) e
    go None e (Some b) f = part_bit n held (half n) n share b hall (omega arith) f
    go None e None f = λ p enough.
        let low = part_none n held 0 (half n) share hall (omega arith) (omega arith) e p enough in
        let high = part_none n held (half n) n share hall (omega arith) (omega arith) f p enough in
        absurd (split (half n) (n - half n) (omega arith) (meets p (has held) share) enough.many low high)

-- a polynomial that meets enough shares says what is shown
pub shown_by : (n held : ℕ) (share : ℕ → ℕ) → Hall n → (p : List ℕ) → Enough n (has held) share p → shown_of n held share ≡ Some (low_bit p)
shown_by n held share hall p enough = go (shown_of n held share) refl (shown_exact n held share hall)
  where
    go : (o : Option Bool) → shown_of n held share ≡ o → Exact n (has held) share o → shown_of n held share ≡ Some (low_bit p)
    go (Some b) e x = e ∙ ap Some (one_bit n (has held) share b (low_bit p) hall x (p, enough, refl))
    go None e x = absurd (x p enough)

-- where the held shares stay as they are, what is met is met with more
enough_more : (n : ℕ) (held held' : ℕ → Bool) (share share' : ℕ → ℕ) (p : List ℕ) → ((j : ℕ) → held j ≡ true → (held' j ≡ true) × (share j ≡ share' j)) → Enough n held share p → Enough n held' share' p
enough_more n held held' share share' p more e = record {
  degree = e.degree;
  many = omega (
    arith,
    e.many,
    count_mono n (meets p held share) (meets p held' share') (λ j t.
        let a = and_parts (held j) _ t in
        let b = more j a.0 in
        and_from _ _ b.0 (ap (λ (x : ℕ). eqb (ev p (j + 1) % 251) (x % 251)) (sym b.1) ∙ a.1)),
  );
}

-- so a bit that is shown stays
pub bit_stays : (n held held' : ℕ) (share share' : ℕ → ℕ) (b : Bool) → Hall n → ((j : ℕ) → has held j ≡ true → (has held' j ≡ true) × (share j ≡ share' j)) → shown_of n held share ≡ Some b → shown_of n held' share' ≡ Some b
bit_stays n held held' share share' b hall more h =
    let x : BitOf n (has held) share b = subst (λ (o : Option Bool). Exact n (has held) share o) h (shown_exact n held share hall) in
    shown_by n held' share' hall x.0 (enough_more n (has held) (has held') share share' x.0 more x.1) ∙ ap Some (sym x.2)

-- the same shares show the same
pub exact_same : (n : ℕ) (held held' : ℕ → Bool) (share share' : ℕ → ℕ) (o : Option Bool) → ((j : ℕ) → held j ≡ held' j) → ((j : ℕ) → held j ≡ true → share j ≡ share' j) → Exact n held share o → Exact n held' share' o
exact_same n held held' share share' (Some b) e f x = (x.0, enough_more n held held' share share' x.0 (λ j t. (sym (e j) ∙ t, f j t)) x.1, x.2)
exact_same n held held' share share' None e f x = λ p y. x p (enough_more n held' held share' share p (λ j t. let h = e j ∙ t in (h, sym (f j h))) y)

-- fewer than 2f + 1 shares show nothing
pub few_show_none : (n held : ℕ) (share : ℕ → ℕ) → Hall n → count n (has held) < quorum n → shown_of n held share ≡ None
few_show_none n held share hall few = go (shown_of n held share) refl (shown_exact n held share hall)
  where
    go : (o : Option Bool) → shown_of n held share ≡ o → Exact n (has held) share o → shown_of n held share ≡ None
    go None e x = e
    go (Some b) e x = absurd (let p = x.0 in omega (arith, x.1.many, count_mono n (meets p (has held) share) (has held) (λ j t. (and_parts (has held j) _ t).0)))

-- a turn of the search, with the numbers d for the set m of replicas below a number
module _ (n held : ℕ) (share d : ℕ → ℕ) (to m : ℕ) where
  -- which shares are met
  abbrev pub met_at : ℕ → ℕ → Bool
  met_at w j = meets_by w (has m) d (has held) (share j) j

  pub turn_skipped : is_choice n held m ≡ false → tried n held share to m ≡ None
  turn_skipped h = cond-false (is_choice n held m) _ _ h

  chosen_held : m < 2 ^ largest → is_choice n held m ≡ true → (j : ℕ) → has m j ≡ true → has held j ≡ true
  chosen_held l c j t =
      let a = and_parts (of_size n m) (of_size n (bit_and m held)) c in
      let e : count largest (has (bit_and m held)) ≡ count largest (has m) = eqb-true _ _ a.1 ∙ sym (eqb-true _ _ a.0) in
      let both : has (bit_and m held) j ≡ true = count_inside largest (has m) (has (bit_and m held)) (λ i u. (and_parts (has m i) (has held i) (sym (has_and m held i) ∙ u)).0) e j (below_of largest m j l t) t in
      (and_parts (has m j) (has held j) (sym (has_and m held j) ∙ both)).1

  met_is : to ≤ largest → m < 2 ^ to → is_choice n held m ≡ true → Newtons to (has m) share d → (j : ℕ) → met_at to j ≡ meets (chosen to share m) (has held) share j
  met_is le mask c h j = go (has m j) refl
    where
      go : (b : Bool) → has m j ≡ b → met_at to j ≡ meets (chosen to share m) (has held) share j
      go true t =
          or_left (has m j) _ t
          ∙ sym (and_from (has held j) _ (chosen_held (omega (arith, mask, pow-lt {i = to} {j = largest + 1} (omega arith), pow_mono {i = to} {j = largest} le)) c j t)
          (eq-eqb _ _ ((interpolates to (has m) share (omega arith)).meets_each j (below_of to m j mask t) t)))
      go false t = ap (λ (b : Bool). b || has held j && eqb (nval to (has m) d (j + 1) % 251) (share j % 251)) t ∙ ap (λ (x : ℕ). has held j && eqb x (share j % 251)) (h (j + 1))

  pub turn_failed : (w : ℕ) → w ≡ to → Newtons w (has m) share d → count n (met_at w) < quorum n → tried n held share to m ≡ None
  turn_failed w e h l =
      cond_both (is_choice n held m) (bit_if_met n held share (chosen to share m)) None (λ (o : Option Bool). o ≡ None)
      (λ _. cond-false (leb (quorum n) (count n (meets (chosen to share m) (has held) share))) _ _ (lt-leb _ _ few)) (λ _. refl)
    where
      met : Newtons to (has m) share d → (j : ℕ) → meets (chosen to share m) (has held) share j ≡ true → met_at to j ≡ true
      met h j t = or_right (has m j) _ (ap (λ (x : ℕ). has held j && eqb x (share j % 251)) (h (j + 1)) ∙ t)

      few : count n (meets (chosen to share m) (has held) share) < quorum n
      few = omega (arith, count_mono n (meets (chosen to share m) (has held) share) (met_at to) (met (subst (λ (x : ℕ). Newtons x (has m) share d) e h)), subst (λ (x : ℕ). count n (met_at x) < quorum n) e l)

  pub turn_found : (w j k : ℕ) → w ≡ to → to ≤ largest → m < 2 ^ to → is_choice n held m ≡ true → Newtons to (has m) share d → j < n → k ≡ count j (met_at w) → met_at w j ≡ true → k + 1 ≡ quorum n
      → tried n held share to m ≡ Some (eqb (nval w (has m) d 0 % 251 % 2) 1)
  turn_found w j k e le mask c h l counted here last =
      cond-true (is_choice n held m) _ _ c
      ∙ cond-true (leb (quorum n) (count n (meets (chosen to share m) (has held) share))) _ _ (le-leb _ _ many)
      ∙ ap Some (ap (λ (x : ℕ). eqb (x % 2) 1) (sym (h 0)) ∙ ap (λ (x : ℕ). eqb (nval x (has m) d 0 % 251 % 2) 1) (sym e))
    where
      so_far : quorum n ≤ count n (met_at w)
      so_far = omega (arith, count_yes j (met_at w) here, count_up (j + 1) n (met_at w) (omega arith))

      many : quorum n ≤ count n (meets (chosen to share m) (has held) share)
      many = subst (λ (x : ℕ). quorum n ≤ x) (count_cong n _ _ (met_is le mask c h)) (subst (λ (x : ℕ). quorum n ≤ count n (met_at x)) e so_far)

-- a share met, a share missed
pub met_more : (g : ℕ → Bool) (j k : ℕ) → k ≡ count j g → g j ≡ true → k + 1 ≡ count (j + 1) g
met_more g j k e h = omega (arith, count_yes j g h)

pub met_no_more : (g : ℕ → Bool) (j k : ℕ) → k ≡ count j g → g j ≡ false → k ≡ count (j + 1) g
met_no_more g j k e h = omega (arith, count_no j g h)

-- f + 1 missed
pub missed : (n : ℕ) (g : ℕ → Bool) (j k : ℕ) → Hall n → j < n → k ≡ count j g → g j ≡ false → k + faults n ≤ j → count n g < quorum n
missed n g j k hall l e h far =
    let s : (j + 1) + (n - (j + 1)) ≡ n = omega arith in
    let c : count n g ≤ count (j + 1) g + (n - (j + 1)) = subst (λ (x : ℕ). count x g ≤ count (j + 1) g + (n - (j + 1))) s (count_split (j + 1) (n - (j + 1)) g) in
    omega (arith, c, met_no_more g j k e h, hall.thirds)

has_after : (j m i : ℕ) → has (m / 2 ^ j) i ≡ has m (j + i)
unfolding has
has_after j m i = ap (λ (x : ℕ). eqb (x % 2) 1) (shr-shr m j i)

-- too few held ones are left
pub few_left : (n held to m : ℕ) (share d : ℕ → ℕ) (w j k : ℕ) → Hall n → m < 2 ^ largest → is_choice n held m ≡ true → j ≤ n → k ≡ count j (met_at n held share d to m w)
    → k + count largest (has (held / 2 ^ j)) < quorum n → count n (met_at n held share d to m w) < quorum n
few_left n held to m share d w j k hall mask c l e far =
    let s : j + (n - j) ≡ n = omega arith in
    let all : count n (met_at n held share d to m w) ≡ count j (met_at n held share d to m w) + count (n - j) (λ i. met_at n held share d to m w (j + i)) =
    subst (λ (x : ℕ). count x (met_at n held share d to m w) ≡ count j (met_at n held share d to m w) + count (n - j) (λ i. met_at n held share d to m w (j + i))) s (count_parts j (n - j) (met_at n held share d to m w)) in
    let rest = count_mono (n - j) (λ i. met_at n held share d to m w (j + i)) (has (held / 2 ^ j)) (λ i t. has_after j held i ∙ is_held (j + i) t) in
    omega (arith, all, rest, e, far, count_up (n - j) largest (has (held / 2 ^ j)) (omega (arith, hall.small)))
  where
    is_held : (i : ℕ) → met_at n held share d to m w i ≡ true → has held i ≡ true
    is_held i t = ⊎_elim (λ a. chosen_held n held share d to m mask c i a) (λ a. (and_parts (has held i) _ a).0) (or_cases (has m i) _ t)

-- a part with fewer than f + 1 held shares shows nothing
all_none : (k : ℕ) (g : ℕ → Option Bool) → ((i : ℕ) → i < k → g i ≡ None) → first_of k g ≡ None
unfolding first_of
all_none zero g h = refl
all_none (suc k) g h = rw (all_none k g (λ i l. h i (omega arith))) (h k (omega arith))

pub few_in_part : (n held from to : ℕ) (share : ℕ → ℕ) → from ≤ to → to ≤ largest → count (to - from) (has (held / 2 ^ from)) < beyond_faults n → shown_in n held share from to ≡ None
few_in_part n held from to share le high few = all_none (2 ^ (to - from)) (λ k. tried n held share to (nth_choice from k)) (λ k l. none k l)
  where
    full : (k : ℕ) → k < 2 ^ (to - from) → is_choice n held (nth_choice from k) ≡ true → ⊥
    full k l c =
        let m = nth_choice from k in
        let mask = moved_below from to k le l in
        let a = and_parts (of_size n m) (of_size n (bit_and m held)) c in
        let e : from + (to - from) ≡ to = omega arith in
        let all : count to (has m) ≡ count from (has m) + count (to - from) (λ j. has m (from + j)) = subst (λ (x : ℕ). count x (has m) ≡ count from (has m) + count (to - from) (λ j. has m (from + j))) e (count_parts from (to - from) (has m)) in
        let held_there = count_mono (to - from) (λ j. has m (from + j)) (has (held / 2 ^ from)) (λ j t. has_after from held j ∙ chosen_held n held share share to m (lt_of_lt_of_le mask (pow_mono high)) c (from + j) t) in
        omega (arith, all, held_there, few, eqb-true _ _ a.0, wider to largest m high mask, count_zero from (has m) (has_under from k))

    none : (k : ℕ) → k < 2 ^ (to - from) → tried n held share to (nth_choice from k) ≡ None
    none k l = go (is_choice n held (nth_choice from k)) refl
      where
        go : (b : Bool) → is_choice n held (nth_choice from k) ≡ b → tried n held share to (nth_choice from k) ≡ None
        go true c = absurd (full k l c)
        go false c = turn_skipped n held share share to (nth_choice from k) c
