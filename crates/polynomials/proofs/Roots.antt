-- Two polynomials that agree at as many points as they have coefficients agree everywhere. Assumes nothing.
use Rattle.std.proofs.Common.{◌≡◌, ℕ, zero, suc, ◌+◌, ◌-◌, ◌*◌, ◌<◌, ◌≤◌, Bool, true, false, cond, List, [], ◌∷◌, length, sym, refl, ap, ◌∙◌, add-zero, add_assoc, add-mul, mul-zero, zero-add, mul-add, mul_left_comm, arith}
use native.Mathlib.Nat.{add_left_comm}
use Rattle.basis.specs.Counts.{count}
use Rattle.polynomials.specs.Polynomials.{ev, Same, plus, times, AtMostOne}
use Rattle.polynomials.proofs.Modular.{cancel, same_times}

-- the quotient by z - r
quo : ℕ → List ℕ → List ℕ
unfolding plus times
quo r [] = []
quo r (a ∷ p) = plus p (times r (quo r p))

pub ev_plus : (p q : List ℕ) (z : ℕ) → ev (plus p q) z ≡ ev p z + ev q z
unfolding plus
ev_plus [] q z = sym (zero-add (ev q z))
ev_plus (a ∷ p) [] z = sym (add-zero _)
ev_plus (a ∷ p) (b ∷ q) z = ap (λ x. a + b + z * x) (ev_plus p q z) ∙ simp (mul-add, add_assoc, add_left_comm)

pub ev_times : (r : ℕ) (p : List ℕ) (z : ℕ) → ev (times r p) z ≡ r * ev p z
unfolding times
ev_times r [] z = sym (mul-zero r)
ev_times r (a ∷ p) z = ap (λ x. r * a + z * x) (ev_times r p z) ∙ simp (mul-add, mul_left_comm)

factor : (r : ℕ) (p : List ℕ) (z : ℕ) → ev p z + r * ev (quo r p) z ≡ ev p r + z * ev (quo r p) z
unfolding quo
factor r [] z = simp (mul-zero)
factor r (a ∷ p) z =
    let i = factor r p z in
    let e = ev_plus p (times r (quo r p)) z ∙ ap (λ x. ev p z + x) (ev_times r (quo r p) z) in
    let j = ap (λ x. r * x) i in
    rw (e) (ap (λ x. a + z * ev p z + x) j ∙ simp (mul-add, mul_left_comm) (omega arith))

pub length_plus : (p q : List ℕ) → length q ≤ length p → length (plus p q) ≡ length p
unfolding plus
length_plus [] [] h = refl
length_plus [] (b ∷ q) h = absurd (omega arith)
length_plus (a ∷ p) [] h = refl
length_plus (a ∷ p) (b ∷ q) h = ap suc (length_plus p q (omega arith))

pub length_times : (r : ℕ) (p : List ℕ) → length (times r p) ≡ length p
unfolding times
length_times r [] = refl
length_times r (a ∷ p) = ap suc (length_times r p)

length_quo : (r a : ℕ) (p : List ℕ) → length (quo r (a ∷ p)) ≡ length p
unfolding quo
length_quo r a [] = refl
length_quo r a (b ∷ p) = length_plus (b ∷ p) _ (omega (arith, length_times r (quo r (b ∷ p)), length_quo r b p))

short_quo : (k r : ℕ) (p : List ℕ) → length p ≤ suc k → length (quo r p) ≤ k
short_quo k r [] h = unfold quo in omega arith
short_quo k r (a ∷ p) h = omega (arith, length_quo r a p)

-- what two polynomials do at a lower point, their quotients do there
step : (r s : ℕ) (p q : List ℕ) → s < r → r - s < 251 → Same (ev p r) (ev q r) → Same (ev p s) (ev q s) → Same (ev (quo r p) s) (ev (quo r q) s)
step r s p q h k e f =
    let d : s + (r - s) ≡ r = omega arith in
    cancel (r - s) _ _ (omega arith) k
    (omega (arith, factor r p s, factor r q s, add-mul s (r - s) (ev (quo r p) s), add-mul s (r - s) (ev (quo r q) s), ap (λ t. t * ev (quo r p) s) d, ap (λ t. t * ev (quo r q) s) d))

-- and if their quotients agree at z, so do they
back : (r z : ℕ) (p q : List ℕ) → Same (ev p r) (ev q r) → Same (ev (quo r p) z) (ev (quo r q) z) → Same (ev p z) (ev q z)
back r z p q e f =
    let x = same_times r _ _ f in
    let y = same_times z _ _ f in
    omega (arith, factor r p z, factor r q z)

pub at_most_one : AtMostOne
unfolding count
at_most_one zero k [] [] s b hp hq c e z = refl
at_most_one zero k [] (a ∷ q) s b hp hq c e z = absurd (omega arith)
at_most_one zero k (a ∷ p) q s b hp hq c e z = absurd (omega arith)
at_most_one (suc n) k p q s b hp hq c e z = go (λ k p q hp hq c e. at_most_one n k p q s (omega arith) hp hq c e z) (s n) refl k hp hq c
  where
    go : ((k : ℕ) (p q : List ℕ) → length p ≤ k → length q ≤ k → k ≤ count n s → ((j : ℕ) → j < n → s j ≡ true → Same (ev p (j + 1)) (ev q (j + 1))) → Same (ev p z) (ev q z))
        → (t : Bool) → s n ≡ t → (k : ℕ) → length p ≤ k → length q ≤ k → k ≤ cond (s n) 1 0 + count n s → Same (ev p z) (ev q z)
    go ih false h k hp hq c = ih k p q hp hq (omega (arith, rw h at c)) (λ j l t. e j (omega arith) t)
    go ih true h zero hp hq c = ih zero p q hp hq (omega arith) (λ j l t. e j (omega arith) t)
    go ih true h (suc k) hp hq c =
        let here = e n (omega arith) h in
        let c' : suc k ≤ 1 + count n s = rw h at c in
        back (n + 1) z p q here
        (ih k (quo (n + 1) p) (quo (n + 1) q) (short_quo k (n + 1) p hp) (short_quo k (n + 1) q hq) (omega arith)
        (λ j l t. step (n + 1) (j + 1) p q (omega arith) (omega arith) here (e j (omega arith) t)))
