-- Arithmetic modulo 251: sums and products of what is the same, and what cancels. Assumes nothing.
use Rattle.std.proofs.Common.{◌≡◌, ℕ, zero, suc, ◌+◌, ◌*◌, ◌/◌, ◌%◌, ◌<◌, Bool, true, ◌&&◌, eqb, sym, refl, ap, ◌∙◌, ⊎_elim, arith}
use Rattle.std.proofs.lemmas.Bool.{and_parts, eqb-true, cases_eq}
use Rattle.polynomials.specs.Polynomials.{Same, inv, Cancels}

pub same_plus : (a b c d : ℕ) → Same a b → Same c d → Same (a + c) (b + d)
same_plus a b c d h k = omega arith

pub same_less : (a b c d : ℕ) → Same (a + c) (b + d) → Same c d → Same a b
same_less a b c d h k = omega arith

pub same_times : (c a b : ℕ) → Same a b → Same (c * a) (c * b)
same_times c a b h =
    let x : a ≡ 251 * (a / 251) + a % 251 = omega arith in
    let y : b ≡ 251 * (b / 251) + a % 251 = omega arith in
    omega (arith, ap (λ t. c * t) x, ap (λ t. c * t) y)

-- a test that every number below n passes
unfoldable pub all_below : ℕ → (ℕ → Bool) → Bool
all_below zero p = true
all_below (suc n) p = p n && all_below n p

pub passes : (n : ℕ) (p : ℕ → Bool) → all_below n p ≡ true → (j : ℕ) → j < n → p j ≡ true
unfolding all_below
passes zero p h j l = absurd (omega arith)
passes (suc n) p h j l =
    let b = and_parts (p n) (all_below n p) h in
    ⊎_elim (λ e. rw e b.0) (λ ne. passes n p b.1 j (omega arith)) (cases_eq j n)

-- by Fermat's little theorem, of which the table is the proof
table : all_below 250 (λ d. eqb (inv (suc d) * suc d % 251) 1) ≡ true
unfolding all_below inv
table = refl

pub inv_is : (d : ℕ) → 0 < d → d < 251 → inv d * d % 251 ≡ 1
inv_is zero h k = absurd (omega arith)
inv_is (suc d) h k = eqb-true _ 1 (passes 250 (λ d. eqb (inv (suc d) * suc d % 251) 1) table d (omega arith))

-- a number times an inverse pair
inv_times : (i d u : ℕ) → i * d % 251 ≡ 1 → Same (i * (d * u)) u
inv_times i d u h =
    let x : i * d ≡ 251 * (i * d / 251) + 1 = omega arith in
    omega (arith, ap (λ t. t * u) x)

-- a number, times d, over d
pub over_times : (d u : ℕ) → 0 < d → d < 251 → Same (d * (u * inv d)) u
over_times d u h k = ap (λ t. t % 251) (omega_swap d u (inv d)) ∙ inv_times (inv d) d u (inv_is d h k)
  where
    omega_swap : (d u i : ℕ) → d * (u * i) ≡ i * (d * u)
    omega_swap d u i = omega arith

pub cancel : Cancels
cancel d u v h k e = sym (inv_times (inv d) d u (inv_is d h k)) ∙ same_times (inv d) (d * u) (d * v) e ∙ inv_times (inv d) d v (inv_is d h k)
