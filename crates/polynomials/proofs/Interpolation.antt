-- Newton's polynomial meets the shares that it goes through. Assumes nothing.
use Rattle.std.proofs.Common.{◌≡◌, ℕ, zero, suc, ◌+◌, ◌-◌, ◌*◌, ◌%◌, ◌<◌, ◌≤◌, Bool, true, false, cond, List, ◌∷◌, length, sym, refl, ap, ◌∙◌, ⊎_elim, add-mul, arith}
use Rattle.std.proofs.lemmas.Bool.{cases_eq, both_ways}
use Rattle.basis.specs.Counts.{count}
use Rattle.polynomials.specs.Polynomials.{ev, Same, inv, times, newton, slope, through, MeetsAll, Interpolates}
use Rattle.polynomials.proofs.Modular.{over_times, same_times}
use Rattle.polynomials.proofs.Roots.{ev_plus, ev_times, length_plus, length_times}

-- a step of Newton's rule: its value, and its length
pub ev_newton : (y r : ℕ) (p : List ℕ) (z : ℕ) → ev (newton y r p) z ≡ y + (z * ev p z + r * ev p z)
unfolding newton
ev_newton y r p z = ev_plus (y ∷ p) (times r p) z ∙ omega (arith, ev_times r p z)

pub length_newton : (y r : ℕ) (p : List ℕ) → length (newton y r p) ≡ suc (length p)
unfolding newton
length_newton y r p = length_plus (y ∷ p) (times r p) (omega (arith, length_times r p))

-- at its own point, and at a lower one
at_own : (n y v : ℕ) → n ≤ 250 → Same (y + ((n + 1) * v + (250 - n) * v)) y
at_own n y v h =
    let d : (n + 1) + (250 - n) ≡ 251 = omega arith in
    omega (arith, add-mul (n + 1) (250 - n) v, ap (λ t. t * v) d)

at_lower : (n j y x v : ℕ) → j < n → n ≤ 250 → Same v ((y + (251 - x % 251)) * inv (n - j)) → Same (y + ((j + 1) * v + (250 - n) * v)) x
at_lower n j y x v l h e =
    let d : ((j + 1) + (250 - n)) + (n - j) ≡ 251 = omega arith in
    let a = same_times (n - j) _ _ e in
    let b = over_times (n - j) (y + (251 - x % 251)) (omega arith) (omega arith) in
    let c = ap (λ t. t * v) d in
    let c1 = add-mul ((j + 1) + (250 - n)) (n - j) v in
    let c2 = add-mul (j + 1) (250 - n) v in
    go ((j + 1) * v) ((250 - n) * v) ((n - j) * v) (a ∙ b) (omega arith)
  where
    go : (p q w : ℕ) → Same w (y + (251 - x % 251)) → p + q + w ≡ 251 * v → Same (y + (p + q)) x
    go p q w e f = omega arith

pub interpolates : Interpolates
unfolding through count slope
interpolates zero s y b = record { short = refl; meets_each = λ j l t. absurd (omega arith) }
interpolates (suc n) s y b = go (through n s y) (through n s (slope y n)) (interpolates n s y (omega arith)) (interpolates n s (slope y n) (omega arith)) (s n) refl
  where
    own : (p : List ℕ) (j : ℕ) → j ≡ n → Same (ev (newton (y n) (250 - n) p) (j + 1)) (y j)
    own p j e = rw e (ap (λ t. t % 251) (ev_newton (y n) (250 - n) p (n + 1)) ∙ at_own n (y n) _ (omega arith))

    lower : (p : List ℕ) → MeetsAll n s (slope y n) p → (j : ℕ) → j < n → s j ≡ true → Same (ev (newton (y n) (250 - n) p) (j + 1)) (y j)
    lower p up j l t = ap (λ t. t % 251) (ev_newton (y n) (250 - n) p (j + 1)) ∙ at_lower n j (y n) (y j) _ l (omega arith) (up.meets_each j l t)

    go : (q p : List ℕ) → MeetsAll n s y q → MeetsAll n s (slope y n) p → (t : Bool) → s n ≡ t → MeetsAll (suc n) s y (cond (s n) (newton (y n) (250 - n) p) q)
    go q p low up false h = record {
      short = rw h (low.short ∙ omega arith);
      meets_each = rw h (λ j l t. ⊎_elim (λ e. absurd (both_ways (s n) h (ap s (sym e) ∙ t))) (λ ne. low.meets_each j (omega arith) t) (cases_eq j n));
    }
    go q p low up true h = record {
      short = rw h (omega (arith, up.short, length_newton (y n) (250 - n) p));
      meets_each = rw h (λ j l t. ⊎_elim (λ e. own p j e) (λ ne. lower p up j (omega arith) t) (cases_eq j n));
    }
