-- Turns of the loops. Assumes nothing.
use Rattle.std.proofs.Common.{◌≡◌, ℕ, suc, ◌+◌, ◌-◌, ◌*◌, ◌%◌, ◌<◌, ◌≤◌, Bool, List, length, take, subst, true, false, sym, refl, ap, ◌∙◌, add-mul, add-one, arith}
use Rattle.std.proofs.lemmas.List.{length-take-le, get_or-take}
use native.Mathlib.Nat.{mod-mod}
use Rattle.polynomials.specs.Polynomials.{ev, Same, slope, at, through, nval, Newtons}
use Rattle.polynomials.proofs.Modular.{same_plus, same_times}
use Rattle.polynomials.proofs.Roots.{at_most_one}
use Rattle.polynomials.proofs.Interpolation.{interpolates, ev_newton}
use Rattle.basis.specs.Counts.{count}

pub value_in : (i z v a b : ℕ) (s : ℕ → Bool) (d : ℕ → ℕ) → a ≡ d i → b ≡ z → v ≡ nval i s d z % 251 → s i ≡ true → (a + (b + (250 - i)) * v) % 251 ≡ nval (i + 1) s d z % 251
unfolding nval
value_in i z v a b s d e f h t = rw (add-one, t, e, f) (same_plus (d i) (d i) _ _ refl (same_times (z + (250 - i)) v (nval i s d z) (ap (λ (x : ℕ). x % 251) h ∙ mod-mod (nval i s d z) 251)))

pub value_out : (i z v : ℕ) (s : ℕ → Bool) (d : ℕ → ℕ) → v ≡ nval i s d z % 251 → s i ≡ false → v ≡ nval (i + 1) s d z % 251
unfolding nval
value_out i z v s d h t = rw (add-one, t) h

-- what the shares are modulo 251 says the values
through_cong : (n : ℕ) (s : ℕ → Bool) (y y' : ℕ → ℕ) → n ≤ 251 → ((j : ℕ) → j < n → s j ≡ true → Same (y j) (y' j)) → (z : ℕ) → Same (ev (through n s y) z) (ev (through n s y') z)
through_cong n s y y' b e =
    let p = interpolates n s y b in
    let q = interpolates n s y' b in
    at_most_one n (count n s) (through n s y) (through n s y') s b (omega (arith, p.short)) (omega (arith, q.short)) (omega arith)
    (λ j l t. p.meets_each j l t ∙ e j l t ∙ sym (q.meets_each j l t))

-- Newton's numbers for the first w values of a table, where k stands for w
pub newtons_front : (w k : ℕ) (xs : List ℕ) (s : ℕ → Bool) (d : ℕ → ℕ) → k ≡ w → w ≤ 251 → w ≤ length xs → Newtons (length (take w xs)) s (at (take w xs)) d → Newtons k s (at xs) d
newtons_front w k xs s d e b l h z =
    rw e (subst (λ (x : ℕ). Newtons x s (at (take w xs)) d) (length-take-le w xs l) h z ∙ through_cong w s (at (take w xs)) (at xs) b (λ j l t. ap (λ (x : ℕ). x % 251) (get_or-take w xs j 0 l)) z)

pub turn_in : (i : ℕ) (s : ℕ → Bool) (y y' d : ℕ → ℕ) (z : ℕ) → i < 251 → s i ≡ true → ((j : ℕ) → j < i → s j ≡ true → y' j ≡ slope y i j % 251) → d i ≡ y i
    → Same (nval i s d z) (ev (through i s y') z) → Same (nval (suc i) s d z) (ev (through (suc i) s y) z)
unfolding nval through
turn_in i s y y' d z b t low own h =
    let c : Same (nval i s d z) (ev (through i s (slope y i)) z) = h ∙ through_cong i s y' (slope y i) (omega arith) (λ j l t. ap (λ (x : ℕ). x % 251) (low j l t) ∙ mod-mod (slope y i j) 251) z in
    let n = ev_newton (y i) (250 - i) (through i s (slope y i)) z in
    rw (t, own) (same_plus (y i) (y i) _ _ refl (same_times (z + (250 - i)) _ _ c) ∙ ap (λ (x : ℕ). x % 251) (omega (arith, n, add-mul z (250 - i) (ev (through i s (slope y i)) z))))

pub turn_out : (i : ℕ) (s : ℕ → Bool) (y d : ℕ → ℕ) (z : ℕ) → s i ≡ false → Same (nval i s d z) (ev (through i s y) z) → Same (nval (suc i) s d z) (ev (through (suc i) s y) z)
unfolding nval through
turn_out i s y d z t h = rw t h
