-- The tags that a mask names. Assumes nothing.
use Rattle.std.proofs.Common.{◌≡◌, ℕ, ◌-◌, ◌^◌, ◌≤◌, Bool, true, false, ◌&&◌, ◌||◌, eqb, sym, refl, ap, ◌∙◌, ⊎_elim, arith}
use lib.Bits.{bit_or}
use Rattle.std.proofs.lemmas.Bool.{eq-eqb, ne_eqb, leb-true, cases_eq, and_parts, cases_Bool}
use Rattle.basis.specs.Counts.{has}
use Rattle.basis.proofs.Counts.{has_none, has_or, has_one}
use Rattle.messages.specs.Tags.{is_set_tag}

and_false : (x : Bool) → (x && false) ≡ false
and_false true = refl
and_false false = refl

or_false : (x : Bool) → (x || false) ≡ x
or_false true = refl
or_false false = refl

-- an empty mask names none
pub none_named : (t : ℕ) → ((eqb t 32 || eqb t 33) || (is_set_tag t && has 0 (t - 32))) ≡ (eqb t 32 || eqb t 33)
none_named t = ap (λ b. (eqb t 32 || eqb t 33) || (is_set_tag t && b)) (has_none (t - 32)) ∙ ap (λ b. (eqb t 32 || eqb t 33) || b) (and_false (is_set_tag t)) ∙ or_false _

spread : (a s p q : Bool) → (a || (s && (p || q))) ≡ ((a || (s && p)) || (s && q))
spread true s p q = refl
spread false true p q = refl
spread false false p q = refl

same_bit : (s t : ℕ) → 34 ≤ s → (is_set_tag t && eqb (t - 32) (s - 32)) ≡ (is_set_tag t && eqb t s)
same_bit s t h = ⊎_elim yes' (λ e. ap (λ b. b && eqb (t - 32) (s - 32)) e ∙ sym (ap (λ b. b && eqb t s) e)) (cases_Bool (is_set_tag t))
  where
    yes' : is_set_tag t ≡ true → (is_set_tag t && eqb (t - 32) (s - 32)) ≡ (is_set_tag t && eqb t s)
    yes' e =
        let low : 34 ≤ t = leb-true _ _ (and_parts _ _ e).0 in
        ap (λ b. is_set_tag t && b) (⊎_elim (λ q. eq-eqb _ _ (ap (λ x. x - 32) q) ∙ sym (eq-eqb _ _ q)) (λ ne. ne_eqb _ _ (λ q. ne (omega arith)) ∙ sym (ne_eqb _ _ ne)) (cases_eq t s))

-- a mask with the bit of tag s names s too
pub one_more : (m s t : ℕ) → 34 ≤ s → ((eqb t 32 || eqb t 33) || (is_set_tag t && has (bit_or m (2 ^ (s - 32))) (t - 32))) ≡ (((eqb t 32 || eqb t 33) || (is_set_tag t && has m (t - 32))) || (is_set_tag t && eqb t s))
one_more m s t h =
    ap (λ b. (eqb t 32 || eqb t 33) || (is_set_tag t && b)) (has_or m (2 ^ (s - 32)) (t - 32) ∙ ap (λ b. has m (t - 32) || b) (has_one (s - 32) (t - 32)))
    ∙ spread (eqb t 32 || eqb t 33) (is_set_tag t) (has m (t - 32)) (eqb (t - 32) (s - 32)) ∙ ap (λ b. ((eqb t 32 || eqb t 33) || (is_set_tag t && has m (t - 32))) || b) (same_bit s t h)
