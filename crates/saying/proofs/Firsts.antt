-- The first answer that is there, number by number. Assumes nothing.
use Prim.Native.Nat.{max}
use Rattle.std.proofs.Common.{◌≡◌, ℕ, zero, suc, ◌+◌, ◌<◌, Some, None, Option, refl, sym, ap, ◌∙◌, ap₂, ⊎_elim, add-one, arith}
use Rattle.std.proofs.lemmas.Bool.{cases_eq}
use Rattle.slots.specs.Places.{or_else}
use Rattle.outcomes.specs.Saying.{first_of}

module _ {X : Type 0} (f : ℕ → Option X) where
  -- none so far, and none at this number
  pub none_more : (i : ℕ) → first_of f i ≡ None → None ≡ f i → first_of f (i + 1) ≡ None
  unfolding first_of
  none_more i none here = rw (add-one i) (ap₂ or_else none (sym here))

  -- none before, and this one: it is the first, however many come after
  pub this_one : (i m : ℕ) (x : X) → i < m → first_of f i ≡ None → Some x ≡ f i → Some x ≡ first_of f m
  unfolding first_of
  this_one i zero x lt none here = absurd (omega arith)
  this_one i (suc m) x lt none here = ⊎_elim
      (λ e. here ∙ sym (ap₂ or_else (ap (first_of f) (sym e) ∙ none) (ap f (sym e))))
      (λ ne. ap (λ a. or_else a (f m)) (this_one i m x (omega arith) none here))
      (cases_eq i m)

  -- none of the numbers below i
  pub none_all : (i : ℕ) → ((j : ℕ) → j < i → f j ≡ None) → first_of f i ≡ None
  unfolding first_of
  none_all zero none = refl
  none_all (suc i) none = ap₂ or_else (none_all i (λ j l. none j (omega arith))) (none i (omega arith))

  -- none at 0 and none of the numbers below i: so none below the larger of i and 1
  pub none_from_one : (i : ℕ) → f 0 ≡ None → ((j : ℕ) → j < i → f j ≡ None) → first_of f (max i 1) ≡ None
  none_from_one i here none = none_all (max i 1) (λ j l. below j l)
    where
      below : (j : ℕ) → j < max i 1 → f j ≡ None
      below zero l = here
      below (suc j) l = none (suc j) (omega arith)
