-- The lowest number that passes a test. Assumes nothing.
use Rattle.std.proofs.Common.{◌≡◌, ℕ, zero, suc, ◌+◌, ◌<◌, ◌≤◌, Bool, true, false, cond, Some, None, Option, sym, refl, ap, ◌∙◌, ap₂, ⊎_elim, add-one, arith}
use Rattle.std.proofs.lemmas.Bool.{cases_eq}
use Rattle.std.specs.Option.{MatchOption}
use Rattle.slots.specs.Places.{or_else}
use Rattle.outcomes.specs.Closing.{lowest}

module _ (p : ℕ → Bool) where
  -- none below m passes
  pub no_one : (m : ℕ) → ((j : ℕ) → 0 ≤ j → j < m → p j ≡ false) → lowest p m ≡ None
  unfolding lowest
  no_one zero fails = refl
  no_one (suc m) fails = ap₂ (λ a b. or_else a (cond b (Some m) None)) (no_one m (λ j l h. fails j l (omega arith))) (fails m (omega arith) (omega arith))

  -- none before, and this one: it is the lowest, however many come after
  pub this_one : (i m : ℕ) → i < m → lowest p i ≡ None → p i ≡ true → lowest p m ≡ Some i
  unfolding lowest
  this_one i zero lt none this = absurd (omega arith)
  this_one i (suc m) lt none this = ⊎_elim
      (λ e. ap₂ (λ a b. or_else a (cond b (Some m) None)) (ap (lowest p) (sym e) ∙ none) (ap p (sym e) ∙ this) ∙ ap Some (sym e))
      (λ ne. ap (λ a. or_else a (cond (p m) (Some m) None)) (this_one i m (omega arith) none this))
      (cases_eq i m)

  -- the first of the numbers below m that passes is the lowest
  pub first_lowest : (m : ℕ) (r : Option ℕ) → MatchOption r ((j : ℕ) → 0 ≤ j → j < m → p j ≡ false) (λ i. (0 ≤ i) × (i < m) × (p i ≡ true) × ((j : ℕ) → 0 ≤ j → j < i → p j ≡ false)) → r ≡ lowest p m
  first_lowest m None h = sym (no_one m h)
  first_lowest m (Some i) h = sym (this_one i m h.1 (no_one i h.3) h.2)

  -- none so far, and not this one
  pub none_more : (i : ℕ) → lowest p i ≡ None → p i ≡ false → lowest p (i + 1) ≡ None
  unfolding lowest
  none_more i none fails = rw (add-one i) (ap₂ (λ a b. or_else a (cond b (Some i) None)) none fails)
