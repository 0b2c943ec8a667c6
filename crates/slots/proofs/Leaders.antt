-- The lowest sender whose sheet so many have. Assumes nothing.
use Rattle.std.proofs.Common.{◌≡◌, ℕ, zero, suc, ◌<◌, ◌≤◌, true, false, cond, List, Some, None, Option, sym, refl, ap, ◌∙◌, ap₂, ⊎_elim, arith}
use Rattle.std.proofs.lemmas.Bool.{cases_eq}
use Rattle.std.specs.Option.{MatchOption}
use Rattle.messages.specs.declared.message.Phase.{Phase}
use Rattle.sheets.specs.Holds.{Rows}
use Rattle.slots.specs.Places.{or_else, backed, lowest_backed}

module _ {R : Type 0} (rows : Rows R) (n : ℕ) (ps : List R) (ph : Phase) (k least : ℕ) where
  -- no sender is below m whose sheet so many have
  nobody : (m : ℕ) → ((j : ℕ) → 0 ≤ j → j < m → backed rows n ps ph k least j ≡ false) → lowest_backed rows n ps ph k least m ≡ None
  unfolding lowest_backed
  nobody zero not_one = refl
  nobody (suc m) not_one =
      ap₂ (λ a b. or_else a (cond b (Some m) None)) (nobody m (λ j l h. not_one j l (omega arith))) (not_one m (omega arith) (omega arith))

  -- nobody before, and this one: it is the one, however many come after
  pub found : (i m : ℕ) → i < m → lowest_backed rows n ps ph k least i ≡ None → backed rows n ps ph k least i ≡ true → lowest_backed rows n ps ph k least m ≡ Some i
  unfolding lowest_backed
  found i zero lt none this = absurd (omega arith)
  found i (suc m) lt none this = ⊎_elim
      (λ e. ap₂ (λ a b. or_else a (cond b (Some m) None)) (ap (lowest_backed rows n ps ph k least) (sym e) ∙ none) (ap (backed rows n ps ph k least) (sym e) ∙ this) ∙ ap Some (sym e))
      (λ ne. ap (λ a. or_else a (cond (backed rows n ps ph k least m) (Some m) None)) (found i m (omega arith) none this))
      (cases_eq i m)

  -- the first of the senders below m that is backed leads
  pub first_leads : (m : ℕ) (r : Option ℕ) → MatchOption r ((j : ℕ) → 0 ≤ j → j < m → backed rows n ps ph k least j ≡ false) (λ i. (0 ≤ i) × (i < m) × (backed rows n ps ph k least i ≡ true) × ((j : ℕ) → 0 ≤ j → j < i → backed rows n ps ph k least j ≡ false)) → r ≡ lowest_backed rows n ps ph k least m
  first_leads m None h = sym (nobody m h)
  first_leads m (Some i) h = sym (found i m h.1 (nobody i h.3) h.2)
