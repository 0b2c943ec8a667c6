-- Steps none of which lets an earlier one apply again: one pass takes all that apply, and leaves none. Assumes nothing.
use Rattle.std.proofs.Common.{◌≡◌, ℕ, zero, suc, ◌≤◌, true, false, List, [], ◌∷◌, length, refl, ap, ◌∙◌, arith}
use Rattle.std.proofs.lemmas.Bool.{cond-true, cond-false, cond_both}
use Rattle.basis.specs.Steps.{Step, stepped, taking, settled, Idle}

module _ {M : Type 0} where
  -- one pass over the list, each step in its turn
  abbrev pub passed : List (Step M) → M → M
  passed [] m = m
  passed (s ∷ ss) m = passed ss (taking s m)

  -- s does not begin to apply by a step of the list
  abbrev pub KeptOff : Step M → List (Step M) → Type 0
  KeptOff s [] = Unit {0}
  KeptOff s (t ∷ ts) = ((m : M) → t.applies m ≡ true → s.applies m ≡ false → s.applies (t.leaves m) ≡ false) × KeptOff s ts

  -- a step applies no more once it is taken, and no later step lets it apply again
  abbrev pub Once : List (Step M) → Type 0
  Once [] = Unit {0}
  Once (s ∷ ss) = ((m : M) → s.applies m ≡ true → s.applies (s.leaves m) ≡ false) × KeptOff s ss × Once ss

  off_stepped : (s : Step M) (ss : List (Step M)) (m : M) → KeptOff s ss → s.applies m ≡ false → s.applies (stepped ss m) ≡ false
  off_stepped s [] m k off = off
  off_stepped s (t ∷ ts) m k off = cond_both (t.applies m) (t.leaves m) (stepped ts m) (λ (x : M). s.applies x ≡ false) (λ h. k.0 m h off) (λ _. off_stepped s ts m k.1 off)

  off_passed : (s : Step M) (ss : List (Step M)) (m : M) → KeptOff s ss → s.applies m ≡ false → s.applies (passed ss m) ≡ false
  off_passed s [] m k off = off
  off_passed s (t ∷ ts) m k off = off_passed s ts (taking t m) k.1 (cond_both (t.applies m) (t.leaves m) m (λ (x : M). s.applies x ≡ false) (λ h. k.0 m h off) (λ _. off))

  none_settled : (k : ℕ) (m : M) → settled [] k m ≡ m
  unfolding settled
  none_settled zero m = refl
  none_settled (suc k) m = none_settled k m

  -- a step that does not apply, and does not begin to, may be left out
  left_out : (s : Step M) (ss : List (Step M)) (k : ℕ) (m : M) → KeptOff s ss → s.applies m ≡ false → settled (s ∷ ss) k m ≡ settled ss k m
  unfolding settled
  left_out s ss zero m o off = refl
  left_out s ss (suc k) m o off =
      ap (λ (x : M). settled (s ∷ ss) k x) (cond-false (s.applies m) (s.leaves m) (stepped ss m) off) ∙ left_out s ss k (stepped ss m) o (off_stepped s ss m o off)

  -- as many turns as there are steps come to one pass
  pub settled_passed : (ss : List (Step M)) (k : ℕ) (m : M) → Once ss → length ss ≤ k → settled ss k m ≡ passed ss m
  unfolding settled
  settled_passed [] k m o h = none_settled k m
  settled_passed (s ∷ ss) zero m o h = absurd (omega arith)
  settled_passed (s ∷ ss) (suc k) m o h = cond_both (s.applies m) (s.leaves m) m (λ (x : M). settled (s ∷ ss) (suc k) m ≡ passed ss x)
      (λ t. ap (λ (x : M). settled (s ∷ ss) k x) (turned t) ∙ left_out s ss k (s.leaves m) o.1 (o.0 m t) ∙ settled_passed ss k (s.leaves m) o.2 (omega arith))
      (λ off. left_out s ss (suc k) m o.1 off ∙ settled_passed ss (suc k) m o.2 (omega arith))
    where
      turned : s.applies m ≡ true → stepped (s ∷ ss) m ≡ s.leaves m
      turned t = cond-true (s.applies m) (s.leaves m) (stepped ss m) t

  -- and then none applies
  pub passed_idle : (ss : List (Step M)) (m : M) → Once ss → Idle ss (passed ss m)
  passed_idle [] m o = tt
  passed_idle (s ∷ ss) m o =
      (off_passed s ss (taking s m) o.1 (cond_both (s.applies m) (s.leaves m) m (λ (x : M). s.applies x ≡ false) (o.0 m) (λ off. off)), passed_idle ss (taking s m) o.2)
