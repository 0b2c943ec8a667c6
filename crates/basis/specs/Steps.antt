-- Steps: when each applies and what it leaves; the first listed that applies is taken, while one does. Assumes nothing.
use Rattle.std.specs.Prelude.{◌≡◌, ℕ, zero, suc, Bool, false, cond, List, [], ◌∷◌}

-- a step on states of type M: whether it applies to a state, and what it then leaves
pub record Step (M : Type 0) : Type 0 where
  pub applies : M → Bool
  pub leaves : M → M

-- the first listed step that applies is taken; where none does, all stays as it is
abbrev pub stepped : {M : Type 0} → List (Step M) → M → M
stepped [] m = m
stepped (s ∷ ss) m = cond (s.applies m) (s.leaves m) (stepped ss m)

-- a step is taken where it applies
abbrev pub taking : {M : Type 0} → Step M → M → M
taking s m = cond (s.applies m) (s.leaves m) m

-- steps are taken while one applies, at most so many
unfoldable pub settled : {M : Type 0} → List (Step M) → ℕ → M → M
settled ss zero m = m
settled ss (suc fuel) m = settled ss fuel (stepped ss m)

-- no step applies
abbrev pub Idle : {M : Type 0} → List (Step M) → M → Type 0
Idle [] m = Unit {0}
Idle (s ∷ ss) m = (s.applies m ≡ false) × Idle ss m
