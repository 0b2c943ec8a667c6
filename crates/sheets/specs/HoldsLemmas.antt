-- A row holds a sheet exactly if the sheet made of it is that one. Assumes nothing.
use Rattle.std.specs.Prelude.{◌≡◌, ℕ, Bool, List, Some, None, Option}
use Rattle.std.proofs.Common.{ap, ◌∙◌}
use Rattle.std.specs.Bool.{Decides}
use Rattle.std.specs.Option.{option_eq, option_map}
use Rattle.std.proofs.lemmas.Bool.Decides.{same_from_decides}
use Rattle.std.proofs.lemmas.Slice.Eq.{bytes_eq-Decides}
use Rattle.sheets.specs.Holds.{holds}

module _ {X : Type 0} (bytes : X → List ℕ) (same : X → X → Bool) (decides : (x y : X) → Decides (same x y) (bytes x ≡ bytes y)) (y : X) where
  pub is_held : (made : Option X) (held : Option (List ℕ)) → option_map bytes made ≡ held → option_eq same made (Some y) ≡ holds (bytes y) held
  is_held None _ m = ap (holds (bytes y)) m
  is_held (Some x) _ m = same_from_decides _ _ (decides x y) (bytes_eq-Decides (bytes x) (bytes y)) ∙ ap (holds (bytes y)) m
