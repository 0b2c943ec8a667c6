-- The table holds the inverses, by one computed test.
use Rattle.std.proofs.Common.{eqb, [], ◌∷◌, get_or, refl}
use Rattle.std.proofs.lemmas.Bool.{eqb-true}
use Rattle.polynomials.specs.Polynomials.{inv}
use Rattle.polynomials.proofs.Modular.{all_below, passes, cancel}
use Rattle.polynomials.proofs.newton.inverse.Goals as goal

pub returns : goal.returns
unfolding all_below inv
returns c = record {
  value = eqb-true _ _ (passes 16 (λ d. eqb (get_or (0 ∷ 1 ∷ 126 ∷ 84 ∷ 63 ∷ 201 ∷ 42 ∷ 36 ∷ 157 ∷ 28 ∷ 226 ∷ 137 ∷ 21 ∷ 58 ∷ 18 ∷ 67 ∷ []) d 0) (inv d)) refl c.args.d c.requires);
  cancels = cancel;
}
