-- A row read and written in place, by the meanings of the rows. Assumes nothing.
use Rattle.std.proofs.Common.{◌≡◌, ℕ, ◌<◌, Bool, true, false, cond, List, map, length, get_or, set, sym, ap, ◌∙◌, arith}
use Rattle.std.proofs.Math.Seq.{map-set_same}
use Rattle.std.proofs.lemmas.Grind.{get_or-set_at}
use Rattle.std.proofs.lemmas.List.{map-set, get_or-map, length-set}
use Rattle.rules.specs.Rounds.{Round, cleared}

-- the row at r, which is k
module _ {X : Type 0} (f : X → Round) (xs : List X) (r k : ℕ) (d : X) (at : r ≡ k) (within : k < length xs) where
  pub row_at : f (get_or xs r d) ≡ get_or (map f xs) k cleared
  row_at = ap (λ (i : ℕ). f (get_or xs i d)) at ∙ sym (get_or-map f xs k d cleared within)

  pub row_written : (step : Round → Round) (y : X) → f y ≡ step (f (get_or xs r d)) → map f (set xs r y) ≡ set (map f xs) k (step (get_or (map f xs) k cleared))
  row_written step y e = ap (λ (i : ℕ). map f (set xs i y)) at ∙ map-set f xs k y ∙ ap (set (map f xs) k) (e ∙ ap step row_at)

  -- where it is written only in one of two cases, and what is read of it then
  pub row_written_if : (b : Bool) (step : Round → Round) (y : X) → f y ≡ cond b (step (f (get_or xs r d))) (f (get_or xs r d)) → map f (set xs r y) ≡ cond b (set (map f xs) k (step (get_or (map f xs) k cleared))) (map f xs)
  row_written_if true step y e = row_written step y e
  row_written_if false step y e = map-set_same f xs r y d e

  pub row_new : (y : X) → get_or (map f (set xs r y)) k cleared ≡ f y
  row_new y = (get_or-map f (set xs r y) k d cleared (let l = length-set xs r y in omega arith)) ∙ ap f (get_or-set_at xs r k y d (sym at) (omega arith))
