-- What clearing the rows of a table does to their meanings. Assumes nothing.
use Rattle.std.proofs.Common.{◌≡◌, ℕ, zero, suc, ◌+◌, ◌<◌, List, ◌∷◌, ◌++◌, length, map, set, take, drop, replicate, refl, sym, ap, ◌∙◌, ap₂}
use Rattle.std.proofs.lemmas.List.{map-set, length-map, drop-map, take-map, map-append}
use Rattle.broadcast.specs.Opening.{cleared_to}
use Rattle.broadcast.proofs.Clearing.{clear_more, cleared_front}

module _ {X Y : Type 0} (f : X → Y) (x : X) (y : Y) (e : f x ≡ y) where
  front : (n : ℕ) (t : List X) → map f (replicate n x ++ t) ≡ replicate n y ++ map f t
  front zero t = refl
  front (suc n) t = ap₂ (λ (a : Y) (l : List Y). a ∷ l) e (front n t)

  -- rows that are cleared mean cleared ones, and the others what they meant
  pub map_cleared : (n : ℕ) (xs : List X) → map f (cleared_to n x xs) ≡ cleared_to n y (map f xs)
  map_cleared n xs = front n (drop n xs) ∙ ap (λ (l : List Y). replicate n y ++ l) (sym (drop-map f n xs))

-- one row more is cleared
pub row_cleared : {X Y : Type 0} (f : X → Y) (y : Y) (i : ℕ) (xs xs0 : List X) (x : X) → f x ≡ y → i < length xs0 → map f xs ≡ cleared_to i y (map f xs0) → map f (set xs i x) ≡ cleared_to (i + 1) y (map f xs0)
row_cleared f y i xs xs0 x e l h = map-set f xs i x ∙ ap₂ (λ t b. set t i b) h e ∙ clear_more i y (map f xs0) (simp length-map l)

-- all first rows are cleared, and the rows beyond them put after them
pub rows_cleared : {X Y : Type 0} (f : X → Y) (y : Y) (i k : ℕ) (xs items : List X) → i ≡ k → map f items ≡ cleared_to i y (map f (take k xs)) → map f (items ++ drop k xs) ≡ cleared_to k y (map f xs)
rows_cleared f y i k xs items e h =
    map-append f items (drop k xs)
    ∙ ap₂ (λ a b. a ++ b) (h ∙ ap₂ (λ j t. cleared_to j y t) e (sym (take-map f k xs))) (sym (drop-map f k xs))
    ∙ cleared_front k y (map f xs)
