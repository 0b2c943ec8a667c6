-- Counting the first of a list, by index and item by item. Assumes nothing.
use Rattle.std.proofs.Common.{◌≡◌, ℕ, zero, suc, ◌+◌, ◌<◌, ◌≤◌, Bool, true, false, cond, List, length, take, slice_index_or, count_by, refl, sym, ap, ◌∙◌, add-one, arith}
use Rattle.std.proofs.lemmas.List.Sums.{count_by_more_yes, count_by_more_no}
use Rattle.basis.specs.Counts.{count}

one_more : {X : Type 0} (p : X → Bool) (d : X) (n : ℕ) (xs : List X) → n < length xs → count_by p (take (suc n) xs) ≡ cond (p (slice_index_or xs n d)) 1 0 + count_by p (take n xs)
one_more p d n xs h = ap (λ m. count_by p (take m xs)) (sym (add-one n)) ∙ go (p (slice_index_or xs n d)) refl
  where
    go : (b : Bool) → p (slice_index_or xs n d) ≡ b → count_by p (take (n + 1) xs) ≡ cond (p (slice_index_or xs n d)) 1 0 + count_by p (take n xs)
    go true e = rw e (omega (arith, count_by_more_yes p xs n d h e))
    go false e = rw e (omega (arith, count_by_more_no p xs n d h e))

-- the items that pass among the first n are the indices below n whose item passes
pub count_first : {X : Type 0} (p : X → Bool) (d : X) (n : ℕ) (xs : List X) → n ≤ length xs → count_by p (take n xs) ≡ count n (λ k. p (slice_index_or xs k d))
unfolding count
count_first p d zero xs h = refl
count_first p d (suc n) xs h = one_more p d n xs (omega arith) ∙ ap (λ m. cond (p (slice_index_or xs n d)) 1 0 + m) (count_first p d n xs (omega arith))
