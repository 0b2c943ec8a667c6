-- A choice that is tried, by its numbers: it passes with too few shares met, and shows its bit with enough. Assumes nothing.
use Rattle.std.proofs.Common.{◌≡◌, ℕ, ◌+◌, ◌-◌, ◌%◌, ◌^◌, ◌<◌, ◌≤◌, true, eqb, List, length, take, Some, None, sym, ◌∙◌, subst, arith}
use Rattle.basis.specs.Counts.{has, count}
use Rattle.basis.specs.Halls.{largest, quorum}
use Rattle.polynomials.specs.Polynomials.{at, nval, Newtons}
use Rattle.polynomials.specs.Shares.{first_of, tried, nth_choice, is_choice}
use Rattle.polynomials.proofs.Choosing.{first_none, first_some, met_at, moved_below, turn_failed, turn_found}
use Rattle.polynomials.proofs.Turns.{newtons_front}

-- the k-th choice of the replicas from one number to below another is m, and the first w numbers of ys are its polynomial's
pub record Tried (n held from to k m : ℕ) (share : ℕ → ℕ) (ys : List ℕ) : Type 0 where
  pub small : to ≤ largest
  pub wide : length ys ≡ to
  pub mask : m < 2 ^ to
  pub nth : m ≡ nth_choice from k
  pub usable : is_choice n held m ≡ true
  pub numbers : Newtons to (has m) share (at ys)

pub tried_by : (n held from to k a m : ℕ) (xs ys : List ℕ) → from ≤ to → to ≤ largest → a ≡ to → a ≤ length xs → length ys ≡ a → k < 2 ^ (to - from) → m ≡ nth_choice from k → is_choice n held m ≡ true
    → Newtons (length (take a xs)) (has m) (at (take a xs)) (at ys) → Tried n held from to k m (at xs) ys
tried_by n held from to k a m xs ys l small e fits wide low nth usable h = record {
  small = small;
  wide = wide ∙ e;
  mask = subst (λ (x : ℕ). x < 2 ^ to) (sym nth) (moved_below from to k l low);
  nth = nth;
  usable = usable;
  numbers = newtons_front a to xs (has m) (at ys) (sym e) (omega arith) fits h;
}

module _ (n held from to k m : ℕ) (share : ℕ → ℕ) (ys : List ℕ) (t : Tried n held from to k m share ys) (none : first_of k (λ k. tried n held share to (nth_choice from k)) ≡ None) where
  -- with fewer than 2f + 1 shares met the search goes on
  pub goes_on : count n (met_at n held share (at ys) to m (length ys)) < quorum n → first_of (k + 1) (λ k. tried n held share to (nth_choice from k)) ≡ None
  goes_on few = first_none k (λ k. tried n held share to (nth_choice from k)) none (subst (λ (x : ℕ). tried n held share to x ≡ None) t.nth (turn_failed n held share (at ys) to m (length ys) t.wide (subst (λ (x : ℕ). Newtons x (has m) share (at ys)) (sym t.wide) t.numbers) few))

  -- and it ends where share j is the last of so many
  pub ends_at : (j met : ℕ) → k < 2 ^ (to - from) → j < n → met ≡ count j (met_at n held share (at ys) to m (length ys)) → met_at n held share (at ys) to m (length ys) j ≡ true → met + 1 ≡ quorum n
      → first_of (2 ^ (to - from)) (λ k. tried n held share to (nth_choice from k)) ≡ Some (eqb (nval (length ys) (has m) (at ys) 0 % 251 % 2) 1)
  ends_at j met low within counted here last =
      first_some k (2 ^ (to - from)) (λ k. tried n held share to (nth_choice from k)) (eqb (nval (length ys) (has m) (at ys) 0 % 251 % 2) 1) low none
      (subst (λ (x : ℕ). tried n held share to x ≡ Some (eqb (nval (length ys) (has m) (at ys) 0 % 251 % 2) 1)) t.nth (turn_found n held share (at ys) to m (length ys) j met t.wide t.small t.mask t.usable t.numbers within counted here last))
