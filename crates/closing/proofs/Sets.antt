-- The set of the numbers that pass a test, bit by bit. Assumes nothing.
use Rattle.std.proofs.Common.{◌≡◌, ℕ, ◌+◌, ◌*◌, ◌^◌, ◌<◌, Bool, true, false, cond, refl, sym, ap, ◌∙◌, add-one, pow-suc, arith}
use Rattle.std.proofs.lemmas.Nat.{or_comm, or_shifted}
use lib.Bits.{bit_or}
use Rattle.basis.specs.Counts.{total}

-- one bit more, above all others
or_above : (k m : ℕ) → m < 2 ^ k → bit_or m (2 ^ k) ≡ m + 2 ^ k
or_above k m h =
    let one : 1 * 2 ^ k ≡ 2 ^ k = omega arith in
    let r = or_shifted 1 k m h in
    or_comm m (2 ^ k) ∙ ap (λ x. bit_or x m) (sym one) ∙ r ∙ omega (arith, one)

module _ (p : ℕ → Bool) where
  -- the set of those below i
  abbrev pub SetBelow : ℕ → ℕ → Type 0
  SetBelow i members = (members < 2 ^ i) × (members ≡ total i (λ k. cond (p k) (2 ^ k) 0))

  pub set_empty : SetBelow 0 0
  unfolding total
  set_empty = (omega arith, refl)

  pub set_with : (i members : ℕ) → SetBelow i members → p i ≡ true → SetBelow (i + 1) (bit_or members (2 ^ i))
  unfolding total
  set_with i members s here =
      let more : cond {A = ℕ} (p i) (2 ^ i) 0 ≡ 2 ^ i = ap (λ b. cond b (2 ^ i) 0) here in
      let e = or_above i members s.0 in
      rw (add-one i, pow-suc 2 i, e) (omega (arith, s.0), omega (arith, s.1, more))

  pub set_without : (i members : ℕ) → SetBelow i members → p i ≡ false → SetBelow (i + 1) members
  unfolding total
  set_without i members s here =
      let more : cond {A = ℕ} (p i) (2 ^ i) 0 ≡ 0 = ap (λ b. cond b (2 ^ i) 0) here in
      rw (add-one i, pow-suc 2 i) (omega (arith, s.0), omega (arith, s.1, more))
