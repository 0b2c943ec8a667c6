-- Turns of the bench's loops. Assumes nothing.
use Rattle.std.proofs.Common.{◌≡◌, ℕ, suc, ◌+◌, ◌-◌, ◌*◌, ◌%◌, ◌^◌, ◌≤◌, ap, ◌∙◌, pow-suc, add-one, arith}
use Rattle.std.proofs.Math.Nat.{mul_comm}
use native.Mathlib.Nat.{mod-mod}
use Rattle.polynomials.proofs.Modular.{same_times}
use Rattle.coins.specs.declared.share_coin.ShareCoin.{ShareCoin}
use Rattle.coins.specs.Coins.{take_after}
use Rattle.coins.specs.Shared.{share_acts}
use Rattle.coin_bench.specs.Scenes.{dealt_share, so_many_taken}

pub power : (d k r : ℕ) → r ≡ d ^ k % 251 → r * d % 251 ≡ d ^ (k + 1) % 251
power d k r h = rw (add-one, pow-suc) (ap (λ (x : ℕ). x % 251) (mul_comm r d) ∙ same_times d r (d ^ k) (ap (λ (x : ℕ). x % 251) h ∙ mod-mod (d ^ k) 251) ∙ ap (λ (x : ℕ). x % 251) (mul_comm d (d ^ k)))

-- one more share
pub one_taken : (n k r j i : ℕ) (c : ShareCoin) → j ≤ i → so_many_taken n k r j ((i + 1) - j) c ≡ take_after share_acts (so_many_taken n k r j (i - j) c) (dealt_share n k r i)
unfolding so_many_taken
one_taken n k r j i c l =
    let e : (i + 1) - j ≡ suc (i - j) = omega arith in
    let f : j + (i - j) ≡ i = omega arith in
    ap (λ (x : ℕ). so_many_taken n k r j x c) e ∙ ap (λ (x : ℕ). take_after share_acts (so_many_taken n k r j (i - j) c) (dealt_share n k r x)) f
