-- A toss with f wrong shares in the worst place, and what taking its shares leaves. Assumes nothing.
use Rattle.std.specs.Prelude.{ℕ, zero, suc, ◌+◌, ◌-◌, ◌*◌, ◌/◌, ◌%◌, ◌^◌, Bool, true, false, cond, List, Some, None, codes, Option, ◌&&◌, ◌||◌, ◌==◌, nat_le, nat_lt}
use Rattle.basis.specs.Halls.{faults}
use Rattle.coins.specs.declared.share.Share.{Share}
use Rattle.coins.specs.declared.share_coin.ShareCoin.{ShareCoin}
use Rattle.coins.specs.Coins.{take_after}
use Rattle.coins.specs.Shared.{share_acts}

-- the value at z of the polynomial (z + 7) to the f
abbrev pub right_value : ℕ → ℕ → ℕ
right_value f z = (z + 7) ^ f % 251

-- how far replica j's share is off: one too much at f replicas, the lowest of each half
abbrev pub error_of : ℕ → ℕ → ℕ
error_of n j = cond (nat_lt j (n / 2 - faults n) || (nat_le (n / 2) j && nat_lt j (2 * faults n))) 1 0

-- replica j's share
abbrev pub dealt_value : ℕ → ℕ → ℕ
dealt_value n j = (right_value (faults n) (j + 1) + error_of n j) % 251

abbrev pub dealt_share : ℕ → ℕ → ℕ → ℕ → Share
dealt_share n k r j = record { ballot = k; round = r; sender = j; value = dealt_value n j }

-- the shares of m replicas are taken, one by one, from replica j on
unfoldable pub so_many_taken : ℕ → ℕ → ℕ → ℕ → ℕ → ShareCoin → ShareCoin
so_many_taken n k r j zero c = c
so_many_taken n k r j (suc m) c = take_after share_acts (so_many_taken n k r j m c) (dealt_share n k r (j + m))

-- from replica j to below replica i
abbrev pub taken_between : ℕ → ℕ → ℕ → ℕ → ℕ → ShareCoin → ShareCoin
taken_between n k r j i c = so_many_taken n k r j (i - j) c

-- what is shown, in words
abbrev pub bit_text : Option Bool → List ℕ
bit_text None = codes "nothing"
bit_text (Some false) = codes "0"
bit_text (Some true) = codes "1"

-- how many times one number is another, in tenths
abbrev pub tenfold : ℕ → ℕ → ℕ
tenfold value other = cond (other == 0) 0 (value * 10 / other)
