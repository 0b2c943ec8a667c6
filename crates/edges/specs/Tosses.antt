-- A toss of the coin of replica 0 of four, for ballot 0 and round 1. Assumes nothing.
use Rattle.std.specs.Prelude.{◌≡◌, ℕ, ◌<◌, cond, Some, None, Option, ◌==◌}
use Rattle.coins.specs.declared.share.Share.{Share}
use Rattle.coins.specs.declared.share_coin.ShareCoin.{ShareCoin}
use Rattle.coins.specs.Shared.{share_acts, SoundAndLawful}

-- a share of replica j for ballot 0 and round 1
abbrev pub sent_share : ℕ → ℕ → Share
sent_share j v = record { ballot = 0; round = 1; sender = j; value = v }

-- a coin of replica 0 of four whose own share is 3, and which has taken exactly these shares of the others
pub record HasTaken (shares : ℕ → Option ℕ) (c : ShareCoin) : Type 0 where
  pub sound : SoundAndLawful c
  pub hall : c.member.n ≡ 4
  pub number : c.member.own ≡ 0
  pub own : share_acts.own c 0 1 ≡ Some 3
  pub taken : (j : ℕ) → j < 16 → share_acts.taken_of c 0 1 j ≡ shares j

-- no share
abbrev pub nothing : ℕ → Option ℕ
nothing j = None

-- one share more
abbrev pub with_share : ℕ → ℕ → (ℕ → Option ℕ) → ℕ → Option ℕ
with_share j v taken i = cond (j == i) (Some v) (taken i)
