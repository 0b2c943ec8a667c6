-- The leader's coin: the low bit of replica 0's share. Assumes nothing.
use Rattle.std.specs.Prelude.{◌≡◌, ℕ, ◌+◌, ◌-◌, ◌*◌, ◌%◌, ◌≤◌, Bool, true, length, Some, None, Option, ◌==◌, slice_index_or, slice_set}
use Rattle.std.specs.Option.{option_map}
use Rattle.coins.specs.Coins.{Acts, Tossed, Sender}
use Rattle.coin_tests.specs.declared.leader_coin.LeaderCoin.{LeaderCoin}

-- where the share of a sender for a ballot and a round stands
abbrev pub place : ℕ → ℕ → ℕ → ℕ
place k r j = (k * 15 + (r - 1)) * 16 + j

abbrev pub odd : ℕ → Bool
odd v = v % 2 == 1

abbrev pub taken_at : LeaderCoin → ℕ → ℕ → ℕ → Option ℕ
taken_at c k r j = slice_index_or c.taken (place k r j) None

-- what holds of every such coin that the calls make
pub record Sound (c : LeaderCoin) : Type 0 where
  pub all : length c.taken ≡ 3840
  pub own_to : c.own ≤ 250
  pub taken_to : (k r j v : ℕ) → Tossed k r → Sender j → taken_at c k r j ≡ Some v → v ≤ 250

abbrev pub leader_acts : Acts LeaderCoin
leader_acts = record {
  sound = Sound;
  shown = λ c k r. option_map odd (taken_at c k r 0);
  uses = true;
  own = λ c k r. Some c.own;
  taken_of = taken_at;
  taken = λ c s. record { own = c.own; taken = slice_set c.taken (place s.ballot s.round s.sender) (Some s.value) };
}
