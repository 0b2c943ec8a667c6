-- The share coin: a toss for each ballot and round. Assumes nothing.
use Rattle.std.specs.Prelude.{◌≡◌, ℕ, ◌+◌, ◌-◌, ◌*◌, ◌%◌, ◌<◌, Bool, true, cond, ◌||◌, List, length, is_some, Some, Ok, Err, Option, Result, ◌==◌, slice_index_or, slice_set}
use Rattle.std.specs.Option.{unwrap_or}
use Rattle.basis.specs.Members.{Numbers}
use Rattle.basis.specs.Refusals.{Refused, told}
use Rattle.basis.specs.declared.refusal.Refusal.{Refusal}
use Rattle.polynomials.specs.Polynomials.{at}
use Rattle.polynomials.specs.Shares.{Exact}
use Rattle.coins.specs.declared.share_coin.ShareCoin.{ShareCoin}
use Rattle.coins.specs.declared.toss.Toss.{Toss}
use Rattle.coins.specs.Coins.{Acts, Tossed, NewCoin}
use Rattle.coins.specs.Tosses.{blank, taken_from, toss_taken, SoundToss, LawfulToss}

-- where the toss of a ballot and a round stands: ballot by ballot, 15 rounds each
abbrev pub place : ℕ → ℕ → ℕ
place k r = k * 15 + (r - 1)

abbrev pub toss_at : ShareCoin → ℕ → ℕ → Toss
toss_at c k r = slice_index_or c.tosses (place k r) blank

-- a share coin with a sound toss for each ballot and round
pub record Sound (c : ShareCoin) : Type 0 where
  pub all : length c.tosses ≡ 240
  pub each : (i : ℕ) → i < 240 → SoundToss c.member.n c.member.own (slice_index_or c.tosses i blank)

-- every share that is taken is lawful
abbrev pub TakenLawful : ShareCoin → Type 0
TakenLawful c = (i : ℕ) → i < 240 → LawfulToss (slice_index_or c.tosses i blank)

-- what holds of every share coin that the calls make
pub record SoundAndLawful (c : ShareCoin) : Type 0 where
  pub sound : Sound c
  pub lawful : TakenLawful c

abbrev pub share_acts : Acts ShareCoin
share_acts = record {
  sound = SoundAndLawful;
  shown = λ c k r. (toss_at c k r).shown;
  uses = true;
  own = λ c k r. Some (toss_at c k r).own;
  taken_of = λ c k r j. taken_from (toss_at c k r) j;
  taken = λ c s. record {
    member = c.member;
    tosses = slice_set c.tosses (place s.ballot s.round) (toss_taken c.member.n c.member.own (toss_at c s.ballot s.round) s.sender s.value);
  };
}

-- which replicas' shares of a ballot and round are held: the own one, and those taken
abbrev pub holds : ShareCoin → ℕ → ℕ → ℕ → Bool
holds c k r j = j == c.member.own || is_some (share_acts.taken_of c k r j)

-- the held share of replica j: the own one at the own number, whatever is taken there
abbrev pub held_share : ShareCoin → ℕ → ℕ → ℕ → ℕ
held_share c k r j = cond (j == c.member.own) (toss_at c k r).own (unwrap_or (share_acts.taken_of c k r j) 0)

-- what a coin shows is exactly what polynomials of degree at most f say of the held shares of replicas below n
abbrev pub ShowsExactly : ShareCoin → ℕ → ℕ → Option Bool → Type 0
ShowsExactly c k r shown = Exact c.member.n (holds c k r) (held_share c k r) shown

-- Every sound coin, and so every one that the calls make of a new one, shows exactly that, for each ballot and round.
abbrev pub ShownExactly : Type 0
ShownExactly = (c : ShareCoin) (k r : ℕ) → Tossed k r → Sound c → ShowsExactly c k r (share_acts.shown c k r)

-- the answer of making a coin, its numbers for the coin
abbrev pub coin_told : Result ShareCoin Refusal → Result Numbers Refused
coin_told (Ok c) = Ok (record { n = c.member.n; own = c.member.own })
coin_told (Err e) = told (Err e)

-- a new coin with these own shares, modulo 251
pub record MadeOf (shares : List ℕ) (c : ShareCoin) : Type 0 where
  pub fresh : NewCoin share_acts c
  pub own_is : (k r : ℕ) → Tossed k r → share_acts.own c k r ≡ Some (at shares (place k r) % 251)
