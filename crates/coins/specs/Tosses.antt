-- One toss of the share coin: the shares of one ballot and round. Assumes nothing.
use Rattle.std.specs.Prelude.{◌≡◌, ℕ, ◌%◌, ◌^◌, ◌≤◌, Bool, cond, [], length, replicate, Some, None, Option, bit_or, slice_set}
use Rattle.std.specs.Option.{option_or}
use Rattle.basis.specs.Counts.{has}
use Rattle.polynomials.specs.Polynomials.{at}
use Rattle.polynomials.specs.Shares.{shown_of}
use Rattle.coins.specs.declared.toss.Toss.{Toss}

-- what stands where no toss is
abbrev pub blank : Toss
blank = record { taken = 0; shares = []; own = 0; shown = None }

-- a toss of which nothing is taken, with its own share modulo 251
abbrev pub toss_new : ℕ → Toss
toss_new share = record { taken = 0; shares = replicate 16 0; own = share % 251; shown = None }

-- the share taken of a sender
abbrev pub taken_from : Toss → ℕ → Option ℕ
taken_from t j = cond (has t.taken j) (Some (at t.shares j)) None

-- whose shares are held: the own one, and those taken
abbrev pub held_of : ℕ → Toss → ℕ
held_of own t = bit_or t.taken (2 ^ own)

-- the shares that are held: at the own point stands the own one, whatever is taken there
abbrev pub shares_of : ℕ → Toss → ℕ → ℕ
shares_of own t = at (slice_set t.shares own t.own)

-- what the held shares show in a hall of n
abbrev pub toss_bit : ℕ → ℕ → Toss → Option Bool
toss_bit n own t = shown_of n (held_of own t) (shares_of own t)

-- a share is recorded; then a bit is looked for, if none is shown yet
abbrev pub recorded : Toss → ℕ → ℕ → Toss
recorded t j v = record { taken = bit_or t.taken (2 ^ j); shares = slice_set t.shares j v; own = t.own; shown = t.shown }

abbrev pub looked : ℕ → ℕ → Toss → Toss
looked n own t = record { taken = t.taken; shares = t.shares; own = t.own; shown = option_or t.shown (toss_bit n own t) }

abbrev pub toss_taken : ℕ → ℕ → Toss → ℕ → ℕ → Toss
toss_taken n own t j v = looked n own (recorded t j v)

-- what holds of every toss that the calls make: its own share is lawful, and it shows what the held ones show
pub record SoundToss (n own : ℕ) (t : Toss) : Type 0 where
  pub places : length t.shares ≡ 16
  pub own_to : t.own ≤ 250
  pub right : t.shown ≡ toss_bit n own t

-- what also holds where only lawful shares are handed in: those that are taken are at most 250
abbrev pub LawfulToss : Toss → Type 0
LawfulToss t = (j v : ℕ) → taken_from t j ≡ Some v → v ≤ 250
