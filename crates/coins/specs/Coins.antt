-- What a coin shows and takes, and what every coin keeps. Assumes nothing.
use Rattle.std.specs.Prelude.{◌≡◌, ℕ, ◌<◌, ◌≤◌, Bool, true, false, cond, ◌&&◌, is_some, Some, None, Ok, Err, Option, Result, ◌==◌}
use Rattle.basis.specs.Halls.{largest}
use Rattle.basis.specs.declared.heard.Heard.{Heard}
use Rattle.basis.specs.declared.heard.Heard.TheVariants.{New, Known}
use Rattle.coins.specs.declared.share.Share.{Share}

-- a ballot, and a round from 1 on
pub record Tossed (k r : ℕ) : Type 0 where
  pub ballot_below : k < largest
  pub round_from : 1 ≤ r
  pub round_to : r ≤ 15

-- a sender's number
abbrev pub Sender : ℕ → Type 0
Sender j = j < largest

-- a share that a message can bring
pub record Lawful (s : Share) : Type 0 where
  pub tossed : Tossed s.ballot s.round
  pub sender_below : Sender s.sender
  pub value_to : s.value ≤ 250

-- What the calls of a coin C come to.
pub record Acts (C : Type 0) : Type 1 where
  -- what holds of every coin that its calls make
  pub sound : C → Type 0
  -- the bit shown for a ballot and a round
  pub shown : C → ℕ → ℕ → Option Bool
  -- whether the coin uses shares, and its own share for a ballot and a round
  pub uses : Bool
  pub own : C → ℕ → ℕ → Option ℕ
  -- the share taken of a sender for a ballot and a round, and what taking a new share leaves
  pub taken_of : C → ℕ → ℕ → ℕ → Option ℕ
  pub taken : C → Share → C

-- the share is for this ballot and round
abbrev pub is_for : Share → ℕ → ℕ → Bool
is_for s k r = s.ballot == k && s.round == r

-- the answer by what is taken of the sender already: another share of one sender is refused with 13
abbrev pub answer_by : Option ℕ → ℕ → Result Heard ℕ
answer_by None v = Ok New
answer_by (Some w) v = cond (w == v) (Ok Known) (Err 13)

-- only a share of which none is taken changes the coin
abbrev pub left_by : {C : Type 0} → Option ℕ → C → C → C
left_by None after before = after
left_by (Some w) after before = before

module _ {C : Type 0} (a : Acts C) where
  -- what is taken of the sender of a share already
  abbrev pub before : C → Share → Option ℕ
  before c s = a.taken_of c s.ballot s.round s.sender

  -- what taking a share answers, and the coin that it leaves
  abbrev pub take_answer : C → Share → Result Heard ℕ
  take_answer c s = answer_by (before c s) s.value

  abbrev pub take_after : C → Share → C
  take_after c s = left_by (before c s) (a.taken c s) c

  -- The one value that is not settled: what is shown for the ballot and round of a new share. A bit that was shown there
  -- stays, which is all that is asked of it.
  abbrev pub shown_after : C → Share → Option Bool
  shown_after c s = a.shown (a.taken c s) s.ballot s.round

  -- a coin of which nothing is taken yet
  pub record NewCoin (c : C) : Type 0 where
    pub sound : a.sound c
    pub none_taken : (k r j : ℕ) → Tossed k r → Sender j → a.taken_of c k r j ≡ None

  -- a new share is taken
  pub record Takes (c : C) (s : Share) : Type 0 where
    pub used : a.uses ≡ true
    pub sound : a.sound c
    pub lawful : Lawful s
    pub new : before c s ≡ None

  -- What every coin keeps.
  pub record Keeps : Type 0 where
    -- there is a new coin, so the laws speak of some, and what the calls make of a sound one is sound
    pub some_new : (c : C) × NewCoin c
    pub stays_sound : (c : C) (s : Share) → Takes c s → a.sound (a.taken c s)
    -- of what is shown: bits stay, and only the share's ballot and round may begin to show one
    pub shown_stays : (c : C) (s : Share) → Takes c s → (b : Bool) → a.shown c s.ballot s.round ≡ Some b → shown_after c s ≡ Some b
    pub shown_elsewhere : (c : C) (s : Share) → Takes c s → (k r : ℕ) → Tossed k r → is_for s k r ≡ false → a.shown (a.taken c s) k r ≡ a.shown c k r
    -- of shares: a new share is the only one added, and all that are taken are lawful
    pub adds_one : (c : C) (s : Share) → Takes c s → (k r j : ℕ) → Tossed k r → Sender j → a.taken_of (a.taken c s) k r j ≡ cond (is_for s k r && s.sender == j) (Some s.value) (a.taken_of c k r j)
    pub taken_lawful : (c : C) → a.sound c → (k r j : ℕ) → Tossed k r → Sender j → (v : ℕ) → a.taken_of c k r j ≡ Some v → v ≤ 250
    -- own shares are fixed and lawful, and there is one for every ballot and round or none at all
    pub own_fixed : (c : C) (s : Share) → Takes c s → (k r : ℕ) → Tossed k r → a.own (a.taken c s) k r ≡ a.own c k r
    pub own_lawful : (c : C) → a.sound c → (k r : ℕ) → Tossed k r → (v : ℕ) → a.own c k r ≡ Some v → v ≤ 250
    pub own_all_or_none : (c : C) → a.sound c → (k r k' r' : ℕ) → Tossed k r → Tossed k' r' → is_some (a.own c k r) ≡ is_some (a.own c k' r')
    pub own_only_used : (c : C) → a.sound c → (k r : ℕ) → Tossed k r → a.uses ≡ false → a.own c k r ≡ None
