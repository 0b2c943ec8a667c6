-- The steps of a ballot as they are listed: the first listed that applies is taken, until none does. Assumes nothing.
use Rattle.std.specs.Prelude.{◌≡◌, ℕ, zero, suc, Bool, ◌&&◌, List, [], ◌∷◌, is_some, nat_le, nat_lt}
use Rattle.basis.specs.Steps.{Step, taking, settled, Idle}
use Rattle.rules.specs.Rounds.{Round}
use Rattle.rules.specs.Laws.{Acts}
use Rattle.openings.specs.Openings.{again, opening_steps}
use Rattle.coins.specs.Coins.{Acts as Coin-acts}
use Rattle.ballots.specs.States.{BallotState}
use Rattle.ballots.specs.Ballots.{with_opening, may_go, may_share, share_due, face, verdict_at, ruled, shared, gone_on, ballot_settled}

-- A ballot while its steps are taken. Nothing tells whether the steps of an arbitrary rule would change a round, nor whether an
-- arbitrary coin keeps what it took. Two markers make the outcome definite under every rule and coin: in one taking of steps the
-- rule is called once in each entered round, and shares are said in rising rounds.
pub record Taking (C : Type 0) : Type 0 where
  pub state : BallotState C
  -- how many later rounds have had the rule's steps
  pub called : ℕ
  -- how many later rounds there are up to that of the last share that was said
  pub passed : ℕ

-- the steps f r, f (suc r) and so on, so many, and then the rest
abbrev pub each : {M : Type 0} → (ℕ → Step M) → ℕ → ℕ → List (Step M) → List (Step M)
each f zero r rest = rest
each f (suc u) r rest = f r ∷ each f u (suc r) rest

module _ {C : Type 0} where
  -- a ballot's state with another opening round
  abbrev pub reopened : Round → BallotState C → BallotState C
  reopened m s = record { ballot = with_opening m s.ballot; rounds = s.rounds; coin = s.coin }

  abbrev pub with_state : BallotState C → Taking C → Taking C
  with_state s x = record { state = s; called = x.called; passed = x.passed }

  -- a step of the opening round, as a step of the ballot
  abbrev pub in_opening : Step Round → Step (Taking C)
  in_opening t = record { applies = λ x. t.applies x.state.ballot.opening; leaves = λ x. with_state (reopened (t.leaves x.state.ballot.opening) x.state) x }

  -- such steps, and then the rest
  abbrev pub openers : List (Step Round) → List (Step (Taking C)) → List (Step (Taking C))
  openers [] rest = rest
  openers (t ∷ ts) rest = in_opening t ∷ openers ts rest

module _ (own : ℕ) (delivered : Bool) where
  -- Repropose: the slot is delivered, and the first vote 1 is not said
  abbrev pub repropose : Step Round
  repropose = record { applies = λ m. delivered && (again own).applies m; leaves = (again own).leaves }

  -- the ballot with 1 proposed again, where that applies
  abbrev pub reproposed : {C : Type 0} → BallotState C → BallotState C
  reproposed s = reopened (taking repropose s.ballot.opening) s

module _ {C : Type 0} (a : Acts) (b : Coin-acts C) (n own k : ℕ) where
  -- The rule's steps in round suc r: it is entered, and has not had them.
  abbrev pub ruling : ℕ → Step (Taking C)
  ruling r = record {
    applies = λ x. nat_le x.called r && nat_lt r x.state.ballot.stage;
    leaves = λ x. record { state = ruled a b n own k r x.state; called = suc r; passed = x.passed };
  }

  -- Share, in round suc r: it is entered and has its verdict, and the own share is due.
  abbrev pub sharing : ℕ → Step (Taking C)
  sharing r = record {
    applies = λ x. nat_le x.passed r && (may_share b own k r x.state.ballot.stage (verdict_at a b n own k (suc r) x.state) && is_some (share_due b own k r x.state.coin));
    leaves = λ x. record { state = shared a b n own k r x.state; called = x.called; passed = suc r };
  }

  -- Go on, from round r: the ballot is in it, it has its verdict, and a coin's bit is shown.
  abbrev pub going : ℕ → Step (Taking C)
  going r = record {
    applies = λ x. may_go r (verdict_at a b n own k r x.state) (face a b n own k r x.state) x.state.ballot;
    leaves = λ x. with_state (gone_on a b n own k r x.state) x;
  }

  -- the rule's steps, Share, Go on; those of one kind by rounds, the lowest first
  abbrev pub later_steps : List (Step (Taking C))
  later_steps = each ruling 15 0 (each sharing 15 0 (each going 16 0 []))

  -- all steps in their order: Repropose, those of the opening round, and these
  unfoldable pub listed_steps : Bool → List (Step (Taking C))
  listed_steps delivered = openers (repropose own delivered ∷ opening_steps n own) later_steps

  -- The first listed that applies is taken, until none does. Each of these 52 is taken once at most.
  unfoldable pub all_taken : Bool → BallotState C → Taking C
  all_taken delivered s = settled (listed_steps delivered) 52 (record { state = s; called = 0; passed = 0 })

  -- what a ballot comes to by its listed steps
  abbrev pub ballot_taken : Bool → BallotState C → BallotState C
  ballot_taken delivered s = (all_taken delivered s).state

-- The listed order comes to the same as reproposing and then going through the rounds, the lowest first; and at its end no step
-- applies.
abbrev pub ListedOrder : {C : Type 0} → Acts → Coin-acts C → Type 0
ListedOrder {C = C} a b = (n own k : ℕ) (delivered : Bool) (s : BallotState C) →
    (ballot_taken a b n own k delivered s ≡ ballot_settled a b n own k (reproposed own delivered s))
    × Idle (listed_steps a b n own k delivered) (all_taken a b n own k delivered s)
