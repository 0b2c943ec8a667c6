-- The opening round of a ballot: proposing, proposing again, and its steps. Assumes nothing.
use Rattle.std.specs.Prelude.{ℕ, Bool, cond, not, ◌&&◌, ◌||◌, List, [], ◌∷◌, ◌==◌, nat_le}
use Rattle.basis.specs.Counts.{count}
use Rattle.basis.specs.Halls.{quorum, beyond_faults}
use Rattle.basis.specs.Steps.{Step, settled}
use Rattle.rules.specs.Rounds.{Round, voted}
use Rattle.phases.specs.Steps.{says, begun, ends, is_entered_lem, many}

-- A set of bits is a number: 1 is {0}, 2 is {1}, 3 is both. Tags: 32 first votes, 33 second votes. The proposal is the
-- entered bit of round 0. Its verdict is how the round was left: with one bit that had a quorum, or with both, none having.

-- the second vote, unless one is said
abbrev pub once_second : ℕ → ℕ → Round → Round
once_second own x m = cond (voted 33 own m) m (says 33 x own m)

module _ (own : ℕ) where
  -- Propose: the first vote of the bit is said, and for bit 1 the second vote too
  abbrev pub proposed : ℕ → Round → Round
  proposed x m = cond (x == 2) (once_second own 2 (says 32 x own (begun x m))) (says 32 x own (begun x m))

  -- Propose again: the slot was delivered after proposing, and the first vote 1 is not said
  abbrev pub again : Step Round
  again = record { applies = λ m. is_entered_lem m && not (m.votes 32 2 own); leaves = says 32 2 own }

module _ (n : ℕ) where
  -- what is admitted: 1 by a proposal of 1 or f + 1 first votes for it, 0 by 2f + 1 first votes for it
  unfoldable pub admits : Round → ℕ → Bool
  admits m x = cond (x == 2) (m.entered == 2 || many n (beyond_faults n) 32 2 m) (many n (quorum n) 32 x m)

  -- j has a second vote for the bit of x, and that is admitted
  abbrev pub supports : Round → ℕ → ℕ → Bool
  supports m x j = m.votes 33 x j && admits m x

  unfoldable pub ready_to_leave : Round → Bool
  ready_to_leave m = nat_le (quorum n) (count n (λ j. supports m 1 j || supports m 2 j))

  -- a bit that 2f + 1 support, and both where there is none
  unfoldable pub tally : Round → ℕ
  tally m = cond (nat_le (quorum n) (count n (supports m 1))) 1 (cond (nat_le (quorum n) (count n (supports m 2))) 2 3)

  module _ (own : ℕ) where
    -- Join a first vote for 0: f + 1 have cast it, and the own one is not said
    abbrev pub join_zero : Step Round
    join_zero = record {
      applies = λ m. is_entered_lem m && (many n (beyond_faults n) 32 1 m && not (m.votes 32 1 own));
      leaves = says 32 1 own;
    }

    -- Join a first vote for 1: f + 1 have cast it, and the own one or a second vote is not said; the second vote is for 1
    abbrev pub join_one : Step Round
    join_one = record {
      applies = λ m. is_entered_lem m && (many n (beyond_faults n) 32 2 m && (not (m.votes 32 2 own) || not (voted 33 own m)));
      leaves = λ m. once_second own 2 (says 32 2 own m);
    }

    -- Admit: 2f + 1 have cast a first vote, and no second vote is said
    abbrev pub admit : ℕ → Step Round
    admit x = record {
      applies = λ m. is_entered_lem m && (many n (quorum n) 32 x m && not (voted 33 own m));
      leaves = says 33 x own;
    }

    -- Leave, once: 2f + 1 senders have a second vote for an admitted bit
    abbrev pub leave : Step Round
    leave = record {
      applies = λ m. is_entered_lem m && (ready_to_leave m && m.verdict == 0);
      leaves = λ m. ends (tally m) m;
    }

    abbrev pub opening_steps : List (Step Round)
    opening_steps = join_zero ∷ (join_one ∷ (admit 1 ∷ (admit 2 ∷ (leave ∷ []))))

    -- the first listed that applies is taken, until none does; five turns suffice
    abbrev pub opening_settled : Round → Round
    opening_settled m = settled opening_steps 5 m
