-- The steps of the two-phase and the three-phase rule: when each applies and what it changes. Assumes nothing.
use Rattle.std.specs.Prelude.{ℕ, ◌+◌, Bool, cond, not, ◌&&◌, ◌||◌, List, [], ◌∷◌, ◌==◌, nat_le}
use Rattle.basis.specs.Counts.{count}
use Rattle.basis.specs.Halls.{quorum, beyond_faults}
use Rattle.basis.specs.Steps.{Step, settled}
use Rattle.messages.specs.declared.tags.VoteTags.{VoteTags}
use Rattle.messages.specs.Tags.{basic_tags, with_tag}
use Rattle.rules.specs.Rounds.{Round, Vote, voted, is_new, adding}
use Rattle.rules.specs.Laws.{Acts}

-- A set of bits is a number: 1 is {0}, 2 is {1}, 3 is both. Tags: 32 first votes, 33 second votes, 34 third votes.

-- the round with one vote more, with an entered bit, with a verdict
abbrev pub says : ℕ → ℕ → ℕ → Round → Round
says t v j m = record { entered = m.entered; votes = adding t v j m.votes; verdict = m.verdict }

abbrev pub begun : ℕ → Round → Round
begun x m = record { entered = x; votes = m.votes; verdict = m.verdict }

abbrev pub ends : ℕ → Round → Round
ends v m = record { entered = m.entered; votes = m.votes; verdict = v }

-- votes are recorded under the three tags only
abbrev pub records : ℕ → ℕ → ℕ → Round → Round
records t v j m = cond (t == 32 || (t == 33 || t == 34)) (says t v j m) m

-- steps are taken in entered rounds only
abbrev pub is_entered_lem : Round → Bool
is_entered_lem m = not (m.entered == 0)

module _ (n : ℕ) where
  -- at least so many replicas have cast this vote
  abbrev pub many : ℕ → ℕ → ℕ → Round → Bool
  many q t v m = nat_le q (count n (m.votes t v))

  -- Admit: 2f + 1 first votes admit a bit
  unfoldable pub admitted : Round → ℕ → Bool
  admitted m x = many (quorum n) 32 x m

  abbrev pub lowest_admitted : Round → ℕ
  lowest_admitted m = cond (admitted m 1) 1 2

  -- j's vote under tag t lies within the set of admitted bits and holds the bit of x
  abbrev pub counted : Round → ℕ → ℕ → ℕ → Bool
  counted m t x j = (m.votes t x j && admitted m x) || (m.votes t 3 j && (admitted m 1 && admitted m 2))

  -- 2f + 1 votes under tag t lie within the set of admitted bits
  unfoldable pub enough : Round → ℕ → Bool
  enough m t = nat_le (quorum n) (count n (λ j. counted m t 1 j || counted m t 2 j))

  -- the union of all such votes
  unfoldable pub union : Round → ℕ → ℕ
  union m t = cond (nat_le 1 (count n (counted m t 1))) 1 0 + cond (nat_le 1 (count n (counted m t 2))) 2 0

  module _ (own : ℕ) where
    -- Join a first vote: f + 1 first votes of a bit, and the own one is not said
    abbrev pub join : ℕ → Step Round
    join x = record {
      applies = λ m. is_entered_lem m && (many (beyond_faults n) 32 x m && not (m.votes 32 x own));
      leaves = says 32 x own;
    }

    -- Second vote: a bit is admitted, and no second vote is said; it is for the lowest admitted bit
    abbrev pub second : Step Round
    second = record {
      applies = λ m. is_entered_lem m && ((admitted m 1 || admitted m 2) && not (voted 33 own m));
      leaves = λ m. says 33 (lowest_admitted m) own m;
    }

    -- Third vote: 2f + 1 second votes are of admitted bits, and no third vote is said; it is the set of those bits
    abbrev pub third : Step Round
    third = record {
      applies = λ m. is_entered_lem m && (enough m 33 && not (voted 34 own m));
      leaves = λ m. says 34 (union m 33) own m;
    }

    -- Verdict: 2f + 1 votes under the final tag lie within the set of admitted bits, and there is no verdict; it is the
    -- union of all such votes
    abbrev pub conclude : ℕ → Step Round
    conclude t = record {
      applies = λ m. is_entered_lem m && (enough m t && m.verdict == 0);
      leaves = λ m. ends (union m t) m;
    }

    -- the steps of a round in their order
    abbrev pub two_steps : List (Step Round)
    two_steps = join 1 ∷ (join 2 ∷ (second ∷ (conclude 33 ∷ [])))

    abbrev pub three_steps : List (Step Round)
    three_steps = join 1 ∷ (join 2 ∷ (second ∷ (third ∷ (conclude 34 ∷ []))))

-- Enter: the bit is set and its first vote said, where no bit is set
abbrev pub enters : ℕ → ℕ → Round → Round
enters own x m = cond (is_entered_lem m) m (says 32 x own (begun x m))

-- a new vote is recorded
abbrev pub hears : Vote → Round → Round
hears w m = cond (is_new w m) (records w.tag w.set w.sender m) m

-- a rule of phases: the first listed step that applies is taken, until none does; five turns suffice
abbrev pub phased : VoteTags → ℕ → (ℕ → ℕ → List (Step Round)) → Acts
phased tags final steps = record {
  tags = tags;
  final = final;
  enter = λ n own x m. enters own x m;
  hear = λ n own w m. hears w m;
  steps = λ n own m. settled (steps n own) 5 m;
}

abbrev pub two_phase : Acts
two_phase = phased basic_tags 33 two_steps

abbrev pub three_phase : Acts
three_phase = phased (with_tag basic_tags 34) 34 three_steps

-- the rule with third votes or without; each of the two keeps its own name, by which theorems speak of it
abbrev pub steps_of : Bool → ℕ → ℕ → List (Step Round)
steps_of third n own = cond third (three_steps n own) (two_steps n own)

abbrev pub acts_of : Bool → Acts
acts_of third = phased (cond third (with_tag basic_tags 34) basic_tags) (cond third 34 33) (steps_of third)
