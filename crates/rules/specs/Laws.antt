-- What a rule does to a round's meaning, and what every rule keeps. Assumes nothing.
use Rattle.std.specs.Prelude.{◌≡◌, ℕ, ◌<◌, ◌≤◌, Bool, true, false, cond, not, ◌&&◌, T, ◌⊎◌, ◌==◌}
use Rattle.basis.specs.Counts.{count}
use Rattle.basis.specs.Halls.{listed, faults, quorum, beyond_faults}
use Rattle.messages.specs.declared.tags.VoteTags.{VoteTags}
use Rattle.messages.specs.Tags.{uses}
use Rattle.rules.specs.Rounds.{Round, cleared, Vote, is_new, adding}

-- a rule: its tags, its final tag, and what a call leaves, from the hall size, the own number, the call and the meaning
pub record Acts : Type 0 where
  pub tags : VoteTags
  -- the tag of the votes that a verdict of one bit rests on
  pub final : ℕ
  -- entering with the set of one bit
  pub enter : ℕ → ℕ → ℕ → Round → Round
  pub hear : ℕ → ℕ → Vote → Round → Round
  pub steps : ℕ → ℕ → Round → Round

-- the set of one bit
abbrev pub Single : ℕ → Type 0
Single x = (0 < x) × (x < 3)

-- the set v holds the bit of the single set x
abbrev pub Holds : ℕ → ℕ → Type 0
Holds v x = (v ≡ x) ⊎ (v ≡ 3)

-- a vote that a replica may hear: of another replica, under a tag of the rule, and a set of bits that the tag carries:
-- under 0x20 and 0x21 the set of one bit, else any that is not empty
pub record Audible (tags : VoteTags) (n own : ℕ) (w : Vote) : Type 0 where
  pub low : w.sender < n
  pub other : w.sender ≡ own → ⊥
  pub used : uses tags w.tag ≡ true
  pub some : 0 < w.set
  pub few : w.set < 4
  pub one : w.tag < 34 → w.set < 3

-- what hearing a vote leaves: only a new one changes anything
abbrev pub heard : Acts → ℕ → ℕ → Vote → Round → Round
heard a n own w m = cond (is_new w m) (a.hear n own w m) m

-- what may be done to a round
pub data Deed : Type 0 where
  entering : ℕ → Deed
  hearing : Vote → Deed
  stepping : Deed

abbrev pub act : Acts → ℕ → ℕ → Deed → Round → Round
act a n own (entering x) m = a.enter n own x m
act a n own (hearing w) m = a.hear n own w m
act a n own stepping m = a.steps n own m

-- a round is entered where no bit is set, and what is heard may be heard
abbrev pub Lawful : Acts → ℕ → ℕ → Round → Deed → Type 0
Lawful a n own m (entering x) = Single x × (m.entered ≡ 0)
Lawful a n own m (hearing w) = Audible a.tags n own w
Lawful a n own m stepping = Unit {0}

-- the meanings that a round can come to
pub data Reached (a : Acts) (n own : ℕ) : Round → Type 0 where
  clear : Reached a n own cleared
  did : {m : Round} → Reached a n own m → (d : Deed) → Lawful a n own m d → Reached a n own (act a n own d m)

-- what a replica does by itself: it enters or takes steps
abbrev pub OwnDeed : Deed → Type 0
OwnDeed (entering x) = Unit {0}
OwnDeed (hearing w) = ⊥
OwnDeed stepping = Unit {0}

-- first votes of others than the replica itself
abbrev pub first_of_others : ℕ → Round → ℕ → ℕ → Bool
first_of_others own m x j = m.votes 32 x j && not (j == own)

-- what a rule keeps at one replica of a hall, in every round that lawful deeds can come to
pub record Laws (a : Acts) (n own : ℕ) : Type 0 where
  pub final_above_first : 32 < a.final
  -- Under each tag above 0x20 the replica itself says at most one vote. (Of the others hearing records no second one.)
  pub says_one_a_tag : (m : Round) → Reached a n own m → (t v w : ℕ) → 32 < t → m.votes t v own ≡ true → m.votes t w own ≡ true → v ≡ w
  -- A new vote that is heard is the only one added; a known or contradicting one changes nothing.
  pub hearing_adds_the_vote : (m : Round) → Reached a n own m → (w : Vote) → Audible a.tags n own w → is_new w m ≡ true →
      (t v j : ℕ) → (a.hear n own w m).votes t v j ≡ adding w.tag w.set w.sender m.votes t v j
  pub others_change_nothing : (m : Round) → Reached a n own m → (w : Vote) → Audible a.tags n own w → is_new w m ≡ false → a.hear n own w m ≡ m
  -- Entering and taking steps lose no vote and add only the replica's own, and none before entering.
  pub votes_stay : (m : Round) → Reached a n own m → (d : Deed) → OwnDeed d → Lawful a n own m d → (t v j : ℕ) → m.votes t v j ≡ true → (act a n own d m).votes t v j ≡ true
  pub only_own_votes : (m : Round) → Reached a n own m → (d : Deed) → OwnDeed d → Lawful a n own m d → (t v j : ℕ) → (act a n own d m).votes t v j ≡ true → (m.votes t v j ≡ true) ⊎ (j ≡ own)
  pub none_before_entering : (m : Round) → Reached a n own m → (t v : ℕ) → m.votes t v own ≡ true → 0 < m.entered
  -- Only entering sets the bit, and only where none is set.
  pub entering_sets_the_bit : (m : Round) → Reached a n own m → (x : ℕ) → Single x → (a.enter n own x m).entered ≡ cond (m.entered == 0) x m.entered
  -- Entering a round that has been entered changes nothing.
  pub entering_again : (m : Round) → Reached a n own m → (x : ℕ) → Single x → 0 < m.entered → a.enter n own x m ≡ m
  pub hearing_keeps_the_bit : (m : Round) → Reached a n own m → (w : Vote) → Audible a.tags n own w → (a.hear n own w m).entered ≡ m.entered
  pub steps_keep_the_bit : (m : Round) → Reached a n own m → (a.steps n own m).entered ≡ m.entered
  -- A first vote is said only with the entered bit, or with f + 1 others' first votes of it.
  pub first_vote_has_a_ground : (m : Round) → Reached a n own m → (x : ℕ) → Single x → m.votes 32 x own ≡ true → (m.entered ≡ x) ⊎ (beyond_faults n ≤ count n (first_of_others own m x))
  -- A verdict is a set of bits and stays. It holds a bit only with 2f + 1 first votes of it, and a verdict of one bit
  -- rests on 2f + 1 final votes of exactly that bit.
  pub verdict_is_a_set : (m : Round) → Reached a n own m → m.verdict < 4
  pub verdict_stays : (m : Round) → Reached a n own m → (d : Deed) → Lawful a n own m d → 0 < m.verdict → (act a n own d m).verdict ≡ m.verdict
  pub verdict_has_first_votes : (m : Round) → Reached a n own m → (x : ℕ) → Single x → Holds m.verdict x → quorum n ≤ count n (m.votes 32 x)
  pub one_bit_has_final_votes : (m : Round) → Reached a n own m → (x : ℕ) → Single x → m.verdict ≡ x → quorum n ≤ count n (m.votes a.final x)

-- every rule, at every replica of every listed hall
abbrev pub Keeps : Acts → Type 0
Keeps a = (n own : ℕ) → T (listed n) → own < n → Laws a n own

-- One round at the replicas of a hall, entered by all honest ones, each of which has heard what the others said and
-- nothing else of them, and takes no step.
pub record AtRest (a : Acts) (n : ℕ) (honest : ℕ → Bool) (m : ℕ → Round) : Type 0 where
  pub reached : (i : ℕ) → i < n → honest i ≡ true → Reached a n i (m i)
  pub entered : (i : ℕ) → i < n → honest i ≡ true → 0 < (m i).entered
  pub heard : (i j t v : ℕ) → i < n → j < n → honest i ≡ true → honest j ≡ true → (m j).votes t v j ≡ true → (m i).votes t v j ≡ true
  pub authentic : (i j t v : ℕ) → i < n → j < n → honest i ≡ true → honest j ≡ true → (m i).votes t v j ≡ true → (m j).votes t v j ≡ true
  pub still : (i : ℕ) → i < n → honest i ≡ true → a.steps n i (m i) ≡ m i

-- at rest every honest replica has its verdict; not asked of every rule
abbrev pub EndsRounds : Acts → Type 0
EndsRounds a = (n : ℕ) (honest : ℕ → Bool) (m : ℕ → Round) → T (listed n) → count n (λ j. not (honest j)) ≤ faults n → AtRest a n honest m →
    (i : ℕ) → i < n → honest i ≡ true → 0 < (m i).verdict
