-- What a round means under any rule, and what hearing a vote answers. Assumes nothing.
use Rattle.std.specs.Prelude.{ℕ, Bool, false, cond, not, ◌&&◌, ◌||◌, Some, None, Ok, Err, Option, Result, ◌==◌, nat_lt}
use Rattle.basis.specs.declared.heard.Heard.{Heard}
use Rattle.basis.specs.declared.heard.Heard.TheVariants.{New, Known}
use Rattle.messages.specs.declared.message.BitSet.{BitSet}
use Rattle.messages.specs.Tags.{bits_number}
use Rattle.rules.specs.declared.cast_vote.CastVote.{CastVote}

-- A set of bits is a number here: 1 is {0}, 2 is {1}, 3 is both, and 0 is the empty set.

-- what a rule's record of one round means
pub record Round : Type 0 where
  -- the set of the bit that the replica entered the round with; empty before
  pub entered : ℕ
  -- whether a vote is recorded, by its tag, its set and its sender
  pub votes : ℕ → ℕ → ℕ → Bool
  -- the verdict; empty where there is none
  pub verdict : ℕ

-- a cleared round has no bit, no vote and no verdict
abbrev pub cleared : Round
cleared = record { entered = 0; votes = λ _ _ _. false; verdict = 0 }

-- a vote: its tag, its set of bits, its sender
pub record Vote : Type 0 where
  pub tag : ℕ
  pub set : ℕ
  pub sender : ℕ

abbrev pub vote_of : CastVote → Vote
vote_of w = record { tag = w.tag; set = bits_number w.bits; sender = w.sender }

-- the set of one bit, and the sets of a bit and of a verdict that may be missing
abbrev pub bit_set : Bool → ℕ
bit_set b = cond b 2 1

abbrev pub bit_if_any : Option Bool → ℕ
bit_if_any None = 0
bit_if_any (Some b) = bit_set b

abbrev pub set_if_any : Option BitSet → ℕ
set_if_any None = 0
set_if_any (Some s) = bits_number s

-- this vote is recorded; some vote of its tag and sender is
abbrev pub recorded : Vote → Round → Bool
recorded w m = m.votes w.tag w.set w.sender

abbrev pub voted : ℕ → ℕ → Round → Bool
voted t j m = m.votes t 1 j || (m.votes t 2 j || m.votes t 3 j)

-- some vote of its sender is recorded under its tag, which, being above 0x20, bears one vote of each sender; of a vote that is
-- not recorded itself this makes a contradiction
abbrev pub contradicts : Vote → Round → Bool
contradicts w m = nat_lt 32 w.tag && voted w.tag w.sender m

-- a recorded vote is known; one that contradicts a recorded one is refused with 13, and no other
abbrev pub hear_answer : Vote → Round → Result Heard ℕ
hear_answer w m = cond (recorded w m) (Ok Known) (cond (contradicts w m) (Err 13) (Ok New))

abbrev pub is_new : Vote → Round → Bool
is_new w m = not (recorded w m) && not (contradicts w m)

-- the votes with one more
abbrev pub adding : ℕ → ℕ → ℕ → (ℕ → ℕ → ℕ → Bool) → ℕ → ℕ → ℕ → Bool
adding t v j votes t' v' j' = votes t' v' j' || (t' == t && (v' == v && j' == j))
