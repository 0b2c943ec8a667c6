-- Which messages a replica has said, in the order of their positions, and what say answers and writes. Assumes nothing.
use Rattle.std.specs.Prelude.{ℕ, zero, suc, ◌+◌, Bool, cond, ◌&&◌, List, Some, None, Option, Result, ◌==◌, nat_le}
use Rattle.basis.specs.Refusals.{Refused, refused}
use Rattle.ballots.specs.States.{round_at}
use Rattle.broadcast.specs.Saying.{at_or_after, told_position, put_message, next_said}
use Rattle.coins.specs.Coins.{Acts as Coin-acts}
use Rattle.messages.specs.declared.message.BitSet.{BitSet}
use Rattle.messages.specs.declared.message.BitSet.TheVariants.{Zero, One, Both}
use Rattle.messages.specs.declared.message.Message.{Message}
use Rattle.messages.specs.declared.message.Message.TheVariants.{Bit, Set, Share}
use Rattle.messages.specs.Tags.{uses, vote_of, bits_number}
use Rattle.slots.specs.Places.{or_else}
use Rattle.outcomes.specs.Holdings.{Setting, Holding, sizes_ok, state_of}

-- the first answer that is there, of those of the numbers below m
unfoldable pub first_of : {X : Type 0} → (ℕ → Option X) → ℕ → Option X
first_of f zero = None
first_of f (suc m) = or_else (first_of f m) (f m)

-- a message, if it is said
abbrev pub if_said : Bool → Message (List ℕ) → Option (Message (List ℕ))
if_said said m = cond said (Some m) None

-- a vote's message: under 0x20 and 0x21 for one bit, else for a set
abbrev pub vote_message : {P : Type 0} → ℕ → ℕ → ℕ → BitSet → Message P
vote_message t k r v = cond (nat_le t 33) (Bit (vote_of t) k r (bits_number v == 2)) (Set t k r v)

-- Votes for both bits under 0x20 and 0x21, and votes of sets in round 0, there are none.
abbrev pub may_be_cast : ℕ → ℕ → BitSet → Bool
may_be_cast t r v = cond (nat_le t 33) (nat_le (bits_number v) 2) (nat_le 1 r)

-- a share's message, if there is a share
abbrev pub share_message : ℕ → ℕ → Option ℕ → Option (Message (List ℕ))
share_message k r None = None
share_message k r (Some x) = Some (Share k r x)

module _ {R C : Type 0} (own : ℕ) (h : Holding R C) where
  -- a vote under the own number, if it is recorded
  abbrev pub is_vote_said : ℕ → ℕ → ℕ → BitSet → Bool
  is_vote_said t k r v = may_be_cast t r v && (round_at k r (state_of k h)).votes t (bits_number v) own

  abbrev pub vote_said : ℕ → ℕ → ℕ → BitSet → Option (Message (List ℕ))
  vote_said t k r v = if_said (is_vote_said t k r v) (vote_message t k r v)

  module _ (from : ℕ) where
    abbrev pub vote_from : ℕ → ℕ → ℕ → BitSet → Option (Message (List ℕ))
    vote_from t k r v = at_or_after from (vote_said t k r v)

    -- the first vote at or after a position: of a tag, slot and round, of a tag and slot, of a tag
    abbrev pub first_value : ℕ → ℕ → ℕ → Option (Message (List ℕ))
    first_value t k r = or_else (vote_from t k r Zero) (or_else (vote_from t k r One) (vote_from t k r Both))

    abbrev pub first_in_ballot : ℕ → ℕ → Option (Message (List ℕ))
    first_in_ballot t k = first_of (first_value t k) 16

    abbrev pub first_under : ℕ → ℕ → Option (Message (List ℕ))
    first_under n t = first_of (first_in_ballot t) n

module _ {C : Type 0} (coins : Coin-acts C) (own : ℕ) (c : C) where
  -- the own share, if it is taken
  abbrev pub share_said : ℕ → ℕ → Option (Message (List ℕ))
  share_said k r = share_message k r (coins.taken_of c k r own)

  module _ (from : ℕ) where
    -- the first share at or after a position: of a ballot, in its rounds from 1 on, and of all
    abbrev pub share_from : ℕ → ℕ → Option (Message (List ℕ))
    share_from k r = at_or_after from (share_said k (suc r))

    abbrev pub first_share_in : ℕ → Option (Message (List ℕ))
    first_share_in k = first_of (share_from k) 15

    abbrev pub first_share : ℕ → Option (Message (List ℕ))
    first_share n = cond coins.uses (first_of first_share_in n) None

module _ {R C : Type 0} (g : Setting R C) (n own : ℕ) (h : Holding R C) (from : ℕ) where
  -- the first vote under a tag that the rule uses, and the first under any, from 0x20 to 0x2F
  abbrev pub first_if_used : ℕ → Option (Message (List ℕ))
  first_if_used t = cond (uses g.rule.tags t) (first_under own h from n t) None

  abbrev pub lowest_vote : Option (Message (List ℕ))
  lowest_vote = first_of (λ i. first_if_used (32 + i)) 16

  -- the first of all: sheet messages, votes by their tags, shares
  abbrev pub next_message : Option (Message (List ℕ))
  next_message = or_else (next_said g.rows n own h.slots.places from) (or_else lowest_vote (first_share g.coins own h.coin from n))

  -- say: the sizes of the tables, then the first message said at or after the position, or none; the output long enough
  abbrev pub say_answer : List ℕ → Result (Option ℕ) Refused
  say_answer out = cond (sizes_ok n h) (told_position next_message out) (refused 4 0)

  abbrev pub say_output : List ℕ → List ℕ
  say_output out = cond (sizes_ok n h) (put_message next_message out) out
