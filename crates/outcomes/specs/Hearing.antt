-- What hearing a packet answers and leaves. Assumes nothing.
use Rattle.std.specs.Prelude.{ℕ, zero, suc, Bool, cond, not, ◌&&◌, List, Ok, Err, Result, ◌==◌, nat_lt, slice_index_or, slice_set}
use Rattle.basis.specs.Refusals.{Refused, refused}
use Rattle.basis.specs.declared.heard.Heard.{Heard}
use Rattle.ballots.specs.Ballots.{with_opening}
use Rattle.ballots.specs.States.{place, round_at}
use Rattle.broadcast.specs.Calls.{sheet_answer, if_new}
use Rattle.coins.specs.Coins.{take_answer, take_after}
use Rattle.coins.specs.declared.share.Share.{Share as CoinShare}
use Rattle.messages.specs.declared.message.Message.{Message}
use Rattle.messages.specs.declared.message.Message.TheVariants.{Sheet, Bit, Set, Share}
use Rattle.messages.specs.Reading.{Placed, and_then, reading}
use Rattle.messages.specs.Tags.{vote_tag, bits_number}
use Rattle.messages.specs.Writing.{slot_of}
use Rattle.phases.specs.Steps.{hears}
use Rattle.rules.specs.Rounds.{Vote, cleared, bit_set, hear_answer}
use Rattle.slots.specs.Steps.{noted}
use Rattle.outcomes.specs.Holdings.{Setting, Holding, syntax_of, sizes_ok, ballot_at, state_of, with_slots, with_ballot, with_rounds, with_coin}
use Rattle.outcomes.specs.Taking.{slot_taken}

-- a vote's or a share's answer: a contradiction is refused at 5, where its value stands
abbrev pub at_value : Result Heard ℕ → Result Heard Refused
at_value (Ok x) = Ok x
at_value (Err e) = refused e 5

-- a vote for one bit, and a vote for a set, by their sender
abbrev pub bit_vote : ℕ → ℕ → Bool → Vote
bit_vote j tag b = record { tag = tag; set = bit_set b; sender = j }

abbrev pub set_vote : ℕ → ℕ → ℕ → Vote
set_vote j tag v = record { tag = tag; set = v; sender = j }

abbrev pub share_from : ℕ → ℕ → ℕ → ℕ → CoinShare
share_from j k r x = record { ballot = k; round = r; sender = j; value = x }

module _ {R C : Type 0} (g : Setting R C) (n own j : ℕ) where
  -- what a vote comes to in round r of ballot k
  abbrev pub vote_answer : ℕ → ℕ → Vote → Holding R C → Result Heard Refused
  vote_answer k r w h = at_value (hear_answer w (round_at k r (state_of k h)))

  -- the vote is recorded: round 0 stands in the ballot's record, the others in the rule's
  abbrev pub vote_noted : ℕ → ℕ → Vote → Holding R C → Holding R C
  vote_noted k zero w h = with_ballot k (with_opening (hears w (ballot_at k h).opening) (ballot_at k h)) h
  vote_noted k (suc r) w h = with_rounds (slice_set h.rounds (place k r) (g.rule.hear n own w (slice_index_or h.rounds (place k r) cleared))) h

  -- checks 12 and 13
  abbrev pub message_answer : Holding R C → Message Placed → Result Heard Refused
  message_answer h (Sheet ph k p) = sheet_answer g.rows n j h.slots ph k p.bytes
  message_answer h (Bit vote k r b) = vote_answer k r (bit_vote j (vote_tag vote) b) h
  message_answer h (Set tag k r v) = vote_answer k r (set_vote j tag (bits_number v)) h
  message_answer h (Share k r x) = at_value (take_answer g.coins h.coin (share_from j k r x))

  -- the message is recorded under its sender
  abbrev pub message_noted : Message Placed → Holding R C → Holding R C
  message_noted (Sheet ph k p) h = with_slots (noted g.rows n own k ph j h.slots p.bytes) h
  message_noted (Bit vote k r b) h = vote_noted k r (bit_vote j (vote_tag vote) b) h
  message_noted (Set tag k r v) h = vote_noted k r (set_vote j tag (bits_number v)) h
  message_noted (Share k r x) h = with_coin (take_after g.coins h.coin (share_from j k r x)) h

  -- and the steps of its slot are taken
  abbrev pub message_taken : Holding R C → Result (Message Placed) Refused → Holding R C
  message_taken h (Ok m) = slot_taken g n own (slot_of m) (message_noted m h)
  message_taken h (Err e) = h

  -- checks 4 and 5, those of reading, 12 and 13
  abbrev pub hear_answer_lem : List ℕ → Holding R C → Result Heard Refused
  hear_answer_lem xs h =
      cond (sizes_ok n h)
      (cond (nat_lt j n && not (j == own)) (and_then (reading (syntax_of g n) xs) (message_answer h)) (refused 5 0))
      (refused 4 0)

  abbrev pub hear_after : List ℕ → Holding R C → Holding R C
  hear_after xs h = if_new (hear_answer_lem xs h) (message_taken h (reading (syntax_of g n) xs)) h
