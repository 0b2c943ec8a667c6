-- The calls of a replica: which its state allows, what each leaves, and what it has said. Assumes nothing.
use Rattle.std.specs.Prelude.{◌≡◌, ℕ, true, cond, ◌⊎◌, List, Some, Ok, Err, Result}
use Rattle.basis.specs.Bytes.{Octets}
use Rattle.basis.specs.Refusals.{Refused}
use Rattle.ballots.specs.States.{round_at}
use Rattle.broadcast.specs.Calls.{may_send}
use Rattle.messages.specs.declared.message.Message.{Message}
use Rattle.messages.specs.declared.message.Message.TheVariants.{Sheet, Bit, Set, Share}
use Rattle.messages.specs.Reading.{Lawful}
use Rattle.messages.specs.Tags.{vote_tag, bits_number}
use Rattle.messages.specs.Writing.{written}
use Rattle.rules.specs.Rounds.{bit_set}
use Rattle.slots.specs.Places.{recorded}
use Rattle.outcomes.specs.Holdings.{Life, Fresh, Running, Closed, Setting, Holding, syntax_of, sizes_ok, state_of, with_life}
use Rattle.outcomes.specs.Taking.{looked}
use Rattle.outcomes.specs.Opening.{offer_after}
use Rattle.outcomes.specs.Hearing.{hear_after}
use Rattle.outcomes.specs.Closing.{close_answer, closing_view}

-- a call at a replica that is open: offer by the bytes of a sheet, hear by a sender's number and a packet, say by a
-- position, list by an index; write is the call that gives the closing record
pub data Call : Type 0 where
  offer : List ℕ → Call
  hear : (sender : ℕ) (packet : List ℕ) → Call
  look : Call
  say : ℕ → Call
  close : Call
  list : ℕ → Call
  write : Call

-- what is left where an answer is none of a refusal, and else
abbrev pub if_accepted : {X Y : Type 0} → Result X Refused → Y → Y → Y
if_accepted (Ok x) y z = y
if_accepted (Err e) y z = z

module _ {R C : Type 0} (g : Setting R C) (n own : ℕ) where
  abbrev pub look_after : Holding R C → Holding R C
  look_after h = cond (sizes_ok n h) (looked g n own n h) h

  abbrev pub close_after : Holding R C → Holding R C
  close_after h = if_accepted (close_answer g.rows n (closing_view h)) (with_life Closed h) h

  -- what a call leaves
  abbrev pub call_after : Call → Holding R C → Holding R C
  call_after (offer s) h = offer_after g n own s h
  call_after (hear j xs) h = hear_after g n own j xs h
  call_after look h = look_after h
  call_after (say from) h = h
  call_after close h = close_after h
  call_after (list index) h = h
  call_after write h = h

  -- the replica has said a message: it is recorded under the own number
  abbrev pub HasSaid : Holding R C → Message (List ℕ) → Type 0
  HasSaid h (Sheet ph k s) = (may_send ph k own ≡ true) × (recorded g.rows n h.slots.places ph k own ≡ Some s)
  HasSaid h (Bit vote k r b) = (round_at k r (state_of k h)).votes (vote_tag vote) (bit_set b) own ≡ true
  HasSaid h (Set tag k r v) = (round_at k r (state_of k h)).votes tag (bits_number v) own ≡ true
  HasSaid h (Share k r x) = g.coins.taken_of h.coin k r own ≡ Some x

  -- these bytes are a lawful message that the replica has said
  pub record Said (h : Holding R C) (xs : List ℕ) : Type 0 where
    pub message : Message (List ℕ)
    pub lawful : Lawful (syntax_of g n) message
    pub has_said : HasSaid h message
    pub bytes : xs ≡ written message

-- a replica that has offered
abbrev pub HasOffered : Life → Type 0
HasOffered l = (l ≡ Running) ⊎ (l ≡ Closed)

-- a fresh replica can only offer, and only a closed one lists or gives its record; a sheet is lawful, and a packet is bytes
abbrev pub Allowed : {R C : Type 0} → Setting R C → Call → Holding R C → Type 0
Allowed g (offer s) h = (h.life ≡ Fresh) × (g.lawful s ≡ true) × Octets s
Allowed g (hear j xs) h = HasOffered h.life × Octets xs
Allowed g look h = HasOffered h.life
Allowed g (say from) h = HasOffered h.life
Allowed g close h = h.life ≡ Running
Allowed g (list index) h = h.life ≡ Closed
Allowed g write h = h.life ≡ Closed
