-- What the calls of a replica answer and leave, as far as sheets go. Assumes nothing.
use Rattle.std.specs.Prelude.{◌≡◌, ℕ, zero, suc, ◌*◌, ◌<◌, Bool, true, false, cond, not, ◌&&◌, List, length, get_or, Some, None, Ok, Err, Option, Result, ◌==◌, nat_le, nat_lt, slice_index_or}
use Rattle.std.specs.Str.{bytes_eq}
use Rattle.basis.specs.Bytes.{Octets}
use Rattle.basis.specs.Refusals.{Refused, refused}
use Rattle.messages.specs.declared.message.Message.{Message}
use Rattle.messages.specs.declared.message.Message.TheVariants.{Sheet, Bit, Set, Share}
use Rattle.messages.specs.declared.message.Phase.{Phase}
use Rattle.messages.specs.declared.message.Phase.TheVariants.{Send, Echo, Ready}
use Rattle.messages.specs.Writing.{written}
use Rattle.messages.specs.Reading.{Syntax, Placed, and_then, reading}
use Rattle.basis.specs.declared.heard.Heard.{Heard}
use Rattle.basis.specs.declared.heard.Heard.TheVariants.{New, Known}
use Rattle.sheets.specs.Holds.{Rows}
use Rattle.slots.specs.Places.{all_places, recorded}
use Rattle.slots.specs.Steps.{Slots, cleared, noted, settled}
use Rattle.broadcast.specs.Runs.{Call, offer, hear, look, ask, close, Node}

-- a replica that has not offered, and one that has; a closed one is running here
pub data Life : Type 0 where
  Fresh : Life
  Running : Life

-- what a replica holds: its tables, of the round records only their number
pub record Holding (R : Type 0) : Type 0 where
  pub life : Life
  pub slots : Slots R
  pub rounds : ℕ

-- check 4: the tables are large enough
abbrev pub fits_hall : ℕ → ℕ → ℕ → ℕ → Bool
fits_hall n records rounds places = nat_le n records && (nat_le (15 * n) rounds && nat_le (all_places n) places)

abbrev pub sizes_ok : {R : Type 0} → ℕ → Holding R → Bool
sizes_ok n t = fits_hall n (length t.slots.records) t.rounds (length t.slots.places)

-- check 12: a send comes from its slot's replica
abbrev pub may_send : Phase → ℕ → ℕ → Bool
may_send Send k j = k == j
may_send Echo k j = true
may_send Ready k j = true

-- check 13: no other sheet is recorded
abbrev pub compared : Option (List ℕ) → List ℕ → Result Heard Refused
compared None s = Ok New
compared (Some r) s = cond (bytes_eq r s) (Ok Known) (refused 13 4)

-- checks 12 and 13 of a sheet message
abbrev pub sheet_answer : {R : Type 0} → Rows R → ℕ → ℕ → Slots R → Phase → ℕ → List ℕ → Result Heard Refused
sheet_answer rows n j t ph k s = cond (may_send ph k j) (compared (recorded rows n t.places ph k j) s) (refused 12 3)

-- what is left where the answer is new, and else
abbrev pub if_new : {X : Type 0} → Result Heard Refused → X → X → X
if_new (Ok New) x y = x
if_new (Ok Known) x y = y
if_new (Err e) x y = y

-- a hall and a kind of sheet, where no tag matters
abbrev pub of_hall : ℕ → ℕ → (List ℕ → Bool) → Syntax
of_hall n size lawful = record { replicas = n; size = size; lawful = lawful; tags = λ _. false; shares = false }

-- what a call answers that only asks for the sizes
abbrev pub large_enough : {R : Type 0} → Syntax → Holding R → Result (Unit {0}) Refused
large_enough y t = cond (sizes_ok y.replicas t) (Ok tt) (refused 4 0)

-- the hall size, the kind of sheet and the tags that are used are those of the syntax
module _ {R : Type 0} (rows : Rows R) (y : Syntax) where
  module _ (own j : ℕ) where
    -- checks 12 and 13; tags of votes and shares are not used here
    abbrev pub taking : Slots R → Message Placed → Result Heard Refused
    taking t (Sheet ph k p) = sheet_answer rows y.replicas j t ph k p.bytes
    taking t (Bit vote k r b) = refused 7 0
    taking t (Set tag k r v) = refused 7 0
    taking t (Share k r x) = refused 7 0

    -- checks 4 and 5, those of reading, 12 and 13
    abbrev pub hear_answer : List ℕ → Holding R → Result Heard Refused
    hear_answer xs t =
        cond (sizes_ok y.replicas t)
        (cond (nat_lt j y.replicas && not (j == own)) (and_then (reading y xs) (taking t.slots)) (refused 5 0))
        (refused 4 0)

    -- the message is recorded, and the steps of its slot are taken
    abbrev pub taken : Slots R → Result (Message Placed) Refused → Slots R
    taken t (Ok (Sheet ph k p)) = settled rows y.replicas own k 3 (noted rows y.replicas own k ph j t p.bytes)
    taken t (Ok (Bit vote k r b)) = t
    taken t (Ok (Set tag k r v)) = t
    taken t (Ok (Share k r x)) = t
    taken t (Err e) = t

    abbrev pub hear_after : List ℕ → Holding R → Holding R
    hear_after xs t = if_new (hear_answer xs t) (record { life = t.life; slots = taken t.slots (reading y xs); rounds = t.rounds }) t

  module _ (own : ℕ) where
    -- check 4; the send of the sheet is said, and the steps of the own slot are taken
    abbrev pub offer_after : List ℕ → Holding R → Holding R
    offer_after s t =
        cond (sizes_ok y.replicas t)
        (record { life = Running; slots = settled rows y.replicas own own 3 (noted rows y.replicas own own Send own t.slots s); rounds = t.rounds })
        t

    -- the steps of the slots below m are taken, the lowest slot first
    unfoldable pub looked : ℕ → Slots R → Slots R
    looked zero t = t
    looked (suc m) t = settled rows y.replicas own m 3 (looked m t)

    -- check 4; the steps of every slot are taken
    abbrev pub look_after : Holding R → Holding R
    look_after t = cond (sizes_ok y.replicas t) (record { life = t.life; slots = looked y.replicas t.slots; rounds = t.rounds }) t

    -- a sheet message in these bytes is recorded under the replica's own number
    pub record Said (t : Holding R) (xs : List ℕ) : Type 0 where
      pub phase : Phase
      pub slot : ℕ
      pub sheet : List ℕ
      pub low : slot < y.replicas
      pub allowed : may_send phase slot own ≡ true
      pub stands : recorded rows y.replicas t.slots.places phase slot own ≡ Some sheet
      pub bytes : xs ≡ written (Sheet phase slot sheet)

    -- what a call leaves
    abbrev pub call_after : Call (List ℕ) → Holding R → Holding R
    call_after (offer s) t = offer_after s t
    call_after (hear j xs) t = hear_after own j xs t
    call_after look t = look_after t
    call_after ask t = t
    call_after close t = t

  -- what open leaves: tables that are large enough, nothing delivered and nothing recorded
  pub record Opened (t : Holding R) : Type 0 where
    pub fresh : t.life ≡ Fresh
    pub sizes : sizes_ok y.replicas t ≡ true
    pub undelivered : (k : ℕ) → k < y.replicas → (get_or t.slots.records k cleared).delivered ≡ None
    pub empty : (p : ℕ) → p < all_places y.replicas → rows.held (slice_index_or t.slots.places p rows.vacant) ≡ None

  -- a fresh replica can only offer; a sheet is lawful, and a packet is bytes
  abbrev pub Allowed : Call (List ℕ) → Holding R → Type 0
  Allowed (offer s) t = (t.life ≡ Fresh) × (y.lawful s ≡ true) × Octets s
  Allowed (hear j xs) t = (t.life ≡ Running) × Octets xs
  Allowed look t = t.life ≡ Running
  Allowed ask t = t.life ≡ Running
  Allowed close t = t.life ≡ Running

  -- the replicas of the sheet broadcast
  abbrev pub replicas : Node (Holding R) (List ℕ)
  replicas = record { opened = λ own t. Opened t; can = Allowed; after = call_after; said = Said }
