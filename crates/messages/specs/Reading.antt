-- What reading a packet answers, and the law that it is the inverse of writing. Assumes nothing.
use Rattle.std.specs.Prelude.{◌≡◌, ℕ, ◌+◌, ◌*◌, ◌<◌, ◌≤◌, Bool, true, cond, ◌&&◌, List, length, drop, Some, None, Ok, Err, Option, Result, ◌==◌, nat_le, nat_lt, slice_index}
use Rattle.basis.specs.Bytes.{Octets}
use Rattle.basis.specs.Refusals.{Refused, refused, told}
use Rattle.basis.specs.declared.refusal.Refusal.{Refusal}
use Rattle.messages.specs.declared.message.BitSet.{BitSet}
use Rattle.messages.specs.declared.message.Kind.{Kind}
use Rattle.messages.specs.declared.message.Message.{Message}
use Rattle.messages.specs.declared.message.Message.TheVariants.{Sheet, Bit, Set, Share}
use Rattle.messages.specs.declared.message.Part.{Part}
use Rattle.messages.specs.declared.message.Shape.{Shape}
use Rattle.messages.specs.declared.message.Shape.TheVariants as shape
use Rattle.messages.specs.declared.tags.Format.{Format}
use Rattle.messages.specs.Tags.{phase_of_lem, vote_of, bits_of, kind_shape, uses, is_set_tag, shape_at}
use Rattle.messages.specs.Writing.{on_sheet, written, body_length, position}

-- all that a reading depends on: the hall size, the sheets' length and which bytes are a sheet, the rule's tags, and
-- whether the coin uses shares
pub record Syntax : Type 0 where
  pub replicas : ℕ
  pub size : ℕ
  pub lawful : List ℕ → Bool
  pub tags : ℕ → Bool
  pub shares : Bool

abbrev pub syntax : ℕ → (List ℕ → Bool) → Format → Syntax
syntax size lawful f = record { replicas = f.n; size = size; lawful = lawful; tags = uses f.tags; shares = f.shares }

-- a sheet as a part of a packet: where it begins, and its bytes
pub record Placed : Type 0 where
  pub at : ℕ
  pub bytes : List ℕ

abbrev pub part_placed : Part → Placed
part_placed p = record { at = p.at; bytes = p.bytes.now }

-- an answer with its sheet by value
abbrev pub plain : Result (Message Part) Refusal → Result (Message Placed) Refused
plain (Ok m) = Ok (on_sheet part_placed m)
plain (Err e) = told (Err e)

-- an answer with its kind by its shape
abbrev pub kind_told : Result Kind Refusal → Result Shape Refused
kind_told (Ok k) = Ok (kind_shape k)
kind_told (Err e) = told (Err e)

-- goes on where the checks so far have passed
abbrev pub and_then : {X Y : Type 0} → Result X Refused → (X → Result Y Refused) → Result Y Refused
and_then (Ok x) k = k x
and_then (Err e) k = Err e

-- the length that a packet declares
abbrev pub declared : List ℕ → ℕ
declared xs = slice_index xs 1 * 256 + slice_index xs 2

-- the right length for a shape
abbrev pub shaped : Syntax → List ℕ → Option Shape → Result Shape Refused
shaped y xs None = refused 7 0
shaped y xs (Some s) = cond (declared xs == body_length y.size s) (Ok s) (refused 8 1)

-- one whole message and no byte more; a tag that is used; its right length
abbrev pub head_reading : Syntax → List ℕ → Result Shape Refused
head_reading y xs =
    cond (nat_lt (length xs) 3) (refused 6 (length xs))
    (cond (nat_lt (length xs) (3 + declared xs)) (refused 6 (length xs))
    (cond (nat_lt (3 + declared xs) (length xs)) (refused 6 (3 + declared xs))
    (shaped y xs (shape_at y.tags y.shares (slice_index xs 0)))))

-- from the first round of the shape to round 15
abbrev pub round_in : ℕ → List ℕ → Bool
round_in first xs = nat_le first (slice_index xs 4) && nat_le (slice_index xs 4) 15

abbrev pub set_reading : List ℕ → Option BitSet → Result (Message Placed) Refused
set_reading xs None = refused 11 5
set_reading xs (Some v) = Ok (Set (slice_index xs 0) (slice_index xs 3) (slice_index xs 4) v)

-- the round in range, and the value or sheet lawful
abbrev pub value_reading : Syntax → List ℕ → Shape → Result (Message Placed) Refused
value_reading y xs shape.Sheet =
    cond (y.lawful (drop 4 xs)) (Ok (Sheet (phase_of_lem (slice_index xs 0)) (slice_index xs 3) (record { at = 4; bytes = drop 4 xs }))) (refused 11 4)
value_reading y xs shape.Bit =
    cond (round_in 0 xs) (cond (nat_le (slice_index xs 5) 1) (Ok (Bit (vote_of (slice_index xs 0)) (slice_index xs 3) (slice_index xs 4) (slice_index xs 5 == 1))) (refused 11 5)) (refused 10 4)
value_reading y xs shape.Set =
    cond (round_in 1 xs) (set_reading xs (bits_of (slice_index xs 5))) (refused 10 4)
value_reading y xs shape.Share =
    cond (round_in 1 xs) (cond (nat_le (slice_index xs 5) 250) (Ok (Share (slice_index xs 3) (slice_index xs 4) (slice_index xs 5))) (refused 11 5)) (refused 10 4)

-- the slot below the hall size, then the round and the value
abbrev pub body_reading : Syntax → List ℕ → Shape → Result (Message Placed) Refused
body_reading y xs s = cond (nat_lt (slice_index xs 3) y.replicas) (value_reading y xs s) (refused 9 3)

-- what a reading answers: the message, or the first check that fails with its place
abbrev pub reading : Syntax → List ℕ → Result (Message Placed) Refused
reading y xs = and_then (head_reading y xs) (body_reading y xs)

-- the messages that may be said
abbrev pub Lawful : Syntax → Message (List ℕ) → Type 0
Lawful y (Sheet phase slot s) = (slot < y.replicas) × (y.lawful s ≡ true)
Lawful y (Bit vote slot round b) = (slot < y.replicas) × (round ≤ 15)
Lawful y (Set tag slot round v) = (slot < y.replicas) × (1 ≤ round) × (round ≤ 15) × (is_set_tag tag ≡ true) × (y.tags tag ≡ true)
Lawful y (Share slot round x) = (slot < y.replicas) × (1 ≤ round) × (round ≤ 15) × (x ≤ 250) × (y.shares ≡ true)

-- a message in a packet of its own: its sheet begins at 4
abbrev pub placed : Message (List ℕ) → Message Placed
placed m = on_sheet (λ s. record { at = 4; bytes = s }) m

-- reading and writing fit: a lawful message that is written reads back as itself, and whatever is read was the
-- writing of the lawful message that is read; so no other bytes read as it
pub record Exact (y : Syntax) : Type 0 where
  pub back : (m : Message (List ℕ)) → Lawful y m → reading y (written m) ≡ Ok (placed m)
  pub only : (xs : List ℕ) → Octets xs → (p : Message Placed) → reading y xs ≡ Ok p → (m : Message (List ℕ)) × Lawful y m × (xs ≡ written m) × (p ≡ placed m)

-- a message without its sheet
abbrev pub bare : {P : Type 0} → Message P → Message ℕ
bare m = on_sheet (λ _. 0) m

-- in a hall of at most 16, lawful messages at one position differ in their sheets at most
abbrev pub PositionsApart : Type 0
PositionsApart = (y : Syntax) → y.replicas ≤ 16 → (m m' : Message (List ℕ)) → Lawful y m → Lawful y m' → position m ≡ position m' → bare m ≡ bare m'
