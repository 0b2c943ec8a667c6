-- A message's bytes and position, and what writing it leaves. Assumes nothing.
use Rattle.std.specs.Prelude.{ℕ, ◌+◌, ◌*◌, Bool, true, false, cond, List, [], ◌∷◌, ◌++◌, length, drop, Ok, Result, nat_lt}
use Rattle.basis.specs.Bytes.{be}
use Rattle.basis.specs.Refusals.{Refused, refused}
use Rattle.messages.specs.declared.message.Message.{Message}
use Rattle.messages.specs.declared.message.Message.TheVariants.{Sheet, Bit, Set, Share}
use Rattle.messages.specs.declared.message.Shape.{Shape}
use Rattle.messages.specs.declared.message.Shape.TheVariants as shape
use Rattle.messages.specs.Tags.{phase_tag, vote_tag, bits_number, share_tag}

-- the message with its sheet put another way
abbrev pub on_sheet : {P Q : Type 0} → (P → Q) → Message P → Message Q
on_sheet g (Sheet phase slot s) = Sheet phase slot (g s)
on_sheet g (Bit vote slot round b) = Bit vote slot round b
on_sheet g (Set tag slot round v) = Set tag slot round v
on_sheet g (Share slot round x) = Share slot round x

abbrev pub bit_number : Bool → ℕ
bit_number true = 1
bit_number false = 0

abbrev pub tag_of : {P : Type 0} → Message P → ℕ
tag_of (Sheet phase slot s) = phase_tag phase
tag_of (Bit vote slot round b) = vote_tag vote
tag_of (Set tag slot round v) = tag
tag_of (Share slot round x) = share_tag

abbrev pub slot_of : {P : Type 0} → Message P → ℕ
slot_of (Sheet phase slot s) = slot
slot_of (Bit vote slot round b) = slot
slot_of (Set tag slot round v) = slot
slot_of (Share slot round x) = slot

-- sheet messages have round and value 0
abbrev pub round_of : {P : Type 0} → Message P → ℕ
round_of (Sheet phase slot s) = 0
round_of (Bit vote slot round b) = round
round_of (Set tag slot round v) = round
round_of (Share slot round x) = round

abbrev pub value_of : {P : Type 0} → Message P → ℕ
value_of (Sheet phase slot s) = 0
value_of (Bit vote slot round b) = bit_number b
value_of (Set tag slot round v) = bits_number v
value_of (Share slot round x) = x

-- where a message stands among all that a replica may say: by tag, then slot, round and value
abbrev pub position : {P : Type 0} → Message P → ℕ
position m = ((tag_of m * 16 + slot_of m) * 16 + round_of m) * 256 + value_of m

-- what follows the tag and the length
abbrev pub body : Message (List ℕ) → List ℕ
body (Sheet phase slot s) = slot ∷ s
body (Bit vote slot round b) = slot ∷ round ∷ bit_number b ∷ []
body (Set tag slot round v) = slot ∷ round ∷ bits_number v ∷ []
body (Share slot round x) = slot ∷ round ∷ x ∷ []

-- a tag of one byte, a length of two, the most significant first, and the body
abbrev pub written : Message (List ℕ) → List ℕ
written m = tag_of m ∷ (be 2 (length (body m)) ++ body m)

-- how long the body is, for sheets of a given size
abbrev pub body_length : ℕ → Shape → ℕ
body_length size shape.Sheet = size + 1
body_length size shape.Bit = 3
body_length size shape.Set = 3
body_length size shape.Share = 3

abbrev pub shape_of_message : {P : Type 0} → Message P → Shape
shape_of_message (Sheet phase slot s) = shape.Sheet
shape_of_message (Bit vote slot round b) = shape.Bit
shape_of_message (Set tag slot round v) = shape.Set
shape_of_message (Share slot round x) = shape.Share

-- writing bytes at the start of an output: refused with 16 where it is too short, and else their number
abbrev pub write_answer : List ℕ → List ℕ → Result ℕ Refused
write_answer bytes out = cond (nat_lt (length out) (length bytes)) (refused 16 0) (Ok (length bytes))

-- what it leaves: all as it was, or the bytes and then the rest as it was
abbrev pub write_output : List ℕ → List ℕ → List ℕ
write_output bytes out = cond (nat_lt (length out) (length bytes)) out (bytes ++ drop (length bytes) out)
