-- Tags and the numbers of values. Assumes nothing.
use Rattle.std.specs.Prelude.{ℕ, ◌-◌, ◌^◌, Bool, cond, ◌&&◌, ◌||◌, Some, None, Option, Result, MatchResult, ◌≡◌, ◌==◌, bit_or, nat_le}
use Rattle.basis.specs.Counts.{has}
use Rattle.messages.specs.declared.message.BitSet.{BitSet}
use Rattle.messages.specs.declared.message.BitSet.TheVariants.{Zero, One, Both}
use Rattle.messages.specs.declared.message.Kind.{Kind}
use Rattle.messages.specs.declared.message.Kind.TheVariants as kind
use Rattle.messages.specs.declared.message.Phase.{Phase}
use Rattle.messages.specs.declared.message.Phase.TheVariants.{Send, Echo, Ready}
use Rattle.messages.specs.declared.message.Shape.{Shape}
use Rattle.messages.specs.declared.message.Shape.TheVariants as shape
use Rattle.messages.specs.declared.message.Vote.{Vote}
use Rattle.messages.specs.declared.message.Vote.TheVariants.{First, Second}
use Rattle.messages.specs.declared.tags.NoBitSet.{NoBitSet}
use Rattle.messages.specs.declared.tags.VoteTags.{VoteTags}

-- 0x10, 0x11 and 0x12
abbrev pub phase_tag : Phase → ℕ
phase_tag Send = 16
phase_tag Echo = 17
phase_tag Ready = 18

abbrev pub phase_of_lem : ℕ → Phase
phase_of_lem t = cond (t == 16) Send (cond (t == 17) Echo Ready)

-- 0x20 and 0x21
abbrev pub vote_tag : Vote → ℕ
vote_tag First = 32
vote_tag Second = 33

abbrev pub vote_of : ℕ → Vote
vote_of t = cond (t == 32) First Second

-- 0x22 to 0x2F carry a set of bits
abbrev pub is_set_tag : ℕ → Bool
is_set_tag t = nat_le 34 t && nat_le t 47

-- 0x30
abbrev pub share_tag : ℕ
share_tag = 48

-- 1 is {0}, 2 is {1}, 3 is both
abbrev pub bits_number : BitSet → ℕ
bits_number Zero = 1
bits_number One = 2
bits_number Both = 3

abbrev pub bits_of : ℕ → Option BitSet
bits_of x = cond (x == 1) (Some Zero) (cond (x == 2) (Some One) (cond (x == 3) (Some Both) None))

-- a number is turned into the set that it names, and into no set where it names none
abbrev pub NumbersBits : ℕ → Result BitSet NoBitSet → Type 0
NumbersBits x r = MatchResult r (λ bits. bits_of x ≡ Some bits) (λ e. (bits_of x ≡ None) × (e.0 ≡ x))

-- the tags of a rule: 0x20 and 0x21, and the tags of sets that its mask names
abbrev pub uses : VoteTags → ℕ → Bool
uses v t = (t == 32 || t == 33) || (is_set_tag t && has v.mask (t - 32))

-- the tags of the first and second vote alone, and one tag of sets more
abbrev pub basic_tags : VoteTags
basic_tags = record { mask = 0 }

abbrev pub with_tag : VoteTags → ℕ → VoteTags
with_tag v t = cond (is_set_tag t) (record { mask = bit_or v.mask (2 ^ (t - 32)) }) v

-- the shape by the tag, for a rule's tags and a coin that uses shares or does not
abbrev pub shape_at : (ℕ → Bool) → Bool → ℕ → Option Shape
shape_at used shares t =
    cond (nat_le 16 t && nat_le t 18) (Some shape.Sheet)
    (cond (t == 32 || t == 33) (Some shape.Bit)
    (cond (is_set_tag t && used t) (Some shape.Set)
    (cond (t == share_tag && shares) (Some shape.Share) None)))

-- a kind's tag and shape
abbrev pub kind_tag : Kind → ℕ
kind_tag (kind.Sheet phase) = phase_tag phase
kind_tag (kind.Bit vote) = vote_tag vote
kind_tag (kind.Set tag) = tag
kind_tag kind.Share = share_tag

abbrev pub kind_shape : Kind → Shape
kind_shape (kind.Sheet phase) = shape.Sheet
kind_shape (kind.Bit vote) = shape.Bit
kind_shape (kind.Set tag) = shape.Set
kind_shape kind.Share = shape.Share
