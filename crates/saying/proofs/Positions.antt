-- Positions rise by tag, slot, round and value. Assumes nothing.
use Rattle.std.proofs.Common.{◌≡◌, ℕ, ◌<◌, ◌≤◌, List, arith}
use Rattle.messages.specs.declared.message.Message.{Message}
use Rattle.messages.specs.Writing.{position, tag_of, slot_of, round_of, value_of}

module _ (m m' : Message (List ℕ)) where
  pub by_tag : slot_of m < 16 → round_of m < 16 → value_of m < 256 → tag_of m < tag_of m' → position m ≤ position m'
  by_tag s r v t = omega arith

  pub by_slot : round_of m < 16 → value_of m < 256 → tag_of m ≡ tag_of m' → slot_of m < slot_of m' → position m ≤ position m'
  by_slot r v t s = omega arith

  pub by_round : value_of m < 256 → tag_of m ≡ tag_of m' → slot_of m ≡ slot_of m' → round_of m < round_of m' → position m ≤ position m'
  by_round v t s r = omega arith

  pub by_value : tag_of m ≡ tag_of m' → slot_of m ≡ slot_of m' → round_of m ≡ round_of m' → value_of m ≤ value_of m' → position m ≤ position m'
  by_value t s r v = omega arith

-- where a message stands: its tag, its slot, its round, and a value that fits a byte
pub record At (t k r : ℕ) (m : Message (List ℕ)) : Type 0 where
  pub tag : tag_of m ≡ t
  pub slot : slot_of m ≡ k
  pub round : round_of m ≡ r
  pub value : value_of m < 256
