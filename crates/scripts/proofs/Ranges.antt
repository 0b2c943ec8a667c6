-- A number that is too large for its type is out of range however it is fitted. Assumes nothing.
use Rattle.std.proofs.Common.{◌≡◌, ℕ, ◌-◌, ◌^◌, ◌<◌, ◌≤◌, min, nat_lt, refl, arith}
use Rattle.std.specs.Prelude.{ℤ, pos, negsuc, int_le}
use Rattle.std.specs.Int.{saturate_to_bits}

-- what stands for a number is below m exactly if the number is
pub number_stays : (m k : ℕ) → m ≤ 255 → nat_lt (min k 255) m ≡ nat_lt k m
number_stays m k h = grind arith

-- and what stands for an amount is between two bounds exactly if the amount is
pub amount_stays_below : (b : ℕ) → b < 2 ^ 63 - 1 → (z : ℤ) → int_le (saturate_to_bits 63 z) (pos b) ≡ int_le z (pos b)
amount_stays_below b h (pos n) = grind arith
amount_stays_below b h (negsuc n) = refl

pub amount_stays_above : (b : ℕ) → b < 2 ^ 63 - 1 → (z : ℤ) → int_le (negsuc b) (saturate_to_bits 63 z) ≡ int_le (negsuc b) z
amount_stays_above b h (pos n) = refl
amount_stays_above b h (negsuc n) = grind arith
