-- Decimal numbers, unsigned and signed, each held within its type.
use Rattle.std.specs.Prelude.{ℕ, ◌-◌, ◌^◌, min, cond, ◌&&◌, List, [], ◌∷◌, ℤ, pos, neg_ℤ, Some, None, Option, ◌==◌, nat_le}
use Rattle.std.specs.Int.{saturate_to_bits}
use Rattle.std.specs.Option.{option_map}
use Rattle.text.specs.Digits.{number_of}

-- the value of an ASCII decimal digit
abbrev pub digit_of : ℕ → Option ℕ
digit_of b = cond (nat_le 48 b && nat_le b 57) (Some (b - 48)) None

-- the number that a text of decimal digits writes, at most 2 ^ 64 - 1
abbrev pub decimal_of : List ℕ → Option ℕ
decimal_of s = option_map (λ n. min n (2 ^ 64 - 1)) (number_of 10 digit_of s)

-- the number that a text of decimal digits, or of a '-' and decimal digits, writes
abbrev pub integer_of : List ℕ → Option ℤ
integer_of [] = None
integer_of (b ∷ s) = cond (b == 45) (option_map (λ n. neg_ℤ (pos n)) (number_of 10 digit_of s)) (option_map pos (number_of 10 digit_of (b ∷ s)))

-- that number, from -2 ^ 63 to 2 ^ 63 - 1
abbrev pub signed_of : List ℕ → Option ℤ
signed_of s = option_map (saturate_to_bits 63) (integer_of s)
