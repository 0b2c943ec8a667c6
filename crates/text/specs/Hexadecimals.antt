-- Hexadecimal digits, numbers and the digits of bytes.
use Rattle.std.specs.Prelude.{ℕ, ◌+◌, ◌-◌, ◌/◌, ◌%◌, cond, ◌&&◌, List, [], ◌∷◌, length, Some, None, Option, nat_le, nat_lt}
use Rattle.std.specs.List.{flat_map}
use Rattle.text.specs.Digits.{number_of}

-- the ASCII digit, 0 to 9 or a to f, of the low four bits
abbrev pub hex_digit_of : ℕ → ℕ
hex_digit_of x = cond (nat_lt (x % 16) 10) (48 + x % 16) (87 + x % 16)

-- the two digits of a byte
abbrev pub hex_pair : ℕ → List ℕ
hex_pair b = hex_digit_of (b / 16) ∷ hex_digit_of b ∷ []

-- the digits of each byte in turn
abbrev pub hexed : List ℕ → List ℕ
hexed s = flat_map hex_pair s

-- the value of an ASCII hexadecimal digit in either case
abbrev pub hex_value_of : ℕ → Option ℕ
hex_value_of b =
    cond (nat_le 48 b && nat_le b 57) (Some (b - 48))
    (cond (nat_le 65 b && nat_le b 70) (Some (b - 55))
    (cond (nat_le 97 b && nat_le b 102) (Some (b - 87)) None))

-- the number that one to four hexadecimal digits write
abbrev pub hex_number_of : List ℕ → Option ℕ
hex_number_of s = cond (nat_le (length s) 4) (number_of 16 hex_value_of s) None
