-- Numbers as a text of digits writes them, in any base.
use Rattle.std.specs.Prelude.{ℕ, ◌+◌, ◌-◌, ◌*◌, ◌^◌, min, Bool, true, false, cond, ◌&&◌, List, [], ◌∷◌, is_some, Some, None, Option, nat_le, nat_lt}
use Rattle.std.specs.Option.{option_map, unwrap_or}

-- a digit that is one of the base's
abbrev pub below : ℕ → Option ℕ → Option ℕ
below base None = None
below base (Some d) = cond (nat_lt d base) (Some d) None

-- the value of an ASCII digit of a base up to 36 in either case
abbrev pub digit_in : ℕ → ℕ → Option ℕ
digit_in base b =
    below base
    (cond (nat_le 48 b && nat_le b 57) (Some (b - 48))
    (cond (nat_le 65 b && nat_le b 90) (Some (b - 55))
    (cond (nat_le 97 b && nat_le b 122) (Some (b - 87)) None)))

abbrev pub nonempty : List ℕ → Bool
nonempty [] = false
nonempty (b ∷ s) = true

-- each byte is a digit
abbrev pub all_digits : (ℕ → Option ℕ) → List ℕ → Bool
all_digits digit [] = true
all_digits digit (b ∷ s) = is_some (digit b) && all_digits digit s

-- the number n with the digits of s written after it
abbrev pub value_after : ℕ → (ℕ → Option ℕ) → ℕ → List ℕ → ℕ
value_after base digit n [] = n
value_after base digit n (b ∷ s) = value_after base digit (n * base + unwrap_or (digit b) 0) s

-- the number that s writes: s has a digit, and nothing but digits
abbrev pub number_of : ℕ → (ℕ → Option ℕ) → List ℕ → Option ℕ
number_of base digit s = cond (nonempty s && all_digits digit s) (Some (value_after base digit 0 s)) None

-- that number, at most 2 ^ 64 - 1
abbrev pub limited_number : ℕ → (ℕ → Option ℕ) → List ℕ → Option ℕ
limited_number base digit s = option_map (λ n. min n (2 ^ 64 - 1)) (number_of base digit s)
