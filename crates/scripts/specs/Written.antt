-- Lines written in their forms. Assumes nothing.
use Rattle.std.specs.Prelude.{ℕ, suc, ◌/◌, ◌^◌, ◌<◌, List, [], ◌∷◌, ◌++◌, ℤ, pos, negsuc, codes, ⊤}
use Rattle.std.specs.Fmt.{decimal, signed_decimal}
use Rattle.text.specs.Hexadecimals.{hex_digit_of}
use Rattle.scripts.specs.declared.command.RuleName.{RuleName}
use Rattle.scripts.specs.declared.command.RuleName.TheVariants as rule
use Rattle.scripts.specs.Commands.{Asked, hall, offer, rest, close}

-- four hexadecimal digits
abbrev pub hex_word : ℕ → List ℕ
hex_word c = hex_digit_of (c / 4096) ∷ hex_digit_of (c / 256) ∷ hex_digit_of (c / 16) ∷ hex_digit_of c ∷ []

abbrev pub rule_word : RuleName → List ℕ
rule_word rule.Two = codes "two"
rule_word rule.Three = codes "three"

-- a word, a space and more
abbrev pub spaced : List ℕ → List ℕ → List ℕ
spaced w s = w ++ 32 ∷ s

-- the line that asks for something
abbrev pub line_of : Asked → List ℕ
line_of (hall n r c) = spaced (codes "hall") (spaced (decimal n) (spaced (rule_word r) (hex_word c)))
line_of (offer t z k) = spaced (codes "offer") (spaced (decimal t) (spaced (signed_decimal z) (decimal k)))
line_of rest = codes "rest"
line_of (close t) = spaced (codes "close") (decimal t)

-- an amount whose size fits 64 bits
abbrev pub IsSmall : ℤ → Type 0
IsSmall (pos n) = n < 2 ^ 64
IsSmall (negsuc n) = suc n < 2 ^ 64

-- numbers of at most 64 bits, the coin's of at most 16
abbrev pub Written : Asked → Type 0
Written (hall n r c) = (n < 2 ^ 64) × (c < 2 ^ 16)
Written (offer t z k) = (t < 2 ^ 64) × IsSmall z × (k < 2 ^ 64)
Written rest = ⊤
Written (close t) = t < 2 ^ 64
