-- Numbers as bytes, the most significant first. Assumes nothing.
use Rattle.std.specs.Prelude.{ℕ, zero, suc, ◌+◌, ◌*◌, ◌/◌, ◌%◌, ◌^◌, ◌<◌, List, [], ◌∷◌, length, slice_index}

-- the k lowest bytes of n, the most significant first
abbrev pub be : ℕ → ℕ → List ℕ
be zero n = []
be (suc k) n = (n / 256 ^ k % 256) ∷ be k n

-- the number that bytes stand for, the most significant first
abbrev pub value : List ℕ → ℕ
value [] = 0
value (a ∷ s) = a * 256 ^ length s + value s

-- each element is a byte
abbrev pub Octets : List ℕ → Type 0
Octets s = (i : ℕ) → slice_index s i < 256
