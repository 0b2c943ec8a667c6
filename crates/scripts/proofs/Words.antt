-- What follows a space has a word, even if it is an empty one. Assumes nothing.
use Rattle.std.proofs.Common.{◌≡◌, ℕ, List, ◌∷◌, None, ap}
use Rattle.text.specs.Lines.{words}
use Rattle.text.proofs.Splits.{pieces_split}
use Rattle.scripts.specs.Commands.{only, rest_of}

-- so a word before it is not the only one
pub not_only : (w s : List ℕ) → only (w ∷ words s) ≡ None
not_only w s = ap (λ ws. only (w ∷ ws)) (pieces_split 32 s)

-- and a rest before it does not stand alone
pub not_alone : (s : List ℕ) → rest_of (words s) ≡ None
not_alone s = ap rest_of (pieces_split 32 s)
