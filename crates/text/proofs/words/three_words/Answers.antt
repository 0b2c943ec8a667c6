-- Where a space follows the third word, there is a fourth.
use Rattle.std.proofs.Common.{◌≡◌, ℕ, List, ◌∷◌, None, ap, rules}
use Rattle.text.specs.Lines.{words, three}
use Rattle.text.proofs.Splits.{pieces_split}
use Rattle.text.proofs.words.three_words.Goals as goal

more_than_three : (u v w s : List ℕ) → three (u ∷ v ∷ w ∷ words s) ≡ None
more_than_three u v w s = ap (λ ws. three (u ∷ v ∷ w ∷ ws)) (pieces_split 32 s)

pub returns-in-Some : goal.returns-in-Some
returns-in-Some c = search (rules, more_than_three)
