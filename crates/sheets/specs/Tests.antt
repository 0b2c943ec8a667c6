-- What a test comes to, by the two cases. Assumes nothing.
use Rattle.std.specs.Prelude.{◌≡◌, Bool, true, false, ◌≢◌, refl}
use Rattle.std.proofs.lemmas.Bool.{false≢true}

pub no_true : (b : Bool) → (b ≢ true) → b ≡ false
no_true true h = absurd (h refl)
no_true false h = refl

-- two tests that agree in both cases are the same
pub test_is : (p t : Bool) → (p ≡ true → true ≡ t) → ((p ≢ true) → false ≡ t) → p ≡ t
test_is true t yes' no' = yes' refl
test_is false t yes' no' = no' false≢true
