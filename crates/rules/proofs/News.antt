-- What is done only where a vote is new. Assumes nothing.
use Rattle.std.proofs.Common.{◌≡◌, Bool, true, false, cond, refl}

-- done under its own test, once more under the same test it comes to the same
pub tested_twice : {X : Type 0} (b : Bool) (x m : X) → cond b x m ≡ cond b (cond b x m) m
tested_twice true x m = refl
tested_twice false x m = refl
