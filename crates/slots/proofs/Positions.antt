-- Where places lie in the table. Assumes nothing.
use Rattle.std.proofs.Common.{◌≡◌, ℕ, ◌+◌, ◌*◌, ◌<◌, ◌≤◌, mul-le-mul_right, add-mul, one-mul, arith}
use Rattle.messages.specs.declared.message.Phase.{Phase}
use Rattle.messages.specs.declared.message.Phase.TheVariants.{Send, Echo, Ready}
use Rattle.slots.specs.Places.{place, slot_places, all_places}

-- a slot's places end before the next slot's begin, and the last slot's with the table
slot_end : (n k : ℕ) → k < n → k * slot_places n + slot_places n ≤ all_places n
slot_end n k h =
    let m : (k + 1) * slot_places n ≤ n * slot_places n = mul-le-mul_right (slot_places n) (omega arith) in
    let e : (k + 1) * slot_places n ≡ k * slot_places n + 1 * slot_places n = add-mul k 1 (slot_places n) in
    let o : 1 * slot_places n ≡ slot_places n = one-mul (slot_places n) in
    omega arith

pub place_within : (n : ℕ) (ph : Phase) (k j : ℕ) → k < n → j < n → place n ph k j < all_places n
place_within n Send k j hk hj = let e = slot_end n k hk in omega arith
place_within n Echo k j hk hj = let e = slot_end n k hk in omega arith
place_within n Ready k j hk hj = let e = slot_end n k hk in omega arith
