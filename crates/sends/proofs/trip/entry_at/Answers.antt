-- The sheet's fields are those that its bytes stand for.
use Rattle.std.proofs.Common.{ℤ, Some, ap, ◌∙◌, w64}
use Rattle.std.proofs.lemmas.Int.{to_z-of_z}
use Rattle.sheets.specs.OfTakingsLemmas.{range_fits, in_range_of}
use Rattle.sends.proofs.Trips.{carries}
use Rattle.sends.proofs.trip.entry_at.Goals as goal

pub returns : goal.returns
returns c =
    let x = c.in_ok-takings.takings in
    ap (λ (z : ℤ). Some (record { till = c.args.slot; cents = z; receipts = x.receipts })) (to_z-of_z w64 x.cents (range_fits x.cents (in_range_of x)))
    ∙ carries c.args.slot c.args.bytes.now x c.in_ok-takings.ensures
