-- The tables are left as the fresh replica's offer leaves them.
use Rattle.std.proofs.Common.{sym, ap, ◌∙◌}
use Rattle.sheets.specs.OfTakings.{takings_bytes}
use Rattle.sheets.specs.declared.kinds.TakingsRow.{TakingsRow}
use Rattle.slots.specs.Steps.{Slots}
use Rattle.cast.specs.States.{offer_left}
use Rattle.cast.proofs.till.State.offer.Goals as goal

pub returns-in-Ok-clause-left : goal.returns-in-Ok-clause-left
returns-in-Ok-clause-left c =
    let t : Slots TakingsRow = record { records = c.args.records.now; places = c.args.places.now } in
    c.offer.ensures.left ∙ sym (ap (λ s. offer_left s c.args.rounds (takings_bytes c.args.sheet.now) t) c.in-Fresh.is)
