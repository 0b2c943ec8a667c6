-- The records that pass are the slots that are delivered.
use Rattle.std.proofs.Common.{◌≡◌, is_some, take, count_by, rules, ◌∙◌}
use Rattle.slots.specs.Steps.{cleared}
use Rattle.slots.specs.declared.slot.Slot.{Slot}
use Rattle.slots.proofs.Tallies.{count_first}
use Rattle.slots.proofs.delivered.count_deliveries.Goals as goal

pub returns : goal.returns
returns c =
    let many : c.count.result ≡ count_by (λ (r : Slot). is_some r.delivered) (take c.args.n c.args.records.now) = search rules in
    many ∙ count_first (λ (r : Slot). is_some r.delivered) cleared c.args.n c.args.records.now c.requires
