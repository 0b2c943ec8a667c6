-- The rows that pass are the slots that are delivered.
use Rattle.std.proofs.Common.{◌≡◌, is_some, take, count_by, rules, ◌∙◌}
use Rattle.outcomes.specs.declared.opening_record.OpeningRecord.{OpeningRecord}
use Rattle.settling.proofs.Proposals.{deliveries}
use Rattle.settling.proofs.proposing.count_deliveries.Goals as goal

pub returns : goal.returns
returns c =
    let many : c.count.result ≡ count_by (λ (r : OpeningRecord). is_some r.slot.delivered) (take c.args.n c.args.records.now) = search rules in
    many ∙ deliveries c.args.n c.args.records.now c.requires
