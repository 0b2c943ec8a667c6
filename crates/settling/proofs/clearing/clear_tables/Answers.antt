-- Both parts of the opening records are cleared.
use Rattle.std.proofs.Common.{◌≡◌, ap, ◌∙◌}
use Rattle.ballots.specs.States.{unopened, ballot_meaning}
use Rattle.broadcast.specs.Opening.{cleared_to}
use Rattle.outcomes.specs.declared.opening_record.OpeningRecord.{OpeningRecord}
use Rattle.outcomes.specs.Tables.{slots_in, ballots_in}
use Rattle.slots.specs.Steps.{cleared}
use Rattle.settling.proofs.Cleared.{map_cleared}
use Rattle.settling.proofs.clearing.clear_tables.Goals as goal

pub returns-clause-slots : goal.returns-clause-slots
returns-clause-slots g c =
    let row : OpeningRecord = record { slot = c.default.result; ballot = c.unopened.result } in
    let empty : c.default.result ≡ cleared = ap (λ d. record { delivered = d }) c.default.ensures in
    ap slots_in c.clear_to.ensures ∙ ap (λ i. slots_in (cleared_to i row c.args.records.now)) c.from.ensures
    ∙ map_cleared (λ (r : OpeningRecord). r.slot) row cleared empty c.args.n c.args.records.now

pub returns-clause-ballots : goal.returns-clause-ballots
returns-clause-ballots g c =
    let row : OpeningRecord = record { slot = c.default.result; ballot = c.unopened.result } in
    ap ballots_in c.clear_to.ensures ∙ ap (λ i. ballots_in (cleared_to i row c.args.records.now)) c.from.ensures
    ∙ map_cleared (λ (r : OpeningRecord). ballot_meaning r.ballot) row unopened c.unopened.ensures c.args.n c.args.records.now
