-- So far the fields of the listed replicas stand at the start.
use Rattle.std.proofs.Common.{◌≡◌, length}
use Rattle.outcomes.specs.Tables.{viewed}
use Rattle.outcomes.specs.Closing.{sheet_fields}
use Rattle.closing.specs.Telling.{over}
use Rattle.closing.proofs.view.ClosingView.write_fields.Given as goal

abbrev pub invariant-loop-replica : goal.invariant-loop-replica
invariant-loop-replica g l =
    let m = g.S.Sheet in
    let v = viewed l.self.records.now l.self.rounds l.self.places.now in
    let fields = sheet_fields m.rows l.self.member.n v m.LEN m.KIND l.replica in
    (l.at ≡ length fields) × (l.out ≡ over fields l.initial.out)
