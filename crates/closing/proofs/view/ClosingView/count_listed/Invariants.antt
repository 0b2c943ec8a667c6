-- So far the listed replicas were counted.
use Rattle.std.proofs.Common.{◌≡◌, ◌≤◌}
use Rattle.basis.specs.Counts.{count}
use Rattle.outcomes.specs.Tables.{viewed}
use Rattle.outcomes.specs.Closing.{is_listed}
use Rattle.closing.proofs.view.ClosingView.count_listed.Given as goal

abbrev pub invariant-loop-replica : goal.invariant-loop-replica
invariant-loop-replica g l =
    let m = g.S.Sheet in
    let v = viewed l.self.records.now l.self.rounds l.self.places.now in
    (l.many ≤ l.replica) × (l.many ≡ count l.replica (is_listed m.rows l.self.member.n v))
