-- So far the listed replicas were counted, and none stands at the index.
use Rattle.std.proofs.Common.{◌≡◌, ◌≤◌, None}
use Rattle.basis.specs.Counts.{count}
use Rattle.outcomes.specs.Tables.{viewed}
use Rattle.outcomes.specs.Closing.{lowest, is_listed, stands_at}
use Rattle.closing.proofs.view.ClosingView.entry_at.Given as goal

abbrev pub invariant-loop-replica : goal.invariant-loop-replica
invariant-loop-replica g l =
    let m = g.S.Sheet in
    let n = l.self.member.n in
    let v = viewed l.self.records.now l.self.rounds l.self.places.now in
    (l.before ≤ l.replica) × (l.before ≡ count l.replica (is_listed m.rows n v)) × (lowest (stands_at m.rows n v l.index) l.replica ≡ None)
