-- So far the set has the listed replicas.
use Rattle.outcomes.specs.Tables.{viewed}
use Rattle.outcomes.specs.Closing.{is_listed}
use Rattle.closing.proofs.Sets.{SetBelow}
use Rattle.closing.proofs.view.ClosingView.listed_set.Given as goal

abbrev pub invariant-loop-replica : goal.invariant-loop-replica
invariant-loop-replica g l =
    let m = g.S.Sheet in
    SetBelow (is_listed m.rows l.self.member.n (viewed l.self.records.now l.self.rounds l.self.places.now)) l.replica l.members
