-- One replica more.
use Rattle.std.proofs.Common.{sym, ◌∙◌}
use Rattle.outcomes.specs.Tables.{viewed}
use Rattle.outcomes.specs.Closing.{is_listed}
use Rattle.closing.proofs.Sets.{set_empty, set_with, set_without}
use Rattle.closing.proofs.view.ClosingView.listed_set.Goals.{then-is_listed, else-is_listed}
use Rattle.closing.proofs.view.ClosingView.listed_set.Goals as goal

pub loop-replica-init : goal.loop-replica-init
loop-replica-init g c =
    let m = g.S.Sheet in
    let s = c.args.self.now in
    set_empty (is_listed m.rows s.member.n (viewed s.records.now s.rounds s.places.now))

pub loop-replica-preserved : goal.loop-replica-preserved
loop-replica-preserved g c =
    let m = g.S.Sheet in
    let s = c.args.self.now in
    let p = is_listed m.rows s.member.n (viewed s.records.now s.rounds s.places.now) in
    let l = c.loop-replica in
    let here = sym c.is_listed.ensures in
    elim c.if-is_listed.branch [
      | then-is_listed w ↦ rw (w.members-is ∙ w.with-members.ensures) (set_with p l.replica l.members l.invariant (here ∙ w.if-is_listed.true))
      | else-is_listed w ↦ rw w.members-is (set_without p l.replica l.members l.invariant (here ∙ w.if-is_listed.false))
    ]
