-- One replica more: it is not listed, or listed at another index, or stands at the index.
use Rattle.std.proofs.Common.{refl, arith}
use Rattle.basis.specs.Counts.{count}
use Rattle.outcomes.specs.Tables.{viewed}
use Rattle.outcomes.specs.Closing.{lowest}
use Rattle.closing.proofs.Entries.{passed_listed, passed_other, entry_found}
use Rattle.closing.proofs.view.ClosingView.entry_at.Goals.{in-Some+else-before-index, in_default}
use Rattle.closing.proofs.view.ClosingView.entry_at.Goals as goal

pub loop-replica-init : goal.loop-replica-init
unfolding lowest count
loop-replica-init g c = (omega arith, refl, refl)

pub returns-then-before-index : goal.returns-then-before-index
returns-then-before-index g c =
    let m = g.S.Sheet in
    let s = c.args.self.now in
    entry_found m.rows s.member.n (viewed s.records.now s.rounds s.places.now) c.args.index c.loop-replica.before c.loop-replica.replica (m.bytes c.in-Some.sheet) c.loop-replica-test.true c.loop-replica.invariant c.in-Some.ensures c.if-before-index.true

pub loop-replica-preserved : goal.loop-replica-preserved
loop-replica-preserved g c =
    let m = g.S.Sheet in
    let s = c.args.self.now in
    let v = viewed s.records.now s.rounds s.places.now in
    let l = c.loop-replica in
    elim c.match-listed_sheet.branch [
      | in-Some+else-before-index w ↦ rw w.before-is (passed_listed m.rows s.member.n v c.args.index l.before l.replica (m.bytes w.in-Some.sheet) l.invariant w.in-Some.ensures w.if-before-index.false)
      | in_default w ↦ rw w.before-is (passed_other m.rows s.member.n v c.args.index l.before l.replica l.invariant w.in_default.ensures)
    ]
