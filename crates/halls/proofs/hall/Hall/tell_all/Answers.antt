-- The evening goes on from turn to turn, and all tills below have heard all.
use Rattle.std.proofs.Common.{arith}
use Rattle.halls.specs.Scenes.{shown}
use Rattle.halls.proofs.Playing.{progress_none, progress_or}
use Rattle.halls.proofs.Turning.{told_none, told_skip, told_more}
use Rattle.halls.proofs.hall.Hall.tell_all.Goals.{then-to-from, else-to-from}
use Rattle.halls.proofs.hall.Hall.tell_all.Goals as goal

pub loop-to-init : goal.loop-to-init
loop-to-init c = (progress_none c.args.self.now.rule c.args.self.now.n c.args.self.now.tills.items, told_none c.args.self.now.rule c.args.self.now.n c.args.from (shown c.args.self.now.tills.items))

pub loop-to-preserved : goal.loop-to-preserved
loop-to-preserved c = elim c.if-to-from.branch [
  | then-to-from w ↦ rw w.self-is (rw w.any_new-is (
      let p = c.loop-to.invariant.0 in
      let h = c.loop-to.self in (
        progress_or c.loop-to.any_new w.pass_all-any_new.result _ _ _ _ _ _ _ _ _ p w.pass_all-any_new.ensures.progress,
        told_more c.args.self.now.rule h.rule c.args.self.now.n h.n p.same_rule p.same_size c.loop-to.to c.args.from c.loop-to.any_new w.pass_all-any_new.result (shown h.tills.items) (shown w.pass_all-any_new.new.self.tills.items) (shown c.args.self.now.tills.items) w.if-to-from.true c.loop-to.invariant.1 w.pass_all-any_new.ensures.heard,
      )))
  | else-to-from w ↦ rw w.self-is (rw w.any_new-is (
    c.loop-to.invariant.0,
    told_skip c.args.self.now.rule c.args.self.now.n c.loop-to.to c.args.from _ (shown c.args.self.now.tills.items) w.if-to-from.false c.loop-to.invariant.1,
  ))
]

pub pass_all-any_new-requires-clause-from_low : goal.pass_all-any_new-requires-clause-from_low
pass_all-any_new-requires-clause-from_low c = let e = c.loop-to.invariant.0.same_size in omega (arith, e, c.requires)

pub pass_all-any_new-requires-clause-to_low : goal.pass_all-any_new-requires-clause-to_low
pass_all-any_new-requires-clause-to_low c = let e = c.loop-to.invariant.0.same_size in omega (arith, e, c.loop-to-test.true)
