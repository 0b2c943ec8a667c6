-- The evening goes on from turn to turn, and all have heard what the tills below said.
use Rattle.std.proofs.Common.{arith}
use Rattle.halls.specs.Scenes.{shown}
use Rattle.halls.proofs.Playing.{progress_none, progress_or}
use Rattle.halls.proofs.Turning.{swept_none, swept_more}
use Rattle.halls.proofs.hall.Hall.sweep.Goals as goal

pub loop-from-init : goal.loop-from-init
loop-from-init c = (progress_none c.args.self.now.rule c.args.self.now.n c.args.self.now.tills.items, swept_none c.args.self.now.rule c.args.self.now.n (shown c.args.self.now.tills.items))

pub loop-from-preserved : goal.loop-from-preserved
loop-from-preserved c =
    let p = c.loop-from.invariant.0 in
    let h = c.loop-from.self in (
      progress_or c.loop-from.any_new c.tell_all-any_new.result _ _ _ _ _ _ _ _ _ p c.tell_all-any_new.ensures.progress,
      swept_more c.args.self.now.rule h.rule c.args.self.now.n h.n p.same_rule p.same_size c.loop-from.from c.loop-from.any_new c.tell_all-any_new.result (shown h.tills.items) (shown c.tell_all-any_new.new.self.tills.items) (shown c.args.self.now.tills.items) c.loop-from.invariant.1 c.tell_all-any_new.ensures.heard,
    )

pub tell_all-any_new-requires : goal.tell_all-any_new-requires
tell_all-any_new-requires c = let e = c.loop-from.invariant.0.same_size in omega (arith, e, c.loop-from-test.true)
