-- One slot more.
use Rattle.std.proofs.Common.{◌+◌, ◌*◌, ◌≤◌, subst}
use Rattle.broadcast.proofs.Saying.{none_all, none_below, none_more, this_one}
use Rattle.broadcast.proofs.say.Recorded.earliest_in.Goals as goal

pub loop-slot-init : goal.loop-slot-init
loop-slot-init g c =
    let m = g.S.Sheet in
    let s = c.args.self.now in
    none_all m.rows s.member.n s.member.own s.places.now c.args.phase c.args.from c.slots_below-slot.result
    (λ k l. none_below m.rows s.member.n s.member.own s.places.now c.args.phase c.args.from k (subst (λ t. (t * 16 + k) * 4096 + 4096 ≤ c.args.from) c.tag.ensures (c.slots_below-slot.ensures.below k l)))

pub returns-in-Some : goal.returns-in-Some
returns-in-Some g c =
    let m = g.S.Sheet in
    let rows = m.rows in
    this_one rows c.args.self.now.member.n c.args.self.now.member.own c.args.self.now.places.now c.args.phase c.args.from c.loop-slot.slot c.args.self.now.member.n _ c.loop-slot-test.true c.loop-slot.invariant c.in-Some.ensures

pub loop-slot-preserved : goal.loop-slot-preserved
loop-slot-preserved g c =
    let m = g.S.Sheet in
    let rows = m.rows in
    none_more rows c.args.self.now.member.n c.args.self.now.member.own c.args.self.now.places.now c.args.phase c.args.from c.loop-slot.slot c.loop-slot.invariant c.in_default.ensures
