-- One slot more.
use Rattle.outcomes.specs.Saying.{first_share_in}
use Rattle.saying.proofs.Firsts.{none_more, this_one}
use Rattle.saying.proofs.view.SayingView.first_share_of_all.Goals as goal

pub loop-slot-init : goal.loop-slot-init
loop-slot-init g c = c.pass_ballots.ensures

pub returns-in-Some : goal.returns-in-Some
returns-in-Some g c =
    let s = c.args.self.now in
    this_one (first_share_in g.C.Coin.acts s.member.own s.coin.now c.args.from) c.loop-slot.slot s.member.n _ c.loop-slot-test.true c.loop-slot.invariant c.in-Some.ensures

pub loop-slot-preserved : goal.loop-slot-preserved
loop-slot-preserved g c =
    let s = c.args.self.now in
    none_more (first_share_in g.C.Coin.acts s.member.own s.coin.now c.args.from) c.loop-slot.slot c.loop-slot.invariant c.in_default.ensures
