-- One round more.
use Rattle.outcomes.specs.Saying.{share_from}
use Rattle.saying.proofs.Firsts.{none_more, this_one}
use Rattle.saying.proofs.view.SayingView.first_share_in.Goals as goal

pub loop-later-init : goal.loop-later-init
loop-later-init g c = c.pass_rounds.ensures

pub returns-in-Some : goal.returns-in-Some
returns-in-Some g c =
    let s = c.args.self.now in
    this_one (share_from g.C.Coin.acts s.member.own s.coin.now c.args.from c.args.slot) c.loop-later.later 15 _ c.loop-later-test.true c.loop-later.invariant c.in-Some.ensures

pub loop-later-preserved : goal.loop-later-preserved
loop-later-preserved g c =
    let s = c.args.self.now in
    none_more (share_from g.C.Coin.acts s.member.own s.coin.now c.args.from c.args.slot) c.loop-later.later c.loop-later.invariant c.in_default.ensures
