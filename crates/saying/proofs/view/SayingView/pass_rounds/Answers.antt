-- One round more.
use Rattle.std.proofs.Common.{refl, sym}
use Rattle.outcomes.specs.Saying.{first_of, share_from}
use Rattle.saying.proofs.Firsts.{none_more}
use Rattle.saying.proofs.view.SayingView.pass_rounds.Goals as goal

pub loop-later-init : goal.loop-later-init
unfolding first_of
loop-later-init g c = refl

pub loop-later-preserved : goal.loop-later-preserved
loop-later-preserved g c =
    let s = c.args.self.now in
    none_more (share_from g.C.Coin.acts s.member.own s.coin.now c.args.from c.args.slot) c.loop-later.later c.loop-later.invariant (sym c.pass_share.ensures)
