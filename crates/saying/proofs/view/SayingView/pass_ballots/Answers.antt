-- One ballot more.
use Rattle.std.proofs.Common.{refl, sym}
use Rattle.outcomes.specs.Saying.{first_of, first_share_in}
use Rattle.saying.proofs.Firsts.{none_more}
use Rattle.saying.proofs.view.SayingView.pass_ballots.Goals as goal

pub loop-slot-init : goal.loop-slot-init
unfolding first_of
loop-slot-init g c = refl

pub loop-slot-preserved : goal.loop-slot-preserved
loop-slot-preserved g c =
    let s = c.args.self.now in
    none_more (first_share_in g.C.Coin.acts s.member.own s.coin.now c.args.from) c.loop-slot.slot c.loop-slot.invariant (sym c.pass_rounds.ensures)
