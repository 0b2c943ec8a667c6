-- A share of a byte stands below the next round.
use Rattle.std.proofs.Common.{sym, ◌∙◌, ap₂}
use Rattle.saying.proofs.PassedOver.{no_share}
use Rattle.saying.proofs.view.SayingView.pass_share.Goals as goal

pub returns-in-Some : goal.returns-in-Some
returns-in-Some g c =
    let s = c.args.self.now in
    let at = c.args.at in
    let a = g.C.Coin.acts in
    no_share a s.member.own s.coin.now c.args.from at.slot at.later c.in-Some.share
    (sym (ap₂ (λ k r. a.taken_of s.coin.now k r s.member.own) c.tossed_round.ensures.ballot c.tossed_round.ensures.round) ∙ sym c.share_of.ensures ∙ c.in-Some.is)
    c.if-prove.false c.requires
