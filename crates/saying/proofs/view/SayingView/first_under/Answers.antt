-- One slot more.
use Rattle.outcomes.specs.Holdings.{Running}
use Rattle.outcomes.specs.Tables.{holding}
use Rattle.outcomes.specs.Saying.{first_in_ballot}
use Rattle.saying.proofs.Firsts.{none_all, none_more, this_one}
use Rattle.saying.proofs.PassedOver.{no_ballot}
use Rattle.saying.proofs.view.SayingView.first_under.Goals as goal

pub loop-slot-init : goal.loop-slot-init
loop-slot-init g c =
    let s = c.args.self.now in
    let h = holding g.R.Rule.meaning Running s.records.now s.rounds.now s.places.now s.coin.now in
    none_all (first_in_ballot s.member.own h c.args.from c.args.tag) c.slots_below-slot.result (λ k l. no_ballot s.member.own h c.args.from c.args.tag c.requires k (c.slots_below-slot.ensures.below k l))

pub returns-in-Some : goal.returns-in-Some
returns-in-Some g c =
    let s = c.args.self.now in
    let h = holding g.R.Rule.meaning Running s.records.now s.rounds.now s.places.now s.coin.now in
    this_one (first_in_ballot s.member.own h c.args.from c.args.tag) c.loop-slot.slot s.member.n _ c.loop-slot-test.true c.loop-slot.invariant c.in-Some.ensures

pub loop-slot-preserved : goal.loop-slot-preserved
loop-slot-preserved g c =
    let s = c.args.self.now in
    let h = holding g.R.Rule.meaning Running s.records.now s.rounds.now s.places.now s.coin.now in
    none_more (first_in_ballot s.member.own h c.args.from c.args.tag) c.loop-slot.slot c.loop-slot.invariant c.in_default.ensures
