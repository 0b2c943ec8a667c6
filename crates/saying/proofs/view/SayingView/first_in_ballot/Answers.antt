-- No vote of the rounds passed over and none of the opening round, then one round more.
use Rattle.std.proofs.Common.{refl, sym, arith}
use Rattle.outcomes.specs.Holdings.{Running}
use Rattle.outcomes.specs.Tables.{holding}
use Rattle.outcomes.specs.Saying.{first_of, first_value}
use Rattle.saying.proofs.Firsts.{none_from_one, none_more, this_one}
use Rattle.saying.proofs.PassedOver.{no_value}
use Rattle.saying.proofs.view.SayingView.first_in_ballot.Goals as goal

pub returns-in-Some : goal.returns-in-Some
unfolding first_of
returns-in-Some g c =
    let s = c.args.self.now in
    let h = holding g.R.Rule.meaning Running s.records.now s.rounds.now s.places.now s.coin.now in
    this_one (first_value s.member.own h c.args.from c.args.tag c.args.slot) 0 16 _ (omega arith) refl c.in-Some.ensures

pub loop-round-init : goal.loop-round-init
loop-round-init g c =
    let s = c.args.self.now in
    let h = holding g.R.Rule.meaning Running s.records.now s.rounds.now s.places.now s.coin.now in
    let k = c.rounds_below-passed.result in
    rw c.max-round.ensures (none_from_one (first_value s.member.own h c.args.from c.args.tag c.args.slot) k (sym c.in_default.ensures) (λ r l. no_value s.member.own h c.args.from c.args.tag c.requires.tag c.args.slot r (c.rounds_below-passed.ensures.below r l)))

pub returns-in-Some-first_value : goal.returns-in-Some-first_value
returns-in-Some-first_value g c =
    let s = c.args.self.now in
    let h = holding g.R.Rule.meaning Running s.records.now s.rounds.now s.places.now s.coin.now in
    this_one (first_value s.member.own h c.args.from c.args.tag c.args.slot) c.loop-round.round 16 _ c.loop-round-test.true c.loop-round.invariant c.in-Some-first_value.ensures

pub loop-round-preserved : goal.loop-round-preserved
loop-round-preserved g c =
    let s = c.args.self.now in
    let h = holding g.R.Rule.meaning Running s.records.now s.rounds.now s.places.now s.coin.now in
    none_more (first_value s.member.own h c.args.from c.args.tag c.args.slot) c.loop-round.round c.loop-round.invariant c.in_default-first_value.ensures
