-- One tag more.
use Rattle.std.proofs.Common.{◌+◌, arith}
use Rattle.basis.proofs.Thirds.{at_most_16}
use Rattle.outcomes.specs.Holdings.{Running}
use Rattle.outcomes.specs.Tables.{setting, holding}
use Rattle.outcomes.specs.Saying.{first_if_used}
use Rattle.saying.proofs.Firsts.{none_all, none_more, this_one}
use Rattle.saying.proofs.PassedOver.{no_used}
use Rattle.saying.proofs.view.SayingView.lowest_vote.Goals as goal

pub loop-offset-init : goal.loop-offset-init
loop-offset-init g c =
    let m = g.S.Sheet in
    let s = c.args.self.now in
    let h = holding g.R.Rule.meaning Running s.records.now s.rounds.now s.places.now s.coin.now in
    let t = setting m.rows m.LEN m.KIND m.lawful g.R.Rule.acts g.C.Coin.acts in
    none_all (λ i. first_if_used t s.member.n s.member.own h c.args.from (32 + i)) c.tags_below-offset.result (λ i l. no_used s.member.own h c.args.from (32 + i) (omega arith) t s.member.n (at_most_16 s.member.n s.member.listed) (c.tags_below-offset.ensures.below i l))

pub returns-in-Some : goal.returns-in-Some
returns-in-Some g c =
    let m = g.S.Sheet in
    let s = c.args.self.now in
    let h = holding g.R.Rule.meaning Running s.records.now s.rounds.now s.places.now s.coin.now in
    this_one (λ i. first_if_used (setting m.rows m.LEN m.KIND m.lawful g.R.Rule.acts g.C.Coin.acts) s.member.n s.member.own h c.args.from (32 + i)) c.loop-offset.offset 16 _ c.loop-offset-test.true c.loop-offset.invariant c.in-Some.ensures

pub loop-offset-preserved : goal.loop-offset-preserved
loop-offset-preserved g c =
    let m = g.S.Sheet in
    let s = c.args.self.now in
    let h = holding g.R.Rule.meaning Running s.records.now s.rounds.now s.places.now s.coin.now in
    none_more (λ i. first_if_used (setting m.rows m.LEN m.KIND m.lawful g.R.Rule.acts g.C.Coin.acts) s.member.n s.member.own h c.args.from (32 + i)) c.loop-offset.offset c.loop-offset.invariant c.in_default.ensures
