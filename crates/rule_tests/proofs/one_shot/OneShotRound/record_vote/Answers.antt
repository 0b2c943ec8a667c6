-- The place that was found is that of the tag and the set.
use Rattle.std.proofs.Common.{◌≡◌, length, rules, arith}
use Rattle.messages.specs.Tags.{bits_number}
use Rattle.rule_tests.proofs.Masks.{recorded_at}
use Rattle.rule_tests.proofs.one_shot.OneShotRound.record_vote.Goals as goal

pub returns-in-Some : goal.returns-in-Some
returns-in-Some c =
    let r = c.args.self.now in
    let l : length r.masks ≡ 48 = search rules in
    let k = c.in-Some.ensures.within in
    recorded_at r c.args.tag (bits_number c.args.bits) c.args.sender c.in-Some.place c.with.result c.requires.tag (omega arith) c.in-Some.ensures.value c.with.ensures
