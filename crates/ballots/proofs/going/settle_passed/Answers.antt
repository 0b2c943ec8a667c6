-- A round that the ballot has gone on from does not change the ballot.
use Rattle.std.proofs.Common.{map, ◌<◌, sym, ◌∙◌, arith}
use Rattle.ballots.specs.States.{BallotState, ballot_meaning}
use Rattle.ballots.proofs.Settling.{passed_one}
use Rattle.ballots.proofs.going.settle_passed.Goals as goal

pub loop-later-preserved : goal.loop-later-preserved
loop-later-preserved g c =
    let s : BallotState _ = record { ballot = ballot_meaning c.args.ballot.now; rounds = map g.R.Rule.meaning c.loop-later.rounds; coin = c.loop-later.coin } in
    let t : BallotState _ = record { ballot = ballot_meaning c.args.ballot.now; rounds = map g.R.Rule.meaning c.step_round.new.rounds; coin = c.step_round.new.coin } in
    let within = c.loop-later-test.true in
    let few = c.passed-passed.ensures.low in
    let low : c.loop-later.later < 15 = omega arith in
    sym (passed_one g.R.Rule.acts g.C.Coin.acts c.args.member.n c.args.member.own c.args.slot c.loop-later.later s t low (c.passed-passed.ensures.below c.loop-later.later within) c.step_round.ensures.state)
    ∙ c.loop-later.invariant
