-- Round after round, and then none is left.
use Rattle.std.proofs.Common.{◌≤◌, map, sym, ◌∙◌, arith}
use Rattle.std.proofs.lemmas.Bool.{ltb-false}
use Rattle.ballots.specs.States.{BallotState, ballot_meaning}
use Rattle.ballots.proofs.Settling.{later_one, later_none, all_swept}
use Rattle.ballots.proofs.Sweeps.{swept_still}
use Rattle.ballots.proofs.Order.{listed_order}
use Rattle.ballots.proofs.going.settle_ballot.Goals as goal

pub loop-later-preserved : goal.loop-later-preserved
loop-later-preserved g c =
    let s : BallotState _ = record { ballot = ballot_meaning c.loop-later.ballot; rounds = map g.R.Rule.meaning c.loop-later.rounds; coin = c.loop-later.coin } in
    let t : BallotState _ = record { ballot = ballot_meaning c.settle_round.new.ballot; rounds = map g.R.Rule.meaning c.settle_round.new.rounds; coin = c.settle_round.new.coin } in
    sym (later_one g.R.Rule.acts g.C.Coin.acts c.args.member.n c.args.member.own c.args.slot c.loop-later.later s t c.loop-later-test.true c.settle_round.ensures)
    ∙ c.loop-later.invariant

pub returns-then-not-has_entered-clause-taken : goal.returns-then-not-has_entered-clause-taken
returns-then-not-has_entered-clause-taken g c =
    let a = g.R.Rule.acts in
    let b = g.C.Coin.acts in
    let m = c.args.member in
    let k = c.args.slot in
    let s : BallotState _ = record { ballot = ballot_meaning c.loop-later.ballot; rounds = map g.R.Rule.meaning c.loop-later.rounds; coin = c.loop-later.coin } in
    let before : BallotState _ = record { ballot = ballot_meaning c.args.ballot.now; rounds = map g.R.Rule.meaning c.args.rounds.now; coin = c.args.coin.now } in
    let left = swept_still a b m.n m.own k _ c.loop-later.later s (ltb-false _ _ (sym c.has_entered.ensures ∙ c.if-not-has_entered.true)) in
    all_swept a b m.n m.own k c.args.delivered before s _ _ _ (sym left ∙ c.loop-later.invariant ∙ c.settle_passed-passed.ensures.left) c.repropose.ensures c.settle_opening.ensures.ballot c.settle_opening.ensures.rounds
    ∙ sym (listed_order a b m.n m.own k c.args.delivered before).0

pub returns-then-not-has_entered-clause-order : goal.returns-then-not-has_entered-clause-order
returns-then-not-has_entered-clause-order g c = listed_order g.R.Rule.acts g.C.Coin.acts

pub returns-clause-taken : goal.returns-clause-taken
returns-clause-taken g c =
    let a = g.R.Rule.acts in
    let b = g.C.Coin.acts in
    let m = c.args.member in
    let k = c.args.slot in
    let s : BallotState _ = record { ballot = ballot_meaning c.loop-later.ballot; rounds = map g.R.Rule.meaning c.loop-later.rounds; coin = c.loop-later.coin } in
    let before : BallotState _ = record { ballot = ballot_meaning c.args.ballot.now; rounds = map g.R.Rule.meaning c.args.rounds.now; coin = c.args.coin.now } in
    let all : 15 ≤ c.loop-later.later = omega arith in
    let left = later_none a b m.n m.own k c.loop-later.later s all in
    all_swept a b m.n m.own k c.args.delivered before s _ _ _ (sym left ∙ c.loop-later.invariant ∙ c.settle_passed-passed.ensures.left) c.repropose.ensures c.settle_opening.ensures.ballot c.settle_opening.ensures.rounds
    ∙ sym (listed_order a b m.n m.own k c.args.delivered before).0

pub returns-clause-order : goal.returns-clause-order
returns-clause-order g c = listed_order g.R.Rule.acts g.C.Coin.acts
