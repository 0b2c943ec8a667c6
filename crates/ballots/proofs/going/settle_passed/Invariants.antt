-- What is left of the rounds comes to the same.
use Rattle.std.proofs.Common.{◌≡◌, ◌-◌, map}
use Rattle.ballots.specs.States.{ballot_meaning}
use Rattle.ballots.specs.Ballots.{later_settled}
use Rattle.ballots.proofs.going.settle_passed.Given as goal

abbrev pub invariant-loop-later : goal.invariant-loop-later
invariant-loop-later g l =
    later_settled g.R.Rule.acts g.C.Coin.acts l.member.n l.member.own l.slot (15 - l.later) l.later (record { ballot = ballot_meaning l.ballot; rounds = map g.R.Rule.meaning l.rounds; coin = l.coin })
    ≡ later_settled g.R.Rule.acts g.C.Coin.acts l.member.n l.member.own l.slot 15 0 (record { ballot = ballot_meaning l.ballot; rounds = map g.R.Rule.meaning l.initial.rounds; coin = l.initial.coin })
