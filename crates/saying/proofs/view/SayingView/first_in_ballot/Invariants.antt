-- No round so far has a vote.
use Rattle.std.proofs.Common.{◌≡◌, None}
use Rattle.outcomes.specs.Holdings.{Running}
use Rattle.outcomes.specs.Tables.{holding}
use Rattle.outcomes.specs.Saying.{first_of, first_value}
use Rattle.saying.proofs.view.SayingView.first_in_ballot.Given as goal

abbrev pub invariant-loop-round : goal.invariant-loop-round
invariant-loop-round g l =
    let h = holding g.R.Rule.meaning Running l.self.records.now l.self.rounds.now l.self.places.now l.self.coin.now in
    first_of (first_value l.self.member.own h l.from l.tag l.slot) l.round ≡ None
