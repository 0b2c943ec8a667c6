-- No slot so far has a vote.
use Rattle.std.proofs.Common.{◌≡◌, None}
use Rattle.outcomes.specs.Holdings.{Running}
use Rattle.outcomes.specs.Tables.{holding}
use Rattle.outcomes.specs.Saying.{first_of, first_in_ballot}
use Rattle.saying.proofs.view.SayingView.first_under.Given as goal

abbrev pub invariant-loop-slot : goal.invariant-loop-slot
invariant-loop-slot g l =
    let h = holding g.R.Rule.meaning Running l.self.records.now l.self.rounds.now l.self.places.now l.self.coin.now in
    first_of (first_in_ballot l.self.member.own h l.from l.tag) l.slot ≡ None
