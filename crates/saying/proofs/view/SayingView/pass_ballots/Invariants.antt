-- None so far.
use Rattle.std.proofs.Common.{◌≡◌, None}
use Rattle.outcomes.specs.Saying.{first_of, first_share_in}
use Rattle.saying.proofs.view.SayingView.pass_ballots.Given as goal

abbrev pub invariant-loop-slot : goal.invariant-loop-slot
invariant-loop-slot g l = first_of (first_share_in g.C.Coin.acts l.self.member.own l.self.coin.now l.from) l.slot ≡ None
