-- None so far.
use Rattle.std.proofs.Common.{◌≡◌, None}
use Rattle.outcomes.specs.Saying.{first_of, share_from}
use Rattle.saying.proofs.view.SayingView.pass_rounds.Given as goal

abbrev pub invariant-loop-later : goal.invariant-loop-later
invariant-loop-later g l = first_of (share_from g.C.Coin.acts l.self.member.own l.self.coin.now l.from l.slot) l.later ≡ None
