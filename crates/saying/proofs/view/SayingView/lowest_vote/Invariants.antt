-- No tag so far has a vote.
use Rattle.std.proofs.Common.{◌≡◌, ◌+◌, None}
use Rattle.outcomes.specs.Holdings.{Running}
use Rattle.outcomes.specs.Tables.{setting, holding}
use Rattle.outcomes.specs.Saying.{first_of, first_if_used}
use Rattle.saying.proofs.view.SayingView.lowest_vote.Given as goal

abbrev pub invariant-loop-offset : goal.invariant-loop-offset
invariant-loop-offset g l =
    let m = g.S.Sheet in
    let h = holding g.R.Rule.meaning Running l.self.records.now l.self.rounds.now l.self.places.now l.self.coin.now in
    first_of (λ i. first_if_used (setting m.rows m.LEN m.KIND m.lawful g.R.Rule.acts g.C.Coin.acts) l.self.member.n l.self.member.own h l.from (32 + i)) l.offset ≡ None
