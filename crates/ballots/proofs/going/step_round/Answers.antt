-- The rule's steps and the share, one after the other.
use Rattle.std.proofs.Common.{◌<◌, length, map, sym, ap, ◌∙◌, arith}
use Rattle.rules.specs.Rounds.{Round}
use Rattle.ballots.specs.States.{BallotState, ballot_meaning, place}
use Rattle.ballots.proofs.Settling.{step_by}
use Rattle.ballots.proofs.Rows.{row_written_if, row_new}
use Rattle.ballots.proofs.going.step_round.Goals as goal

pub returns : goal.returns
returns g c =
    let s : BallotState _ = record { ballot = ballot_meaning c.args.ballot.now; rounds = map g.R.Rule.meaning c.args.rounds.now; coin = c.args.coin.now } in
    let k = c.args.at.slot in
    let r = c.args.at.later in
    let f = g.R.Rule.meaning in
    let d = c.index-rounds-row_of.result in
    let y = c.take_rule_steps.new.row in
    let low = c.args.at.of_a_ballot in
    let fits = c.requires in
    let within : place k r < length c.args.rounds.now = omega arith in
    let ms = row_written_if f c.args.rounds.now c.row_of.result (place k r) d c.row_of.ensures within _ (g.R.Rule.acts.steps c.args.member.n c.args.member.own) y c.take_rule_steps.ensures in
    let v = c.verdict-verdict.ensures ∙ ap (λ (m : Round). m.verdict) (sym (row_new f c.args.rounds.now c.row_of.result (place k r) d c.row_of.ensures within y)) in
    record { state = step_by g.R.Rule.acts g.C.Coin.acts c.args.member.n c.args.member.own k r s _ _ _ ms v c.say_share.ensures; verdict = v }
