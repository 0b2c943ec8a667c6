-- One row is entered.
use Rattle.std.proofs.Common.{rules, ◌<◌, length, ◌∙◌}
use Rattle.rules.specs.Rounds.{bit_set}
use Rattle.ballots.specs.States.{place}
use Rattle.ballots.proofs.Rows.{row_written}
use Rattle.ballots.proofs.going.go_on.Goals as goal

pub returns-in-Some-clause-rounds : goal.returns-in-Some-clause-rounds
returns-in-Some-clause-rounds g c =
    let within : place c.args.slot c.args.round < length c.args.rounds.now = search rules in
    row_written g.R.Rule.meaning c.args.rounds.now c.row_of.result (place c.args.slot c.args.round) c.index-rounds-row_of.result c.row_of.ensures within
    (g.R.Rule.acts.enter c.args.member.n c.args.member.own (bit_set c.in-Some.bit)) c.enter.new.row c.enter.ensures ∙ search rules
