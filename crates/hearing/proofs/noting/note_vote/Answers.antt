-- The vote's round is changed, and nothing else.
use Rattle.std.proofs.Common.{◌≡◌, ◌<◌, ◌-◌, suc, length, refl, ap, ◌∙◌, arith}
use Rattle.ballots.specs.States.{place}
use Rattle.outcomes.specs.Hearing.{at_value as placed_at_value}
use Rattle.outcomes.specs.Tables.{ballots_in}
use Rattle.rules.specs.Rounds.{vote_of, hear_answer}
use Rattle.settling.proofs.Parts.{slots_kept}
use Rattle.hearing.proofs.Votes.{opening_heard, later_is, later_heard}
use Rattle.hearing.proofs.noting.note_vote.Goals as goal

pub returns-then-round-eq0-clause-slots : goal.returns-then-round-eq0-clause-slots
returns-then-round-eq0-clause-slots g c = slots_kept c.args.records.now c.from.result _ _ refl

pub returns-then-round-eq0-clause-ballots : goal.returns-then-round-eq0-clause-ballots
returns-then-round-eq0-clause-ballots g c =
    let rs = c.args.records.now in
    let within : c.args.slot < length rs = omega (arith, c.requires.slot, c.requires.records) in
    opening_heard (vote_of c.args.vote) c.args.slot c.from.result c.args.round rs _ c.if-round-eq0.true c.from.ensures within
    c.hear_vote.new.self c.hear_vote.ensures.left

pub returns-clause-answer : goal.returns-clause-answer
returns-clause-answer g c =
    let r = c.args.round - 1 in
    let xs = c.args.rounds.now in
    let later : c.args.round ≡ suc r = omega (arith, c.if-round-eq0.false) in
    let within : place c.args.slot r < length xs = omega (arith, c.requires.slot, c.requires.round, c.requires.rounds, c.if-round-eq0.false) in
    c.at_value-2.ensures
    ∙ ap placed_at_value (c.hear.ensures.answer
    ∙ ap (hear_answer (vote_of c.args.vote)) (later_is g.R.Rule.meaning (vote_of c.args.vote) c.args.slot r c.row_of.result c.args.round xs c.index-rounds-row_of.result (ballots_in c.args.records.now) later c.row_of.ensures within))

pub returns-clause-rounds : goal.returns-clause-rounds
returns-clause-rounds g c =
    let m = c.args.member in
    let r = c.args.round - 1 in
    let xs = c.args.rounds.now in
    let later : c.args.round ≡ suc r = omega (arith, c.if-round-eq0.false) in
    let within : place c.args.slot r < length xs = omega (arith, c.requires.slot, c.requires.round, c.requires.rounds, c.if-round-eq0.false) in
    later_heard g.R.Rule.meaning (vote_of c.args.vote) c.args.slot r c.row_of.result c.args.round xs c.index-rounds-row_of.result (ballots_in c.args.records.now) later c.row_of.ensures within
    g.R.Rule.acts m.n m.own c.hear.new.row c.hear.ensures.left
