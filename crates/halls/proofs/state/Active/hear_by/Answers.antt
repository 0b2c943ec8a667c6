-- Under either rule the replica answers and leaves what the rule of that name says.
use Rattle.std.proofs.Common.{sym, ap, ◌∙◌}
use Rattle.outcomes.specs.Hearing.{hear_answer_lem, hear_after}
use Rattle.outcomes.specs.Tables.{holding}
use Rattle.phases.specs.Records.{meaning_of}
use Rattle.scripts.specs.declared.command.RuleName.{RuleName}
use Rattle.halls.specs.Actives.{active_member}
use Rattle.halls.specs.States.{setting_of}
use Rattle.halls.proofs.state.Active.hear_by.Goals as goal

pub returns-in-Two-clause-answer : goal.returns-in-Two-clause-answer
returns-in-Two-clause-answer c l =
    c.hear.ensures.answer l
    ∙ ap (λ (r : RuleName). hear_answer_lem (setting_of r) (active_member c.args.self.now).n (active_member c.args.self.now).own c.args.sender c.args.packet.now (holding meaning_of l c.args.records.now c.args.rounds.now c.args.places.now c.args.coin.now)) (sym c.in-Two.is)

pub returns-in-Two-clause-left : goal.returns-in-Two-clause-left
returns-in-Two-clause-left c l =
    c.hear.ensures.left l
    ∙ ap (λ (r : RuleName). hear_after (setting_of r) (active_member c.args.self.now).n (active_member c.args.self.now).own c.args.sender c.args.packet.now (holding meaning_of l c.args.records.now c.args.rounds.now c.args.places.now c.args.coin.now)) (sym c.in-Two.is)

pub returns-in-Three-clause-answer : goal.returns-in-Three-clause-answer
returns-in-Three-clause-answer c l =
    c.hear-in-Three.ensures.answer l
    ∙ ap (λ (r : RuleName). hear_answer_lem (setting_of r) (active_member c.args.self.now).n (active_member c.args.self.now).own c.args.sender c.args.packet.now (holding meaning_of l c.args.records.now c.args.rounds.now c.args.places.now c.args.coin.now)) (sym c.in-Three.is)

pub returns-in-Three-clause-left : goal.returns-in-Three-clause-left
returns-in-Three-clause-left c l =
    c.hear-in-Three.ensures.left l
    ∙ ap (λ (r : RuleName). hear_after (setting_of r) (active_member c.args.self.now).n (active_member c.args.self.now).own c.args.sender c.args.packet.now (holding meaning_of l c.args.records.now c.args.rounds.now c.args.places.now c.args.coin.now)) (sym c.in-Three.is)
