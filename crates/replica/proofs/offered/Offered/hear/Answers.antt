-- The numbers are those of the replica.
use Rattle.std.proofs.Common.{ap, ◌∙◌}
use Rattle.basis.specs.declared.member.Member.{Member as Numbered}
use Rattle.outcomes.specs.Hearing.{hear_answer_lem, hear_after}
use Rattle.outcomes.specs.Tables.{setting, holding}
use Rattle.replica.proofs.offered.Offered.hear.Goals as goal

pub returns-clause-answer : goal.returns-clause-answer
returns-clause-answer g c l =
    c.hear.ensures.answer l
    ∙ ap (λ (m : Numbered). hear_answer_lem (setting g.S.Sheet.rows g.S.Sheet.LEN g.S.Sheet.KIND g.S.Sheet.lawful g.R.Rule.acts g.C.Coin.acts) m.n m.own c.args.sender c.args.packet.now (holding g.R.Rule.meaning l c.args.records.now c.args.rounds.now c.args.places.now c.args.coin.now)) c.member.ensures

pub returns-clause-left : goal.returns-clause-left
returns-clause-left g c l =
    c.hear.ensures.left l
    ∙ ap (λ (m : Numbered). hear_after (setting g.S.Sheet.rows g.S.Sheet.LEN g.S.Sheet.KIND g.S.Sheet.lawful g.R.Rule.acts g.C.Coin.acts) m.n m.own c.args.sender c.args.packet.now (holding g.R.Rule.meaning l c.args.records.now c.args.rounds.now c.args.places.now c.args.coin.now)) c.member.ensures
