-- The first vote, and the second.
use Rattle.std.proofs.Common.{sym, ap, ◌∙◌}
use Rattle.std.proofs.lemmas.Bool.{cond-true}
use Rattle.phases.specs.Records.{meaning_of}
use Rattle.openings.specs.Openings.{once_second, join_one}
use Rattle.openings.proofs.steps.join_for_one.Goals as goal

pub returns-then-may_join_one : goal.returns-then-may_join_one
returns-then-may_join_one c =
    let n = c.args.member.n in
    let own = c.args.member.own in
    let m = meaning_of c.args.round.now in
    c.vote_for_one.ensures ∙ ap (once_second own 2) c.record_in.ensures ∙ sym (cond-true ((join_one n own).applies m) _ _ (sym c.if-may_join_one.ensures))
