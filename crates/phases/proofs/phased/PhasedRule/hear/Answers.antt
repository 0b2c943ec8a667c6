-- A vote that is not new leaves no trace under its own test.
use Rattle.std.proofs.Common.{◌∙◌}
use Rattle.phases.specs.Records.{meaning_of}
use Rattle.phases.specs.Steps.{records}
use Rattle.rules.specs.Rounds.{Vote, Round, vote_of, is_new}
use Rattle.rules.proofs.News.{tested_twice}
use Rattle.phases.proofs.phased.PhasedRule.hear.Goals as goal

pub returns-clause-left : goal.returns-clause-left
returns-clause-left g c =
    let w : Vote = vote_of c.args.vote in
    let m : Round = meaning_of c.args.row.now in
    c.hear_vote.ensures.left ∙ tested_twice (is_new w m) (records w.tag w.set w.sender m) m
