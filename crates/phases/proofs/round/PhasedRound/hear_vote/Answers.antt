-- A vote under a tag of no phase is new.
use Rattle.std.proofs.Common.{sym}
use Rattle.rules.specs.Rounds.{vote_of}
use Rattle.phases.proofs.Masks.{unheard}
use Rattle.phases.proofs.round.PhasedRound.hear_vote.Goals as goal

pub returns-in_default-clause-answer : goal.returns-in_default-clause-answer
returns-in_default-clause-answer c = sym (unheard c.args.self.now (vote_of c.args.vote) c.in_default.ensures.0)
