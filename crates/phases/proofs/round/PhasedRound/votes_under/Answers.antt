-- What stands under a tag of no phase, from its own lemma.
use Rattle.phases.proofs.Nothing.{nothing_elsewhere}
use Rattle.phases.proofs.round.PhasedRound.votes_under.Goals as goal

pub returns-in-Ok-clause-others : goal.returns-in-Ok-clause-others
returns-in-Ok-clause-others c = nothing_elsewhere

pub returns-in-Err-clause-others : goal.returns-in-Err-clause-others
returns-in-Err-clause-others c = nothing_elsewhere
