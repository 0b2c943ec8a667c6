-- Where fewer than 2f + 1 have voted, not enough votes count.
use Rattle.phases.specs.Phases.{tag_of}
use Rattle.phases.specs.Records.{meaning_of}
use Rattle.phases.proofs.Finished.{counting_voted}
use Rattle.phases.proofs.round.PhasedRound.has_enough_in.Goals as goal

pub returns-else-has_quorum : goal.returns-else-has_quorum
returns-else-has_quorum c = counting_voted c.args.n (tag_of c.args.phase) (meaning_of c.args.self.now) c.has_quorum.result c.has_quorum.ensures c.if-has_quorum.false
