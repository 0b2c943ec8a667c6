-- Where no step applies, to take them changes nothing.
use Rattle.phases.specs.Records.{meaning_of}
use Rattle.phases.proofs.Finished.{still}
use Rattle.phases.proofs.phased.take_if_any.Goals as goal

pub returns-else-not-is_through : goal.returns-else-not-is_through
returns-else-not-is_through g c = still _ c.args.member.n c.args.member.own (meaning_of c.args.round.now) (c.is_through.ensures c.if-not-is_through.false)
