-- Tag 0x22 is not among the basic ones.
use Rattle.std.proofs.Common.{refl}
use Rattle.edges.proofs.messages_edges.two_phase.Goals as goal

pub returns : goal.returns
returns c = record { n = refl; third = c.basic.ensures.names 34; shares = refl }
