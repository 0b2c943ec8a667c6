-- Nobody waits at rest under either rule: its rounds end, and what it says others may hear.
use denote.Param.{number}
use Rattle.claims.proofs.Sayable.{phases_sayable}
use Rattle.phases.proofs.Ending.{either_ends}
use Rattle.instances.specs.contracts.takings.record_shared.{THIRD-type}
use Rattle.instances.proofs.takings.record_shared.Goals as goal

pub returns-clause-rest : goal.returns-clause-rest
returns-clause-rest g c = c.record.ensures.rest (either_ends (THIRD-type (number g.row.THIRD))) (phases_sayable (THIRD-type (number g.row.THIRD)))
