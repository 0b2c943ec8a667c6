-- More than f hold an honest one.
use Rattle.std.proofs.Common.{rules}
use Rattle.basis.proofs.Counts.{one_honest}
use Rattle.basis.proofs.replicas.has_honest.Goals as goal

pub returns : goal.returns
returns c = record { value = search rules; honest = one_honest }
