-- The ones of a mask are counted, by rows and by columns alike.
use Rattle.std.proofs.Common.{arith}
use Rattle.basis.proofs.Counts.{ones_count}
use Rattle.basis.proofs.Totals.{rows_columns}
use Rattle.basis.proofs.replicas.size.Goals as goal

pub returns : goal.returns
returns c = record { value = ones_count 16 c.args.members (omega (arith, c.ranges.members.fits)); counted = ones_count; tables = rows_columns }
