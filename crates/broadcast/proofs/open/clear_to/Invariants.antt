-- So far the first rows are cleared.
use Rattle.std.proofs.Common.{◌≡◌}
use Rattle.broadcast.specs.Opening.{cleared_to}
use Rattle.broadcast.proofs.open.clear_to.Given as goal

abbrev pub invariant-loop-row : goal.invariant-loop-row
invariant-loop-row g l = l.row-items ≡ cleared_to l.row-index l.empty l.initial.row-items
