-- So far the first rounds are cleared.
use Rattle.std.proofs.Common.{◌≡◌, map}
use Rattle.broadcast.specs.Opening.{cleared_to}
use Rattle.rules.specs.Rounds.{cleared}
use Rattle.settling.proofs.clearing.clear_rounds.Given as goal

abbrev pub invariant-loop-row : goal.invariant-loop-row
invariant-loop-row g l = map g.R.Rule.meaning l.row-items ≡ cleared_to l.row-index cleared (map g.R.Rule.meaning l.initial.row-items)
