-- What is written and the lines of the rest are the whole.
use Rattle.std.proofs.Common.{◌≡◌, ◌++◌, length, string_bytes}
use Rattle.halls.specs.Prints.{closes_text, split_lines}
use Rattle.halls.proofs.report.closing_lines.Given as goal

abbrev pub invariant-loop-field : goal.invariant-loop-field
invariant-loop-field l = string_bytes l.lines ++ split_lines l.rest ≡ closes_text l.fn.till (split_lines l.record)

abbrev pub decreases-loop-field : goal.decreases-loop-field
decreases-loop-field l = length l.rest
