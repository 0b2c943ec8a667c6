-- A turn writes the line of the first field; in the end none is left.
use Rattle.std.proofs.Common.{string_bytes}
use Rattle.halls.proofs.Printing.{line_more, lines_end}
use Rattle.halls.proofs.report.closing_lines.Goals as goal

pub loop-field-preserved : goal.loop-field-preserved
unfolding lib.Utf8.encode
loop-field-preserved c =
    line_more (string_bytes c.loop-field.lines) (string_bytes c.push_hex.new.out) (string_bytes c.push.new.self) c.loop-field.rest.now c.in-Some.field.now c.in-Some.more.now _
    c.loop-field.invariant c.in_ok-push_hex.ensures.ok c.in_ok-push.ensures.bytes c.in-Some.ensures.value

pub returns-clause-lines : goal.returns-clause-lines
returns-clause-lines c =
    lines_end (string_bytes c.loop-field.lines) c.loop-field.rest.now _ c.loop-field.invariant c.in_default.ensures.value
