-- The digits that are left, read after the number so far, give the number of the text.
use Rattle.std.proofs.Common.{◌≡◌, ◌-◌, ◌^◌, ◌<◌, drop}
use Rattle.text.specs.Digits.{digit_in, limited_number}
use Rattle.text.proofs.Numerals.{read_after, held}
use Rattle.text.proofs.number.number.Given as goal

abbrev pub invariant-loop-b : goal.invariant-loop-b
invariant-loop-b g l =
    (l.number < 2 ^ 64) × (held (2 ^ 64 - 1) (read_after g.row.BASE (digit_in g.row.BASE) l.number (drop l.b-index l.text)) ≡ limited_number g.row.BASE (digit_in g.row.BASE) l.text)
