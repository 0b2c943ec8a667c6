-- Each turn reads one digit; the loop ends with the text, or at a byte that is no digit.
use Rattle.std.proofs.Common.{◌≡◌, ◌+◌, ◌-◌, ◌^◌, min, drop, Some, sym, ap, ◌∙◌, arith}
use Rattle.text.specs.Digits.{digit_in}
use Rattle.text.proofs.Numerals.{read_after, held, read_none, read_some, read_all, read_first, held_limited}
use Rattle.text.proofs.number.number.Goals as goal

pub loop-b-init : goal.loop-b-init
loop-b-init g c = (omega arith, ap (held (2 ^ 64 - 1)) (read_first g.row.BASE (digit_in g.row.BASE) c.args.text.now (sym c.if-is_empty.ensures)))

pub loop-b-preserved : goal.loop-b-preserved
loop-b-preserved g c =
    let base = g.row.BASE in
    let rest = drop (c.loop-b.b-index + 1) c.args.text.now in
    let reads = read_some base (digit_in base) c.loop-b.number c.args.text.now c.loop-b.b-index c.in_ok-digit.field-0 c.loop-b-test.true c.in_ok-digit.ensures.value in (
      omega arith,
      ap (λ n. held (2 ^ 64 - 1) (read_after base (digit_in base) n rest)) c.followed-number.ensures
          ∙ held_limited base (digit_in base) (2 ^ 64 - 1) (omega arith) _ rest
          ∙ sym (ap (held (2 ^ 64 - 1)) reads)
          ∙ c.loop-b.invariant.1,
    )

pub returns-in_err-digit : goal.returns-in_err-digit
returns-in_err-digit g c =
    let base = g.row.BASE in
    let stops = read_none base (digit_in base) c.loop-b.number c.args.text.now c.loop-b.b-index c.loop-b-test.true c.in_err-digit.ensures.value in
    c.from_residual.ensures ∙ sym (ap (held (2 ^ 64 - 1)) stops) ∙ c.loop-b.invariant.1

pub returns : goal.returns
returns g c =
    let base = g.row.BASE in
    let fits : min c.loop-b.number (2 ^ 64 - 1) ≡ c.loop-b.number = omega arith in
    let ends = read_all base (digit_in base) c.loop-b.number c.args.text.now c.loop-b.b-index c.loop-b-test.false in
    sym (ap Some fits) ∙ sym (ap (held (2 ^ 64 - 1)) ends) ∙ c.loop-b.invariant.1
