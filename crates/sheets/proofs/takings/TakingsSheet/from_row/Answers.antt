-- A row in range makes lawful takings.
use Rattle.std.proofs.Common.{sym, arith, w32, Fits, rules}
use Rattle.sheets.specs.OfTakingsLemmas.{within}
use Rattle.sheets.proofs.takings.TakingsSheet.from_row.Goals as goal

pub invariant_of-result : goal.invariant_of-result
invariant_of-result c =
    let k : Fits w32 c.args.place.receipts = search rules in
    record { lawful = within _ (sym c.if-not-in_range.ensures); fits = omega arith }
