-- The row made of the sheet is compared by its fields; what differs in a field differs in its bytes.
use Rattle.std.proofs.Common.{sym, ap, ◌∙◌, rules, eq-eqb, eqb-true}
use Rattle.std.specs.Ordering.{int_eq}
use Rattle.std.specs.Prelude.{◌==◌}
use Rattle.std.proofs.lemmas.Bool.{and_parts, and_from}
use Rattle.std.proofs.lemmas.Bool.Decides.{Decides-int_eq}
use Rattle.sheets.specs.OfTakingsLemmas.{is_held, not_held, in_range_of, row_of}
use Rattle.sheets.specs.Tests.{test_is}
use Rattle.sheets.specs.contracts.kinds.TakingsRowPartialEq.TheImpl.{eq-value as same}
use Rattle.sheets.proofs.kinds.Takings.is_row.Goals as goal

pub returns : goal.returns
returns c =
    let x = c.args.self.now in
    let r = c.args.row in
    c.eq.ensures ∙ ap (same.it r) (c.to_row.ensures ∙ sym (row_of x.cents x.receipts (in_range_of x) x.fits)) ∙ test_is _ _
    (λ t. let p = and_parts (int_eq r.cents x.cents) (r.receipts == x.receipts) t in
    is_held x r (sym ((Decides-int_eq r.cents x.cents).0 p.0)) (sym (eqb-true _ _ p.1)))
    (λ ne. not_held x r (search rules) (λ p q. ne (and_from _ _ ((Decides-int_eq r.cents x.cents).1 (sym p)) (eq-eqb _ _ (sym q)))))
