-- Twelve bytes are read as the row that they stand for.
use Rattle.std.proofs.Common.{◌≡◌, length, take, drop, sym, ap, ◌∙◌, ap₂, arith, length-drop, length-take, take_all, w64, SFits, to_z, rules}
use Rattle.std.proofs.lemmas.Int.{to_z-of_z}
use Rattle.basis.specs.Bytes.{value}
use Rattle.basis.proofs.Digits.{value4, value8}
use Rattle.sheets.specs.OfTakings.{takings_held}
use Rattle.sheets.specs.OfTakingsLemmas.{held_row}
use Rattle.sheets.proofs.takings.TakingsSheet.decode.Goals as goal

pub returns : goal.returns
returns c =
    let s = c.args.s.now in
    let l : length s ≡ 12 = search rules in
    let a = c.in_ok-cents.ensures.cases in
    let n = c.in_ok-receipts.ensures.cases in
    let f : SFits w64 c.from_be_bytes.result = search rules in
    let la : length c.in_ok-cents.cents.now ≡ 8 = ap length a.0 ∙ simp length-take (omega arith) in
    let e : c.in_ok-receipts.receipts.now ≡ drop 8 s = n.0 ∙ ap (take 4) a.1 ∙ take_all 4 (drop 8 s) (simp length-drop (omega arith)) in
    let ln : length c.in_ok-receipts.receipts.now ≡ 4 = ap length e ∙ simp length-drop (omega arith) in
    c.from_row.ensures
    ∙ ap₂ (λ u v. takings_held (record { cents = u; receipts = v }))
    (to_z-of_z w64 _ f ∙ c.from_be_bytes.ensures ∙ ap (to_z w64) (sym (value8 _ la) ∙ ap value a.0))
    (c.from_be_bytes-2.ensures ∙ sym (value4 _ ln) ∙ ap value e)
    ∙ held_row s (λ i. omega (arith, c.type_inv.s i)) l
