-- Thirty-six bytes are read as the numbers that they stand for.
use Rattle.std.proofs.Common.{◌≡◌, ℕ, ◌≤◌, eqb, List, length, take, Some, None, sym, ap, ◌∙◌, arith, length-take, take_all, eq-eqb}
use Rattle.std.proofs.lemmas.Bool.{cond-true}
use Rattle.basis.proofs.Digits.{value4, value8}
use Rattle.sheets.specs.OfLabelsLemmas.{read_five}
use Rattle.sheets.proofs.label.LabelSheet.decode.Goals as goal

pub returns : goal.returns
returns c =
    let s = c.args.s.now in
    let a = c.in_ok-a.ensures.cases in
    let b = c.in_ok-b.ensures.cases in
    let d = c.in_ok-c.ensures.cases in
    let e = c.in_ok-d.ensures.cases in
    let n = c.in_ok-n.ensures.cases in
    let l : length s ≡ 36 = omega (arith, a.2, b.2, d.2, e.2, n.2) in
    let eight : (x y : List ℕ) → x ≡ take 8 y → 8 ≤ length y → length x ≡ 8 = λ x y q h. ap length q ∙ simp length-take (omega arith) in
    let we : c.in_ok-n.n.now ≡ _ = n.0 ∙ take_all 4 _ (omega (arith, n.2)) in
    let four : length c.in_ok-n.n.now ≡ 4 = ap length we ∙ omega (arith, n.2) in
    let bytes = read_five s _ _ _ _ _ _ _ _ _ _ _ _ _ _ (λ i. omega (arith, c.type_inv.s i)) l (a.0, a.1) (b.0, b.1) (d.0, d.1) (e.0, e.1) we
    (c.from_be_bytes.ensures ∙ sym (value8 _ (eight _ _ a.0 (omega (arith, a.2)))))
    (c.from_be_bytes-2.ensures ∙ sym (value8 _ (eight _ _ b.0 (omega (arith, b.2)))))
    (c.from_be_bytes-3.ensures ∙ sym (value8 _ (eight _ _ d.0 (omega (arith, d.2)))))
    (c.from_be_bytes-4.ensures ∙ sym (value8 _ (eight _ _ e.0 (omega (arith, e.2)))))
    (c.from_be_bytes-size.ensures ∙ sym (value4 _ four)) in
    ap Some bytes ∙ sym (cond-true (eqb (length s) 36) (Some s) None (eq-eqb _ _ l))
