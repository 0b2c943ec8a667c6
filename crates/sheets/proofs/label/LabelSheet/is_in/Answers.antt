-- The sheet made of the row is compared by its fields; what differs in a field differs in its bytes.
use Rattle.std.proofs.Common.{◌≡◌, true, refl, ap, subst, ◌∙◌, eq-eqb, eqb-true}
use Rattle.std.specs.Bool.{Decides}
use Rattle.std.specs.Cmp.Lexicographic.{pointwise}
use Rattle.std.specs.Prelude.{◌==◌, nat_eq}
use Rattle.std.proofs.lemmas.Bool.{and_parts, and_from}
use Rattle.std.proofs.lemmas.Bool.Decides.{Decides-eqb}
use Rattle.std.proofs.lemmas.Slice.Eq.{slice_eq-Decides}
use Rattle.sheets.specs.OfLabels.{label_bytes, file_bytes}
use Rattle.sheets.specs.OfLabelsLemmas.{label_alone}
use Rattle.sheets.specs.HoldsLemmas.{is_held}
use Rattle.sheets.specs.declared.kinds.Label.{Label}
use Rattle.sheets.specs.contracts.kinds.LabelPartialEq.TheImpl.{eq-value as same}
use Rattle.sheets.proofs.label.LabelSheet.is_in.Goals as goal

reflexive : (x : Label) → same.it x x ≡ true
reflexive x = and_from _ _ ((slice_eq-Decides Decides-eqb x.fingerprint x.fingerprint _ refl).1 refl) (eq-eqb x.size x.size refl)

decides : (x y : Label) → Decides (same.it x y) (label_bytes x ≡ label_bytes y)
decides x y = (
  λ t. let p = and_parts (pointwise nat_eq x.fingerprint y.fingerprint) (x.size == y.size) t in
      ap (λ z. file_bytes z x.size) ((slice_eq-Decides Decides-eqb x.fingerprint y.fingerprint _ refl).0 p.0) ∙ ap (file_bytes y.fingerprint) (eqb-true _ _ p.1),
  λ e. subst (λ z. same.it x z ≡ true) (label_alone x y e) (reflexive x),
)

pub returns : goal.returns
returns c = c.eq.ensures ∙ is_held label_bytes same.it decides c.args.self.now c.from_row.result _ c.from_row.ensures
