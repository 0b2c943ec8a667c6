-- Turns of the search: a choice that is skipped, one that fails, and one that is found.
use Rattle.std.proofs.Common.{◌≡◌, ℕ, ◌+◌, ◌-◌, ◌/◌, ◌^◌, ◌<◌, length, Some, None, sym, refl, ap, ◌∙◌, subst, arith, pow_mono, lt_of_lt_of_le}
use Rattle.std.proofs.lemmas.Bool.{eqb-true, eqb-false}
use Rattle.std.proofs.lemmas.List.{length-take, get_or-take}
use borrow.Author.Tests.{ltb-true}
use Rattle.basis.specs.Counts.{has, count}
use Rattle.basis.specs.Halls.{largest, quorum}
use Rattle.polynomials.specs.Polynomials.{at}
use Rattle.polynomials.specs.Shares.{first_of, tried, nth_choice, meets_by}
use Rattle.polynomials.proofs.Choosing.{first_none, few_left, met_at, met_more, met_no_more, turn_skipped}
use Rattle.polynomials.proofs.Trying.{Tried, tried_by, goes_on, ends_at}
use Rattle.polynomials.proofs.search.search_part.Goals as goal
use Rattle.polynomials.proofs.search.search_part.Goals.{then-meets_share+else-is_enough, else-meets_share+else-is_hopeless}

pub choices-init : goal.choices-init
unfolding first_of
choices-init c = (refl, refl)

pub choices-preserved-then-not-is_usable : goal.choices-preserved-then-not-is_usable
choices-preserved-then-not-is_usable c =
    let share = at c.args.shares.now in
    let to = c.args.part.to in
    let none : tried c.args.n c.args.held share to (nth_choice c.args.part.from c.choices.k) ≡ None =
    subst (λ (x : ℕ). tried c.args.n c.args.held share to x ≡ None) c.nth-choice.ensures (turn_skipped c.args.n c.args.held share share to c.nth-choice.result (sym c.is_usable.ensures ∙ c.if-not-is_usable.true)) in
    (c.choices.invariant.0, first_none c.choices.k (λ k. tried c.args.n c.args.held share to (nth_choice c.args.part.from k)) c.choices.invariant.1 none)

pub loop-j-init : goal.loop-j-init
unfolding count
loop-j-init c = (c.choices.invariant.0, refl, omega arith, omega arith)

pub loop-j-preserved : goal.loop-j-preserved
loop-j-preserved c =
    let share = at c.args.shares.now in
    let m = c.nth-choice.result in
    let d = at c.interpolate.new.ys in
    let w = length c.interpolate.new.ys in
    let g = met_at c.args.n c.args.held share d c.args.part.to m w in
    let here : c.meets_share.result ≡ g c.loop-j.j = c.meets_share.ensures ∙ ap (λ (x : ℕ). meets_by w (has m) d (has c.args.held) x c.loop-j.j) (get_or-take c.from-in-choices.result c.args.shares.now c.loop-j.j 0 (omega (arith, length-take c.from-in-choices.result c.args.shares.now))) in
    elim c.if-meets_share.branch [
      | then-meets_share+else-is_enough w ↦
          let ne = eqb-false (c.loop-j.met + 1) (quorum c.args.n) (sym w.is_enough.ensures ∙ w.if-is_enough.false) in
          (c.loop-j.invariant.0, w.met-is ∙ met_more g c.loop-j.j c.loop-j.met c.loop-j.invariant.1 (sym here ∙ w.if-meets_share.true), omega (arith, w.met-is), omega (arith, w.met-is))
      | else-meets_share+else-is_hopeless w ↦
          (c.loop-j.invariant.0, w.met-is ∙ met_no_more g c.loop-j.j c.loop-j.met c.loop-j.invariant.1 (sym here ∙ w.if-meets_share.false), omega (arith, w.met-is), omega (arith, w.met-is))
    ]

pub choices-preserved : goal.choices-preserved
choices-preserved c =
    let share = at c.args.shares.now in
    let m = c.nth-choice.result in
    let ys = c.interpolate.new.ys in
    let t : Tried c.args.n c.args.held c.args.part.from c.args.part.to c.choices.k m share ys =
    tried_by c.args.n c.args.held c.args.part.from c.args.part.to c.choices.k c.from.result m c.args.shares.now ys c.args.part.ordered (omega (arith, c.args.part.small)) c.from.ensures (omega arith) (omega (arith, length-take c.from.result c.args.shares.now)) (omega (arith, c.choices-k-end.ensures)) c.nth-choice.ensures (sym c.is_usable.ensures ∙ c.if-not-is_usable.false) c.interpolate.ensures.value in
    let e : c.loop-j.j ≡ c.args.n = omega (arith, length-take c.from-in-choices.result c.args.shares.now) in
    let few = subst (λ (x : ℕ). count x (met_at c.args.n c.args.held share (at ys) c.args.part.to m (length ys)) < quorum c.args.n) e (omega (arith, c.loop-j.invariant.1, c.loop-j.invariant.2)) in
    (c.loop-j.invariant.0, goes_on c.args.n c.args.held c.args.part.from c.args.part.to c.choices.k m share ys t c.choices.invariant.1 few)

pub choices-preserved-then-is_hopeless : goal.choices-preserved-then-is_hopeless
choices-preserved-then-is_hopeless c =
    let m = c.nth-choice.result in
    let ys = c.interpolate.new.ys in
    let t : Tried c.args.n c.args.held c.args.part.from c.args.part.to c.choices.k m (at c.args.shares.now) ys =
    tried_by c.args.n c.args.held c.args.part.from c.args.part.to c.choices.k c.from.result m c.args.shares.now ys c.args.part.ordered (omega (arith, c.args.part.small)) c.from.ensures (omega arith) (omega (arith, length-take c.from.result c.args.shares.now)) (omega (arith, c.choices-k-end.ensures)) c.nth-choice.ensures (sym c.is_usable.ensures ∙ c.if-not-is_usable.false) c.interpolate.ensures.value in
    let g = met_at c.args.n c.args.held (at c.args.shares.now) (at ys) c.args.part.to m (length ys) in
    let here : c.meets_share.result ≡ g c.loop-j.j = c.meets_share.ensures ∙ ap (λ (x : ℕ). meets_by (length ys) (has m) (at ys) (has c.args.held) x c.loop-j.j) (get_or-take c.from-in-choices.result c.args.shares.now c.loop-j.j 0 (omega (arith, length-take c.from-in-choices.result c.args.shares.now))) in
    let within : c.loop-j.j < c.args.n = omega (arith, length-take c.from-in-choices.result c.args.shares.now) in
    let far : c.loop-j.met + count largest (has (c.args.held / 2 ^ (c.loop-j.j + 1))) < quorum c.args.n = ltb-true _ _ (sym c.is_hopeless.ensures ∙ c.if-is_hopeless.true) in
    let few =
    few_left c.args.n c.args.held c.args.part.to m (at c.args.shares.now) (at ys) (length ys) (c.loop-j.j + 1) c.loop-j.met c.requires.0 (lt_of_lt_of_le t.mask (pow_mono c.args.part.small)) t.usable (omega (arith, within))
    (met_no_more g c.loop-j.j c.loop-j.met c.loop-j.invariant.1 (sym here ∙ c.if-meets_share.false)) far in
    (c.loop-j.invariant.0, goes_on c.args.n c.args.held c.args.part.from c.args.part.to c.choices.k m (at c.args.shares.now) ys t c.choices.invariant.1 few)

pub returns-after-choices : goal.returns-after-choices
returns-after-choices c =
    let share = at c.args.shares.now in
    let e : c.choices.k ≡ 2 ^ (c.args.part.to - c.args.part.from) = omega (arith, c.choices-k-end.ensures) in
    c.choices.invariant.0 ∙ sym (subst (λ (x : ℕ). first_of x (λ k. tried c.args.n c.args.held share c.args.part.to (nth_choice c.args.part.from k)) ≡ None) e c.choices.invariant.1)

pub returns-then-is_enough : goal.returns-then-is_enough
returns-then-is_enough c =
    let m = c.nth-choice.result in
    let ys = c.interpolate.new.ys in
    let t : Tried c.args.n c.args.held c.args.part.from c.args.part.to c.choices.k m (at c.args.shares.now) ys =
    tried_by c.args.n c.args.held c.args.part.from c.args.part.to c.choices.k c.from.result m c.args.shares.now ys c.args.part.ordered (omega (arith, c.args.part.small)) c.from.ensures (omega arith) (omega (arith, length-take c.from.result c.args.shares.now)) (omega (arith, c.choices-k-end.ensures)) c.nth-choice.ensures (sym c.is_usable.ensures ∙ c.if-not-is_usable.false) c.interpolate.ensures.value in
    let here : c.meets_share.result ≡ met_at c.args.n c.args.held (at c.args.shares.now) (at ys) c.args.part.to m (length ys) c.loop-j.j =
    c.meets_share.ensures ∙ ap (λ (x : ℕ). meets_by (length ys) (has m) (at ys) (has c.args.held) x c.loop-j.j) (get_or-take c.from-in-choices.result c.args.shares.now c.loop-j.j 0 (omega (arith, length-take c.from-in-choices.result c.args.shares.now))) in
    ap Some c.bit_at_zero.ensures
    ∙ sym (ends_at c.args.n c.args.held c.args.part.from c.args.part.to c.choices.k m (at c.args.shares.now) ys t c.choices.invariant.1 c.loop-j.j c.loop-j.met (omega (arith, c.choices-k-end.ensures)) (omega (arith, length-take c.from-in-choices.result c.args.shares.now)) c.loop-j.invariant.1
    (sym here ∙ c.if-meets_share.true) (eqb-true (c.loop-j.met + 1) (quorum c.args.n) (sym c.is_enough.ensures ∙ c.if-is_enough.true)))
