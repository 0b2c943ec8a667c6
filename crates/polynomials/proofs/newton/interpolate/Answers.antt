-- A turn of Newton's rule, at a chosen point and at another.
use Rattle.std.proofs.Common.{◌≡◌, ℕ, suc, ◌+◌, ◌-◌, ◌%◌, ◌<◌, ◌≤◌, true, ◌++◌, length, take, drop, sym, refl, ap, ap₂, ◌∙◌, arith}
use Rattle.std.proofs.lemmas.List.{length-take-le, get_or-take, get_or-drop, get_or_append_left, get_or-append_right}
use Rattle.basis.specs.Counts.{has}
use Rattle.polynomials.specs.Polynomials.{slope_to, slope, through, at, nval}
use Rattle.polynomials.proofs.Roots.{at_most_one}
use Rattle.polynomials.proofs.Interpolation.{interpolates}
use Rattle.polynomials.proofs.Turns.{turn_in, turn_out}
use Rattle.polynomials.proofs.newton.interpolate.Goals as goal

pub loop-i-preserved-then-contains : goal.loop-i-preserved-then-contains
unfolding slope
loop-i-preserved-then-contains c d z e h =
    let k = c.loop-i.i - 1 in
    let i : suc k ≡ c.loop-i.i = omega arith in
    let front : length (take k c.loop-i.ys) ≡ k = length-take-le k c.loop-i.ys (omega arith) in
    let long : length c.slopes.new.lower ≡ k = omega arith in
    let low : (j : ℕ) → j < k → has c.args.choice j ≡ true → at (c.slopes.new.lower ++ drop k c.loop-i.ys) j ≡ slope (at c.loop-i.ys) k j % 251 =
    λ j l t. get_or_append_left c.slopes.new.lower (drop k c.loop-i.ys) 0 j (omega arith) ∙ c.slopes.ensures j (omega arith) t
    ∙ ap₂ (λ (y d : ℕ). slope_to (at c.loop-i.ys k) y (d - j) % 251) (get_or-take k c.loop-i.ys j 0 l) front in
    let high : (j : ℕ) → k ≤ j → at (c.slopes.new.lower ++ drop k c.loop-i.ys) j ≡ at c.loop-i.ys j =
    λ j l. let n : k + (j - k) ≡ j = omega arith in get_or-append_right c.slopes.new.lower (drop k c.loop-i.ys) k j 0 long l ∙ get_or-drop k c.loop-i.ys (j - k) 0 ∙ ap (at c.loop-i.ys) n in
    let r = turn_in k (has c.args.choice) (at c.loop-i.ys) (at (c.slopes.new.lower ++ drop k c.loop-i.ys)) d z (omega arith) (sym c.contains.ensures ∙ c.if-contains.true) low (e k (omega arith) ∙ high k (omega arith)) h in
    c.loop-i.invariant d z (λ j l. e j (omega arith) ∙ high j (omega arith)) (rw i at r)

pub loop-i-preserved : goal.loop-i-preserved
loop-i-preserved c d z e h =
    let i : suc (c.loop-i.i - 1) ≡ c.loop-i.i = omega arith in
    let r = turn_out (c.loop-i.i - 1) (has c.args.choice) (at c.loop-i.ys) d z (sym c.contains.ensures ∙ c.if-contains.false) h in
    c.loop-i.invariant d z (λ j l. e j (omega arith)) (rw i at r)

pub returns : goal.returns
unfolding nval through
returns c = record {
  value = λ z. let e : c.loop-i.i ≡ 0 = omega arith in c.loop-i.invariant (at c.loop-i.ys) z (λ j l. refl) (rw e refl);
  interpolates = interpolates;
  one = at_most_one;
}
