-- One slope more, where the value is chosen: each is taken from the values that the loop began with.
use Rattle.std.proofs.Common.{◌≡◌, ℕ, List, ◌+◌, ◌-◌, ◌*◌, ◌%◌, ◌<◌, ◌≢◌, length, slice_set, sym, ap, ap₂, ◌∙◌, ⊎_elim, arith, get_or-set_other, get_or-set_same}
use Rattle.std.proofs.lemmas.Bool.{cases_eq, both_ways}
use Rattle.basis.specs.Counts.{has}
use Rattle.polynomials.specs.Polynomials.{at}
use Rattle.polynomials.proofs.newton.slopes.Goals as goal
use Rattle.polynomials.proofs.newton.slopes.Goals.{then-contains, else-contains}

put_back : (xs : List ℕ) (i k : ℕ) → i < length xs → at (slice_set xs i (at xs i)) k ≡ at xs k
put_back xs i k l = ⊎_elim (λ e. rw e (get_or-set_same xs i (at xs i) 0 l)) (λ ne. get_or-set_other xs i k (at xs i) 0 ne) (cases_eq k i)

pub loop-j-preserved : goal.loop-j-preserved
loop-j-preserved c =
    let i = c.loop-j.j in
    let old = c.loop-j.lower in
    elim c.if-contains.branch [
      | then-contains w ↦ (
        (λ k h t. ap (λ (l : List ℕ). at l k) w.lower-is ∙ ⊎_elim
            (λ e. rw e (get_or-set_same old i w.slope_by.result 0 (omega arith) ∙ w.slope_by.ensures
            ∙ ap₂ (λ (y x : ℕ). (c.args.high + (251 - y % 251)) * x % 251) (c.loop-j.invariant.1 i (omega arith)) w.inverse.ensures.value))
            (λ ne. get_or-set_other old i k w.slope_by.result 0 ne ∙ c.loop-j.invariant.0 k (omega arith) t)
            (cases_eq k i)),
        (λ k h. let ne : k ≢ i = omega arith in ap (λ (l : List ℕ). at l k) w.lower-is ∙ get_or-set_other old i k w.slope_by.result 0 ne ∙ c.loop-j.invariant.1 k (omega arith)),
      )
      | else-contains w ↦ (
        (λ k h t. ap (λ (l : List ℕ). at l k) w.lower-is ∙ put_back old i k (omega arith) ∙ ⊎_elim
            (λ e. absurd (both_ways (has c.args.choice i) (sym c.contains.ensures ∙ w.if-contains.false) (ap (has c.args.choice) (sym e) ∙ t)))
            (λ ne. c.loop-j.invariant.0 k (omega arith) t)
            (cases_eq k i)),
        (λ k h. ap (λ (l : List ℕ). at l k) w.lower-is ∙ put_back old i k (omega arith) ∙ c.loop-j.invariant.1 k (omega arith)),
      )
    ]
