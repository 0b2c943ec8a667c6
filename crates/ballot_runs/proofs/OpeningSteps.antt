-- Each step of the opening round adds own votes, or the verdict, with their grounds. Assumes nothing.
use Rattle.std.proofs.Common.{◌≡◌, ℕ, ◌<◌, ◌≤◌, Bool, true, false, eqb, leb, sym, refl, ap, ◌∙◌, subst, inl, inr, ⊎_elim, arith}
use Rattle.std.proofs.lemmas.Bool.{eqb-true, ne_eqb, leb-true, leb-false, cond_both, and_parts, and_from, or_left, or_cases, not-true, not_from_false, both_ways}
use Rattle.basis.specs.Counts.{count}
use Rattle.basis.specs.Halls.{quorum, beyond_faults}
use Rattle.basis.specs.Steps.{taking}
use Rattle.basis.proofs.Counts.{count_mono, count_both, count_some}
use Rattle.rules.specs.Rounds.{Round, voted}
use Rattle.rules.specs.Laws.{Single, Holds, first_of_others}
use Rattle.phases.specs.Steps.{says, is_entered_lem, many}
use Rattle.phases.specs.Unions.{Full}
use Rattle.phases.specs.Adding.{own_none, own_then, own_ends}
use Rattle.openings.specs.Openings.{admits, supports, ready_to_leave, tally, join_zero, join_one, admit, leave, opening_settled}
use Rattle.openings.proofs.Turning.{opening_pass}
use Rattle.ballot_runs.proofs.Opens.{Others, OneAdmitted, Ground, entered_now, grown, Mine, by_step, says_first, says_second}

module _ (n own : ℕ) (d : Bool) where
  -- where the own first vote is not among them, f + 1 first votes are others'
  others : (m : Round) → beyond_faults n ≤ count n (m.votes 32 2) → m.votes 32 2 own ≡ false → Others n own m
  others m h none = let c = count_mono n (m.votes 32 2) (first_of_others own m 2)
      (λ j y. and_from _ _ y (not_from_false _ (ne_eqb j own (λ q. both_ways _ none (ap (m.votes 32 2) (sym q) ∙ y))))) in omega arith

  joins_zero : (m : Round) → Mine n own d m (taking (join_zero n own) m)
  joins_zero m = by_step n own d (join_zero n own) m (λ go. let p = and_parts (is_entered_lem m) _ go in says_first n own d 1 m (omega arith, omega arith) (entered_now m p.0) (λ z. absurd (omega arith)))

  joins_one : (m : Round) → Mine n own d m (taking (join_one n own) m)
  joins_one m = by_step n own d (join_one n own) m (λ go.
      let p = and_parts (is_entered_lem m) _ go in let q = and_parts (many n (beyond_faults n) 32 2 m) _ p.1 in let enough = leb-true _ _ q.0 in
      own_then (says_first n own d 2 m (omega arith, omega arith) (entered_now m p.0) (λ _ none. inr (others m enough none)))
      (cond_both (voted 33 own (says 32 2 own m)) _ _ (Mine n own d (says 32 2 own m)) (λ _. own_none _)
      (λ none. says_second n own d 2 (says 32 2 own m) (omega arith, omega arith) (entered_now m p.0) none (inr (refl, inr (grown n own d m (says 32 2 own m) (λ t v j y. or_left _ _ y) (beyond_faults n) 32 2 enough))))))

  admitted : (x : ℕ) (m : Round) → Single x → (Full n m x → Ground n m x) → Mine n own d m (taking (admit n own x) m)
  admitted x m s w = by_step n own d (admit n own x) m (λ go.
      let p = and_parts (is_entered_lem m) _ go in let q = and_parts (many n (quorum n) 32 x m) _ p.1 in
      says_second n own d x m s (entered_now m p.0) (not-true _ q.1) (w (leb-true _ _ q.0)))

  supported : (x : ℕ) (m : Round) → count n (supports n m x) ≤ count n (m.votes 33 x)
  supported x m = count_mono n (supports n m x) (m.votes 33 x) (λ j h. (and_parts _ _ h).0)

  tally_small : (m : Round) → tally n m < 4
  unfolding tally
  tally_small m = cond_both (leb (quorum n) (count n (supports n m 1))) 1 _ (λ (y : ℕ). y < 4) (λ _. omega arith) (λ _. cond_both (leb (quorum n) (count n (supports n m 2))) 2 3 (λ (y : ℕ). y < 4) (λ _. omega arith) (λ _. omega arith))

  tally_backed : (m : Round) (x : ℕ) → Single x → tally n m ≡ x → quorum n ≤ count n (m.votes 33 x)
  unfolding tally
  tally_backed m x s = cond_both (leb (quorum n) (count n (supports n m 1))) 1 _ (λ (y : ℕ). y ≡ x → quorum n ≤ count n (m.votes 33 x)) (λ t q. enough 1 (leb-true _ _ t) q)
      (λ _. cond_both (leb (quorum n) (count n (supports n m 2))) 2 3 (λ (y : ℕ). y ≡ x → quorum n ≤ count n (m.votes 33 x)) (λ t q. enough 2 (leb-true _ _ t) q) (λ _ q. absurd (omega (arith, s.1))))
    where
      enough : (y : ℕ) → quorum n ≤ count n (supports n m y) → y ≡ x → quorum n ≤ count n (m.votes 33 x)
      enough y t q = let r : quorum n ≤ count n (m.votes 33 y) = omega (arith, supported y m) in subst (λ (z : ℕ). quorum n ≤ count n (m.votes 33 z)) q r

  -- where 0 alone has no quorum, some second vote that counts is for 1
  tally_ones : (m : Round) → ready_to_leave n m ≡ true → Holds (tally n m) 2 → OneAdmitted n m
  unfolding tally ready_to_leave admits
  tally_ones m lots = cond_both (leb (quorum n) (count n (supports n m 1))) 1 _ (λ (y : ℕ). Holds y 2 → OneAdmitted n m) (λ _ q. absurd (⊎_elim (λ z. omega arith) (λ z. omega arith) q))
      (λ few _. let c = count_both n (supports n m 1) (supports n m 2) in
      let o = count_some n (supports n m 2) (omega (arith, leb-true _ _ lots, leb-false _ _ few)) in
      ⊎_elim (λ z. inl (eqb-true _ _ z)) (λ z. inr (leb-true _ _ z)) (or_cases (eqb m.entered 2) _ (and_parts (m.votes 33 2 o.0) _ o.2).1))

  left : (m : Round) → Mine n own d m (taking (leave n own) m)
  left m = by_step n own d (leave n own) m (λ go.
      let p = and_parts (is_entered_lem m) _ go in let q = and_parts (ready_to_leave n m) _ p.1 in
      own_ends (tally n m) m (eqb-true _ _ q.1) (λ h. record {
        base = record { single = h.base.single; sets = h.base.sets; silent = h.base.silent };
        bit = h.bit;
        first = h.first;
        second = h.second;
        early = λ z. absurd (let lo = entered_now m p.0 in omega arith);
        small = tally_small m;
        backed = tally_backed m;
        ones = tally_ones m q.0;
        delivered = h.delivered;
        said = h.said;
      }))

  pub steps_own : (m : Round) → Mine n own d m (opening_settled n own m)
  steps_own m = rw (opening_pass n own m) (own_then (joins_zero m) (own_then (joins_one _) (own_then (admitted 1 _ (omega arith, omega arith) (λ q. inl (refl, q)))
      (own_then (admitted 2 _ (omega arith, omega arith) (λ q. inr (refl, inr (omega (arith, q))))) (left _)))))
