-- Enough ballots are decided 1, and each of those has a delivery behind it. Assumes nothing.
use Rattle.std.proofs.Common.{◌≡◌, ℕ, zero, suc, ◌+◌, ◌-◌, ◌*◌, ◌<◌, ◌≤◌, Bool, true, false, cond, not, ◌&&◌, ◌||◌, T, eqb, refl, ◌∙◌, inl, inr, ⊎_elim, arith}
use Rattle.std.proofs.lemmas.Bool.{cases_lt, eqb-true, eqb-false, eq-eqb, and_parts, and_from, cond_both, not-true, both_ways}
use Rattle.basis.specs.Counts.{count, total}
use Rattle.basis.specs.Halls.{listed, faults, quorum}
use Rattle.basis.proofs.Counts.{count_both, count_le, count_not, count_some, count_mono, one_honest}
use Rattle.basis.proofs.Totals.{total_le, total_ge, columns, rows_columns, count_below}
use Rattle.basis.proofs.Thirds.{thirds, some_faults}
use Rattle.rules.specs.Laws.{Acts, Holds, Laws}
use Rattle.ballot_runs.specs.Runs.{Hall, Honest}
use Rattle.ballot_runs.proofs.Opened.{sound}
use Rattle.ballot_runs.proofs.Kept.{SomeEntered, SomeDelivered, Kept}
use Rattle.ballot_runs.proofs.Agree.{facts_in, verdict_entered, zero_backed}
use Rattle.ballot_runs.proofs.Proposing.{Ones}

module _ (a : Acts) (n : ℕ) (honest : ℕ → Bool) (s : Hall) (li : T (listed n)) (few : count n (λ j. not (honest j)) ≤ faults n) (laws : (i : ℕ) → Honest n honest i → Laws a n i) (kp : Kept a n honest s) where
  abbrev Fine : ℕ → Type 0
  Fine i = Honest n honest i

  -- who has said second vote 0 of ballot k
  abbrev zero_said : ℕ → ℕ → Bool
  zero_said j k = ((s j k).rounds 0).votes 33 1 j

  module _ (ones : (i : ℕ) → Fine i → Ones a n i (s i)) where
    -- a replica says second vote 0 in f ballots at most
    few_zeros : (i : ℕ) → Fine i → count n (zero_said i) ≤ faults n
    few_zeros i gi = ⊎_elim
        (λ some.
        let o = count_some n (zero_said i) some in
        let many = ones i gi o.0 ((facts_in a n honest s li few laws kp o.0 i 0 gi).silent 33 1 o.2) in
        let both = count_both n (zero_said i) (λ k. ((s i k).rounds 0).votes 33 2 i) in
        let top = count_le n (λ k. zero_said i k || ((s i k).rounds 0).votes 33 2 i) in
        ⊎_elim (λ two. absurd (let c = count_some n (λ k. zero_said i k && ((s i k).rounds 0).votes 33 2 i) two in let p = and_parts _ _ c.2 in
        let z : ◌≡◌ {A = ℕ} 1 2 = (facts_in a n honest s li few laws kp c.0 i 0 gi).single 33 1 2 (omega arith) p.0 p.1 in omega arith))
        (λ none. omega (arith, thirds n li)) (cases_lt 0 (count n (λ k. zero_said i k && ((s i k).rounds 0).votes 33 2 i))))
        (λ none. omega arith)
        (cases_lt 0 (count n (zero_said i)))

    -- a ballot decided 0 has many honest second votes 0
    many_zeros : (i k : ℕ) → Fine i → (s i k).decided ≡ 1 → quorum n ≤ count n (λ j. honest j && zero_said j k) + count n (λ j. not (honest j))
    many_zeros i k gi d =
        let o = zero_backed a n honest s li few laws kp k i gi d in
        let p = ((s o.0 k).rounds 0).votes 33 1 in
        let both = count_both n p honest in
        let top = count_le n (λ j. p j || honest j) in
        let rest = count_not n honest in
        let said = count_below n (λ j. p j && honest j) (λ j. honest j && zero_said j k) (λ j low h. let q = and_parts _ _ h in and_from _ _ q.1 (kp.authentic o.0 j k 0 33 1 o.1 (low, q.1) q.0)) in
        omega (arith, o.2)

    row : (j : ℕ) → j < n → (b : Bool) → honest j ≡ b → count n (λ k. honest j && zero_said j k) ≤ cond b (faults n) 0
    row j low true h = omega (arith, few_zeros j (low, h), count_mono n (λ k. honest j && zero_said j k) (zero_said j) (λ k q. (and_parts _ _ q).1))
    row j low false h = ⊎_elim (λ some. absurd (let o = count_some n (λ k. honest j && zero_said j k) some in both_ways (honest j) h (and_parts _ _ o.2).0)) (λ none. none)
        (cases_lt 0 (count n (λ k. honest j && zero_said j k)))

    pub enough : (i : ℕ) → Fine i → ((k : ℕ) → k < n → 0 < (s i k).decided) → faults n + 2 ≤ count n (λ k. eqb (s i k).decided 2)
    enough i gi all =
        let f = faults n in
        let e = thirds n li in
        let c = count n (λ j. not (honest j)) in
        let M = λ (j k : ℕ). honest j && zero_said j k in
        let h : count n honest ≡ 2 * f + 1 - c + f = omega (arith, count_not n honest) in
        let rows : total n (λ j. count n (λ k. M j k)) ≤ (2 * f + 1 - c + f) * f = rw h at (total_le n f (λ j. count n (λ k. M j k)) honest (λ j lt. row j lt (honest j) refl)) in
        let cols = total_ge n (2 * f + 1 - c) (λ k. count n (λ j. M j k)) (λ k. eqb (s i k).decided 1)
        (λ k lt. cond_both (eqb (s i k).decided 1) _ 0 (λ (y : ℕ). y ≤ count n (λ j. M j k)) (λ t. omega (arith, many_zeros i k gi (eqb-true _ _ t))) (λ _. omega arith)) in
        let z = columns f (2 * f + 1 - c) (count n (λ k. eqb (s i k).decided 1)) (omega (arith, some_faults n li)) (omega arith) (omega (arith, rows, cols, rows_columns n n M)) in
        let left = count_below n (λ k. not (eqb (s i k).decided 1)) (λ k. eqb (s i k).decided 2)
        (λ k lt t. let lo = all k lt in let d = (kp.grounded i k gi).cause lo in let ne = eqb-false _ _ (not-true _ t) in eq-eqb _ _ (omega (arith, d.0))) in
        omega (arith, z, left, count_not n (λ k. eqb (s i k).decided 1))

  module _ (k : ℕ) where
    -- a verdict of the opening round that holds 1 has a delivery behind it
    opened_one : (l : ℕ) → Fine l → Holds ((s l k).rounds 0).verdict 2 → SomeDelivered a n honest s k
    opened_one l gl v =
        let h = sound n l ((kp.grounded l k gl).reached 0) in
        ⊎_elim (λ two. (l, gl, h.delivered two))
        (λ many. let o = one_honest (faults n) n (((s l k).rounds 0).votes 32 2) honest few (omega (arith, many)) in
        kp.delivered o.0 k (o.1, o.3) (kp.authentic l o.0 k 0 32 2 gl (o.1, o.3) o.2))
        (h.ones v)

    one_down : (r : ℕ) → SomeEntered a n honest s k r 2 → SomeDelivered a n honest s k
    one_down zero o = opened_one o.0 o.1 (⊎_elim (λ v. inl (v ∙ o.2)) (λ b. inr b.0) ((kp.grounded o.0 k o.1).onward 0 (omega (arith, o.2))).1)
    one_down (suc r) o = one_down r (verdict_entered a n honest s li few laws kp k o.0 r 2 o.1 (omega arith, omega arith) (⊎_elim (λ v. inl (v ∙ o.2)) (λ b. inr b.0) ((kp.grounded o.0 k o.1).onward (suc r) (omega (arith, o.2))).1))

    pub one_delivered : (i : ℕ) → Fine i → (s i k).decided ≡ 2 → SomeDelivered a n honest s k
    one_delivered i gi d = let p = (kp.grounded i k gi).cause (omega arith) in go p.1 (p.2 ∙ d)
      where
        go : (r : ℕ) → ((s i k).rounds r).verdict ≡ 2 → SomeDelivered a n honest s k
        go zero v = opened_one i gi (inl v)
        go (suc r) v = one_down r (verdict_entered a n honest s li few laws kp k i r 2 gi (omega arith, omega arith) (inl v))
