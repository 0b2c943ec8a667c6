-- No two honest replicas decide a ballot differently. Assumes nothing.
use Rattle.std.proofs.Common.{◌≡◌, ℕ, zero, suc, ◌<◌, ◌≤◌, Bool, true, not, T, ◌≢◌, Ok, Err, Result, is_ok, nat_lt, true≢false, sym, refl, ap, ◌∙◌, subst, inl, inr, ⊎_elim, arith}
use Rattle.std.proofs.lemmas.Bool.{cases_lt, cases_eq, ltb-true, cond_both, and_parts, or_cases, both_ways}
use Rattle.basis.specs.declared.heard.Heard.{Heard}
use Rattle.basis.specs.declared.heard.Heard.TheVariants.{New, Known}
use Rattle.basis.specs.Counts.{count}
use Rattle.basis.specs.Halls.{listed, faults, quorum}
use Rattle.basis.proofs.Counts.{one_honest, honest_in_both}
use Rattle.basis.proofs.Thirds.{thirds}
use Rattle.rules.specs.Rounds.{Round, Vote, voted, recorded, contradicts, hear_answer}
use Rattle.rules.specs.Laws.{Acts, Single, Holds, Laws}
use Rattle.ballot_runs.specs.Views.{rule_at, face}
use Rattle.ballot_runs.specs.Runs.{Hall, Honest}
use Rattle.ballot_runs.specs.Claims.{CoinsAgree}
use Rattle.ballot_runs.proofs.Rounds.{Facts, facts}
use Rattle.ballot_runs.proofs.Kept.{SomeEntered, Kept}

module _ (a : Acts) (n : ℕ) (honest : ℕ → Bool) (s : Hall) (li : T (listed n)) (few : count n (λ j. not (honest j)) ≤ faults n) (laws : (i : ℕ) → Honest n honest i → Laws a n i) (kp : Kept a n honest s) (k : ℕ) where
  abbrev Fine : ℕ → Type 0
  Fine i = Honest n honest i

  pub facts_in : (i r : ℕ) → Fine i → Facts (rule_at a r).final n i ((s i k).rounds r)
  facts_in i r gi = facts a n i (laws i gi) (s i k).delivered r ((s i k).rounds r) ((kp.grounded i k gi).reached r)

  -- a vote that an honest replica has said contradicts no other recorded of it
  pub not_accused : (i r e : ℕ) (w : Vote) → Fine i → Fine w.sender → recorded w ((s w.sender k).rounds r) ≡ true → hear_answer w ((s i k).rounds r) ≢ Err e
  not_accused i r e w gi gw said = cond_both (recorded w m) (Ok Known) _ (λ (y : Result Heard ℕ). y ≢ Err e) (λ _. answered)
      (λ no-one. cond_both (contradicts w m) (Err 13) (Ok New) (λ (y : Result Heard ℕ). y ≢ Err e) (λ c. absurd (both_ways _ no-one (known (and_parts _ _ c)))) (λ _. answered))
    where
      m : Round
      m = (s i k).rounds r

      answered : {x : Heard} → Ok x ≢ Err e
      answered q = true≢false (ap is_ok q)

      same : (v : ℕ) → 32 < w.tag → m.votes w.tag v w.sender ≡ true → recorded w m ≡ true
      same v lt h = subst (λ (x : ℕ). m.votes w.tag x w.sender ≡ true) ((facts_in w.sender r gw).single w.tag v w.set lt (kp.authentic i w.sender k r w.tag v gi gw h) said) h

      known : (nat_lt 32 w.tag ≡ true) × (voted w.tag w.sender m ≡ true) → recorded w m ≡ true
      known p = let lt = ltb-true _ _ p.0 in ⊎_elim (same 1 lt) (λ u. ⊎_elim (same 2 lt) (same 3 lt) (or_cases _ _ u)) (or_cases _ _ p.1)

  -- two verdicts of one bit in one round are the same
  pub one_verdict : (i j r x y : ℕ) → Fine i → Fine j → Single x → Single y → ((s i k).rounds r).verdict ≡ x → ((s j k).rounds r).verdict ≡ y → x ≡ y
  one_verdict i j r x y gi gj sx sy vi vj =
      let h = honest_in_both (faults n) n (((s i k).rounds r).votes (rule_at a r).final x) (((s j k).rounds r).votes (rule_at a r).final y) honest (thirds n li) few
      ((facts_in i r gi).backed x sx vi) ((facts_in j r gj).backed y sy vj) in
      let gh : Fine h.0 = (h.1, h.4) in
      (facts_in h.0 r gh).single (rule_at a r).final x y (facts_in i r gi).above (kp.authentic i h.0 k r _ x gi gh h.2) (kp.authentic j h.0 k r _ y gj gh h.3)

  -- a bit of a later round's verdict was entered with by some honest replica
  pub verdict_entered : (i r x : ℕ) → Fine i → Single x → Holds ((s i k).rounds (suc r)).verdict x → SomeEntered a n honest s k r x
  verdict_entered i r x gi sx v =
      let many = (laws i gi).verdict_has_first_votes ((s i k).rounds (suc r)) ((kp.grounded i k gi).reached (suc r)) x sx v in
      let h = one_honest (faults n) n (((s i k).rounds (suc r)).votes 32 x) honest few (omega (arith, many)) in
      let gh : Fine h.0 = (h.1, h.3) in
      kp.entered h.0 k r x gh sx (kp.authentic i h.0 k (suc r) 32 x gi gh h.2)

  -- all that entered round suc r entered with x
  All : ℕ → ℕ → Type 0
  All r x = (l : ℕ) → Fine l → 0 < ((s l k).rounds (suc r)).entered → ((s l k).rounds (suc r)).entered ≡ x

  only_verdict : (r x j : ℕ) → All r x → Fine j → 0 < ((s j k).rounds (suc r)).verdict → ((s j k).rounds (suc r)).verdict ≡ x
  unfolding All
  only_verdict r x j all gj lo = ⊎_elim
      (λ small. one ((s j k).rounds (suc r)).verdict (lo, small) (inl refl))
      (λ big. let v3 : ((s j k).rounds (suc r)).verdict ≡ 3 = let top = (facts_in j (suc r) gj).small in omega arith in
      absurd (let p = one 1 (omega arith, omega arith) (inr v3) in let q = one 2 (omega arith, omega arith) (inr v3) in omega arith))
      (cases_lt ((s j k).rounds (suc r)).verdict 3)
    where
      one : (z : ℕ) → Single z → Holds ((s j k).rounds (suc r)).verdict z → z ≡ x
      one z sz h = let o = verdict_entered j r z gj sz h in sym o.2 ∙ all o.0 o.1 (omega (arith, sz.0, o.2))

  all_next : (r x : ℕ) → x < 3 → All r x → All (suc r) x
  unfolding All
  all_next r x hx all l gl lo = ⊎_elim (λ one. sym one ∙ only_verdict r x l all gl (omega arith))
      (λ both. absurd (let z = only_verdict r x l all gl (omega (arith, both.0)) in omega (arith, both.0))) ((kp.grounded l k gl).onward (suc r) lo).1

  all_up : (r q x : ℕ) → x < 3 → r ≤ q → All r x → All q x
  all_up r zero x hx le all = subst (λ (z : ℕ). All z x) (let z : r ≡ 0 = omega arith in z) all
  all_up r (suc q) x hx le all = ⊎_elim (λ same. subst (λ (z : ℕ). All z x) same all) (λ ne. all_next q x hx (all_up r q x hx (omega arith) all)) (cases_eq r (suc q))

  module _ (coins : CoinsAgree a n honest s k) where
    after_decision : (i r x : ℕ) → Fine i → Single x → ((s i k).rounds r).verdict ≡ x → face (s i k) r ≡ x → All r x
    unfolding All
    after_decision i r x gi sx v c l gl lo =
        let o = (kp.grounded l k gl).onward r lo in
        ⊎_elim (λ one. one_verdict l i r _ x gl gi (lo, o.0) sx one v) (λ both. sym both.1 ∙ coins l i r gl gi (omega (arith, both.1)) (omega (arith, sx.0)) ∙ c) o.1

    -- a later decision is the same
    later_same : (i j r q x y : ℕ) → Fine i → Fine j → Single x → Single y → ((s i k).rounds r).verdict ≡ x → face (s i k) r ≡ x → r < q → ((s j k).rounds q).verdict ≡ y → y ≡ x
    later_same i j r zero x y gi gj sx sy v c less w = absurd (omega arith)
    later_same i j r (suc q) x y gi gj sx sy v c less w = sym w ∙ only_verdict q x j (all_up r q x sx.1 (omega arith) (after_decision i r x gi sx v c)) gj (omega (arith, sy.0))

    pub agree : (i j : ℕ) → Fine i → Fine j → 0 < (s i k).decided → 0 < (s j k).decided → (s i k).decided ≡ (s j k).decided
    agree i j gi gj lo lo' =
        let p = (kp.grounded i k gi).cause lo in
        let q = (kp.grounded j k gj).cause lo' in
        ⊎_elim (λ less. sym (later_same i j p.1 q.1 _ _ gi gj (lo, p.0) (lo', q.0) p.2 p.3 less q.2))
        (λ ge. ⊎_elim (λ same. one_verdict i j p.1 _ _ gi gj (lo, p.0) (lo', q.0) p.2 (ap (λ (z : ℕ). ((s j k).rounds z).verdict) same ∙ q.2))
        (λ ne. later_same j i q.1 p.1 _ _ gj gi (lo', q.0) (lo, p.0) q.2 q.3 (omega arith) p.2) (cases_eq p.1 q.1))
        (cases_lt p.1 q.1)

  -- a bit 0 that is gone on with began in the opening round
  down : (r : ℕ) → SomeEntered a n honest s k r 1 → (l : ℕ) × Fine l × (((s l k).rounds 0).verdict ≡ 1)
  down zero o = ⊎_elim (λ v. (o.0, o.1, v ∙ o.2)) (λ b. absurd (omega (arith, b.1, o.2))) ((kp.grounded o.0 k o.1).onward 0 (omega (arith, o.2))).1
  down (suc r) o = down r (verdict_entered o.0 r 1 o.1 (omega arith, omega arith) (⊎_elim (λ v. inl (v ∙ o.2)) (λ b. inr b.0) ((kp.grounded o.0 k o.1).onward (suc r) (omega (arith, o.2))).1))

  -- where 0 is decided some honest replica has a quorum of second votes for it in the opening round
  pub zero_backed : (i : ℕ) → Fine i → (s i k).decided ≡ 1 → (l : ℕ) × Fine l × (quorum n ≤ count n (((s l k).rounds 0).votes 33 1))
  zero_backed i gi d =
      let p = (kp.grounded i k gi).cause (omega arith) in
      let o = go p.1 (p.2 ∙ d) (p.3 ∙ d) in
      (o.0, o.1, (facts_in o.0 0 o.1).backed 1 (omega arith, omega arith) o.2)
    where
      go : (r : ℕ) → ((s i k).rounds r).verdict ≡ 1 → face (s i k) r ≡ 1 → (l : ℕ) × Fine l × (((s l k).rounds 0).verdict ≡ 1)
      go zero v c = absurd (omega arith)
      go (suc r) v c = down r (verdict_entered i r 1 gi (omega arith, omega arith) (inl v))
