-- At rest the opening round has its verdict at each honest replica. Assumes nothing.
use Rattle.std.proofs.Common.{◌≡◌, ℕ, ◌<◌, ◌≤◌, Bool, true, false, not, ◌&&◌, ◌||◌, T, ◌⊎◌, ◌≢◌, eqb, sym, refl, subst, inl, inr, ⊎_elim, arith}
use Rattle.std.proofs.lemmas.Bool.{ne_eqb, eqb-false, le-leb, and_parts, and_from, or_left, or_right, or_cases, not_from_false, both_ways}
use Rattle.basis.specs.Counts.{count}
use Rattle.basis.specs.Halls.{listed, faults, quorum, beyond_faults}
use Rattle.basis.specs.Steps.{Idle}
use Rattle.basis.proofs.Counts.{count_both, count_le, count_not, one_honest}
use Rattle.basis.proofs.Totals.{count_below}
use Rattle.basis.proofs.Thirds.{thirds}
use Rattle.rules.specs.Rounds.{Round, voted}
use Rattle.phases.specs.Steps.{is_entered_lem, many}
use Rattle.phases.specs.Unions.{Full}
use Rattle.openings.specs.Openings.{admits, supports, ready_to_leave, opening_steps}
use Rattle.ballot_runs.specs.Runs.{Honest}
use Rattle.ballot_runs.proofs.Opens.{Sound}

-- a step that does not apply though its first two conditions hold lacks the last
lacks : (e p q : Bool) → e ≡ true → p ≡ true → (e && (p && q)) ≡ false → q ≡ false
lacks true true q h k l = l
lacks true false q h k l = absurd (both_ways false refl k)
lacks false p q h k l = absurd (both_ways false refl h)

said_since : (q : Bool) → not q ≡ false → q ≡ true
said_since true h = refl
said_since false h = absurd (both_ways true h refl)

both_said : (p q : Bool) → (not p || not q) ≡ false → (p ≡ true) × (q ≡ true)
both_said true true h = (refl, refl)
both_said true false h = absurd (both_ways true h refl)
both_said false q h = absurd (both_ways true h refl)

-- a vote under this tag
second_of : (j : ℕ) (m : Round) → voted 33 j m ≡ true → (v : ℕ) × (m.votes 33 v j ≡ true)
second_of j m h = ⊎_elim (λ a. (1, a)) (λ b. ⊎_elim (λ k. (2, k)) (λ k. (3, k)) (or_cases _ _ b)) (or_cases _ _ h)

module _ (n : ℕ) (honest : ℕ → Bool) (li : T (listed n)) (few : count n (λ j. not (honest j)) ≤ faults n) (m : ℕ → Round) (d : ℕ → Bool)
    (heard : (i j t v : ℕ) → Honest n honest i → Honest n honest j → (m j).votes t v j ≡ true → (m i).votes t v j ≡ true)
    (authentic : (i j t v : ℕ) → Honest n honest i → Honest n honest j → (m i).votes t v j ≡ true → (m j).votes t v j ≡ true)
    (entered : (i : ℕ) → Honest n honest i → 0 < (m i).entered)
    (sounds : (i : ℕ) → Honest n honest i → Sound n i (d i) (m i))
    (idle : (i : ℕ) → Honest n honest i → Idle (opening_steps n i) (m i)) where
  abbrev Fine : ℕ → Type 0
  Fine i = Honest n honest i

  entered_test : (i : ℕ) → Fine i → is_entered_lem (m i) ≡ true
  entered_test i gi = let lo = entered i gi in not_from_false _ (ne_eqb (m i).entered 0 (λ z. omega arith))

  -- what each honest replica brings, all have 2f + 1 times
  from_all : (p : ℕ → Bool) → ((j : ℕ) → Fine j → p j ≡ true) → quorum n ≤ count n p
  from_all p h = omega (arith, thirds n li, count_below n honest p (λ j low hj. h j (low, hj)), count_not n honest)

  -- 2f + 1 first votes for 0 at one are 2f + 1 at all
  zero_shared : (l : ℕ) → Fine l → Full n (m l) 1 → (i : ℕ) → Fine i → Full n (m i) 1
  zero_shared l gl h i gi = from_all ((m i).votes 32 1) (λ j gj. heard i j 32 1 gi gj (said j gj))
    where
      honest-said : beyond_faults n ≤ count n (λ j. honest j && (m j).votes 32 1 j)
      honest-said = let both = count_both n ((m l).votes 32 1) honest in let top = count_le n (λ j. (m l).votes 32 1 j || honest j) in
          let own = count_below n (λ j. (m l).votes 32 1 j && honest j) (λ j. honest j && (m j).votes 32 1 j) (λ j low y. let p = and_parts _ _ y in and_from _ _ p.1 (authentic l j 32 1 gl (low, p.1) p.0)) in
          omega (arith, thirds n li, count_not n honest)

      said : (j : ℕ) → Fine j → (m j).votes 32 1 j ≡ true
      said j gj =
          let c = count_below n (λ q. honest q && (m q).votes 32 1 q) ((m j).votes 32 1) (λ q low y. let p = and_parts _ _ y in heard j q 32 1 gj (low, p.0) p.1) in
          let enough : many n (beyond_faults n) 32 1 (m j) ≡ true = le-leb _ _ (omega (arith, honest-said)) in
          said_since _ (lacks (is_entered_lem (m j)) (many n (beyond_faults n) 32 1 (m j)) _ (entered_test j gj) enough (idle j gj).0)

  zero_admitted : (i : ℕ) → Full n (m i) 1 → admits n (m i) 1 ≡ true
  unfolding admits
  zero_admitted i h = le-leb _ _ h

  one_admitted : (i : ℕ) → beyond_faults n ≤ count n ((m i).votes 32 2) → admits n (m i) 2 ≡ true
  unfolding admits
  one_admitted i h = or_right (eqb (m i).entered 2) _ (le-leb _ _ h)

  -- where every honest second vote is admitted the round is left
  leaves : (i : ℕ) → Fine i → ((j : ℕ) → Fine j → (v : ℕ) × ((m j).votes 33 v j ≡ true) × (((v ≡ 1) × Full n (m i) 1) ⊎ ((v ≡ 2) × (admits n (m i) 2 ≡ true)))) → 0 < (m i).verdict
  unfolding ready_to_leave
  leaves i gi all = let ne = eqb-false _ _ (lacks (is_entered_lem (m i)) (ready_to_leave n (m i)) _ (entered_test i gi) ready (idle i gi).1.1.1.1.0) in omega arith
    where
      counts : (j v : ℕ) → (v ≡ 1) ⊎ (v ≡ 2) → supports n (m i) v j ≡ true → (supports n (m i) 1 j || supports n (m i) 2 j) ≡ true
      counts j v w h = ⊎_elim (λ e. or_left _ _ (subst (λ (z : ℕ). supports n (m i) z j ≡ true) e h)) (λ e. or_right (supports n (m i) 1 j) _ (subst (λ (z : ℕ). supports n (m i) z j ≡ true) e h)) w

      ready : ready_to_leave n (m i) ≡ true
      ready = le-leb _ _ (from_all (λ j. supports n (m i) 1 j || supports n (m i) 2 j) (λ j gj. let v = all j gj in let w = heard i j 33 v.0 gi gj v.1 in
          ⊎_elim (λ one. counts j v.0 (inl one.0) (and_from _ _ w (subst (λ (z : ℕ). admits n (m i) z ≡ true) (sym one.0) (zero_admitted i one.1))))
          (λ two. counts j v.0 (inr two.0) (and_from _ _ w (subst (λ (z : ℕ). admits n (m i) z ≡ true) (sym two.0) two.1))) v.2))

  -- all have said first vote 1
  pub ends_delivered : ((j : ℕ) → Fine j → (m j).votes 32 2 j ≡ true) → (i : ℕ) → Fine i → 0 < (m i).verdict
  ends_delivered said i gi = leaves i gi (λ j gj.
      let v = second_of j (m j) (both_said _ _ (lacks (is_entered_lem (m j)) (many n (beyond_faults n) 32 2 (m j)) _ (entered_test j gj) (le-leb _ _ (ones j gj)) (idle j gj).1.0)).1 in
      (v.0, v.1, ⊎_elim (λ one. inl (one.0, zero_shared j gj one.1 i gi)) (λ two. inr (two.0, one_admitted i (ones i gi))) ((sounds j gj).second v.0 v.1)))
    where
      ones : (l : ℕ) → Fine l → beyond_faults n ≤ count n ((m l).votes 32 2)
      ones l gl = omega (arith, from_all ((m l).votes 32 2) (λ j gj. heard l j 32 2 gl gj (said j gj)))

  -- none has, and all have proposed 0
  pub ends_undelivered : ((j : ℕ) → Fine j → (m j).votes 32 2 j ≢ true) → ((j : ℕ) → Fine j → (m j).entered ≡ 1) → (i : ℕ) → Fine i → 0 < (m i).verdict
  ends_undelivered none zeros i gi = leaves i gi (λ j gj.
      let v = second_of j (m j) (said_since _ (lacks (is_entered_lem (m j)) (many n (quorum n) 32 1 (m j)) _ (entered_test j gj) (le-leb _ _ (full j gj)) (idle j gj).1.1.0)) in (
        v.0,
        v.1,
        ⊎_elim (λ one. inl (one.0, full i gi))
            (λ two. absurd (⊎_elim (λ z. let w = zeros j gj in omega arith) (λ lots. let o = one_honest (faults n) n ((m j).votes 32 2) honest few lots in none o.0 (o.1, o.3) (authentic j o.0 32 2 gj (o.1, o.3) o.2)) two.1))
            ((sounds j gj).second v.0 v.1),
      ))
    where
      full : (l : ℕ) → Fine l → Full n (m l) 1
      full l gl = from_all ((m l).votes 32 1) (λ j gj. heard l j 32 1 gl gj ((sounds j gj).first 1 (omega arith) (zeros j gj)))
