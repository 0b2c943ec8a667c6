-- At rest a round that all honest replicas have entered has its verdict at each. Assumes nothing.
use Rattle.std.proofs.Common.{◌≡◌, ℕ, zero, suc, ◌+◌, ◌*◌, ◌<◌, ◌≤◌, Bool, true, false, not, ◌&&◌, ◌||◌, sym, refl, ◌∙◌, subst, inl, inr, ⊎_elim, arith, lit<}
use Rattle.std.proofs.lemmas.Bool.{cases_lt, ne_eqb, eqb-false, le-leb, and_parts, and_from, or_left, or_right, or_cases, not_from_false, both_ways}
use Rattle.basis.specs.Counts.{count}
use Rattle.basis.specs.Halls.{faults, quorum, beyond_faults}
use Rattle.basis.specs.Steps.{Idle}
use Rattle.basis.proofs.Counts.{count_both, count_le, count_not}
use Rattle.basis.proofs.Stepping.{passed_idle}
use Rattle.basis.proofs.Totals.{count_below}
use Rattle.basis.proofs.Thirds.{thirds}
use Rattle.rules.specs.Rounds.{Round, voted}
use Rattle.rules.specs.Laws.{Single, Holds, EndsRounds}
use Rattle.phases.specs.Steps.{is_entered_lem, many, admitted, counted, enough, join, second, conclude, two_steps, three_steps, two_phase, three_phase, acts_of}
use Rattle.phases.specs.Unions.{Full, by_bit}
use Rattle.phases.specs.Turns.{two_once, three_once, two_pass, three_pass}
use Rattle.phases.specs.Keeping.{Sound, two_sound, three_sound}

-- the replica has cast a vote under this tag
abbrev Cast : Round → ℕ → ℕ → Type 0
Cast m t j = (v : ℕ) × (m.votes t v j ≡ true)

cast_some : (t j : ℕ) (m : Round) → voted t j m ≡ true → Cast m t j
cast_some t j m h = ⊎_elim (λ a. (1, a)) (λ b. ⊎_elim (λ k. (2, k)) (λ k. (3, k)) (or_cases _ _ b)) (or_cases _ _ h)

-- in an entered round a step that does not apply has nothing to wait for, or was taken
idle_says : (e p q : Bool) → e ≡ true → p ≡ true → (e && (p && not q)) ≡ false → q ≡ true
idle_says true true true h k l = refl
idle_says true true false h k l = sym l
idle_says true false q h k l = absurd (both_ways false refl k)
idle_says false p q h k l = absurd (both_ways false refl h)

idle_ends : (e p q : Bool) → e ≡ true → p ≡ true → (e && (p && q)) ≡ false → q ≡ false
idle_ends true true q h k l = l
idle_ends true false q h k l = absurd (both_ways false refl k)
idle_ends false p q h k l = absurd (both_ways false refl h)

entered_test : (m : Round) → 0 < m.entered → is_entered_lem m ≡ true
entered_test m lo = not_from_false _ (ne_eqb m.entered 0 (λ z. omega arith))

-- one round at rest: each replica's is sound, no step of the list applies, and the last votes follow the second ones
module _ (t n : ℕ) (tag : 32 < t) (three-f : n ≡ 3 * faults n + 1) (honest : ℕ → Bool) (few : count n (λ j. not (honest j)) ≤ faults n) (m : ℕ → Round)
    (heard : (i j t v : ℕ) → i < n → j < n → honest i ≡ true → honest j ≡ true → (m j).votes t v j ≡ true → (m i).votes t v j ≡ true)
    (authentic : (i j t v : ℕ) → i < n → j < n → honest i ≡ true → honest j ≡ true → (m i).votes t v j ≡ true → (m j).votes t v j ≡ true)
    (entered : (i : ℕ) → i < n → honest i ≡ true → 0 < (m i).entered)
    (sounds : (i : ℕ) → i < n → honest i ≡ true → Sound t n i (m i))
    (no_join : (i x : ℕ) → Single x → i < n → honest i ≡ true → (join n i x).applies (m i) ≡ false)
    (no_second : (i : ℕ) → i < n → honest i ≡ true → (second n i).applies (m i) ≡ false)
    (no-verdict : (i : ℕ) → i < n → honest i ≡ true → (conclude n i t).applies (m i) ≡ false)
    (last : ((i : ℕ) → i < n → honest i ≡ true → Cast (m i) 33 i) → ((i : ℕ) → i < n → honest i ≡ true → enough n (m i) 33 ≡ true) → (i : ℕ) → i < n → honest i ≡ true → Cast (m i) t i) where
  joining : (i x : ℕ) → i < n → honest i ≡ true → Single x → beyond_faults n ≤ count n ((m i).votes 32 x) → (m i).votes 32 x i ≡ true
  joining i x li hi s h = idle_says (is_entered_lem (m i)) (many n (beyond_faults n) 32 x (m i)) _ (entered_test (m i) (entered i li hi)) (le-leb _ _ h) (no_join i x s li hi)

  -- what each honest replica brings, all have 2f + 1 times
  from_all : (p : ℕ → Bool) → ((j : ℕ) → j < n → honest j ≡ true → p j ≡ true) → quorum n ≤ count n p
  from_all p h = omega (arith, count_below n honest p h, count_not n honest)

  spread : (x : ℕ) → Single x → beyond_faults n ≤ count n (λ j. honest j && (m j).votes 32 x j) → (i : ℕ) → i < n → honest i ≡ true → Full n (m i) x
  spread x s h i li hi = from_all ((m i).votes 32 x) (λ j lj hj. heard i j 32 x li lj hi hj
      (joining j x lj hj s (let c = count_below n (λ l. honest l && (m l).votes 32 x l) ((m j).votes 32 x) (λ l ll y. let p = and_parts _ _ y in heard j l 32 x lj ll hj p.0 p.1) in omega arith)))

  -- 2f + 1 first votes at one are 2f + 1 at all
  shared : (x : ℕ) → Single x → (l : ℕ) → l < n → honest l ≡ true → Full n (m l) x → (i : ℕ) → i < n → honest i ≡ true → Full n (m i) x
  shared x s l ll hl h = spread x s
      (let both = count_both n ((m l).votes 32 x) honest in let top = count_le n (λ j. (m l).votes 32 x j || honest j) in
      let said = count_below n (λ j. (m l).votes 32 x j && honest j) (λ j. honest j && (m j).votes 32 x j) (λ j lj y. let p = and_parts _ _ y in and_from _ _ p.1 (authentic l j 32 x ll lj hl p.1 p.0)) in
      omega (arith, count_not n honest))

  -- some bit is the entered bit of f + 1 honest replicas
  common : (x : ℕ) × Single x × (beyond_faults n ≤ count n (λ j. honest j && (m j).votes 32 x j))
  common = ⊎_elim (λ less. (2, (omega arith, omega arith), omega (arith, both))) (λ ge. (1, (omega arith, omega arith), ge)) (cases_lt (count n (λ j. honest j && (m j).votes 32 1 j)) (beyond_faults n))
    where
      which : (j : ℕ) → honest j ≡ true → (x : ℕ) → Single x → (m j).votes 32 x j ≡ true → ((honest j && (m j).votes 32 1 j) || (honest j && (m j).votes 32 2 j)) ≡ true
      which j hj = by_bit (λ (x : ℕ). (m j).votes 32 x j ≡ true → ((honest j && (m j).votes 32 1 j) || (honest j && (m j).votes 32 2 j)) ≡ true)
          (λ v. or_left _ _ (and_from _ _ hj v)) (λ v. or_right (honest j && (m j).votes 32 1 j) _ (and_from _ _ hj v))

      both : quorum n ≤ count n (λ j. honest j && (m j).votes 32 1 j) + count n (λ j. honest j && (m j).votes 32 2 j)
      both = omega (
        arith,
        from_all (λ j. (honest j && (m j).votes 32 1 j) || (honest j && (m j).votes 32 2 j))
            (λ j lj hj. which j hj (m j).entered (entered j lj hj, (sounds j lj hj).bit) ((sounds j lj hj).first (m j).entered (entered j lj hj) refl)),
        count_both n (λ j. honest j && (m j).votes 32 1 j) (λ j. honest j && (m j).votes 32 2 j),
      )

  full_admitted : (i x : ℕ) → Full n (m i) x → admitted n (m i) x ≡ true
  unfolding admitted
  full_admitted i x h = le-leb _ _ h

  -- votes that all honest replicas have cast lie within what each admits
  gather : (u : ℕ) → 32 < u → ((j : ℕ) → j < n → honest j ≡ true → Cast (m j) u j) → (i : ℕ) → i < n → honest i ≡ true → enough n (m i) u ≡ true
  unfolding enough
  gather u lt cast i li hi = le-leb _ _ (from_all (λ j. counted n (m i) u 1 j || counted n (m i) u 2 j)
      (λ j lj hj. let v = cast j lj hj in let r = (sounds j lj hj).base.sets u v.0 j v.1 in
      bring j v.0 r.0 r.1 (heard i j u v.0 li lj hi hj v.1) (λ x s k. full_admitted i x (shared x s j lj hj ((sounds j lj hj).lies u v.0 lt v.1 x s k) i li hi))))
    where
      bring : (j v : ℕ) → 0 < v → v < 4 → (m i).votes u v j ≡ true → ((x : ℕ) → Single x → Holds v x → admitted n (m i) x ≡ true) → (counted n (m i) u 1 j || counted n (m i) u 2 j) ≡ true
      bring j zero lo up h k = absurd (omega arith)
      bring j (suc zero) lo up h k = or_left _ _ (or_left _ _ (and_from _ _ h (k 1 (omega arith, omega arith) (inl refl))))
      bring j (suc (suc zero)) lo up h k = or_right (counted n (m i) u 1 j) _ (or_left _ _ (and_from _ _ h (k 2 (omega arith, omega arith) (inl refl))))
      bring j (suc (suc (suc zero))) lo up h k = or_left _ _ (or_right ((m i).votes u 1 j && admitted n (m i) 1) _ (and_from _ _ h (and_from _ _ (k 1 (omega arith, omega arith) (inr refl)) (k 2 (omega arith, omega arith) (inr refl)))))
      bring j (suc (suc (suc (suc v)))) lo up h k = absurd (omega arith)

  second_cast : (i : ℕ) → i < n → honest i ≡ true → Cast (m i) 33 i
  second_cast i li hi =
      let c = common in
      let ad = by_bit (λ (x : ℕ). Full n (m i) x → (admitted n (m i) 1 || admitted n (m i) 2) ≡ true) (λ h. or_left _ _ (full_admitted i 1 h)) (λ h. or_right (admitted n (m i) 1) _ (full_admitted i 2 h)) c.0 c.1
      (spread c.0 c.1 c.2 i li hi) in
      cast_some 33 i (m i) (idle_says (is_entered_lem (m i)) (admitted n (m i) 1 || admitted n (m i) 2) _ (entered_test (m i) (entered i li hi)) ad (no_second i li hi))

  verdicts : (i : ℕ) → i < n → honest i ≡ true → 0 < (m i).verdict
  verdicts i li hi =
      let p = gather t tag (last second_cast (gather 33 (omega arith) second_cast)) i li hi in
      let ne = eqb-false _ _ (idle_ends (is_entered_lem (m i)) (enough n (m i) t) _ (entered_test (m i) (entered i li hi)) p (no-verdict i li hi)) in omega arith

-- a round that takes no step has none that applies
two_idle : (n own : ℕ) (m : Round) → two_phase.steps n own m ≡ m → Idle (two_steps n own) m
two_idle n own m e = subst (Idle (two_steps n own)) (sym (two_pass n own m) ∙ e) (passed_idle (two_steps n own) m (two_once n own))

three_idle : (n own : ℕ) (m : Round) → three_phase.steps n own m ≡ m → Idle (three_steps n own) m
three_idle n own m e = subst (Idle (three_steps n own)) (sym (three_pass n own m) ∙ e) (passed_idle (three_steps n own) m (three_once n own))

pub two_ends : EndsRounds two_phase
two_ends n honest m li few r = verdicts 33 n (lit< tt) (thirds n li) honest few m r.heard r.authentic r.entered (λ i l h. two_sound n i (r.reached i l h))
    (λ i x s l h. by_bit (λ (y : ℕ). (join n i y).applies (m i) ≡ false) (idle i l h).0 (idle i l h).1.0 x s)
    (λ i l h. (idle i l h).1.1.0) (λ i l h. (idle i l h).1.1.1.0) (λ seconds _. seconds)
  where
    idle : (i : ℕ) → i < n → honest i ≡ true → Idle (two_steps n i) (m i)
    idle i l h = two_idle n i (m i) (r.still i l h)

pub three_ends : EndsRounds three_phase
three_ends n honest m li few r = verdicts 34 n (lit< tt) (thirds n li) honest few m r.heard r.authentic r.entered (λ i l h. three_sound n i (r.reached i l h))
    (λ i x s l h. by_bit (λ (y : ℕ). (join n i y).applies (m i) ≡ false) (idle i l h).0 (idle i l h).1.0 x s)
    (λ i l h. (idle i l h).1.1.0) (λ i l h. (idle i l h).1.1.1.1.0)
    (λ seconds many-seconds i l h. cast_some 34 i (m i) (idle_says (is_entered_lem (m i)) (enough n (m i) 33) _ (entered_test (m i) (r.entered i l h)) (many-seconds i l h) (idle i l h).1.1.1.0))
  where
    idle : (i : ℕ) → i < n → honest i ≡ true → Idle (three_steps n i) (m i)
    idle i l h = three_idle n i (m i) (r.still i l h)

pub either_ends : (third : Bool) → EndsRounds (acts_of third)
either_ends true = three_ends
either_ends false = two_ends
