-- Ballots of which no first vote 0 is heard from others: no second vote is for 0, and what is decided is 1. Assumes nothing.
use Rattle.std.proofs.Common.{◌≡◌, ℕ, zero, suc, ◌+◌, ◌<◌, ◌≤◌, Bool, true, false, cond, not, ◌&&◌, ◌||◌, eqb, leb, ◌⊎◌, sym, refl, ap, ◌∙◌, subst, ap₂, inl, inr, ⊎_elim, arith}
use Rattle.std.proofs.lemmas.Bool.{eqb-false, ne_eqb, cond_both, cases_Bool, and_parts, and_from, or_left, or_right, or_cases, leb-true, le-leb, not_from_false, both_ways}
use Rattle.basis.specs.Counts.{count}
use Rattle.basis.specs.Halls.{faults, quorum, beyond_faults}
use Rattle.basis.specs.Steps.{taking, Idle}
use Rattle.basis.proofs.Counts.{count_mono}
use Rattle.rules.specs.Rounds.{Round, cleared, voted, bit_set}
use Rattle.phases.specs.Steps.{says, begun, ends, is_entered_lem, hears}
use Rattle.phases.specs.Turns.{says_has}
use Rattle.phases.specs.Adding.{says_only, hears_cases}
use Rattle.openings.specs.Openings.{once_second, proposed, admits, supports, ready_to_leave, tally, join_zero, join_one, admit, leave, opening_steps, opening_settled}
use Rattle.openings.proofs.Turning.{opening_pass, opening_idle}
use Rattle.ballots.specs.Listed.{repropose}

none_count : (n : ℕ) (p : ℕ → Bool) → ((j : ℕ) → j < n → p j ≡ false) → count n p ≡ 0
unfolding count
none_count zero p h = refl
none_count (suc n) p h = ap₂ (λ (b : Bool) (c : ℕ). cond b 1 0 + c) (h n (omega arith)) (none_count n p (λ j l. h j (omega arith)))

-- what one number alone passes
one_count : (n own : ℕ) (p : ℕ → Bool) → ((j : ℕ) → p j ≡ true → j ≡ own) → count n p ≤ 1
unfolding count
one_count zero own p h = omega arith
one_count (suc n) own p h = go (p n) refl (one_count n own p h)
  where
    below : p n ≡ true → (j : ℕ) → j < n → p j ≡ false
    below e j l = ⊎_elim (λ t. absurd (let a = h j t in let b = h n e in omega arith)) (λ f. f) (cases_Bool (p j))

    go : (b : Bool) → p n ≡ b → count n p ≤ 1 → cond b 1 0 + count n p ≤ 1
    go true e z = let y = none_count n p (below e) in omega arith
    go false e z = omega arith

module _ (own : ℕ) where
  pub record VotesForOne (m : Round) : Type 0 where
    pub zero : (j : ℕ) → m.votes 32 1 j ≡ true → j ≡ own
    pub one : (v j : ℕ) → m.votes 33 v j ≡ true → v ≡ 2
    pub verdict : (m.verdict ≡ 0) ⊎ (m.verdict ≡ 2)

  -- nothing is lost
  pub record Rises (m m' : Round) : Type 0 where
    pub votes : (t v j : ℕ) → m.votes t v j ≡ true → m'.votes t v j ≡ true
    pub entered : 0 < m.entered → 0 < m'.entered

  pub rises_none : (m : Round) → Rises m m
  rises_none m = record { votes = λ t v j h. h; entered = λ h. h }

  pub rises_on : {u v w : Round} → Rises u v → Rises v w → Rises u w
  rises_on a b = record { votes = λ t v j h. b.votes t v j (a.votes t v j h); entered = λ h. b.entered (a.entered h) }

  pub record Turns (m m' : Round) : Type 0 where
    pub for_one : VotesForOne m'
    pub rises : Rises m m'

  turns_none : (m : Round) → VotesForOne m → Turns m m
  turns_none m f = record { for_one = f; rises = rises_none m }

  turns_on : {u v w : Round} → Turns u v → Turns v w → Turns u w
  turns_on a b = record { for_one = b.for_one; rises = rises_on a.rises b.rises }

  pub cleared_for_one : VotesForOne cleared
  cleared_for_one = record { zero = λ j h. absurd (let z : ◌≡◌ {A = ℕ} 0 1 = cc in omega arith); one = λ v j h. absurd (let z : ◌≡◌ {A = ℕ} 0 1 = cc in omega arith); verdict = inl refl }

  -- one vote more
  says_turns : (t v j : ℕ) (m : Round) → (t ≡ 32 → v ≡ 1 → j ≡ own) → (t ≡ 33 → v ≡ 2) → VotesForOne m → Turns m (says t v j m)
  says_turns t v j m a b f = record {
    for_one = record {
      zero = λ i h. ⊎_elim (f.zero i) (λ new. new.2 ∙ a (sym new.0) (sym new.1)) (says_only t v j m 32 1 i h);
      one = λ x i h. ⊎_elim (f.one x i) (λ new. new.1 ∙ b (sym new.0)) (says_only t v j m 33 x i h);
      verdict = f.verdict;
    };
    rises = record { votes = λ t' v' j' h. or_left _ _ h; entered = λ h. h };
  }

  first_one : (j : ℕ) (m : Round) → VotesForOne m → Turns m (says 32 2 j m)
  first_one j m f = says_turns 32 2 j m (λ a b. absurd (omega arith)) (λ a. absurd (omega arith)) f

  second_one : (j : ℕ) (m : Round) → VotesForOne m → Turns m (says 33 2 j m)
  second_one j m f = says_turns 33 2 j m (λ a b. absurd (omega arith)) (λ a. refl) f

  first_zero : (m : Round) → VotesForOne m → Turns m (says 32 1 own m)
  first_zero m f = says_turns 32 1 own m (λ a b. refl) (λ a. absurd (omega arith)) f

  once_turns : (m : Round) → VotesForOne m → Turns m (once_second own 2 m)
  once_turns m f = cond_both (voted 33 own m) m (says 33 2 own m) (Turns m) (λ _. turns_none m f) (λ _. second_one own m f)

  -- a vote for 1 is heard
  pub hears_turns : (t j : ℕ) (m : Round) → VotesForOne m → Turns m (hears (record { tag = t; set = 2; sender = j }) m)
  hears_turns t j m f = hears_cases (record { tag = t; set = 2; sender = j }) m (Turns m) (turns_none m f) (λ _. says_turns t 2 j m (λ a b. absurd (omega arith)) (λ a. refl) f)

  begun_turns : (b : Bool) (m : Round) → VotesForOne m → Turns m (begun (bit_set b) m)
  begun_turns b m f = record { for_one = record { zero = f.zero; one = f.one; verdict = f.verdict }; rises = record { votes = λ t v j h. h; entered = λ _. bit_some b } }
    where
      bit_some : (b : Bool) → 0 < bit_set b
      bit_some true = omega arith
      bit_some false = omega arith

  pub proposed_turns : (b : Bool) (m : Round) → VotesForOne m → Turns m (proposed own (bit_set b) m) × (0 < (proposed own (bit_set b) m).entered)
  proposed_turns b m f = go b
    where
      begin : (b : Bool) → Turns m (begun (bit_set b) m)
      begin b = begun_turns b m f

      go : (b : Bool) → Turns m (proposed own (bit_set b) m) × (0 < (proposed own (bit_set b) m).entered)
      go true =
          let a = first_one own (begun 2 m) (begin true).for_one in
          let c = once_turns (says 32 2 own (begun 2 m)) a.for_one in
          (turns_on (begin true) (turns_on a c), c.rises.entered (omega arith))
      go false = (turns_on (begin false) (first_zero (begun 1 m) (begin false).for_one), omega arith)

  -- the slot is delivered: the first vote 1 is said
  again_turns : (d : Bool) (m : Round) → VotesForOne m → Turns m (taking (repropose own d) m)
  again_turns d m f = cond_both ((repropose own d).applies m) ((repropose own d).leaves m) m (Turns m) (λ _. first_one own m f) (λ _. turns_none m f)

  entered_test : (m : Round) → 0 < m.entered → is_entered_lem m ≡ true
  entered_test m h = not_from_false _ (ne_eqb m.entered 0 (λ z. omega arith))

  again_said : (d : Bool) (m : Round) → d ≡ true → 0 < m.entered → (taking (repropose own d) m).votes 32 2 own ≡ true
  again_said d m h e = go (m.votes 32 2 own) refl
    where
      go : (b : Bool) → m.votes 32 2 own ≡ b → (taking (repropose own d) m).votes 32 2 own ≡ true
      go true q = cond_both ((repropose own d).applies m) ((repropose own d).leaves m) m (λ (x : Round). x.votes 32 2 own ≡ true) (λ _. says_has 32 2 own m) (λ _. q)
      go false q = ap (λ (b : Bool). (cond b (says 32 2 own m) m).votes 32 2 own) (and_from _ _ h (and_from _ _ (entered_test m e) (ap not q))) ∙ says_has 32 2 own m

  module _ (n : ℕ) (some : 1 ≤ faults n) where
    -- the steps of the opening round
    zero_turns : (m : Round) → VotesForOne m → Turns m (taking (join_zero n own) m)
    zero_turns m f = cond_both ((join_zero n own).applies m) (says 32 1 own m) m (Turns m) (λ _. first_zero m f) (λ _. turns_none m f)

    one_turns : (m : Round) → VotesForOne m → Turns m (taking (join_one n own) m)
    one_turns m f = cond_both ((join_one n own).applies m) (once_second own 2 (says 32 2 own m)) m (Turns m) (λ _. let a = first_one own m f in turns_on a (once_turns _ a.for_one)) (λ _. turns_none m f)

    admit_zero : (m : Round) → VotesForOne m → Turns m (taking (admit n own 1) m)
    admit_zero m f = cond_both ((admit n own 1).applies m) (says 33 1 own m) m (Turns m)
        (λ h. absurd (let q = leb-true (quorum n) (count n (m.votes 32 1)) (and_parts _ _ (and_parts (is_entered_lem m) _ h).1).0 in let c = one_count n own (m.votes 32 1) f.zero in omega arith)) (λ _. turns_none m f)

    admit_one : (m : Round) → VotesForOne m → Turns m (taking (admit n own 2) m)
    admit_one m f = cond_both ((admit n own 2).applies m) (says 33 2 own m) m (Turns m) (λ _. second_one own m f) (λ _. turns_none m f)

    -- no second vote for 0 is supported
    none_supported : (m : Round) → VotesForOne m → (j : ℕ) → supports n m 1 j ≡ false
    none_supported m f j = ⊎_elim (λ t. absurd (let e = f.one 1 j (and_parts (m.votes 33 1 j) _ t).0 in omega arith)) (λ z. z) (cases_Bool (supports n m 1 j))

    tally_one : (m : Round) → VotesForOne m → ready_to_leave n m ≡ true → tally n m ≡ 2
    unfolding tally ready_to_leave
    tally_one m f h =
        let none = none_count n (supports n m 1) (λ j l. none_supported m f j) in
        let c = count_mono n (λ j. supports n m 1 j || supports n m 2 j) (supports n m 2) (λ j t. ⊎_elim (λ a. absurd (both_ways _ (none_supported m f j) a)) (λ b. b) (or_cases (supports n m 1 j) _ t)) in
        let q = leb-true _ _ h in
        cond_both (leb (quorum n) (count n (supports n m 1))) 1 _ (λ (y : ℕ). y ≡ 2) (λ t. absurd (let z = leb-true _ _ t in omega arith))
        (λ _. ap (λ (b : Bool). cond b 2 3) (le-leb _ _ (omega arith)))

    leave_turns : (m : Round) → VotesForOne m → Turns m (taking (leave n own) m)
    leave_turns m f = cond_both ((leave n own).applies m) (ends (tally n m) m) m (Turns m)
        (λ h. record { for_one = record { zero = f.zero; one = f.one; verdict = inr (tally_one m f (and_parts (ready_to_leave n m) _ (and_parts (is_entered_lem m) _ h).1).0) }; rises = record { votes = λ t v j q. q; entered = λ q. q } })
        (λ _. turns_none m f)

    pub settled_turns : (m : Round) → VotesForOne m → Turns m (opening_settled n own m)
    settled_turns m f = subst (Turns m) (sym (opening_pass n own m)) (
        let a = zero_turns m f in
        let b = one_turns _ a.for_one in
        let c = admit_zero _ b.for_one in
        let d = admit_one _ c.for_one in
        turns_on a (turns_on b (turns_on c (turns_on d (leave_turns _ d.for_one)))))

    -- once they are taken
    idle_after : (m : Round) → Idle (opening_steps n own) (opening_settled n own m)
    idle_after m = subst (Idle (opening_steps n own)) (sym (opening_pass n own m)) (opening_idle n own m)

    count_rises : {m m' : Round} → Rises m m' → (t v : ℕ) → count n (m.votes t v) ≤ count n (m'.votes t v)
    count_rises {m} {m'} r t v = count_mono n (m.votes t v) (m'.votes t v) (r.votes t v)

    not_both : (a b : Bool) → a ≡ true → (a && b) ≡ false → b ≡ false
    not_both true b h e = e
    not_both false b h e = absurd (both_ways _ refl h)

    joined : (m : Round) → VotesForOne m → Idle (opening_steps n own) m → 0 < m.entered → beyond_faults n ≤ count n (m.votes 32 2) → m.votes 33 2 own ≡ true
    joined m f idle e h = go (m.votes 33 1 own) (m.votes 33 2 own) (m.votes 33 3 own) refl refl refl (off (m.votes 32 2 own) (voted 33 own m) (not_both _ _ (le-leb _ _ h) (not_both _ _ (entered_test m e) idle.1.0)))
      where
        off : (a b : Bool) → (not a || not b) ≡ false → b ≡ true
        off true true q = refl
        off true false q = absurd (both_ways _ q refl)
        off false b q = absurd (both_ways _ q refl)

        go : (a b c : Bool) → m.votes 33 1 own ≡ a → m.votes 33 2 own ≡ b → m.votes 33 3 own ≡ c → (a || (b || c)) ≡ true → b ≡ true
        go true b c p q r t = absurd (let z = f.one 1 own p in omega arith)
        go false true c p q r t = refl
        go false false true p q r t = absurd (let z = f.one 3 own r in omega arith)
        go false false false p q r t = t

    left : (m : Round) → VotesForOne m → Idle (opening_steps n own) m → 0 < m.entered → beyond_faults n ≤ count n (m.votes 32 2) → quorum n ≤ count n (m.votes 33 2) → m.verdict ≡ 2
    unfolding ready_to_leave admits
    left m f idle e h q =
        let admitted : admits n m 2 ≡ true = or_right (eqb m.entered 2) _ (le-leb _ _ h) in
        let c = count_mono n (m.votes 33 2) (λ j. supports n m 1 j || supports n m 2 j) (λ j t. or_right (supports n m 1 j) _ (and_from _ _ t admitted)) in
        let ready : ready_to_leave n m ≡ true = le-leb _ _ (omega arith) in
        let z = not_both (ready_to_leave n m) (eqb m.verdict 0) ready (not_both _ _ (entered_test m e) idle.1.1.1.1.0) in
        ⊎_elim (λ no. absurd (eqb-false m.verdict 0 z no)) (λ yes. yes) f.verdict

    -- what a ballot's opening round comes to by its steps, d telling whether its slot is delivered
    abbrev pub opening_after : Bool → Round → Round
    opening_after d m = opening_settled n own (taking (repropose own d) m)

    pub after_turns : (d : Bool) (m : Round) → VotesForOne m → Turns m (opening_after d m)
    after_turns d m f = let a = again_turns d m f in turns_on a (settled_turns _ a.for_one)

    pub first_said : (d : Bool) (m : Round) → VotesForOne m → d ≡ true → 0 < m.entered → (opening_after d m).votes 32 2 own ≡ true
    first_said d m f t e = let a = again_turns d m f in (settled_turns _ a.for_one).rises.votes 32 2 own (again_said d m t e)

    pub second_said : (d : Bool) (m : Round) → VotesForOne m → 0 < m.entered → beyond_faults n ≤ count n (m.votes 32 2) → (opening_after d m).votes 33 2 own ≡ true
    second_said d m f e h = let a = after_turns d m f in joined _ a.for_one (idle_after _) (a.rises.entered e) (let c = count_rises a.rises 32 2 in omega arith)

    pub left_with_one : (d : Bool) (m : Round) → VotesForOne m → 0 < m.entered → beyond_faults n ≤ count n (m.votes 32 2) → quorum n ≤ count n (m.votes 33 2) → (opening_after d m).verdict ≡ 2
    left_with_one d m f e h q = let a = after_turns d m f in left _ a.for_one (idle_after _) (a.rises.entered e) (let c = count_rises a.rises 32 2 in omega arith) (let c = count_rises a.rises 33 2 in omega arith)
