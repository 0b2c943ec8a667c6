-- What joins the replicas, kept over every run. Assumes nothing.
use Rattle.std.proofs.Common.{◌≡◌, ℕ, zero, suc, ◌≤◌, Bool, true, not, ◌≢◌, eqb, sym, ap, ◌∙◌, subst, ⊎_elim, arith}
use Rattle.std.proofs.lemmas.Bool.{cases_eq, ltb-true, eq-eqb, cond_both, and_parts, not-true, both_ways, false≢true}
use Rattle.basis.specs.Counts.{count}
use Rattle.basis.specs.Halls.{faults, beyond_faults}
use Rattle.basis.proofs.Counts.{one_honest}
use Rattle.rules.specs.Rounds.{Round, Vote}
use Rattle.rules.specs.Laws.{Acts, Single, Reached, clear, first_of_others, Laws}
use Rattle.ballot_runs.specs.Views.{OnlyAt, proposal, Fresh}
use Rattle.ballot_runs.specs.Runs.{Ballots, Turn, inside, proposes, Hall, Honest, Quoted, Run, opened, turned}
use Rattle.ballot_runs.proofs.Opens.{Opened, unopened}
use Rattle.ballot_runs.proofs.Opened.{sound}
use Rattle.ballot_runs.proofs.Rounds.{ReachedAt}
use Rattle.ballot_runs.proofs.Moves.{Grounded, Moves, moves_still, moves_propose, moves_step}

module _ (a : Acts) (n : ℕ) (honest : ℕ → Bool) where
  abbrev pub Good : ℕ → Type 0
  Good i = Honest n honest i

  -- some honest replica entered round suc r of ballot k with x; some honest replica has the slot's sheet
  abbrev pub SomeEntered : Hall → ℕ → ℕ → ℕ → Type 0
  SomeEntered s k r x = (l : ℕ) × Good l × (((s l k).rounds (suc r)).entered ≡ x)

  abbrev pub SomeDelivered : Hall → ℕ → Type 0
  SomeDelivered s k = (l : ℕ) × Good l × ((s l k).delivered ≡ true)

  pub record Kept (s : Hall) : Type 0 where
    pub grounded : (i k : ℕ) → Good i → Grounded a n i (s i k)
    pub authentic : (i j k r t v : ℕ) → Good i → Good j → ((s i k).rounds r).votes t v j ≡ true → ((s j k).rounds r).votes t v j ≡ true
    -- a first vote goes back to one who entered with its bit; in the opening round, one for 1 to a delivery
    pub entered : (i k r x : ℕ) → Good i → Single x → ((s i k).rounds (suc r)).votes 32 x i ≡ true → SomeEntered s k r x
    pub delivered : (i k : ℕ) → Good i → ((s i k).rounds 0).votes 32 2 i ≡ true → SomeDelivered s k

  -- of others one is honest, and has said it before
  other_honest : (i : ℕ) (m : Round) (x : ℕ) → count n (λ j. not (honest j)) ≤ faults n → beyond_faults n ≤ count n (first_of_others i m x) → (j : ℕ) × Good j × (m.votes 32 x j ≡ true) × (j ≢ i)
  other_honest i m x few many =
      let o = one_honest (faults n) n (first_of_others i m x) honest few many in
      let p = and_parts _ _ o.2 in
      (o.0, (o.1, o.3), p.0, λ e. both_ways (eqb o.0 i) (not-true _ p.1) (eq-eqb o.0 i e))

  pub turn_moves : (ok : ℕ → ℕ → Vote → Type 0) (i : ℕ) (b b' : Ballots) → Laws a n i → ((k : ℕ) → Grounded a n i (b k)) → Turn a n i ok b b' → (k : ℕ) → Moves a n i (ok k) (b k) (b' k)
  turn_moves ok i b c laws g (inside l b' st same) k = ⊎_elim
      (λ e. subst (λ (z : ℕ). Moves a n i (ok z) (b z) (b' z)) (sym e) (moves_step a n i (ok l) (b l) (g l) laws (b' l) st))
      (λ ne. subst (Moves a n i (ok k) (b k)) (sym (same k ne)) (moves_still a n i (ok k) (b k) (g k))) (cases_eq k l)
  turn_moves ok i b c laws g (proposes b' many none all) k = subst (Moves a n i (ok k) (b k)) (sym (all k))
      (cond_both _ (proposal i (b k)) (b k) (Moves a n i (ok k) (b k)) (λ t. moves_propose a n i (ok k) (b k) (g k) (none k (ltb-true _ _ t))) (λ _. moves_still a n i (ok k) (b k) (g k)))

  kept_opened : (s : Hall) → ((i k : ℕ) → Good i → Fresh (s i k)) → Kept s
  kept_opened s fresh = record {
    grounded = λ i k gi. record {
      reached = λ r. begins i k gi r;
      onward = λ r lo. absurd (let z = ap (λ (m : Round). m.entered) ((fresh i k gi).rounds (suc r)) in omega arith);
      cause = λ lo. absurd (let z = (fresh i k gi).decided in omega arith);
    };
    authentic = λ i j k r t v gi gj h. absurd (none i k r t v j gi h);
    entered = λ i k r x gi sx h. absurd (none i k (suc r) 32 x i gi h);
    delivered = λ i k gi h. absurd (none i k 0 32 2 i gi h);
  }
    where
      none : (i k r t v j : ℕ) → Good i → ((s i k).rounds r).votes t v j ≢ true
      none i k r t v j gi h = false≢true (sym (ap (λ (m : Round). m.votes t v j) ((fresh i k gi).rounds r)) ∙ h)

      begins : (i k : ℕ) → Good i → (r : ℕ) → ReachedAt a n i (s i k).delivered r ((s i k).rounds r)
      begins i k gi zero = subst (Opened n i (s i k).delivered) (sym ((fresh i k gi).rounds 0)) unopened
      begins i k gi (suc r) = subst (Reached a n i) (sym ((fresh i k gi).rounds (suc r))) clear

  kept_moved : count n (λ j. not (honest j)) ≤ faults n → ((i : ℕ) → Good i → Laws a n i) → (s s' : Hall) → ((j k : ℕ) → Good j → Moves a n j (Quoted honest s k) (s j k) (s' j k)) → Kept s → Kept s'
  kept_moved few laws s s' moves kp = record {
    grounded = λ j k gj. (moves j k gj).grounded;
    authentic = λ l j k r t v gl gj h. ⊎_elim (λ old. votes j k r t v j gj (kp.authentic l j k r t v gl gj old))
        (⊎_elim (λ own. subst (λ (z : ℕ). ((s' z k).rounds r).votes t v j ≡ true) (sym own) h) (λ ok. votes j k r t v j gj (ok gj.1))) ((moves l k gl).only r t v j h);
    entered = λ l k r x gl sx h. ⊎_elim (λ e. (l, gl, e))
        (λ many. let o = other_honest l ((s' l k).rounds (suc r)) x few many in
        later-entered k r x sx (kp.entered o.0 k r x o.1 sx (before l o.0 k (suc r) x gl o.1 o.3 o.2)))
        ((laws l gl).first_vote_has_a_ground ((s' l k).rounds (suc r)) ((moves l k gl).grounded.reached (suc r)) x sx h);
    delivered = λ l k gl h. ⊎_elim (λ d. (l, gl, d))
        (λ many. let o = other_honest l ((s' l k).rounds 0) 2 few many in
        let q = kp.delivered o.0 k o.1 (before l o.0 k 0 2 gl o.1 o.3 o.2) in (q.0, q.1, (moves q.0 k q.1).stays.delivered q.2))
        ((sound n l ((moves l k gl).grounded.reached 0)).said h);
  }
    where
      votes : (j k r t v i : ℕ) → Good j → ((s j k).rounds r).votes t v i ≡ true → ((s' j k).rounds r).votes t v i ≡ true
      votes j k r t v i gj = ((moves j k gj).stays.rounds r).votes t v i

      before : (l j k r x : ℕ) → Good l → Good j → (j ≢ l) → ((s' l k).rounds r).votes 32 x j ≡ true → ((s j k).rounds r).votes 32 x j ≡ true
      before l j k r x gl gj ne h = ⊎_elim (kp.authentic l j k r 32 x gl gj) (⊎_elim (λ own. absurd (ne own)) (λ ok. ok gj.1)) ((moves l k gl).only r 32 x j h)

      later-entered : (k r x : ℕ) → Single x → SomeEntered s k r x → SomeEntered s' k r x
      later-entered k r x sx o = (o.0, o.1, ((moves o.0 k o.1).stays.rounds (suc r)).entered (omega (arith, sx.0, o.2)) ∙ o.2)

  -- the replica that moves, and the others
  pub hall_moves : ((i : ℕ) → Good i → Laws a n i) → (s s' : Hall) (i : ℕ) → Good i → Kept s → Turn a n i (Quoted honest s) (s i) (s' i) → OnlyAt i s s' → (j k : ℕ) → Good j → Moves a n j (Quoted honest s k) (s j k) (s' j k)
  hall_moves laws s s' i gi kp turn same j k gj = ⊎_elim
      (λ e. subst (λ (z : ℕ). Moves a n z (Quoted honest s k) (s z k) (s' z k)) (sym e) (turn_moves (Quoted honest s) i (s i) (s' i) (laws i gi) (λ l. kp.grounded i l gi) turn k))
      (λ ne. subst (λ (b : Ballots). Moves a n j (Quoted honest s k) (s j k) (b k)) (sym (same j ne)) (moves_still a n j (Quoted honest s k) (s j k) (kp.grounded j k gj))) (cases_eq j i)

  pub kept : count n (λ j. not (honest j)) ≤ faults n → ((i : ℕ) → Good i → Laws a n i) → {s : Hall} → Run a n honest s → Kept s
  kept few laws (opened s fresh) = kept_opened s fresh
  kept few laws (turned {s} x i s' gi turn same) = let kp = kept few laws x in kept_moved few laws s s' (hall_moves laws s s' i gi kp turn same) kp
