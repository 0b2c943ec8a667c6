-- Who has proposed said second vote 1 in a quorum of ballots. Assumes nothing.
use Rattle.std.proofs.Common.{◌≡◌, ℕ, zero, suc, ◌<◌, ◌≤◌, Bool, true, not, ◌≢◌, ltb, sym, refl, ap, ◌∙◌, subst, ⊎_elim, arith}
use Rattle.std.proofs.lemmas.Bool.{cases_eq, lt-ltb, cond_both, cond-true, or_cases}
use Rattle.basis.specs.Counts.{count}
use Rattle.basis.specs.Halls.{faults, quorum}
use Rattle.basis.proofs.Counts.{count_mono}
use Rattle.basis.proofs.Totals.{count_below}
use Rattle.rules.specs.Rounds.{Round, Vote, bit_set, voted}
use Rattle.rules.specs.Laws.{Acts, Laws}
use Rattle.phases.specs.Steps.{says, begun}
use Rattle.phases.specs.Turns.{says_has}
use Rattle.phases.specs.Adding.{says_only, hears_cases}
use Rattle.openings.specs.Openings.{proposed}
use Rattle.ballot_runs.specs.Views.{View, with_round, proposal}
use Rattle.ballot_runs.specs.Runs.{Step, goes_on, says_again, hears_vote, takes_steps, decides, shows, delivers, Ballots, Turn, inside, proposes, Hall, Honest, Quoted, Run, opened, turned}
use Rattle.ballot_runs.proofs.OpeningSteps.{steps_own}
use Rattle.ballot_runs.proofs.Opens.{proposed_cases}
use Rattle.ballot_runs.proofs.Opened.{bit_single, sound, again_own}
use Rattle.ballot_runs.proofs.Moves.{Grounded, at_round}
use Rattle.ballot_runs.proofs.Kept.{turn_moves, kept}

-- a proposal of 1 says second vote 1
proposed_second : (own : ℕ) (m : Round) → ((v : ℕ) → m.votes 33 v own ≢ true) → (proposed own 2 m).votes 33 2 own ≡ true
proposed_second own m none = cond_both (voted 33 own (says 32 2 own (begun 2 m))) _ _ (λ (y : Round). y.votes 33 2 own ≡ true)
    (λ t. absurd (⊎_elim (old 1) (λ u. ⊎_elim (old 2) (old 3) (or_cases _ _ u)) (or_cases _ _ t))) (λ _. says_has 33 2 own (says 32 2 own (begun 2 m)))
  where
    old : (v : ℕ) → (says 32 2 own (begun 2 m)).votes 33 v own ≢ true
    old v h = ⊎_elim (none v) (λ new. let q : ◌≡◌ {A = ℕ} 33 32 = new.0 in omega arith) (says_only 32 2 own (begun 2 m) 33 v own h)

-- a later round leaves the opening round as it is
pub later_round : (v : View) (r : ℕ) (m : Round) → (with_round v (suc r) m).rounds 0 ≡ v.rounds 0
later_round v r m = at_round (λ q y. q ≡ 0 → y ≡ v.rounds 0) v (suc r) m (λ e. absurd (omega arith)) (λ q e. ap v.rounds e) 0 refl

module _ (a : Acts) (n : ℕ) where
  -- no step proposes
  pub step_keeps_proposal : (own : ℕ) (ok : ℕ → Vote → Type 0) (v v' : View) → Step a n own ok v v' → (v'.rounds 0).entered ≡ (v.rounds 0).entered
  step_keeps_proposal own ok v c (goes_on r x lt s z sh o) = ap (λ (y : Round). y.entered) (later_round v r (a.enter n own x (v.rounds (suc r))))
  step_keeps_proposal own ok v c (says_again d) = (again_own n own v.delivered d (v.rounds 0)).bit
  step_keeps_proposal own ok v c (hears_vote zero w lt au q) = hears_cases w (v.rounds 0) (λ (y : Round). y.entered ≡ (v.rounds 0).entered) refl (λ _. refl)
  step_keeps_proposal own ok v c (hears_vote (suc r) w lt au q) = ap (λ (y : Round). y.entered) (later_round v r (a.hear n own w (v.rounds (suc r))))
  step_keeps_proposal own ok v c (takes_steps zero lt) = (steps_own n own v.delivered (v.rounds 0)).bit
  step_keeps_proposal own ok v c (takes_steps (suc r) lt) = ap (λ (y : Round). y.entered) (later_round v r (a.steps n own (v.rounds (suc r))))
  step_keeps_proposal own ok v c (decides r x lt s d y e) = refl
  step_keeps_proposal own ok v c (shows sh st) = refl
  step_keeps_proposal own ok v c delivers = refl

  -- second vote 1 is said in a quorum of ballots, if any is proposed in
  abbrev pub Ones : ℕ → Ballots → Type 0
  Ones i b = (k : ℕ) → 0 < ((b k).rounds 0).entered → quorum n ≤ count n (λ l. ((b l).rounds 0).votes 33 2 i)

  ones_turn : (ok : ℕ → ℕ → Vote → Type 0) (i : ℕ) (b b' : Ballots) → Laws a n i → ((k : ℕ) → Grounded a n i (b k)) → Turn a n i ok b b' → Ones i b → Ones i b'
  ones_turn ok i b c laws g (inside l b' st same) old k lo =
      let more = count_mono n (λ q. ((b q).rounds 0).votes 33 2 i) (λ q. ((c q).rounds 0).votes 33 2 i) (λ q. ((turn_moves a n (λ _. true) ok i b c laws g (inside l b' st same) q).stays.rounds 0).votes 33 2 i) in
      let was : ((c k).rounds 0).entered ≡ ((b k).rounds 0).entered = ⊎_elim
      (λ e. subst (λ (z : ℕ). ((c z).rounds 0).entered ≡ ((b z).rounds 0).entered) (sym e) (step_keeps_proposal i (ok l) (b l) (c l) st))
      (λ ne. ap (λ (v : View). (v.rounds 0).entered) (same k ne)) (cases_eq k l) in
      let h = old k (omega arith) in omega arith
  ones_turn ok i b c laws g (proposes b' many none all) old k lo =
      let more = count_below n (λ l. (b l).delivered) (λ l. ((c l).rounds 0).votes 33 2 i) (λ l low d.
      subst (λ (v : View). (v.rounds 0).votes 33 2 i ≡ true) (sym (all l ∙ cond-true (ltb l n) (proposal i (b l)) (b l) (lt-ltb l n low)))
      (subst (λ (x : Bool). (proposed i (bit_set x) ((b l).rounds 0)).votes 33 2 i ≡ true) (sym d)
      (proposed_second i ((b l).rounds 0) (λ v h. let z = none l low in let w = (sound n i ((g l).reached 0)).base.silent 33 v h in omega arith)))) in
      omega arith

  pub ones : (honest : ℕ → Bool) → count n (λ j. not (honest j)) ≤ faults n → ((i : ℕ) → Honest n honest i → Laws a n i) → {s : Hall} → Run a n honest s → (i : ℕ) → Honest n honest i → Ones i (s i)
  ones honest few laws (opened s fresh) j gj = λ k lo. absurd (let z = ap (λ (m : Round). m.entered) ((fresh j k gj).rounds 0) in omega arith)
  ones honest few laws (turned {s} x i s' gi turn same) j gj = ⊎_elim
      (λ e. subst (λ (z : ℕ). Ones z (s' z)) (sym e) (ones_turn (Quoted honest s) i (s i) (s' i) (laws i gi) (λ k. (kept a n honest few laws x).grounded i k gi) turn (ones honest few laws x i gi)))
      (λ ne. subst (Ones j) (sym (same j ne)) (ones honest few laws x j gj)) (cases_eq j i)

  -- all ballots are proposed in, or none is
  abbrev pub Together : Ballots → Type 0
  Together b = (k l : ℕ) → k < n → l < n → 0 < ((b k).rounds 0).entered → 0 < ((b l).rounds 0).entered

  proposal_entered : (own : ℕ) (v : View) → 0 < ((proposal own v).rounds 0).entered
  proposal_entered own v = let e = proposed_cases own (bit_set v.delivered) (v.rounds 0) (λ (m : Round). m.entered ≡ bit_set v.delivered) refl (λ _ _. refl) in omega (arith, (bit_single v.delivered).0)

  together_turn : (ok : ℕ → ℕ → Vote → Type 0) (i : ℕ) (b b' : Ballots) → Turn a n i ok b b' → Together b → Together b'
  together_turn ok i b c (inside q b' st same) old k l lk ll lo = let h = old k l lk ll (omega (arith, was k)) in omega (arith, was l)
    where
      was : (p : ℕ) → ((c p).rounds 0).entered ≡ ((b p).rounds 0).entered
      was p = ⊎_elim (λ e. subst (λ (z : ℕ). ((c z).rounds 0).entered ≡ ((b z).rounds 0).entered) (sym e) (step_keeps_proposal i (ok q) (b q) (c q) st))
          (λ ne. ap (λ (v : View). (v.rounds 0).entered) (same p ne)) (cases_eq p q)
  together_turn ok i b c (proposes b' many none all) old k l lk ll lo =
      subst (λ (v : View). 0 < (v.rounds 0).entered) (sym (all l ∙ cond-true (ltb l n) (proposal i (b l)) (b l) (lt-ltb l n ll))) (proposal_entered i (b l))

  pub together : (honest : ℕ → Bool) {s : Hall} → Run a n honest s → (i : ℕ) → Honest n honest i → Together (s i)
  together honest (opened s fresh) j gj = λ k l lk ll lo. absurd (let z = ap (λ (m : Round). m.entered) ((fresh j k gj).rounds 0) in omega arith)
  together honest (turned {s} x i s' gi turn same) j gj = ⊎_elim
      (λ e. subst (λ (z : ℕ). Together (s' z)) (sym e) (together_turn (Quoted honest s) i (s i) (s' i) turn (together honest x i gi)))
      (λ ne. subst Together (sym (same j ne)) (together honest x j gj)) (cases_eq j i)
