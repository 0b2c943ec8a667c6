-- What lists of steps come to: those of one kind by rounds, and those of the opening round before others. Assumes nothing.
use Rattle.std.proofs.Common.{◌≡◌, ℕ, zero, suc, ◌+◌, ◌<◌, ◌≤◌, ◌⊎◌, inl, inr, ⊎_elim, true, false, List, [], ◌∷◌, refl, sym, ap, ◌∙◌, subst, arith}
use Rattle.std.proofs.lemmas.Bool.{cond-true, cond-false, cases_Bool, cases_lt, cond_both}
use Rattle.basis.specs.Steps.{Step, stepped, settled, Idle}
use Rattle.rules.specs.Rounds.{Round}
use Rattle.ballots.specs.States.{BallotState}
use Rattle.ballots.specs.Listed.{Taking, each, reopened, with_state, openers}

module _ {M : Type 0} where
  idle_stepped : (ss : List (Step M)) (m : M) → Idle ss m → stepped ss m ≡ m
  idle_stepped [] m i = refl
  idle_stepped (s ∷ ss) m i = cond-false (s.applies m) (s.leaves m) (stepped ss m) i.0 ∙ idle_stepped ss m i.1

  pub idle_settled : (ss : List (Step M)) (k : ℕ) (m : M) → Idle ss m → settled ss k m ≡ m
  unfolding settled
  idle_settled ss zero m i = refl
  idle_settled ss (suc k) m i = ap (λ (x : M). settled ss k x) (idle_stepped ss m i) ∙ idle_settled ss k m i

  -- where none of the steps by rounds applies, the rest is looked at
  pub each_skipped : (f : ℕ → Step M) (u r : ℕ) (rest : List (Step M)) (m : M) → ((i : ℕ) → r ≤ i → i < r + u → (f i).applies m ≡ false) → stepped (each f u r rest) m ≡ stepped rest m
  each_skipped f zero r rest m off = refl
  each_skipped f (suc u) r rest m off =
      cond-false ((f r).applies m) ((f r).leaves m) (stepped (each f u (suc r) rest) m) (off r (omega arith) (omega arith))
      ∙ each_skipped f u (suc r) rest m (λ i lo hi. off i (omega arith) (omega arith))

  pub each_idle : (f : ℕ → Step M) (u r : ℕ) (rest : List (Step M)) (m : M) → ((i : ℕ) → r ≤ i → i < r + u → (f i).applies m ≡ false) → Idle rest m → Idle (each f u r rest) m
  each_idle f zero r rest m off idle = idle
  each_idle f (suc u) r rest m off idle = (off r (omega arith) (omega arith), each_idle f u (suc r) rest m (λ i lo hi. off i (omega arith) (omega arith)) idle)

  -- the lowest round of which the step applies is taken
  pub each_first : (f : ℕ → Step M) (u r i : ℕ) (rest : List (Step M)) (m : M) → r ≤ i → i < r + u → ((j : ℕ) → r ≤ j → j < i → (f j).applies m ≡ false) → (f i).applies m ≡ true →
      stepped (each f u r rest) m ≡ (f i).leaves m
  each_first f zero r i rest m lo hi off on = absurd (omega arith)
  each_first f (suc u) r i rest m lo hi off on = ⊎_elim
      (λ below. cond-false ((f r).applies m) ((f r).leaves m) (stepped (each f u (suc r) rest) m) (off r (omega arith) below)
      ∙ each_first f u (suc r) i rest m (omega arith) (omega arith) (λ j l h. off j (omega arith) h) on)
      (λ above. let at : i ≡ r = omega arith in
      subst (λ (q : ℕ). stepped (each f (suc u) r rest) m ≡ (f q).leaves m) (sym at)
      (cond-true ((f r).applies m) ((f r).leaves m) (stepped (each f u (suc r) rest) m) (subst (λ (q : ℕ). (f q).applies m ≡ true) at on)))
      (cases_lt r i)

module _ {C : Type 0} where
  abbrev pub opening_of : Taking C → Round
  opening_of x = x.state.ballot.opening

  abbrev pub reopen : Round → Taking C → Taking C
  reopen m x = with_state (reopened m x.state) x

  -- by the listed steps x comes to the state s in so many turns, and then none applies
  abbrev pub Ends : List (Step (Taking C)) → ℕ → Taking C → BallotState C → Type 0
  Ends ss u x s = (k : ℕ) → u ≤ k → ((settled ss k x).state ≡ s) × Idle ss (settled ss k x)

  pub ends_idle : (ss : List (Step (Taking C))) (u : ℕ) (x : Taking C) → Idle ss x → Ends ss u x x.state
  ends_idle ss u x i k h = let e = idle_settled ss k x i in (ap (λ (y : Taking C). y.state) e, subst (Idle ss) (sym e) i)

  pub ends_turn : (ss : List (Step (Taking C))) (u v : ℕ) (x y : Taking C) (s : BallotState C) → u < v → stepped ss x ≡ y → Ends ss u y s → Ends ss v x s
  unfolding settled
  ends_turn ss u v x y s lt e h zero l = absurd (omega arith)
  ends_turn ss u v x y s lt e h (suc k) l = subst (λ (z : Taking C). ((settled ss k z).state ≡ s) × Idle ss (settled ss k z)) (sym e) (h k (omega arith))

  pub ends_within : (ss : List (Step (Taking C))) (u v : ℕ) (x : Taking C) (s : BallotState C) → u ≤ v → Ends ss u x s → Ends ss v x s
  ends_within ss u v x s le h k l = h k (omega arith)

  -- steps that leave the opening round as it is
  abbrev pub Keep : List (Step (Taking C)) → Type 0
  Keep [] = Unit {0}
  Keep (t ∷ ts) = ((x : Taking C) → opening_of (t.leaves x) ≡ opening_of x) × Keep ts

  pub keep_each : (f : ℕ → Step (Taking C)) (u r : ℕ) (rest : List (Step (Taking C))) → ((i : ℕ) (x : Taking C) → opening_of ((f i).leaves x) ≡ opening_of x) → Keep rest → Keep (each f u r rest)
  keep_each f zero r rest kept k = k
  keep_each f (suc u) r rest kept k = (kept r, keep_each f u (suc r) rest kept k)

  keep_stepped : (ss : List (Step (Taking C))) (x : Taking C) → Keep ss → opening_of (stepped ss x) ≡ opening_of x
  keep_stepped [] x k = refl
  keep_stepped (t ∷ ts) x k = cond_both (t.applies x) (t.leaves x) (stepped ts x) (λ (y : Taking C). opening_of y ≡ opening_of x) (λ _. k.0 x) (λ _. keep_stepped ts x k.1)

  keep_settled : (ss : List (Step (Taking C))) (k : ℕ) (x : Taking C) → Keep ss → opening_of (settled ss k x) ≡ opening_of x
  unfolding settled
  keep_settled ss zero x keep = refl
  keep_settled ss (suc k) x keep = keep_settled ss k (stepped ss x) keep ∙ keep_stepped ss x keep

  openers_skipped : (ts : List (Step Round)) (rest : List (Step (Taking C))) (x : Taking C) → Idle ts (opening_of x) → stepped (openers ts rest) x ≡ stepped rest x
  openers_skipped [] rest x i = refl
  openers_skipped (t ∷ ts) rest x i = cond-false (t.applies (opening_of x)) (reopen (t.leaves (opening_of x)) x) (stepped (openers ts rest) x) i.0 ∙ openers_skipped ts rest x i.1

  openers_idle : (ts : List (Step Round)) (rest : List (Step (Taking C))) (x : Taking C) → Idle ts (opening_of x) → Idle rest x → Idle (openers ts rest) x
  openers_idle [] rest x i idle = idle
  openers_idle (t ∷ ts) rest x i idle = (i.0, openers_idle ts rest x i.1 idle)

  -- a turn is one of the opening round, or none of these applies
  openers_turn : (ts : List (Step Round)) (rest : List (Step (Taking C))) (x : Taking C) → (stepped (openers ts rest) x ≡ reopen (stepped ts (opening_of x)) x) ⊎ Idle ts (opening_of x)
  openers_turn [] rest x = inr tt
  openers_turn (t ∷ ts) rest x =
      let o = opening_of x in
      let here = reopen (t.leaves o) x in
      let further = stepped (openers ts rest) x in
      ⊎_elim
      (λ on. inl (cond-true (t.applies o) here further on ∙ ap (λ (m : Round). reopen m x) (sym (cond-true (t.applies o) (t.leaves o) (stepped ts o) on))))
      (λ off. ⊎_elim
      (λ e. inl (cond-false (t.applies o) here further off ∙ e ∙ ap (λ (m : Round). reopen m x) (sym (cond-false (t.applies o) (t.leaves o) (stepped ts o) off))))
      (λ i. inr (off, i))
      (openers_turn ts rest x))
      (cases_Bool (t.applies o))

  -- where none of them applies, the rest goes on alone
  alone : (ts : List (Step Round)) (rest : List (Step (Taking C))) (k : ℕ) (x : Taking C) → Keep rest → Idle ts (opening_of x) → settled (openers ts rest) k x ≡ settled rest k x
  unfolding settled
  alone ts rest zero x keep i = refl
  alone ts rest (suc k) x keep i =
      ap (λ (y : Taking C). settled (openers ts rest) k y) (openers_skipped ts rest x i) ∙ alone ts rest k (stepped rest x) keep (subst (Idle ts) (sym (keep_stepped rest x keep)) i)

  ends_alone : (ts : List (Step Round)) (rest : List (Step (Taking C))) (u : ℕ) (x : Taking C) (s : BallotState C) → Keep rest → Idle ts (opening_of x) → Ends rest u x s → Ends (openers ts rest) u x s
  ends_alone ts rest u x s keep i h k l =
      let e = alone ts rest k x keep i in
      let y = h k l in (
        ap (λ (z : Taking C). z.state) e ∙ y.0,
        subst (Idle (openers ts rest)) (sym e) (openers_idle ts rest (settled rest k x) (subst (Idle ts) (sym (keep_settled rest k x keep)) i) y.1),
      )

  -- the opening round takes its steps, then the rest goes on
  pub ends_opened : (ts : List (Step Round)) (rest : List (Step (Taking C))) (j u v : ℕ) (x : Taking C) (s : BallotState C) → v ≡ j + u → Keep rest → Idle ts (settled ts j (opening_of x)) →
      Ends rest u (reopen (settled ts j (opening_of x)) x) s → Ends (openers ts rest) v x s
  unfolding settled
  ends_opened ts rest zero u v x s q keep i h = ends_within (openers ts rest) u v x s (omega arith) (ends_alone ts rest u x s keep i h)
  ends_opened ts rest (suc j) u v x s q keep i h = ⊎_elim
      (λ e. ends_turn (openers ts rest) (j + u) v x (reopen (stepped ts (opening_of x)) x) s (omega arith) e
      (ends_opened ts rest j u (j + u) (reopen (stepped ts (opening_of x)) x) s refl keep i h))
      (λ none. let e = idle_settled ts (suc j) (opening_of x) none in
      ends_within (openers ts rest) u v x s (omega arith) (ends_alone ts rest u x s keep none (subst (λ (m : Round). Ends rest u (reopen m x) s) e h)))
      (openers_turn ts rest x)
