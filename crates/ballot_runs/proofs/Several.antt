-- Several steps in one ballot, and several turns of one replica, as in one call. Assumes nothing.
use Rattle.std.proofs.Common.{◌≡◌, ℕ, Bool, true, cond, ◌≢◌, eqb, sym, refl, ap, ◌∙◌, subst, subst₂, ⊎_elim}
use Rattle.std.proofs.Math.Path.{fun_ext}
use Rattle.std.proofs.lemmas.Bool.{cases_eq, eq-eqb, ne_eqb, cond-true, cond-false}
use Rattle.rules.specs.Rounds.{Vote}
use Rattle.rules.specs.Laws.{Acts}
use Rattle.ballot_runs.specs.Views.{View, OnlyAt, with_round}
use Rattle.ballot_runs.specs.Runs.{Step, goes_on, says_again, hears_vote, takes_steps, decides, shows, delivers, Ballots, Turn, inside, proposes, Hall, Honest, Quoted, Run, turned}

-- views with the same parts are the same
pub view_same : (v v' : View) → ((r : ℕ) → v.rounds r ≡ v'.rounds r) → ((r : ℕ) → v.shown r ≡ v'.shown r) → v.decided ≡ v'.decided → v.delivered ≡ v'.delivered → v ≡ v'
view_same v v' rounds shown decided delivered = λ i. record { rounds = λ r. rounds r i; shown = λ r. shown r i; decided = decided i; delivered = delivered i }

-- the view where one round alone has changed
pub round_changed : (v v' : View) (r : ℕ) → OnlyAt r v.rounds v'.rounds → ((q : ℕ) → v'.shown q ≡ v.shown q) → v'.decided ≡ v.decided → v'.delivered ≡ v.delivered → v' ≡ with_round v r (v'.rounds r)
round_changed v v' r same shown decided delivered = view_same v' (with_round v r (v'.rounds r))
    (λ q. ⊎_elim (λ e. ap v'.rounds e ∙ sym (cond-true (eqb q r) (v'.rounds r) (v.rounds q) (eq-eqb q r e))) (λ ne. same q ne ∙ sym (cond-false (eqb q r) (v'.rounds r) (v.rounds q) (ne_eqb q r ne))) (cases_eq q r)) shown decided delivered

-- place i changed alone
abbrev pub changed : {X : Type 0} → ℕ → X → (ℕ → X) → ℕ → X
changed i x g j = cond (eqb j i) x (g j)

pub changed_at : {X : Type 0} (i : ℕ) (x : X) (g : ℕ → X) → changed i x g i ≡ x
changed_at i x g = cond-true (eqb i i) x (g i) (eq-eqb i i refl)

pub changed_only : {X : Type 0} (i : ℕ) (x : X) (g : ℕ → X) → OnlyAt i g (changed i x g)
changed_only i x g j ne = cond-false (eqb j i) x (g j) (ne_eqb j i ne)

-- two changes of one place
twice_changed : {X : Type 0} (i : ℕ) (g g' g'' : ℕ → X) → OnlyAt i g g' → OnlyAt i g g'' → OnlyAt i g' g''
twice_changed i g g' g'' p q j ne = q j ne ∙ sym (p j ne)

same_change : {X : Type 0} (i : ℕ) (g g' g'' : ℕ → X) → OnlyAt i g g' → OnlyAt i g g'' → g' i ≡ g'' i → g' ≡ g''
same_change i g g' g'' p q e = fun_ext (λ j. ⊎_elim (λ at. ap g' at ∙ e ∙ sym (ap g'' at)) (λ ne. p j ne ∙ sym (q j ne)) (cases_eq j i))

module _ (a : Acts) (n own : ℕ) where
  -- what others may be quoted with is all that matters
  step_quoted : (ok ok' : ℕ → Vote → Type 0) → ((r : ℕ) (w : Vote) → (w.sender ≢ own) → ok r w → ok' r w) → (v v' : View) → Step a n own ok v v' → Step a n own ok' v v'
  step_quoted ok ok' to v c (goes_on r x lt s z sh o) = goes_on r x lt s z sh o
  step_quoted ok ok' to v c (says_again d) = says_again d
  step_quoted ok ok' to v c (hears_vote r w lt au q) = hears_vote r w lt au (to r w au.other q)
  step_quoted ok ok' to v c (takes_steps r lt) = takes_steps r lt
  step_quoted ok ok' to v c (decides r x lt s d y e) = decides r x lt s d y e
  step_quoted ok ok' to v c (shows sh st) = shows sh st
  step_quoted ok ok' to v c delivers = delivers

  turn_quoted : (ok ok' : ℕ → ℕ → Vote → Type 0) → ((k r : ℕ) (w : Vote) → (w.sender ≢ own) → ok k r w → ok' k r w) → (b b' : Ballots) → Turn a n own ok b b' → Turn a n own ok' b b'
  turn_quoted ok ok' to b c (inside k b' st same) = inside k c (step_quoted (ok k) (ok' k) (to k) (b k) (c k) st) same
  turn_quoted ok ok' to b c (proposes b' many none all) = proposes c many none all

  -- steps of one ballot, one after another
  pub data Steps (ok : ℕ → Vote → Type 0) : View → View → Type 0 where
    no_step : {v : View} → Steps ok v v
    then_step : {v v' v'' : View} → Step a n own ok v v' → Steps ok v' v'' → Steps ok v v''

  -- turns of one replica, one after another
  pub data Turns (ok : ℕ → ℕ → Vote → Type 0) : Ballots → Ballots → Type 0 where
    no_turn : {b : Ballots} → Turns ok b b
    then_turn : {b b' b'' : Ballots} → Turn a n own ok b b' → Turns ok b' b'' → Turns ok b b''

  pub steps_join : {ok : ℕ → Vote → Type 0} {v v' v'' : View} → Steps ok v v' → Steps ok v' v'' → Steps ok v v''
  steps_join no_step y = y
  steps_join (then_step s x) y = then_step s (steps_join x y)

  pub turns_join : {ok : ℕ → ℕ → Vote → Type 0} {b b' b'' : Ballots} → Turns ok b b' → Turns ok b' b'' → Turns ok b b''
  turns_join no_turn y = y
  turns_join (then_turn t x) y = then_turn t (turns_join x y)

  -- steps of one ballot are turns
  pub steps_turns : (ok : ℕ → ℕ → Vote → Type 0) (k : ℕ) (b b' : Ballots) (v v' : View) → b k ≡ v → b' k ≡ v' → OnlyAt k b b' → Steps (ok k) v v' → Turns ok b b'
  steps_turns ok k b b' v c e e' same no_step = subst (Turns ok b) (same_change k b b b' (λ j ne. refl) same (e ∙ sym e')) no_turn
  steps_turns ok k b b' v c e e' same (then_step {v'} st rest) =
      let mid = changed k v' b in
      then_turn (inside k mid (subst₂ (Step a n own (ok k)) (sym e) (sym (changed_at k v' b)) st) (changed_only k v' b))
      (steps_turns ok k mid b' v' c (changed_at k v' b) e' (twice_changed k b mid b' (changed_only k v' b) same) rest)

-- turns of an honest replica, quoting what the others had said before, are part of a run
pub turns_run : (a : Acts) (n : ℕ) (honest : ℕ → Bool) (s : Hall) (i : ℕ) → Honest n honest i → (now later : Hall) (b b' : Ballots) → now i ≡ b → later i ≡ b' → OnlyAt i s now → OnlyAt i s later →
    Turns a n i (Quoted honest s) b b' → Run a n honest now → Run a n honest later
turns_run a n honest s i gi now later b c e e' same same' no_turn x = subst (Run a n honest) (same_change i s now later same same' (e ∙ sym e')) x
turns_run a n honest s i gi now later b c e e' same same' (then_turn {b'} t rest) x =
    let mid = changed i b' s in
    turns_run a n honest s i gi mid later b' c (changed_at i b' s) e' (changed_only i b' s) same' rest
    (turned x i mid gi
    (subst₂ (Turn a n i (Quoted honest now)) (sym e) (sym (changed_at i b' s))
    (turn_quoted a n i (Quoted honest s) (Quoted honest now) (λ k r w ne q hon. subst (λ (z : Ballots). ((z k).rounds r).votes w.tag w.set w.sender ≡ true) (sym (same w.sender ne)) (q hon)) b b' t))
    (twice_changed i s now mid same (changed_only i b' s)))
