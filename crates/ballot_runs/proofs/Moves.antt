-- How one ballot at one replica changes over a step, and when its replica proposes. Assumes nothing.
use Rattle.std.proofs.Common.{◌≡◌, ℕ, zero, suc, ◌<◌, true, ◌⊎◌, eqb, sym, refl, ap, ◌∙◌, subst, inl, inr, ⊎_elim, arith}
use Rattle.std.proofs.lemmas.Bool.{eqb-true, eq-eqb, cond_both, cond-true}
use Rattle.rules.specs.Rounds.{Round, Vote, bit_set}
use Rattle.rules.specs.Laws.{Acts, Single, entering, hearing, stepping, did, Laws}
use Rattle.ballot_runs.specs.Views.{View, face, GoesOn, with_round, proposal}
use Rattle.ballot_runs.specs.Runs.{Step, goes_on, says_again, hears_vote, takes_steps, decides, shows, delivers}
use Rattle.ballot_runs.specs.Claims.{Stays}
use Rattle.ballot_runs.proofs.Opens.{proposing, saying_again, delivering, hearing as hearing_opened, stepping as stepping_opened}
use Rattle.ballot_runs.proofs.OpeningSteps.{steps_own}
use Rattle.ballot_runs.proofs.Opened.{again_own}
use Rattle.ballot_runs.proofs.Rounds.{vote, RoundMoves, moves_none, enter_moves, step_moves, hear_moves, own_moves, propose_moves, hears_moves, ReachedAt}

-- what is known of one ballot at one replica: its meanings, the grounds of its later rounds' bits, and that of its decision
pub record Grounded (a : Acts) (n own : ℕ) (v : View) : Type 0 where
  pub reached : (r : ℕ) → ReachedAt a n own v.delivered r (v.rounds r)
  pub onward : (r : ℕ) → 0 < (v.rounds (suc r)).entered → ((v.rounds (suc r)).entered < 3) × GoesOn v r (v.rounds (suc r)).entered
  pub cause : 0 < v.decided → (v.decided < 3) × (r : ℕ) × ((v.rounds r).verdict ≡ v.decided) × (face v r ≡ v.decided)

pub record Moves (a : Acts) (n own : ℕ) (ok : ℕ → Vote → Type 0) (v v' : View) : Type 0 where
  pub stays : Stays v v'
  pub only : (r t x j : ℕ) → (v'.rounds r).votes t x j ≡ true → ((v.rounds r).votes t x j ≡ true) ⊎ ((j ≡ own) ⊎ ok r (vote t x j))
  pub grounded : Grounded a n own v'

-- what holds of the changed round and of the others holds of all
pub at_round : (P : ℕ → Round → Type 0) (v : View) (r : ℕ) (m : Round) → P r m → ((q : ℕ) → P q (v.rounds q)) → (q : ℕ) → P q ((with_round v r m).rounds q)
at_round P v r m new old q = cond_both (eqb q r) m (v.rounds q) (P q) (λ t. subst (λ (z : ℕ). P z m) (sym (eqb-true q r t)) new) (λ _. old q)

goes_on_stays : (v v' : View) → Stays v v' → (r x : ℕ) → 0 < x → GoesOn v r x → GoesOn v' r x
goes_on_stays v v' st r x lo o = ⊎_elim (λ one. inl ((st.rounds r).verdict (omega arith) ∙ one)) (λ both. inr ((st.rounds r).verdict (omega (arith, both.0)) ∙ both.0, st.shown r (omega (arith, both.1)) ∙ both.1)) o

module _ (a : Acts) (n own : ℕ) (ok : ℕ → Vote → Type 0) (v : View) (g : Grounded a n own v) where
  pub moves_still : Moves a n own ok v v
  moves_still = record {
    stays = record { rounds = λ r. (moves_none own (ok r) (v.rounds r)).stays; shown = λ r _. refl; decided = λ _. refl; delivered = λ h. h };
    only = λ r t x j h. inl h;
    grounded = g;
  }

  -- what is known anew is what is handed in: of bits and of the decision
  moves_to : (v' : View) → ((r : ℕ) → RoundMoves own (ok r) (v.rounds r) (v'.rounds r)) → ((r : ℕ) → ReachedAt a n own v'.delivered r (v'.rounds r)) →
      ((r : ℕ) → 0 < face v r → face v' r ≡ face v r) → (0 < v.decided → v'.decided ≡ v.decided) → (v.delivered ≡ true → v'.delivered ≡ true) →
      ((r : ℕ) → 0 < (v'.rounds (suc r)).entered → ((v'.rounds (suc r)).entered < 3) × GoesOn v r (v'.rounds (suc r)).entered) →
      (0 < v'.decided → (v'.decided < 3) × (r : ℕ) × ((v.rounds r).verdict ≡ v'.decided) × (face v r ≡ v'.decided)) → Moves a n own ok v v'
  moves_to v' rounds reached faces decided delivered bits cause = record {
    stays = stays;
    only = λ r. (rounds r).only;
    grounded = record {
      reached = reached;
      onward = λ r lo. let o = bits r lo in (o.0, goes_on_stays v v' stays r (v'.rounds (suc r)).entered lo o.1);
      cause = λ lo. let c = cause lo in (c.0, c.1, (stays.rounds c.1).verdict (omega (arith, c.2)) ∙ c.2, stays.shown c.1 (omega (arith, c.3)) ∙ c.3);
    };
  }
    where
      stays : Stays v v'
      stays = record { rounds = λ r. (rounds r).stays; shown = faces; decided = decided; delivered = delivered }

  moves_round : (r : ℕ) (m : Round) → RoundMoves own (ok r) (v.rounds r) m → ReachedAt a n own v.delivered r m →
      ((q : ℕ) → suc q ≡ r → 0 < m.entered → (m.entered < 3) × GoesOn v q m.entered) → Moves a n own ok v (with_round v r m)
  moves_round r m new reached bits = moves_to (with_round v r m)
      (at_round (λ q x. RoundMoves own (ok q) (v.rounds q) x) v r m new (λ q. moves_none own (ok q) (v.rounds q)))
      (at_round (λ q x. ReachedAt a n own v.delivered q x) v r m reached g.reached)
      (λ q lo. same q) (λ _. refl) (λ h. h)
      (λ q. cond_both (eqb (suc q) r) m (v.rounds (suc q)) (λ (x : Round). 0 < x.entered → (x.entered < 3) × GoesOn v q x.entered) (λ t. bits q (eqb-true _ _ t)) (λ _. g.onward q))
      g.cause
    where
      same : (q : ℕ) → face (with_round v r m) q ≡ face v q
      same zero = refl
      same (suc q) = refl

  -- the bit of a later round is old where the change keeps it
  old_bit : (r : ℕ) (m : Round) → m.entered ≡ (v.rounds r).entered → (q : ℕ) → suc q ≡ r → 0 < m.entered → (m.entered < 3) × GoesOn v q m.entered
  old_bit r m same q e lo =
      let be : m.entered ≡ (v.rounds (suc q)).entered = same ∙ ap (λ (z : ℕ). (v.rounds z).entered) (sym e) in
      subst (λ (x : ℕ). (x < 3) × GoesOn v q x) (sym be) (g.onward q (omega arith))

  pub moves_propose : (v.rounds 0).entered ≡ 0 → Moves a n own ok v (proposal own v)
  moves_propose z = moves_round 0 _ (propose_moves own (ok 0) (v.rounds 0) (bit_set v.delivered) z) (proposing (g.reached 0) z) (λ q e. absurd (omega arith))

  module _ (laws : Laws a n own) where
    moves_enter : (r x : ℕ) → Single x → (v.rounds (suc r)).entered ≡ 0 → GoesOn v r x → Moves a n own ok v (with_round v (suc r) (a.enter n own x (v.rounds (suc r))))
    moves_enter r x s z o = moves_round (suc r) m (enter_moves a n own laws (ok (suc r)) (v.rounds (suc r)) (g.reached (suc r)) x s z) (did (g.reached (suc r)) (entering x) (s, z))
        (λ q e lo. let same : r ≡ q = omega arith in subst (λ (y : ℕ). (y < 3) × GoesOn v q y) (sym be) (s.1, subst (λ (y : ℕ). GoesOn v y x) same o))
      where
        m : Round
        m = a.enter n own x (v.rounds (suc r))

        be : m.entered ≡ x
        be = laws.entering_sets_the_bit (v.rounds (suc r)) (g.reached (suc r)) x s ∙ cond-true _ _ _ (eq-eqb _ _ z)

    pub moves_step : (v' : View) → Step a n own ok v v' → Moves a n own ok v v'
    moves_step v' (goes_on r x lt s z c o) = moves_enter r x s z o
    moves_step v' (says_again d) = moves_round 0 _ (own_moves own (ok 0) (v.rounds 0) (again_own n own v.delivered d (v.rounds 0))) (saying_again (g.reached 0) d) (λ q e. absurd (omega arith))
    moves_step v' (hears_vote zero w lt au q) = moves_round 0 _ (hears_moves own (ok 0) (v.rounds 0) w q) (hearing_opened (g.reached 0) w au) (λ p e. absurd (omega arith))
    moves_step v' (hears_vote (suc r) w lt au q) = moves_round (suc r) _ (hear_moves a n own laws (ok (suc r)) (v.rounds (suc r)) (g.reached (suc r)) w au q) (did (g.reached (suc r)) (hearing w) au)
        (old_bit (suc r) (a.hear n own w (v.rounds (suc r))) (laws.hearing_keeps_the_bit (v.rounds (suc r)) (g.reached (suc r)) w au))
    moves_step v' (takes_steps zero lt) = moves_round 0 _ (own_moves own (ok 0) (v.rounds 0) (steps_own n own v.delivered (v.rounds 0))) (stepping_opened (g.reached 0)) (λ q e. absurd (omega arith))
    moves_step v' (takes_steps (suc r) lt) = moves_round (suc r) _ (step_moves a n own laws (ok (suc r)) (v.rounds (suc r)) (g.reached (suc r))) (did (g.reached (suc r)) stepping tt)
        (old_bit (suc r) (a.steps n own (v.rounds (suc r))) (laws.steps_keep_the_bit (v.rounds (suc r)) (g.reached (suc r))))
    moves_step v' (decides r x lt s none y c) = moves_to v' (λ q. moves_none own (ok q) (v.rounds q)) g.reached same (λ lo. absurd (omega arith)) (λ h. h) g.onward (λ lo. (s.1, r, y, c))
      where
        same : (q : ℕ) → 0 < face v q → face v' q ≡ face v q
        same zero lo = refl
        same (suc q) lo = refl
    moves_step v' (shows sh stay) = moves_to v' (λ q. moves_none own (ok q) (v.rounds q)) g.reached same (λ _. refl) (λ h. h) g.onward g.cause
      where
        same : (q : ℕ) → 0 < face v q → face v' q ≡ face v q
        same zero lo = refl
        same (suc q) lo = stay (suc q) lo
    moves_step v' delivers = moves_to v' (λ q. moves_none own (ok q) (v.rounds q)) told same (λ _. refl) (λ _. refl) g.onward g.cause
      where
        told : (r : ℕ) → ReachedAt a n own true r (v.rounds r)
        told zero = delivering (g.reached 0)
        told (suc r) = g.reached (suc r)

        same : (q : ℕ) → 0 < face v q → face v' q ≡ face v q
        same zero lo = refl
        same (suc q) lo = refl
