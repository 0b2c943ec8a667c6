-- The opening round's steps with proposing again before them: that first, then the others, and then none applies. Assumes nothing.
use Rattle.std.proofs.Common.{◌≡◌, ℕ, Bool, true, false, not, ◌&&◌, List, ◌∷◌, refl, sym, ap, ◌∙◌, ap₂, ◌==◌, subst, arith}
use Rattle.std.proofs.lemmas.Bool.{cond_both}
use Rattle.basis.specs.Steps.{Step, taking, settled, Idle}
use Rattle.basis.proofs.Stepping.{Once, KeptOff, settled_passed, passed_idle}
use Rattle.rules.specs.Rounds.{Round, voted}
use Rattle.phases.specs.Steps.{says, is_entered_lem}
use Rattle.phases.specs.Turns.{says_has, other_tag, other_set, and_off}
use Rattle.openings.specs.Openings.{join_one, admit, opening_steps, opening_settled}
use Rattle.openings.proofs.Turning.{opening_once, opening_pass}
use Rattle.ballots.specs.Listed.{repropose}

module _ (n own : ℕ) (delivered : Bool) where
  -- where the first vote 1 is said, it is not said again
  said_off : (m : Round) → m.votes 32 2 own ≡ true → (repropose own delivered).applies m ≡ false
  said_off m h = and_off delivered (is_entered_lem m) (not (m.votes 32 2 own)) (ap not h)

  -- it applies by what it looks at alone
  looks : (m m' : Round) → m'.entered ≡ m.entered → m'.votes 32 2 own ≡ m.votes 32 2 own → (repropose own delivered).applies m ≡ false → (repropose own delivered).applies m' ≡ false
  looks m m' e v off = ap₂ (λ (x : ℕ) (y : Bool). delivered && (not (x == 0) && not y)) e v ∙ off

  after_admit : (x : ℕ) (m : Round) → (repropose own delivered).applies m ≡ false → (repropose own delivered).applies ((admit n own x).leaves m) ≡ false
  after_admit x m off = looks m (says 33 x own m) refl (ap (λ (p : ℕ → ℕ → Bool). p 2 own) (other_tag 33 x own 32 m refl)) off

  after_join : (m : Round) → (repropose own delivered).applies ((join_one n own).leaves m) ≡ false
  after_join m =
      let m' = says 32 2 own m in
      cond_both (voted 33 own m') m' (says 33 2 own m') (λ (y : Round). (repropose own delivered).applies y ≡ false)
      (λ _. said_off m' (says_has 32 2 own m))
      (λ _. said_off (says 33 2 own m') (ap (λ (p : ℕ → ℕ → Bool). p 2 own) (other_tag 33 2 own 32 m' refl) ∙ says_has 32 2 own m))

  kept_off : KeptOff (repropose own delivered) (opening_steps n own)
  kept_off = (
    (λ m h off. looks m (says 32 1 own m) refl (ap (λ (p : ℕ → Bool). p own) (other_set 32 1 own 2 m refl)) off),
    ((λ m h off. after_join m), ((λ m h off. after_admit 1 m off), ((λ m h off. after_admit 2 m off), ((λ m h off. off), tt)))),
  )

  abbrev pub all_steps : List (Step Round)
  all_steps = repropose own delivered ∷ opening_steps n own

  all_once : Once all_steps
  all_once = ((λ m h. said_off (says 32 2 own m) (says_has 32 2 own m)), kept_off, opening_once n own)

  pub opening_all : (m : Round) → settled all_steps 6 m ≡ opening_settled n own (taking (repropose own delivered) m)
  opening_all m = settled_passed all_steps 6 m all_once (omega arith) ∙ sym (opening_pass n own (taking (repropose own delivered) m))

  pub all_idle : (m : Round) → Idle all_steps (settled all_steps 6 m)
  all_idle m = subst (Idle all_steps) (sym (settled_passed all_steps 6 m all_once (omega arith))) (passed_idle all_steps m all_once)
