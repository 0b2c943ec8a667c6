-- Where no step of the opening round applies it takes none, and after taking them none applies. Assumes nothing.
use Rattle.std.proofs.Common.{◌≡◌, ℕ, Bool, false, not, ◌&&◌, List, [], ◌∷◌, sym, refl, ap, ◌∙◌, subst}
use Rattle.std.proofs.lemmas.Bool.{cond-false, and_left, eq-eqb}
use Rattle.basis.specs.Steps.{Step, Idle}
use Rattle.basis.proofs.Stepping.{passed}
use Rattle.rules.specs.Rounds.{Round}
use Rattle.phases.specs.Steps.{is_entered_lem}
use Rattle.openings.specs.Openings.{opening_steps, opening_settled}
use Rattle.openings.proofs.Turning.{opening_pass, opening_idle}

-- a pass over steps none of which applies
idle_passed : {M : Type 0} (ss : List (Step M)) (m : M) → Idle ss m → passed ss m ≡ m
idle_passed [] m h = refl
idle_passed (s ∷ ss) m h = ap (passed ss) (cond-false (s.applies m) (s.leaves m) m h.0) ∙ idle_passed ss m h.1

module _ (n own : ℕ) (m : Round) where
  pub idle_settled : Idle (opening_steps n own) m → opening_settled n own m ≡ m
  idle_settled h = opening_pass n own m ∙ idle_passed (opening_steps n own) m h

  pub settled_idle : Idle (opening_steps n own) (opening_settled n own m)
  settled_idle = subst (Idle (opening_steps n own)) (sym (opening_pass n own m)) (opening_idle n own m)

  -- an opening round that takes no step has none that applies
  pub still_idle : opening_settled n own m ≡ m → Idle (opening_steps n own) m
  still_idle e = subst (Idle (opening_steps n own)) e settled_idle

  -- before proposing none applies
  pub unproposed_settled : m.entered ≡ 0 → opening_settled n own m ≡ m
  unproposed_settled z = idle_settled (off _, (off _, (off _, (off _, (off _, tt)))))
    where
      off : (b : Bool) → (is_entered_lem m && b) ≡ false
      off b = and_left (is_entered_lem m) b (ap not (eq-eqb m.entered 0 z))

pub settled_twice : (n own : ℕ) (m : Round) → opening_settled n own (opening_settled n own m) ≡ opening_settled n own m
settled_twice n own m = idle_settled n own (opening_settled n own m) (settled_idle n own m)
