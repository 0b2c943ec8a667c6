-- No step of the opening round lets an earlier one apply again, so one pass takes all. Assumes nothing.
use Rattle.std.proofs.Common.{◌≡◌, ℕ, ◌<◌, Bool, true, false, not, ◌&&◌, ◌||◌, eqb, leb, refl, ap, ◌∙◌, ap₂, arith}
use Rattle.std.proofs.lemmas.Bool.{ne_eqb, or_left, cond_both}
use Rattle.basis.specs.Counts.{count}
use Rattle.basis.specs.Halls.{quorum, beyond_faults}
use Rattle.basis.specs.Steps.{Step, Idle}
use Rattle.basis.proofs.Stepping.{Once, passed, settled_passed, passed_idle}
use Rattle.rules.specs.Rounds.{Round, voted}
use Rattle.phases.specs.Steps.{says, is_entered_lem}
use Rattle.phases.specs.Turns.{says_has, other_tag, other_set, voted_by, and_off}
use Rattle.openings.specs.Openings.{supports, tally, join_zero, join_one, admit, leave, opening_steps, opening_settled}

module _ (n own : ℕ) where
  kept : (s t : Step Round) → ((m : Round) → s.applies (t.leaves m) ≡ s.applies m) → (m : Round) → t.applies m ≡ true → s.applies m ≡ false → s.applies (t.leaves m) ≡ false
  kept s t e m h off = e m ∙ off

  -- what the first half of the list looks at, and what a vote leaves of it
  zero_by : (m m' : Round) → m'.entered ≡ m.entered → m'.votes 32 1 ≡ m.votes 32 1 → (join_zero n own).applies m' ≡ (join_zero n own).applies m
  zero_by m m' e f = ap₂ (λ (x : ℕ) (p : ℕ → Bool). not (eqb x 0) && (leb (beyond_faults n) (count n p) && not (p own))) e f

  after_join : (m : Round) (P : Round → Type 0) → (voted 33 own (says 32 2 own m) ≡ true → P (says 32 2 own m)) → P (says 33 2 own (says 32 2 own m)) → P ((join_one n own).leaves m)
  after_join m P a b = cond_both (voted 33 own (says 32 2 own m)) (says 32 2 own m) (says 33 2 own (says 32 2 own m)) P a (λ _. b)

  zero_join : (m : Round) → (join_zero n own).applies ((join_one n own).leaves m) ≡ (join_zero n own).applies m
  zero_join m = after_join m (λ y. (join_zero n own).applies y ≡ (join_zero n own).applies m)
      (λ _. zero_by m (says 32 2 own m) refl (other_set 32 2 own 1 m refl))
      (zero_by m (says 33 2 own (says 32 2 own m)) refl (ap (λ (p : ℕ → ℕ → Bool). p 1) (other_tag 33 2 own 32 (says 32 2 own m) refl) ∙ other_set 32 2 own 1 m refl))

  zero_once : (m : Round) → (join_zero n own).applies m ≡ true → (join_zero n own).applies ((join_zero n own).leaves m) ≡ false
  zero_once m h = and_off (is_entered_lem m) _ _ (ap not (says_has 32 1 own m))

  -- a conjunction that ends in a false disjunction
  both_off : (a b p q : Bool) → p ≡ true → q ≡ true → (a && (b && (not p || not q))) ≡ false
  both_off a b p q e f = and_off a b (not p || not q) (ap₂ (λ (x y : Bool). not x || not y) e f)

  one_once : (m : Round) → (join_one n own).applies m ≡ true → (join_one n own).applies ((join_one n own).leaves m) ≡ false
  one_once m h = after_join m (λ y. (join_one n own).applies y ≡ false)
      (λ v. both_off (is_entered_lem m) _ _ _ (says_has 32 2 own m) v)
      (both_off (is_entered_lem m) _ _ _ (or_left _ _ (says_has 32 2 own m)) (voted_by 33 2 own (says 32 2 own m) (omega arith) (omega arith)))

  less : (a b p q : Bool) → (a && (b && (p || q))) ≡ false → (a && (b && (p || false))) ≡ false
  less true true true q h = h
  less true true false q h = refl
  less true false p q h = refl
  less false b p q h = refl

  one_admit : (x : ℕ) → 0 < x → x < 4 → (m : Round) → (admit n own x).applies m ≡ true → (join_one n own).applies m ≡ false → (join_one n own).applies ((admit n own x).leaves m) ≡ false
  one_admit x lo hi m h off =
      ap₂ (λ (p : ℕ → ℕ → Bool) (v : Bool). is_entered_lem m && (leb (beyond_faults n) (count n (p 2)) && (not (p 2 own) || not v))) (other_tag 33 x own 32 m refl) (voted_by 33 x own m lo hi)
      ∙ less (is_entered_lem m) _ (not (m.votes 32 2 own)) (not (voted 33 own m)) off

  admit_once : (x : ℕ) → 0 < x → x < 4 → (y : ℕ) (m : Round) → (admit n own y).applies ((admit n own x).leaves m) ≡ false
  admit_once x lo hi y m = and_off (is_entered_lem m) _ _ (ap not (voted_by 33 x own m lo hi))

  pub tally_some : (m : Round) → 0 < tally n m
  unfolding tally
  tally_some m = cond_both (leb (quorum n) (count n (supports n m 1))) 1 _ (λ (y : ℕ). 0 < y) (λ _. omega arith)
      (λ _. cond_both (leb (quorum n) (count n (supports n m 2))) 2 3 (λ (y : ℕ). 0 < y) (λ _. omega arith) (λ _. omega arith))

  leave_once : (m : Round) → (leave n own).applies m ≡ true → (leave n own).applies ((leave n own).leaves m) ≡ false
  leave_once m h = and_off (is_entered_lem m) _ _ (ne_eqb (tally n m) 0 (λ z. let p = tally_some m in omega arith))

  pub opening_once : Once (opening_steps n own)
  opening_once = (
    zero_once,
    (
      kept (join_zero n own) (join_one n own) zero_join,
      (
        kept (join_zero n own) (admit n own 1) (λ m. zero_by m (says 33 1 own m) refl (ap (λ (p : ℕ → ℕ → Bool). p 1) (other_tag 33 1 own 32 m refl))),
        (
          kept (join_zero n own) (admit n own 2) (λ m. zero_by m (says 33 2 own m) refl (ap (λ (p : ℕ → ℕ → Bool). p 1) (other_tag 33 2 own 32 m refl))),
          (kept (join_zero n own) (leave n own) (λ m. refl), tt),
        ),
      ),
    ),
    (
      one_once,
      (one_admit 1 (omega arith) (omega arith), (one_admit 2 (omega arith) (omega arith), (kept (join_one n own) (leave n own) (λ m. refl), tt))),
      (
        (λ m h. admit_once 1 (omega arith) (omega arith) 1 m),
        ((λ m h off. admit_once 2 (omega arith) (omega arith) 1 m), (kept (admit n own 1) (leave n own) (λ m. refl), tt)),
        (
          (λ m h. admit_once 2 (omega arith) (omega arith) 2 m),
          (kept (admit n own 2) (leave n own) (λ m. refl), tt),
          (leave_once, tt, tt),
        ),
      ),
    ),
  )

  pub opening_pass : (m : Round) → opening_settled n own m ≡ passed (opening_steps n own) m
  opening_pass m = settled_passed (opening_steps n own) 5 m opening_once (omega arith)

  pub opening_idle : (m : Round) → Idle (opening_steps n own) (passed (opening_steps n own) m)
  opening_idle m = passed_idle (opening_steps n own) m opening_once
