-- No step of a round lets an earlier one apply again, so one pass takes all. Assumes nothing.
use Rattle.std.specs.Prelude.{◌≡◌, ℕ, zero, suc, ◌<◌, Bool, true, false, not, ◌&&◌, ◌||◌, ◌==◌, nat_le}
use Rattle.std.proofs.Math.Path.{refl, ap₂, fun_ext}
use Rattle.std.proofs.Common.{sym, ap, ◌∙◌, subst, arith}
use Rattle.std.proofs.lemmas.Bool.{eq-eqb, ne_eqb, and_parts, and_from, or_left, or_right, cond_both}
use Rattle.basis.specs.Counts.{count}
use Rattle.basis.specs.Halls.{quorum, beyond_faults}
use Rattle.basis.specs.Steps.{Step, settled, Idle}
use Rattle.basis.proofs.Stepping.{Once, passed, settled_passed, passed_idle}
use Rattle.rules.specs.Rounds.{Round, voted}
use Rattle.phases.specs.Steps.{says, ends, is_entered_lem, admitted, lowest_admitted, enough, union, join, second, third, conclude, two_steps, three_steps, steps_of}
use Rattle.phases.specs.Unions.{union_some, union_small}

or_none : (b : Bool) → (b || false) ≡ b
or_none true = refl
or_none false = refl

pub and_off : (a b c : Bool) → c ≡ false → (a && (b && c)) ≡ false
and_off true true c h = h
and_off true false c h = refl
and_off false b c h = refl

-- a vote that is added is there
pub says_has : (t v j : ℕ) (m : Round) → (says t v j m).votes t v j ≡ true
says_has t v j m = or_right _ _ (and_from _ _ (eq-eqb t t refl) (and_from _ _ (eq-eqb v v refl) (eq-eqb j j refl)))

-- votes under another tag stay, and so do votes for another set
pub other_tag : (t v j u : ℕ) (m : Round) → (u == t) ≡ false → (says t v j m).votes u ≡ m.votes u
other_tag t v j u m ne = fun_ext (λ x. fun_ext (λ i. ap (λ (b : Bool). m.votes u x i || (b && (x == v && i == j))) ne ∙ or_none (m.votes u x i)))

pub other_set : (t v j x : ℕ) (m : Round) → (x == v) ≡ false → (says t v j m).votes t x ≡ m.votes t x
other_set t v j x m ne = fun_ext (λ i. ap (λ (b : Bool). m.votes t x i || (t == t && (b && i == j))) ne ∙ gone (m.votes t x i) (t == t))
  where
    gone : (a b : Bool) → (a || (b && false)) ≡ a
    gone true b = refl
    gone false true = refl
    gone false false = refl

pub voted_by : (t v own : ℕ) (m : Round) → 0 < v → v < 4 → voted t own (says t v own m) ≡ true
voted_by t zero own m lo hi = absurd (omega arith)
voted_by t (suc zero) own m lo hi = or_left _ _ (says_has t 1 own m)
voted_by t (suc (suc zero)) own m lo hi = or_right ((says t 2 own m).votes t 1 own) _ (or_left _ _ (says_has t 2 own m))
voted_by t (suc (suc (suc zero))) own m lo hi = or_right ((says t 3 own m).votes t 1 own) _ (or_right ((says t 3 own m).votes t 2 own) _ (says_has t 3 own m))
voted_by t (suc (suc (suc (suc v)))) own m lo hi = absurd (omega arith)

module _ (n own : ℕ) where
  -- each step applies by what it looks at alone
  join_by : (x t v j : ℕ) (m : Round) → (says t v j m).votes 32 x ≡ m.votes 32 x → (join n own x).applies (says t v j m) ≡ (join n own x).applies m
  join_by x t v j m e = ap (λ (p : ℕ → Bool). is_entered_lem m && (nat_le (beyond_faults n) (count n p) && not (p own))) e

  second_by : (v j : ℕ) (m : Round) → (second n own).applies (says 34 v j m) ≡ (second n own).applies m
  unfolding admitted
  second_by v j m = ap₂ (λ (p q : ℕ → ℕ → Bool). is_entered_lem m && ((nat_le (quorum n) (count n (p 1)) || nat_le (quorum n) (count n (p 2))) && not (q 1 own || (q 2 own || q 3 own))))
      (other_tag 34 v j 32 m refl) (other_tag 34 v j 33 m refl)

  kept : (s t : Step Round) → ((m : Round) → s.applies (t.leaves m) ≡ s.applies m) → (m : Round) → t.applies m ≡ true → s.applies m ≡ false → s.applies (t.leaves m) ≡ false
  kept s t e m h off = e m ∙ off

  join_once : (x : ℕ) (m : Round) → (join n own x).applies m ≡ true → (join n own x).applies ((join n own x).leaves m) ≡ false
  join_once x m h = and_off (is_entered_lem m) _ _ (ap not (says_has 32 x own m))

  second_once : (m : Round) → (second n own).applies m ≡ true → (second n own).applies ((second n own).leaves m) ≡ false
  second_once m h = and_off (is_entered_lem m) _ _ (ap not (cond_both (admitted n m 1) 1 2 (λ (v : ℕ). voted 33 own (says 33 v own m) ≡ true)
      (λ _. voted_by 33 1 own m (omega arith) (omega arith)) (λ _. voted_by 33 2 own m (omega arith) (omega arith))))

  third_once : (m : Round) → (third n own).applies m ≡ true → (third n own).applies ((third n own).leaves m) ≡ false
  third_once m h = and_off (is_entered_lem m) _ _ (ap not (voted_by 34 (union n m 33) own m (union_some n m 33 (and_parts _ _ (and_parts (is_entered_lem m) _ h).1).0) (union_small n m 33)))

  conclude_once : (t : ℕ) (m : Round) → (conclude n own t).applies m ≡ true → (conclude n own t).applies ((conclude n own t).leaves m) ≡ false
  conclude_once t m h = and_off (is_entered_lem m) _ _ (ne_eqb (union n m t) 0 (λ z. let p = union_some n m t (and_parts _ _ (and_parts (is_entered_lem m) _ h).1).0 in omega arith))

  second_ends : (t : ℕ) (m : Round) → (second n own).applies (ends (union n m t) m) ≡ (second n own).applies m
  unfolding admitted
  second_ends t m = refl

  third_ends : (t : ℕ) (m : Round) → (third n own).applies (ends (union n m t) m) ≡ (third n own).applies m
  unfolding enough admitted
  third_ends t m = refl

  -- a join is not let apply again by a later vote of another tag, nor by a verdict
  join_second : (x : ℕ) (m : Round) → (second n own).applies m ≡ true → (join n own x).applies m ≡ false → (join n own x).applies ((second n own).leaves m) ≡ false
  join_second x = kept (join n own x) (second n own) (λ m. join_by x 33 (lowest_admitted n m) own m (ap (λ (p : ℕ → ℕ → Bool). p x) (other_tag 33 (lowest_admitted n m) own 32 m refl)))

  join_third : (x : ℕ) (m : Round) → (third n own).applies m ≡ true → (join n own x).applies m ≡ false → (join n own x).applies ((third n own).leaves m) ≡ false
  join_third x = kept (join n own x) (third n own) (λ m. join_by x 34 (union n m 33) own m (ap (λ (p : ℕ → ℕ → Bool). p x) (other_tag 34 (union n m 33) own 32 m refl)))

  join_verdict : (x t : ℕ) (m : Round) → (conclude n own t).applies m ≡ true → (join n own x).applies m ≡ false → (join n own x).applies ((conclude n own t).leaves m) ≡ false
  join_verdict x t = kept (join n own x) (conclude n own t) (λ m. refl)

  join_join : (m : Round) → (join n own 2).applies m ≡ true → (join n own 1).applies m ≡ false → (join n own 1).applies ((join n own 2).leaves m) ≡ false
  join_join = kept (join n own 1) (join n own 2) (λ m. join_by 1 32 2 own m (other_set 32 2 own 1 m refl))

  second_verdict : (t : ℕ) (m : Round) → (conclude n own t).applies m ≡ true → (second n own).applies m ≡ false → (second n own).applies ((conclude n own t).leaves m) ≡ false
  second_verdict t = kept (second n own) (conclude n own t) (second_ends t)

  pub two_once : Once (two_steps n own)
  two_once = (
    join_once 1,
    (join_join, (join_second 1, (join_verdict 1 33, tt))),
    (
      join_once 2,
      (join_second 2, (join_verdict 2 33, tt)),
      (
        second_once,
        (second_verdict 33, tt),
        (conclude_once 33, tt, tt),
      ),
    ),
  )

  pub three_once : Once (three_steps n own)
  three_once = (
    join_once 1,
    (join_join, (join_second 1, (join_third 1, (join_verdict 1 34, tt)))),
    (
      join_once 2,
      (join_second 2, (join_third 2, (join_verdict 2 34, tt))),
      (
        second_once,
        (kept (second n own) (third n own) (λ m. second_by (union n m 33) own m), (second_verdict 34, tt)),
        (
          third_once,
          (kept (third n own) (conclude n own 34) (third_ends 34), tt),
          (conclude_once 34, tt, tt),
        ),
      ),
    ),
  )

  -- the turns of a round come to one pass
  pub two_pass : (m : Round) → settled (two_steps n own) 5 m ≡ passed (two_steps n own) m
  two_pass m = settled_passed (two_steps n own) 5 m two_once (omega arith)

  pub three_pass : (m : Round) → settled (three_steps n own) 5 m ≡ passed (three_steps n own) m
  three_pass m = settled_passed (three_steps n own) 5 m three_once (omega arith)

  -- and none is left
  pub either_pass : (third : Bool) (m m' : Round) → m' ≡ passed (steps_of third n own) m → (m' ≡ settled (steps_of third n own) 5 m) × Idle (steps_of third n own) m'
  either_pass true m m' e = (e ∙ sym (three_pass m), subst (Idle (three_steps n own)) (sym e) (passed_idle (three_steps n own) m three_once))
  either_pass false m m' e = (e ∙ sym (two_pass m), subst (Idle (two_steps n own)) (sym e) (passed_idle (two_steps n own) m two_once))
