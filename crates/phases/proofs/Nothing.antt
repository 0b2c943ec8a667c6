-- Under a tag of no phase nothing stands, and a tag's phase bears that tag. Assumes nothing.
use Rattle.std.proofs.Common.{◌≡◌, ℕ, zero, suc, ◌+◌, Bool, true, false, cond, ◌&&◌, ◌||◌, nat_le, eqb, Option, Some, None, sym, refl, ap, ap₂, ◌∙◌, arith}
use Rattle.std.proofs.lemmas.Bool.{lt-leb, eqb-true}
use Rattle.std.proofs.lemmas.Option.{none-some}
use Rattle.basis.specs.Counts.{count}
use Rattle.basis.specs.Halls.{quorum}
use Rattle.basis.proofs.Counts.{count_cong}
use Rattle.rules.specs.Rounds.{Round, voted}
use Rattle.phases.specs.declared.round.PhasedRound.{PhasedRound}
use Rattle.phases.specs.declared.vote_phase.VotePhase.{VotePhase}
use Rattle.phases.specs.declared.vote_phase.VotePhase.TheVariants.{First, Second, Third}
use Rattle.phases.specs.Phases.{phase_at, tag_of}
use Rattle.phases.specs.Records.{meaning_of}
use Rattle.phases.specs.Steps.{says, is_entered_lem, admitted, counted, enough, union}
use Rattle.phases.specs.Elsewhere.{NothingUnder, NothingElsewhere}
use Rattle.phases.proofs.Masks.{no_phase}

nobody : (n : ℕ) → count n (λ _. false) ≡ 0
unfolding count
nobody zero = refl
nobody (suc n) = let h = nobody n in omega arith

empty : (n : ℕ) (p : ℕ → Bool) → ((j : ℕ) → p j ≡ false) → count n p ≡ 0
empty n p h = count_cong n p (λ _. false) h ∙ nobody n

off : (a : Bool) → (a && false) ≡ false
off true = refl
off false = refl

none : (r : PhasedRound) (t v j : ℕ) → phase_at t ≡ None → (meaning_of r).votes t v j ≡ false
none r t v j h = no_phase r t v j h

-- nobody has voted there, and no vote is counted
pub unvoted : (r : PhasedRound) (t j : ℕ) → phase_at t ≡ None → voted t j (meaning_of r) ≡ false
unvoted r t j h = ap₂ (λ (a b : Bool). a || b) (none r t 1 j h) (ap₂ (λ (a b : Bool). a || b) (none r t 2 j h) (none r t 3 j h))

pub uncounted : (r : PhasedRound) (n t x j : ℕ) → phase_at t ≡ None → counted n (meaning_of r) t x j ≡ false
uncounted r n t x j h = ap₂ (λ (a b : Bool). (a && admitted n (meaning_of r) x) || (b && (admitted n (meaning_of r) 1 && admitted n (meaning_of r) 2))) (none r t x j h) (none r t 3 j h)

-- there are never enough, and their union is empty
pub few : (r : PhasedRound) (n t : ℕ) → phase_at t ≡ None → enough n (meaning_of r) t ≡ false
unfolding enough
few r n t h = ap (λ (k : ℕ). nat_le (quorum n) k) (empty n _ (λ j. ap₂ (λ (a b : Bool). a || b) (uncounted r n t 1 j h) (uncounted r n t 2 j h))) ∙ lt-leb (quorum n) 0 (omega arith)

pub void : (r : PhasedRound) (n t : ℕ) → phase_at t ≡ None → union n (meaning_of r) t ≡ 0
unfolding union
void r n t h = ap₂ (λ (a b : ℕ). cond (nat_le 1 a) 1 0 + cond (nat_le 1 b) 2 0) (empty n _ (λ j. uncounted r n t 1 j h)) (empty n _ (λ j. uncounted r n t 2 j h))

pub nothing : (r : PhasedRound) (n own t : ℕ) → phase_at t ≡ None → NothingUnder n own (meaning_of r) t
nothing r n own t h = record {
  no_vote = λ v j. none r t v j h;
  nobody_voted = λ j. unvoted r t j h;
  none_counted = λ x j. uncounted r n t x j h;
  not_enough = few r n t h;
  no_union = void r n t h;
  no_verdict = ap (λ (a : Bool). is_entered_lem (meaning_of r) && (a && eqb (meaning_of r).verdict 0)) (few r n t h) ∙ off (is_entered_lem (meaning_of r));
  not_recorded = λ v j. go (eqb t 32) (eqb t 33) (eqb t 34) (says t v j (meaning_of r)) (meaning_of r) h;
}
  where
    go : (a b c : Bool) (x y : Round) → cond a (Some First) (cond b (Some Second) (cond c (Some Third) None)) ≡ None → cond (a || (b || c)) x y ≡ y
    go true b c x y e = absurd (none-some _ (sym e))
    go false true c x y e = absurd (none-some _ (sym e))
    go false false true x y e = absurd (none-some _ (sym e))
    go false false false x y e = refl

pub nothing_elsewhere : NothingElsewhere
nothing_elsewhere r n own t h = nothing r n own t h

-- the tag of a phase, and 0 of none
tag_if_any : Option VotePhase → ℕ
tag_if_any None = 0
tag_if_any (Some p) = tag_of p

-- the phase that a tag has bears that tag
pub phase_tag : (t : ℕ) (p : VotePhase) → phase_at t ≡ Some p → tag_of p ≡ t
unfolding tag_if_any
phase_tag t p h = go (eqb t 32) (eqb t 33) (eqb t 34) refl refl refl h
  where
    go : (a b c : Bool) → eqb t 32 ≡ a → eqb t 33 ≡ b → eqb t 34 ≡ c → cond a (Some First) (cond b (Some Second) (cond c (Some Third) None)) ≡ Some p → tag_of p ≡ t
    go true b c x y z e = sym (ap tag_if_any e) ∙ sym (eqb-true t 32 x)
    go false true c x y z e = sym (ap tag_if_any e) ∙ sym (eqb-true t 33 y)
    go false false true x y z e = sym (ap tag_if_any e) ∙ sym (eqb-true t 34 z)
    go false false false x y z e = absurd (none-some _ e)
