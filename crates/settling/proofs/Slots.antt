-- One slot more, and the two ways of a slot's steps. Assumes nothing.
use Rattle.std.proofs.Common.{◌≡◌, ℕ, ◌+◌, Bool, true, false, cond, sym, refl, ap, ◌∙◌, add-one}
use Rattle.outcomes.specs.Holdings.{Setting, Holding}
use Rattle.outcomes.specs.Taking.{sheets_taken, votes_taken, may_propose, proposed_below, taken_below, votes_or_proposal, slot_taken, looked}
use Rattle.settling.specs.Turns.{both_taken}

module _ {R C : Type 0} (g : Setting R C) (n own : ℕ) where
  pub taken_none : (h : Holding R C) → h ≡ taken_below g n own 0 h
  unfolding taken_below
  taken_none h = refl

  pub taken_more : (m : ℕ) (h : Holding R C) → both_taken g n own m (taken_below g n own m h) ≡ taken_below g n own (m + 1) h
  unfolding taken_below
  taken_more m h = ap (λ (i : ℕ). taken_below g n own i h) (sym (add-one m))

  pub looked_none : (h : Holding R C) → h ≡ looked g n own 0 h
  unfolding looked
  looked_none h = refl

  pub looked_more : (m : ℕ) (h : Holding R C) → slot_taken g n own m (looked g n own m h) ≡ looked g n own (m + 1) h
  unfolding looked
  looked_more m h = ap (λ (i : ℕ). looked g n own i h) (sym (add-one m))

  -- t is the replica after the steps of the slot's sheets
  module _ (k : ℕ) (h t : Holding R C) (e : t ≡ sheets_taken g n own k h) where
    pub proposing_by : may_propose g n own k t ≡ true → taken_below g n own n (proposed_below g n own n t) ≡ slot_taken g n own k h
    unfolding slot_taken
    proposing_by q = sym (ap (λ (b : Bool). cond b (taken_below g n own n (proposed_below g n own n t)) (votes_taken g n own k t)) q) ∙ ap (votes_or_proposal g n own k) e

    pub voting_by : may_propose g n own k t ≡ false → votes_taken g n own k t ≡ slot_taken g n own k h
    unfolding slot_taken
    voting_by q = sym (ap (λ (b : Bool). cond b (taken_below g n own n (proposed_below g n own n t)) (votes_taken g n own k t)) q) ∙ ap (votes_or_proposal g n own k) e
