-- What the steps of such a ballot come to. Assumes nothing.
use Rattle.std.proofs.Common.{◌≡◌, ℕ, zero, suc, ◌<◌, ◌≤◌, Bool, true, cond, ◌&&◌, eqb, ltb, ◌⊎◌, sym, refl, ◌∙◌, subst, inl, inr, ⊎_elim, arith}
use Rattle.std.proofs.lemmas.Bool.{eqb-true, eq-eqb, cond_both, cases_eq, and_parts, and_from, lt-ltb, ltb-true}
use Rattle.basis.specs.Counts.{count}
use Rattle.basis.specs.Halls.{faults, quorum, beyond_faults}
use Rattle.coins.specs.Coins.{Acts as Coin-acts}
use Rattle.rules.specs.Laws.{Acts}
use Rattle.rules.specs.Rounds.{Round, bit_set}
use Rattle.phases.specs.Steps.{hears}
use Rattle.openings.specs.Openings.{proposed}
use Rattle.ballots.specs.declared.ballot.Event.TheVariants.{Proposal}
use Rattle.ballots.specs.Ballots.{decision, with_opening, reacted, went_on, may_go, gone_ballot, face, verdict_at, ruled, shared, gone_on, round_settled, later_settled}
use Rattle.ballots.specs.Listed.{reopened, ballot_taken}
use Rattle.ballots.specs.States.{Opened, BallotState, unopened}
use Rattle.ballots.proofs.Order.{listed_order}
use Rattle.evening_witness.proofs.Rounds.{VotesForOne, Rises, rises_none, rises_on, Turns, cleared_for_one, hears_turns, proposed_turns, opening_after, after_turns, first_said, second_said, left_with_one}

-- a ballot that has gone on from its opening round is decided
abbrev pub Gone : Opened → Type 0
Gone o = (o.stage ≡ 0) ⊎ (0 < o.decided)

-- the opening round stays, and so does a decision
record Goes (o o' : Opened) : Type 0 where
  opening : o'.opening ≡ o.opening
  gone : Gone o'
  decided : 0 < o.decided → 0 < o'.decided

goes_none : (o : Opened) → Gone o → Goes o o
goes_none o g = record { opening = refl; gone = g; decided = λ h. h }

goes_on : {u v w : Opened} → Goes u v → Goes v w → Goes u w
goes_on a b = record { opening = b.opening ∙ a.opening; gone = b.gone; decided = λ h. b.decided (a.decided h) }

decision_some : (d v c : ℕ) → 0 < d → 0 < decision d v c
decision_some d v c h = cond_both (eqb d 0 && eqb v c) v d (λ (x : ℕ). 0 < x) (λ t. absurd (let z = eqb-true d 0 (and_parts (eqb d 0) _ t).0 in omega arith)) (λ _. h)

decision_one : (d v : ℕ) → v ≡ 2 → 0 < decision d v 2
decision_one d v e = ⊎_elim
    (λ z. subst (λ (b : Bool). 0 < cond b v d) (sym (and_from (eqb d 0) (eqb v 2) (eq-eqb d 0 z) (eq-eqb v 2 e))) (omega arith))
    (λ ne. decision_some d v 2 (omega arith)) (cases_eq d 0)

-- a later round is gone on from only after the opening round
later_goes : (r v c : ℕ) (o : Opened) → Gone o → Goes o (gone_ballot (suc r) v c o)
later_goes r v c o g = cond_both (may_go (suc r) v c o) (went_on v c o) o (Goes o)
    (λ t. let e = eqb-true o.stage (suc r) (and_parts (eqb o.stage (suc r)) _ t).0 in
    let some : 0 < o.decided = ⊎_elim (λ z. absurd (omega arith)) (λ h. h) g in
    record { opening = refl; gone = inr (decision_some o.decided v c some); decided = λ h. decision_some o.decided v c h })
    (λ _. goes_none o g)

-- the opening round is gone on from with 1
first_goes : (o : Opened) (v : ℕ) → (v ≡ 0) ⊎ (v ≡ 2) → Gone o → Goes o (gone_ballot 0 v 2 o)
first_goes o v s g = cond_both (may_go 0 v 2 o) (went_on v 2 o) o (Goes o)
    (λ t. let lo = ltb-true 0 v (and_parts (ltb 0 v) _ (and_parts (eqb o.stage 0) _ t).1).0 in
    let e : v ≡ 2 = ⊎_elim (λ z. absurd (omega arith)) (λ h. h) s in
    record { opening = refl; gone = inr (decision_one o.decided v e); decided = λ h. decision_some o.decided v 2 h })
    (λ _. goes_none o g)

-- and then the ballot is decided
first_decides : (o : Opened) (v : ℕ) → v ≡ 2 → Gone o → 0 < (gone_ballot 0 v 2 o).decided
first_decides o v e (inl z) = subst (λ (b : Bool). 0 < (cond b (went_on v 2 o) o).decided) (sym (and_from (eqb o.stage 0) _ (eq-eqb o.stage 0 z) (and_from (ltb 0 v) (ltb 0 2) (lt-ltb 0 v (omega arith)) refl))) (decision_one o.decided v e)
first_decides o v e (inr h) = cond_both (may_go 0 v 2 o) (went_on v 2 o) o (λ (x : Opened). 0 < x.decided) (λ _. decision_some o.decided v 2 h) (λ _. h)

module _ (own : ℕ) where
  -- what is known of a ballot
  pub record BallotWell (o : Opened) : Type 0 where
    pub for_one : VotesForOne own o.opening
    pub gone : Gone o

  pub record Grows (o o' : Opened) : Type 0 where
    pub round : Rises own o.opening o'.opening
    pub decided : 0 < o.decided → 0 < o'.decided

  pub grows_none : (o : Opened) → Grows o o
  grows_none o = record { round = rises_none own o.opening; decided = λ h. h }

  pub grows_on : {u v w : Opened} → Grows u v → Grows v w → Grows u w
  grows_on a b = record { round = rises_on own a.round b.round; decided = λ h. b.decided (a.decided h) }

  pub record Moves (o o' : Opened) : Type 0 where
    pub well : BallotWell o'
    pub grows : Grows o o'

  pub unopened_well : BallotWell unopened
  unopened_well = record { for_one = cleared_for_one own; gone = inl refl }

  reopened_moves : (o : Opened) (m : Round) → BallotWell o → Turns own o.opening m → Moves o (with_opening m o)
  reopened_moves o m s t = record { well = record { for_one = t.for_one; gone = s.gone }; grows = record { round = t.rises; decided = λ h. h } }

  -- a proposal, and a vote for 1 that is heard
  pub proposal_moves : (n : ℕ) (b : Bool) (o : Opened) → BallotWell o → Moves o (reacted n own (Proposal b) o) × (0 < (reacted n own (Proposal b) o).opening.entered)
  proposal_moves n b o s = let t = proposed_turns own b o.opening s.for_one in (reopened_moves o (proposed own (bit_set b) o.opening) s t.0, t.1)

  pub vote_moves : (t j : ℕ) (o : Opened) → BallotWell o → Moves o (with_opening (hears (record { tag = t; set = 2; sender = j }) o.opening) o)
  vote_moves t j o s = reopened_moves o _ s (hears_turns own t j o.opening s.for_one)

module _ {C : Type 0} (a : Acts) (b : Coin-acts C) (n own k : ℕ) (some : 1 ≤ faults n) where
  settled_goes : (u r : ℕ) (s : BallotState C) → Gone s.ballot → Goes s.ballot (later_settled a b n own k u r s).ballot
  unfolding later_settled
  settled_goes zero r s g = goes_none s.ballot g
  settled_goes (suc u) r s g =
      let t = shared a b n own k r (ruled a b n own k r s) in
      let x = later_goes r (verdict_at a b n own k (suc r) t) (face a b n own k (suc r) t) s.ballot g in
      goes_on x (settled_goes u (suc r) (round_settled a b n own k r s) x.gone)

  -- what a ballot's steps leave, d telling whether its slot is delivered
  pub record Taken (d : Bool) (o o' : Opened) : Type 0 where
    pub moves : Moves own o o'
    pub first : d ≡ true → 0 < o.opening.entered → o'.opening.votes 32 2 own ≡ true
    pub second : 0 < o.opening.entered → beyond_faults n ≤ count n (o.opening.votes 32 2) → o'.opening.votes 33 2 own ≡ true
    pub decides : 0 < o.opening.entered → beyond_faults n ≤ count n (o.opening.votes 32 2) → quorum n ≤ count n (o.opening.votes 33 2) → 0 < o'.decided

  pub taken : (d : Bool) (s : BallotState C) → BallotWell own s.ballot → Taken d s.ballot (ballot_taken a b n own k d s).ballot
  taken d s well =
      let m = opening_after own n some d s.ballot.opening in
      let t = after_turns own n some d s.ballot.opening well.for_one in
      let o = with_opening m s.ballot in
      let u = gone_on a b n own k 0 (reopened m s) in
      let x = first_goes o m.verdict t.for_one.verdict well.gone in
      let y = settled_goes 15 0 u x.gone in
      let z = goes_on x y in
      subst (λ (w : BallotState C). Taken d s.ballot w.ballot) (sym (listed_order a b n own k d s).0) (record {
        moves = record {
          well = record { for_one = subst (VotesForOne own) (sym z.opening) t.for_one; gone = z.gone };
          grows = record { round = subst (Rises own s.ballot.opening) (sym z.opening) t.rises; decided = z.decided };
        };
        first = λ h e. subst (λ (q : Round). q.votes 32 2 own ≡ true) (sym z.opening) (first_said own n some d s.ballot.opening well.for_one h e);
        second = λ e h. subst (λ (q : Round). q.votes 33 2 own ≡ true) (sym z.opening) (second_said own n some d s.ballot.opening well.for_one e h);
        decides = λ e h q. y.decided (first_decides o m.verdict (left_with_one own n some d s.ballot.opening well.for_one e h q) well.gone);
      })
