-- A later round by its three steps, and the rounds one after another. Assumes nothing.
use Rattle.std.proofs.Common.{◌≡◌, ℕ, suc, ◌+◌, ◌-◌, ◌<◌, ◌≤◌, Bool, false, eqb, List, get_or, sym, refl, ap, ◌∙◌, ap₂, add-one, arith}
use Rattle.std.proofs.lemmas.Bool.{and_left, ne_eqb}
use Rattle.rules.specs.Rounds.{Round, cleared, bit_if_any}
use Rattle.rules.specs.Laws.{Acts}
use Rattle.coins.specs.Coins.{Acts as Coin-acts}
use Rattle.ballots.specs.States.{Opened, BallotState, place}
use Rattle.ballots.specs.Ballots.{next_coin, gone_ballot, gone_rounds, ruled_rounds, gone_on, opened_ballot, opened_rounds, round_stepped, round_settled, later_settled, ballot_settled}
use Rattle.ballots.specs.Listed.{reproposed}
use Rattle.ballots.proofs.Sweeps.{gone_still}

module _ {C : Type 0} (a : Acts) (b : Coin-acts C) (n own k : ℕ) where
  pub step_by : (r : ℕ) (s : BallotState C) (ms : List Round) (v : ℕ) (c : C) → ms ≡ ruled_rounds a n own k r s.ballot.stage s.rounds → v ≡ (get_or ms (place k r) cleared).verdict →
      c ≡ next_coin b own k r s.ballot.stage v s.coin → record { ballot = s.ballot; rounds = ms; coin = c } ≡ round_stepped a b n own k r s
  step_by r s ms v c em ev ec =
      ap₂ (λ (l : List Round) (d : C). record { ballot = s.ballot; rounds = l; coin = d }) em
      (ec ∙ ap (λ (y : ℕ). next_coin b own k r s.ballot.stage y s.coin) (ev ∙ ap (λ (l : List Round). (get_or l (place k r) cleared).verdict) em))

  -- a whole round, by its parts
  pub round_by : (r q : ℕ) (s : BallotState C) (ms ms' : List Round) (v x : ℕ) (c : C) (o : Opened) → q ≡ suc r →
      ms ≡ ruled_rounds a n own k r s.ballot.stage s.rounds → v ≡ (get_or ms (place k r) cleared).verdict → c ≡ next_coin b own k r s.ballot.stage v s.coin →
      x ≡ bit_if_any (b.shown c k q) → o ≡ gone_ballot q v x s.ballot → ms' ≡ gone_rounds a n own k q v x s.ballot ms →
      record { ballot = o; rounds = ms'; coin = c } ≡ round_settled a b n own k r s
  round_by r q s ms ms' v x c o eq em ev ec ex eo er =
      let x-is = ex ∙ ap (λ (y : ℕ). bit_if_any (b.shown c k y)) eq in
      let o-is = eo ∙ ap (λ (y : ℕ). gone_ballot y v x s.ballot) eq ∙ ap₂ (λ (y z : ℕ). gone_ballot (suc r) y z s.ballot) ev x-is in
      let r-is = er ∙ ap (λ (y : ℕ). gone_rounds a n own k y v x s.ballot ms) eq ∙ ap₂ (λ (y z : ℕ). gone_rounds a n own k (suc r) y z s.ballot ms) ev x-is in
      ap₂ (λ (p : Opened) (l : List Round). record { ballot = p; rounds = l; coin = c }) o-is r-is ∙ ap (λ (t : BallotState C). gone_on a b n own k (suc r) t) (step_by r s ms v c em ev ec)

  -- the ballot goes on from no other round than its own
  pub stay_by : (r q : ℕ) (s t : BallotState C) → q ≡ suc r → t ≡ round_stepped a b n own k r s → eqb t.ballot.stage q ≡ false → t ≡ round_settled a b n own k r s
  stay_by r q s t eq et h =
      sym (gone_still a b n own k (suc r) t (and_left _ _ (ap (eqb t.ballot.stage) (sym eq) ∙ h))) ∙ ap (λ (u : BallotState C). gone_on a b n own k (suc r) u) et

  -- one round of those that are left
  pub later_one : (r : ℕ) (s t : BallotState C) → r < 15 → t ≡ round_settled a b n own k r s → later_settled a b n own k (15 - r) r s ≡ later_settled a b n own k (15 - (r + 1)) (r + 1) t
  unfolding later_settled
  later_one r s t lt e =
      ap (λ (u : ℕ). later_settled a b n own k u r s) (more r lt)
      ∙ ap₂ (λ (q : ℕ) (x : BallotState C). later_settled a b n own k (15 - (r + 1)) q x) (sym (add-one r)) (sym e)
    where
      more : (r : ℕ) → r < 15 → 15 - r ≡ suc (15 - (r + 1))
      more r lt = omega arith

  -- and none that is left
  pub later_none : (r : ℕ) (s : BallotState C) → 15 ≤ r → later_settled a b n own k (15 - r) r s ≡ s
  unfolding later_settled
  later_none r s h = let z : 15 - r ≡ 0 = omega arith in ap (λ (u : ℕ). later_settled a b n own k u r s) z

  -- all rounds after proposing again and the opening round
  pub all_swept : (delivered : Bool) (before s : BallotState C) (o p : Opened) (ms : List Round) →
      s ≡ later_settled a b n own k 15 0 (record { ballot = p; rounds = ms; coin = before.coin }) → o ≡ (reproposed own delivered before).ballot →
      p ≡ opened_ballot a n own k o → ms ≡ opened_rounds a n own k o before.rounds → s ≡ ballot_settled a b n own k (reproposed own delivered before)
  all_swept delivered before s o p ms e eo ep em =
      e
      ∙ ap₂ (λ (q : Opened) (l : List Round). later_settled a b n own k 15 0 (record { ballot = q; rounds = l; coin = before.coin })) ep em
      ∙ ap (λ (q : Opened). ballot_settled a b n own k (record { ballot = q; rounds = before.rounds; coin = before.coin })) eo

  -- a round that the ballot has gone on from
  pub passed_one : (r : ℕ) (s t : BallotState C) → r < 15 → suc r < t.ballot.stage → t ≡ round_stepped a b n own k r s → later_settled a b n own k (15 - r) r s ≡ later_settled a b n own k (15 - (r + 1)) (r + 1) t
  passed_one r s t lt below e = later_one r s t lt (stay_by r (suc r) s t refl e (ne_eqb t.ballot.stage (suc r) (λ z. omega arith)))
