-- Going through the rounds, the lowest first: what each part leaves as it is, and which parts may change places. Assumes nothing.
use Rattle.std.proofs.Common.{◌≡◌, ℕ, zero, suc, ◌+◌, ◌<◌, ◌≤◌, Bool, true, false, cond, ◌&&◌, List, get_or, set, Some, None, Option, is_some, nat_lt, refl, ap, ◌∙◌, arith, true≢false, get_or-set_other}
use Rattle.std.proofs.lemmas.Bool.{cond-false, cond_both, and_left, le-ltb, ne_eqb}
use Rattle.rules.specs.Rounds.{Round, cleared}
use Rattle.rules.specs.Laws.{Acts}
use Rattle.coins.specs.Coins.{Acts as Coin-acts}
use Rattle.ballots.specs.States.{BallotState, place, round_at}
use Rattle.ballots.specs.Ballots.{may_share, share_due, said_share, next_coin, may_go, went_on, next_bit, entered_later, ruled_rounds, face, verdict_at, ruled, shared, gone_on, round_settled, later_settled}

module _ {C : Type 0} (a : Acts) (b : Coin-acts C) (n own k : ℕ) where
  -- whether the share of round suc r is to be said
  abbrev pub due_in : ℕ → BallotState C → Bool
  due_in r s = may_share b own k r s.ballot.stage (verdict_at a b n own k (suc r) s) && is_some (share_due b own k r s.coin)

  -- whether the ballot goes on from round r
  abbrev pub goes_from : ℕ → BallotState C → Bool
  goes_from r s = may_go r (verdict_at a b n own k r s) (face a b n own k r s) s.ballot

  -- what does not apply changes nothing
  pub ruled_still : (r : ℕ) (s : BallotState C) → s.ballot.stage ≤ r → ruled a b n own k r s ≡ s
  ruled_still r s h = ap (λ (ms : List Round). record { ballot = s.ballot; rounds = ms; coin = s.coin }) (cond-false _ _ s.rounds (le-ltb r s.ballot.stage h))

  unsaid : (r : ℕ) (may : Bool) (d : Option ℕ) (c : C) → (may && is_some d) ≡ false → cond may (said_share b own k r d c) c ≡ c
  unsaid r false d c h = refl
  unsaid r true None c h = refl
  unsaid r true (Some v) c h = absurd (true≢false h)

  pub shared_still : (r : ℕ) (s : BallotState C) → due_in r s ≡ false → shared a b n own k r s ≡ s
  shared_still r s h = ap (λ (c : C). record { ballot = s.ballot; rounds = s.rounds; coin = c }) (unsaid r (may_share b own k r s.ballot.stage (verdict_at a b n own k (suc r) s)) (share_due b own k r s.coin) s.coin h)

  pub gone_still : (r : ℕ) (s : BallotState C) → goes_from r s ≡ false → gone_on a b n own k r s ≡ s
  gone_still r s h =
      let v = verdict_at a b n own k r s in
      let c = face a b n own k r s in
      ap (λ (t : Bool). record { ballot = cond t (went_on v c s.ballot) s.ballot; rounds = cond t (entered_later a n own k r (next_bit v c) s.rounds) s.rounds; coin = s.coin }) h

  -- the ballot goes on only from the round that it is in
  pub gone_elsewhere : (r : ℕ) (s : BallotState C) → (s.ballot.stage ≡ r → ⊥) → goes_from r s ≡ false
  gone_elsewhere r s h = and_left _ _ (ne_eqb s.ballot.stage r h)

  pub not_due : (r : ℕ) (s : BallotState C) → s.ballot.stage ≤ r → due_in r s ≡ false
  not_due r s h = and_left _ _ (and_left _ _ (le-ltb r s.ballot.stage h))

  -- other rounds stay as they are
  apart_from : (t : Bool) (q r : ℕ) (y : Round) (ms : List Round) → (r ≡ q → ⊥) → get_or (cond t (set ms (place k q) y) ms) (place k r) cleared ≡ get_or ms (place k r) cleared
  apart_from true q r y ms apart = get_or-set_other ms (place k q) (place k r) y cleared (λ e. apart (omega arith))
  apart_from false q r y ms apart = refl

  pub ruled_elsewhere : (q r : ℕ) (s : BallotState C) → (r ≡ q → ⊥) → round_at k (suc r) (ruled a b n own k q s) ≡ round_at k (suc r) s
  ruled_elsewhere q r s apart = apart_from (nat_lt q s.ballot.stage) q r (a.steps n own (get_or s.rounds (place k q) cleared)) s.rounds apart

  pub entered_elsewhere : (q r : ℕ) (s : BallotState C) → (r ≡ q → ⊥) → round_at k (suc r) (gone_on a b n own k q s) ≡ round_at k (suc r) s
  entered_elsewhere q r s apart =
      let x = next_bit (verdict_at a b n own k q s) (face a b n own k q s) in
      cond_both (goes_from q s) (entered_later a n own k q x s.rounds) s.rounds (λ (ms : List Round). get_or ms (place k r) cleared ≡ get_or s.rounds (place k r) cleared)
      (λ _. apart_from (nat_lt q 15) q r (a.enter n own x (get_or s.rounds (place k q) cleared)) s.rounds apart)
      (λ _. refl)

  -- so the share of a round may be said before the rule is called in another
  shared_ruled : (q r : ℕ) (s : BallotState C) → (r ≡ q → ⊥) → shared a b n own k r (ruled a b n own k q s) ≡ ruled a b n own k q (shared a b n own k r s)
  shared_ruled q r s apart = ap
      (λ (m : Round). record { ballot = s.ballot; rounds = ruled_rounds a n own k q s.ballot.stage s.rounds; coin = next_coin b own k r s.ballot.stage m.verdict s.coin })
      (ruled_elsewhere q r s apart)

  -- the rule's steps in so many rounds from suc r on, the shares, and both round by round
  abbrev pub ruled_from : ℕ → ℕ → BallotState C → BallotState C
  ruled_from zero r s = s
  ruled_from (suc u) r s = ruled_from u (suc r) (ruled a b n own k r s)

  abbrev pub shared_from : ℕ → ℕ → BallotState C → BallotState C
  shared_from zero r s = s
  shared_from (suc u) r s = shared_from u (suc r) (shared a b n own k r s)

  abbrev pub couples : ℕ → ℕ → BallotState C → BallotState C
  couples zero r s = s
  couples (suc u) r s = couples u (suc r) (shared a b n own k r (ruled a b n own k r s))

  pub ruled_ballot : (u r : ℕ) (s : BallotState C) → (ruled_from u r s).ballot ≡ s.ballot
  ruled_ballot zero r s = refl
  ruled_ballot (suc u) r s = ruled_ballot u (suc r) (ruled a b n own k r s)

  pub shared_ballot : (u r : ℕ) (s : BallotState C) → (shared_from u r s).ballot ≡ s.ballot
  shared_ballot zero r s = refl
  shared_ballot (suc u) r s = shared_ballot u (suc r) (shared a b n own k r s)

  shared_before : (u q r : ℕ) (s : BallotState C) → r < q → shared a b n own k r (ruled_from u q s) ≡ ruled_from u q (shared a b n own k r s)
  shared_before zero q r s lt = refl
  shared_before (suc u) q r s lt = shared_before u (suc q) r (ruled a b n own k q s) (omega arith) ∙ ap (λ (t : BallotState C). ruled_from u (suc q) t) (shared_ruled q r s (λ e. omega arith))

  pub coupled : (u r : ℕ) (s : BallotState C) → shared_from u r (ruled_from u r s) ≡ couples u r s
  coupled zero r s = refl
  coupled (suc u) r s =
      ap (λ (t : BallotState C). shared_from u (suc r) t) (shared_before u (suc r) r (ruled a b n own k r s) (omega arith)) ∙ coupled u (suc r) (shared a b n own k r (ruled a b n own k r s))

  -- in rounds below its own the ballot does not go on
  pub swept : (u v w r q : ℕ) (s : BallotState C) → v ≡ suc (u + w) → q ≡ suc (r + u) → q ≤ s.ballot.stage → later_settled a b n own k v r s ≡ later_settled a b n own k w q (gone_on a b n own k q (couples (suc u) r s))
  unfolding later_settled
  swept u zero w r q s ev eq le = absurd (omega arith)
  swept zero (suc v) w r q s ev eq le =
      let x = shared a b n own k r (ruled a b n own k r s) in
      let vw : v ≡ w = omega arith in
      let rq : suc r ≡ q = omega arith in
      ap (λ (i : ℕ). later_settled a b n own k i (suc r) (gone_on a b n own k (suc r) x)) vw ∙ ap (λ (i : ℕ). later_settled a b n own k w i (gone_on a b n own k i x)) rq
  swept (suc u) (suc v) w r q s ev eq le =
      let x = shared a b n own k r (ruled a b n own k r s) in
      ap (λ (t : BallotState C). later_settled a b n own k v (suc r) t) (gone_still (suc r) x (gone_elsewhere (suc r) x (λ e. omega arith)))
      ∙ swept u v w (suc r) q x (omega arith) (omega arith) le

  -- rounds that are not entered change nothing
  pub swept_still : (u r : ℕ) (s : BallotState C) → s.ballot.stage ≤ r → later_settled a b n own k u r s ≡ s
  unfolding later_settled
  swept_still zero r s h = refl
  swept_still (suc u) r s h =
      let e : round_settled a b n own k r s ≡ s =
      ap (λ (t : BallotState C). gone_on a b n own k (suc r) (shared a b n own k r t)) (ruled_still r s h)
      ∙ ap (λ (t : BallotState C). gone_on a b n own k (suc r) t) (shared_still r s (not_due r s h))
      ∙ gone_still (suc r) s (gone_elsewhere (suc r) s (λ e. omega arith)) in
      ap (λ (t : BallotState C). later_settled a b n own k u (suc r) t) e ∙ swept_still u (suc r) s (omega arith)
