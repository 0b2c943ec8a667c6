-- Where looking changes nothing, nothing is left to do in any ballot. Assumes nothing.
use Rattle.std.proofs.Common.{◌≡◌, ℕ, zero, suc, ◌<◌, ◌≤◌, Bool, true, false, Some, is_some, nat_le, eqb, refl, sym, ap, ◌∙◌, subst, subst₂, ⊎_elim, arith}
use Rattle.std.proofs.lemmas.Bool.{cond-true, cond-false, cases_Bool, cases_eq, cases_lt, eq-eqb, eqb-true, ne_eqb, le-leb, and_from, and_parts, not_from_false, false≢true, lt-leb}
use Rattle.basis.specs.Counts.{count}
use Rattle.basis.specs.Halls.{quorum, largest}
use Rattle.basis.specs.Steps.{taking}
use Rattle.basis.proofs.Counts.{count_same}
use Rattle.coins.specs.Coins.{Keeps as CoinKeeps, Tossed}
use Rattle.rules.specs.Rounds.{Round, Vote}
use Rattle.rules.specs.Laws.{Acts, Laws}
use Rattle.phases.specs.Steps.{says, is_entered_lem}
use Rattle.phases.specs.Turns.{says_has}
use Rattle.openings.specs.Openings.{again, opening_settled}
use Rattle.ballots.specs.Listed.{repropose}
use Rattle.outcomes.specs.Holdings.{Setting, Holding, is_delivered, ballot_at, state_of}
use Rattle.outcomes.specs.Taking.{sheets_taken, votes_taken, may_propose, proposed_below, taken_below, votes_or_proposal, slot_taken, looked}
use Rattle.ballot_runs.specs.Views.{View, face, rule_at}
use Rattle.ballot_runs.specs.Claims.{Stays}
use Rattle.vote_turns.proofs.Known.{view_at, view_of, stage_of, Well, VotesWell, view_in, stays_then}
use Rattle.vote_turns.proofs.Moved.{Moved, moved_stays, moved_then, ready_for, own_small, small, votes_view, votes_stage}
use Rattle.vote_turns.proofs.Delivering.{sheets_moved}
use Rattle.vote_turns.proofs.Taking.{proposed_all, bit_there, taken_moved, proposing_moved, voted_moved, looked_moved, looked_between}
use Rattle.vote_turns.proofs.Resting.{Same, same_both, some_there, Rests, taken_rests}

-- what holds of a ballot whose steps change nothing, by its view and the round that it is in, and of the shares of its rounds
record Quiet (a : Acts) (n own : ℕ) (share : ℕ → Type 0) (v : View) (stage : ℕ) : Type 0 where
  again_still : v.delivered ≡ true → taking (again own) (v.rounds 0) ≡ v.rounds 0
  opening_still : opening_settled n own (v.rounds 0) ≡ v.rounds 0
  opening_gone : stage ≡ 0 → 0 < (v.rounds 0).verdict → ⊥
  ruled : (q : ℕ) → q < 15 → q < stage → a.steps n own (v.rounds (suc q)) ≡ v.rounds (suc q)
  gone : (q : ℕ) → q < 15 → stage ≡ suc q → 0 < (v.rounds (suc q)).verdict → 0 < face v (suc q) → ⊥
  said : (q : ℕ) → q < 15 → q < stage → 0 < (v.rounds (suc q)).verdict → share q

quiet_same : (a : Acts) (n own : ℕ) (share : ℕ → Type 0) (v v' : View) (stage stage' : ℕ) → Same v v' → stage' ≡ stage → Quiet a n own share v' stage' → Quiet a n own share v stage
quiet_same a n own share v v' stage stage' e z y = record {
  said = λ q lt en lo. y.said q lt (omega arith) (subst (λ (m : Round). 0 < m.verdict) (sym (e.rounds (suc q))) lo);
  again_still = λ d. subst (λ (m : Round). taking (again own) m ≡ m) (e.rounds 0) (y.again_still (e.delivered ∙ d));
  opening_still = subst (λ (m : Round). opening_settled n own m ≡ m) (e.rounds 0) y.opening_still;
  opening_gone = λ z0 lo. y.opening_gone (z ∙ z0) (subst (λ (m : Round). 0 < m.verdict) (sym (e.rounds 0)) lo);
  ruled = λ q lt en. subst (λ (m : Round). a.steps n own m ≡ m) (e.rounds (suc q)) (y.ruled q lt (omega arith));
  gone = λ q lt z0 lo sh. y.gone q lt (z ∙ z0) (subst (λ (m : Round). 0 < m.verdict) (sym (e.rounds (suc q))) lo) (subst (λ (f : ℕ). 0 < f) (sym (e.faces (suc q))) sh);
}

-- What is left of ballot k where looking changes nothing.
pub record Still {R C : Type 0} (g : Setting R C) (n own : ℕ) (h : Holding R C) (k : ℕ) : Type 0 where
  -- no entered round takes a step
  pub steps : (r : ℕ) → r < 16 → 0 < ((view_of g n h k).rounds r).entered → (rule_at g.rule r).steps n own ((view_of g n h k).rounds r) ≡ (view_of g n h k).rounds r
  -- a round that is entered, has its verdict and is shown its bit has been gone on from
  pub over : (r : ℕ) → r < 16 → 0 < ((view_of g n h k).rounds r).entered → 0 < ((view_of g n h k).rounds r).verdict → 0 < face (view_of g n h k) r → suc r ≤ stage_of k h
  pub gone_on : (r : ℕ) → suc r < 16 → 0 < ((view_of g n h k).rounds r).entered → 0 < ((view_of g n h k).rounds r).verdict → 0 < face (view_of g n h k) r → 0 < ((view_of g n h k).rounds (suc r)).entered
  -- first vote 1 is said of a delivered slot, and with a quorum delivered the ballot is proposed in
  pub said_again : (view_of g n h k).delivered ≡ true → 0 < ((view_of g n h k).rounds 0).entered → ((view_of g n h k).rounds 0).votes 32 2 own ≡ true
  pub proposed : quorum n ≤ count n (λ l. is_delivered l h) → 0 < ((view_of g n h k).rounds 0).entered
  -- in each entered round with its verdict the own share is said, where the coin uses shares and has one
  pub shared : (q : ℕ) → q < 15 → 0 < ((view_of g n h k).rounds (suc q)).entered → 0 < ((view_of g n h k).rounds (suc q)).verdict →
      g.coins.uses ≡ true → (v : ℕ) → g.coins.own h.coin k (suc q) ≡ Some v → is_some (g.coins.taken_of h.coin k (suc q) own) ≡ true

-- where saying the first vote again changes nothing it is said
again_said : (own : ℕ) (m : Round) → 0 < m.entered → taking (again own) m ≡ m → m.votes 32 2 own ≡ true
again_said own m lo e = ⊎_elim (λ said. said)
    (λ none. let on : (again own).applies m ≡ true = and_from (is_entered_lem m) _ (not_from_false (eqb m.entered 0) (ne_eqb m.entered 0 (λ z. omega arith))) (not_from_false (m.votes 32 2 own) none) in
    sym (ap (λ (x : Round). x.votes 32 2 own) e) ∙ ap (λ (x : Round). x.votes 32 2 own) (cond-true ((again own).applies m) (says 32 2 own m) m on) ∙ says_has 32 2 own m)
    (cases_Bool (m.votes 32 2 own))

module _ {R C : Type 0} (g : Setting R C) (n own : ℕ) (ok : ℕ → ℕ → Vote → Type 0) (okc : ℕ → ℕ → ℕ → ℕ → Type 0) (laws : Laws g.rule n own) (keeps : CoinKeeps g.coins) (most : n ≤ largest) (own_low : own < n) where
  abbrev Moves : Holding R C → Holding R C → Type 0
  Moves h h' = Moved g n own ok okc h h'

  stay : (h h' : Holding R C) → VotesWell g n own h → Moves h h' → (k : ℕ) → Stays (view_of g n h k) (view_of g n h' k)
  stay h h' w x k = moved_stays g n own ok okc laws h h' w x k

  -- a holding from which nothing more comes than there was
  record Returns (h h' : Holding R C) : Type 0 where
    stays : (k : ℕ) → Stays (view_of g n h' k) (view_of g n h k)
    stage : (k : ℕ) → k < n → stage_of k h' ≤ stage_of k h

  returns_first : (h t u : Holding R C) → VotesWell g n own t → Moves t u → Returns h u → Returns h t
  returns_first h t u w x r = record {
    stays = λ k. stays_then (view_of g n t k) (view_of g n u k) (view_of g n h k) (stay t u w x k) (r.stays k);
    stage = λ k lk. let p = x.later k lk in let q = r.stage k lk in omega arith;
  }

  returns_last : (h t u : Holding R C) → VotesWell g n own h → Moves h t → Returns h u → Returns t u
  returns_last h t u w x r = record {
    stays = λ k. stays_then (view_of g n u k) (view_of g n h k) (view_of g n t k) (r.stays k) (stay h t w x k);
    stage = λ k lk. let p = x.later k lk in let q = r.stage k lk in omega arith;
  }

  same_return : (h t : Holding R C) → VotesWell g n own h → Moves h t → Returns h t → (k : ℕ) → Same (view_of g n h k) (view_of g n t k)
  same_return h t w x r k = same_both (view_of g n h k) (view_of g n t k) (stay h t w x k) (r.stays k)

  bit_read : (h : Holding R C) (k : ℕ) → k < n → ((view_of g n h k).rounds 0).entered ≡ (ballot_at k h).opening.entered
  bit_read h k lk = ap (λ (v : View). (v.rounds 0).entered) (view_in g n h k lk)

  -- proposing would change something
  not_proposing : (k : ℕ) → k < n → (s : Holding R C) → VotesWell g n own s → Returns s (votes_or_proposal g n own k s) → may_propose g n own k s ≡ false
  not_proposing k lk s w r = ⊎_elim
      (λ may. absurd (
      let q = and_parts (eqb (ballot_at k s).opening.entered 0) _ may in
      let zero-bit = eqb-true (ballot_at k s).opening.entered 0 q.0 in
      let p = proposed_below g n own n s in
      let pr = proposed_all g n own n s w.ballots_room in
      let x = proposing_moved g n own ok okc laws keeps most own_low s w p pr (λ l ll. w.alike k l lk ll zero-bit) (Rattle.std.proofs.lemmas.Bool.leb-true _ _ q.1) in
      let t = taken_below g n own n p in
      let y = taken_moved g n own ok okc laws keeps most own_low n (omega arith) p x.well in
      let r' : Returns s t = subst (Returns s) (cond-true (may_propose g n own k s) t (votes_taken g n own k s) may) r in
      let rp = returns_first s p t x.well y r' in
      let lo : 0 < ((view_of g n p k).rounds 0).entered = (let b = bit_there g n own n s p pr k lk in let e = bit_read p k lk in omega arith) in
      let same = ((rp.stays k).rounds 0).entered lo in
      let e = bit_read s k lk in
      omega arith))
      (λ no. no) (cases_Bool (may_propose g n own k s))

  -- the share of a round is taken by c', where c has an own one
  abbrev Shares : ℕ → C → C → ℕ → Type 0
  Shares k c c' q = g.coins.uses ≡ true → (v : ℕ) → g.coins.own c k (suc q) ≡ Some v → is_some (g.coins.taken_of c' k (suc q) own) ≡ true

  -- so the steps of the ballot change nothing
  quiet_at : (k : ℕ) → k < n → (s : Holding R C) → VotesWell g n own s → Returns s (votes_taken g n own k s) → Quiet g.rule n own (Shares k s.coin (votes_taken g n own k s).coin) (view_of g n s k) (stage_of k s)
  quiet_at k lk s w r = subst (λ (v : View). Quiet g.rule n own (Shares k s.coin (votes_taken g n own k s).coin) v (stage_of k s)) (sym (view_in g n s k lk)) (record {
    again_still = λ e. subst (λ (d : Bool). taking (repropose own d) (v.rounds 0) ≡ v.rounds 0) e x.again_still;
    opening_still = x.opening_still;
    opening_gone = x.opening_gone;
    ruled = λ q lt. (x.later q lt).ruled;
    gone = λ q lt. (x.later q lt).gone;
    said = λ q lt. (x.later q lt).said;
  })
    where
      v : View
      v = view_at g.coins k (is_delivered k s) (state_of k s)

      x : Rests g.rule g.coins n own k laws keeps (own_small g n own ok okc laws keeps most own_low) (small g n own ok okc laws keeps most own_low k lk) (ok k) okc (is_delivered k s) (state_of k s) (votes_taken g n own k s).coin
      x = taken_rests g.rule g.coins n own k laws keeps (own_small g n own ok okc laws keeps most own_low) (small g n own ok okc laws keeps most own_low k lk) (ok k) okc (is_delivered k s) (state_of k s)
          (ready_for g n own ok okc laws keeps most own_low k lk s w)
          (record {
            stays = subst₂ Stays (votes_view g n own ok okc laws keeps most own_low k lk s w) (view_in g n s k lk) (r.stays k);
            stage = (let e = votes_stage g n own ok okc laws keeps most own_low k lk s w in let l = r.stage k lk in omega arith);
          })

  -- one slot that is looked at
  looked_one : (k : ℕ) (h : Holding R C) → looked g n own (suc k) h ≡ votes_or_proposal g n own k (sheets_taken g n own k (looked g n own k h))
  unfolding looked slot_taken
  looked_one k h = refl

  module _ (h : Holding R C) (w : VotesWell g n own h) (e : looked g n own n h ≡ h) (k : ℕ) (lk : k < n) where
    -- before the slot, after its sheets, and after its ballot
    abbrev before : Holding R C
    before = looked g n own k h

    abbrev mid : Holding R C
    mid = sheets_taken g n own k before

    abbrev after : Holding R C
    after = votes_or_proposal g n own k mid

    to-before : Moves h before
    to-before = looked_moved g n own ok okc laws keeps most own_low k (omega arith) h w

    to-mid : Moves before mid
    to-mid = sheets_moved g n own ok okc laws k before to-before.well

    first : Moves h mid
    first = moved_then g n own ok okc h before mid to-before to-mid

    second : Moves mid after
    second = voted_moved g n own ok okc laws keeps most own_low k lk mid first.well

    rest : Moves after (looked g n own n h)
    rest = subst (λ (t : Holding R C). Moves t (looked g n own n h)) (looked_one k h) (looked_between g n own ok okc laws keeps most own_low n (suc k) (omega arith) (omega arith) h w)

    back : Returns h (looked g n own n h)
    back = subst (λ (t : Holding R C). Returns h t) (sym e) (record { stays = λ l. Rattle.vote_turns.proofs.Known.stays_none (view_of g n h l); stage = λ l ll. omega arith })

    back-after : Returns h after
    back-after = returns_first h after (looked g n own n h) second.well rest back

    back-mid : Returns h mid
    back-mid = returns_first h mid after first.well second back-after

    on : Returns mid after
    on = returns_last h mid after w first back-after

    same : (l : ℕ) → Same (view_of g n h l) (view_of g n mid l)
    same = same_return h mid w first back-mid

    same_stage : stage_of k mid ≡ stage_of k h
    same_stage = let p = first.later k lk in let q = back-mid.stage k lk in omega arith

    none : may_propose g n own k mid ≡ false
    none = not_proposing k lk mid first.well on

    quiet : Quiet g.rule n own (Shares k mid.coin (votes_taken g n own k mid).coin) (view_of g n h k) (stage_of k h)
    quiet = quiet_same g.rule n own (Shares k mid.coin (votes_taken g n own k mid).coin) (view_of g n h k) (view_of g n mid k) (stage_of k h) (stage_of k mid) (same k) same_stage
        (quiet_at k lk mid first.well (subst (Returns mid) (cond-false (may_propose g n own k mid) (taken_below g n own n (proposed_below g n own n mid)) (votes_taken g n own k mid) none) on))

    known : Well g.rule n own (view_of g n h k) (stage_of k h)
    known = w.well k lk

    -- an entered round is one up to that which the ballot is in
    reached : (r : ℕ) → suc r < 16 → 0 < ((view_of g n h k).rounds (suc r)).entered → suc r ≤ stage_of k h
    reached r lt lo = ⊎_elim (λ l. l) (λ ge. absurd (let z = known.unentered r lt ge in omega arith)) (cases_lt r (stage_of k h))

    still_steps : (r : ℕ) → r < 16 → 0 < ((view_of g n h k).rounds r).entered → (rule_at g.rule r).steps n own ((view_of g n h k).rounds r) ≡ (view_of g n h k).rounds r
    still_steps zero lt lo = quiet.opening_still
    still_steps (suc r) lt lo = quiet.ruled r (omega arith) (reached r lt lo)

    still_over : (r : ℕ) → r < 16 → 0 < ((view_of g n h k).rounds r).entered → 0 < ((view_of g n h k).rounds r).verdict → 0 < face (view_of g n h k) r → suc r ≤ stage_of k h
    still_over zero lt lo ver sh = ⊎_elim (λ z. absurd (quiet.opening_gone z ver)) (λ ne. omega arith) (cases_eq (stage_of k h) 0)
    still_over (suc r) lt lo ver sh = ⊎_elim (λ z. absurd (quiet.gone r (omega arith) z ver sh)) (λ ne. let l = reached r lt lo in omega arith) (cases_eq (stage_of k h) (suc r))

    still_proposed : quorum n ≤ count n (λ l. is_delivered l h) → 0 < ((view_of g n h k).rounds 0).entered
    still_proposed many = ⊎_elim (λ lo. lo)
        (λ ge. absurd (
        let flags = count_same n (λ l. is_delivered l mid) (λ l. is_delivered l h) (λ l ll. sym (ap (λ (v : View). v.delivered) (view_in g n mid l ll)) ∙ (same l).delivered ∙ ap (λ (v : View). v.delivered) (view_in g n h l ll)) in
        let b = bit_read mid k lk in
        let z : (ballot_at k mid).opening.entered ≡ 0 = (let s0 = ap (λ (m : Round). m.entered) ((same k).rounds 0) in omega arith) in
        let le : quorum n ≤ count n (λ l. is_delivered l mid) = omega arith in
        false≢true (sym none ∙ and_from (eqb (ballot_at k mid).opening.entered 0) (nat_le (quorum n) (count n (λ l. is_delivered l mid))) (eq-eqb _ _ z) (le-leb _ _ le))))
        (cases_lt 0 ((view_of g n h k).rounds 0).entered)

    -- the share of a round that is there after the ballot's steps is there, since looking changes nothing
    still_shared : (q : ℕ) → q < 15 → 0 < ((view_of g n h k).rounds (suc q)).entered → 0 < ((view_of g n h k).rounds (suc q)).verdict → Shares k h.coin h.coin q
    still_shared q lt en lo u v o =
        let to : Tossed k (suc q) = record { ballot_below = small g n own ok okc laws keeps most own_low k lk; round_from = omega arith; round_to = omega arith } in
        let x = quiet.said q lt (reached q (omega arith) en) lo u v (first.coin.fixed k (suc q) to ∙ o) in
        let y = some_there (g.coins.taken_of after.coin k (suc q) own) (subst (λ (t : Holding R C). is_some (g.coins.taken_of t.coin k (suc q) own) ≡ true)
        (sym (cond-false (may_propose g n own k mid) (taken_below g n own n (proposed_below g n own n mid)) (votes_taken g n own k mid) none)) x) in
        ap is_some (subst (λ (t : Holding R C). g.coins.taken_of t.coin k (suc q) own ≡ Some y.0) e (rest.coin.taken k (suc q) own to (own_small g n own ok okc laws keeps most own_low) y.0 y.1))

    pub still : Still g n own h k
    still = record {
      steps = still_steps;
      over = still_over;
      gone_on = λ r lt lo ver sh. known.entered r lt (still_over r (omega arith) lo ver sh);
      said_again = λ d lo. again_said own ((view_of g n h k).rounds 0) lo (quiet.again_still d);
      proposed = still_proposed;
      shared = still_shared;
    }
