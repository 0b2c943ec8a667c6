-- What taking a slot's steps does to the ballots, with proposing, and what looking does. Assumes nothing.
use Rattle.std.proofs.Common.{◌≡◌, ℕ, zero, suc, ◌<◌, ◌≤◌, Bool, true, cond, List, length, nat_lt, eqb, refl, sym, ap, ◌∙◌, subst, ⊎_elim, arith, length-set, get_or-set_other, get_or-set_same}
use Rattle.std.proofs.lemmas.Bool.{cond-true, cond-false, cond_both, ne_eqb, cases_eq, cases_lt, lt-ltb, le-ltb, leb-true, eqb-true, and_parts}
use Rattle.basis.specs.Counts.{count}
use Rattle.basis.specs.Halls.{quorum, largest}
use Rattle.basis.proofs.Counts.{count_same}
use Rattle.coins.specs.Coins.{Keeps as CoinKeeps}
use Rattle.rules.specs.Rounds.{Round, Vote, bit_set}
use Rattle.rules.specs.Laws.{Laws}
use Rattle.openings.specs.Openings.{proposed}
use Rattle.ballots.specs.States.{Opened, unopened, BallotState}
use Rattle.ballots.specs.Listed.{reopened}
use Rattle.outcomes.specs.Holdings.{Setting, Holding, is_delivered, ballot_at, state_of, with_ballot}
use Rattle.outcomes.specs.Taking.{sheets_taken, votes_taken, may_propose, proposed_in, proposed_below, taken_below, votes_or_proposal, slot_taken, looked}
use Rattle.ballot_runs.specs.Views.{View, proposal, with_round}
use Rattle.ballot_runs.specs.Runs.{Turn, proposes}
use Rattle.ballot_runs.proofs.Opens.{proposed_cases}
use Rattle.ballot_runs.proofs.Opened.{bit_single}
use Rattle.ballot_runs.proofs.Several.{no_turn, then_turn}
use Rattle.ballot_runs.proofs.Kept.{turn_moves}
use Rattle.vote_turns.proofs.Known.{view_at, no_ballot, view_of, stage_of, Well, coin_none, VotesWell, view_in}
use Rattle.vote_turns.proofs.Pieces.{well_stays}
use Rattle.vote_turns.proofs.Parts.{reopened_view, round_read}
use Rattle.vote_turns.proofs.Moved.{Moved, moved_none, moved_then, votes_moved, all_grounded}
use Rattle.vote_turns.proofs.Delivering.{sheets_moved}

-- a proposal is set
proposed_bit : (own x : ℕ) (m : Round) → (proposed own x m).entered ≡ x
proposed_bit own x m = proposed_cases own x m (λ (y : Round). y.entered ≡ x) refl (λ _ _. refl)

module _ {R C : Type 0} (g : Setting R C) (n own : ℕ) where
  -- the ballots below m are proposed in, and nothing else has changed
  pub record Proposed (m : ℕ) (h h' : Holding R C) : Type 0 where
    pub slots : h'.slots ≡ h.slots
    pub rounds : h'.rounds ≡ h.rounds
    pub coin : h'.coin ≡ h.coin
    pub size : length h'.ballots ≡ length h.ballots
    pub done : (l : ℕ) → l < m → ballot_at l h' ≡ proposed_in g n own l h
    pub left : (l : ℕ) → m ≤ l → ballot_at l h' ≡ ballot_at l h

  same_flag : (h h' : Holding R C) → h'.slots ≡ h.slots → (l : ℕ) → is_delivered l h' ≡ is_delivered l h
  same_flag h h' e l = ap (λ (y : Holding R C). is_delivered l y) (λ i. record { life = h.life; slots = e i; ballots = h.ballots; rounds = h.rounds; coin = h.coin })

  pub proposed_all : (m : ℕ) (h : Holding R C) → m ≤ length h.ballots → Proposed m h (proposed_below g n own m h)
  unfolding proposed_below
  proposed_all zero h le = record { slots = refl; rounds = refl; coin = refl; size = refl; done = λ l lt. absurd (omega arith); left = λ l ge. refl }
  proposed_all (suc m) h le =
      let p = proposed_all m h (omega arith) in
      let h' = proposed_below g n own m h in
      let o = proposed_in g n own m h' in
      let same : o ≡ proposed_in g n own m h = ap (λ (d : Bool). Rattle.ballots.specs.Ballots.with_opening (proposed own (bit_set d) (ballot_at m h').opening) (ballot_at m h')) (same_flag h h' p.slots m)
      ∙ ap (λ (b : Opened). Rattle.ballots.specs.Ballots.with_opening (proposed own (bit_set (is_delivered m h)) b.opening) b) (p.left m (omega arith)) in
      record {
        slots = p.slots;
        rounds = p.rounds;
        coin = p.coin;
        size = length-set h'.ballots m o ∙ p.size;
        done = λ l lt. ⊎_elim
            (λ e. subst (λ (z : ℕ). ballot_at z (with_ballot m o h') ≡ proposed_in g n own z h) (sym e) (get_or-set_same h'.ballots m o unopened (let q = p.size in omega arith) ∙ same))
            (λ ne. get_or-set_other h'.ballots m l o unopened ne ∙ p.done l (omega arith)) (cases_eq l m);
        left = λ l ge. get_or-set_other h'.ballots m l o unopened (λ e. omega arith) ∙ p.left l (omega arith);
      }

  -- a ballot is proposed in then
  pub bit_there : (m : ℕ) (h h' : Holding R C) → Proposed m h h' → (l : ℕ) → l < m → 0 < (ballot_at l h').opening.entered
  bit_there m h h' p l lt =
      let e : (ballot_at l h').opening.entered ≡ bit_set (is_delivered l h) = ap (λ (o : Opened). o.opening.entered) (p.done l lt) ∙ proposed_bit own (bit_set (is_delivered l h)) (ballot_at l h).opening in
      omega (arith, (bit_single (is_delivered l h)).0)

  module _ (ok : ℕ → ℕ → Vote → Type 0) (okc : ℕ → ℕ → ℕ → ℕ → Type 0) (laws : Laws g.rule n own) (keeps : CoinKeeps g.coins) (most : n ≤ largest) (own_low : own < n) where
    abbrev pub Moves : Holding R C → Holding R C → Type 0
    Moves h h' = Moved g n own ok okc h h'

    -- proposing in all ballots, where none is proposed in and a quorum of slots is delivered
    module _ (h : Holding R C) (w : VotesWell g n own h) (h' : Holding R C) (p : Proposed n h h') (none : (l : ℕ) → l < n → (ballot_at l h).opening.entered ≡ 0) (many : quorum n ≤ count n (λ l. is_delivered l h)) where
      view_proposed : (l : ℕ) → l < n → view_of g n h' l ≡ proposal own (view_of g n h l)
      view_proposed l lt =
          let m = proposed own (bit_set (is_delivered l h)) (ballot_at l h).opening in
          let state : state_of l h' ≡ reopened m (state_of l h) = λ i. record { ballot = p.done l lt i; rounds = p.rounds i; coin = p.coin i } in
          view_in g n h' l lt
          ∙ ap (λ (d : Bool). view_at g.coins l d (state_of l h')) (same_flag h h' p.slots l)
          ∙ ap (λ (s : BallotState C). view_at g.coins l (is_delivered l h) s) state
          ∙ reopening l lt
          ∙ ap (proposal own) (sym (view_in g n h l lt))
        where
          reopening : (l : ℕ) → l < n → view_at g.coins l (is_delivered l h) (reopened (proposed own (bit_set (is_delivered l h)) (ballot_at l h).opening) (state_of l h)) ≡ proposal own (view_at g.coins l (is_delivered l h) (state_of l h))
          reopening l lt =
              let d = is_delivered l h in
              let s = state_of l h in
              reopened_view g.rule g.coins n own l laws keeps (omega (arith, most, own_low)) (omega (arith, most, lt)) (ok l) okc d (proposed own (bit_set d) s.ballot.opening) s
              ∙ ap (λ (y : Round). with_round (view_at g.coins l d s) 0 (proposed own (bit_set d) y)) (sym (round_read g.rule g.coins n own l laws keeps (omega (arith, most, own_low)) (omega (arith, most, lt)) (ok l) okc d s 0 (omega arith)))

      all_proposed : (l : ℕ) → view_of g n h' l ≡ cond (nat_lt l n) (proposal own (view_of g n h l)) (view_of g n h l)
      all_proposed l = ⊎_elim
          (λ lt. view_proposed l lt ∙ sym (cond-true (nat_lt l n) (proposal own (view_of g n h l)) (view_of g n h l) (lt-ltb l n lt)))
          (λ ge. cond-false (nat_lt l n) (view_at g.coins l (is_delivered l h') (state_of l h')) no_ballot (le-ltb l n ge)
          ∙ sym (cond-false (nat_lt l n) (view_at g.coins l (is_delivered l h) (state_of l h)) no_ballot (le-ltb l n ge))
          ∙ sym (cond-false (nat_lt l n) (proposal own (view_of g n h l)) (view_of g n h l) (le-ltb l n ge))) (cases_lt l n)

      bit_read : (l : ℕ) → l < n → ((view_of g n h l).rounds 0).entered ≡ 0
      bit_read l lt = ap (λ (v : View). (v.rounds 0).entered) (view_in g n h l lt) ∙ none l lt

      quorum_read : quorum n ≤ count n (λ l. (view_of g n h l).delivered)
      quorum_read = let e = count_same n (λ l. (view_of g n h l).delivered) (λ l. is_delivered l h) (λ l lt. ap (λ (v : View). v.delivered) (view_in g n h l lt)) in omega (arith, many)

      turn : Turn g.rule n own ok (view_of g n h) (view_of g n h')
      turn = proposes (view_of g n h') quorum_read bit_read all_proposed

      later_same : (l : ℕ) → l < n → (r : ℕ) → ((view_of g n h' l).rounds (suc r)).entered ≡ ((view_of g n h l).rounds (suc r)).entered
      later_same l lt r = ap (λ (v : View). (v.rounds (suc r)).entered) (view_proposed l lt)
          ∙ ap (λ (y : Round). y.entered) (cond-false (eqb (suc r) 0) (proposed own (bit_set (view_of g n h l).delivered) ((view_of g n h l).rounds 0)) ((view_of g n h l).rounds (suc r)) (ne_eqb (suc r) 0 (λ e. omega arith)))

      stage_same : (l : ℕ) → l < n → stage_of l h' ≡ stage_of l h
      stage_same l lt = ap (λ (o : Opened). o.stage) (p.done l lt)

      pub proposing_moved : Moves h h'
      proposing_moved = record {
        turns = then_turn turn no_turn;
        well = record {
          rounds_room = (let e = ap (λ (ms : List Round). length ms) p.rounds in let r = w.rounds_room in omega arith);
          ballots_room = (let e = p.size in let r = w.ballots_room in omega arith);
          coin = subst g.coins.sound (sym p.coin) w.coin;
          well = λ l lt. let m = turn_moves g.rule n (λ _. true) ok own (view_of g n h) (view_of g n h') laws (all_grounded g n own h w) turn l in
              subst (λ (z : ℕ). Well g.rule n own (view_of g n h' l) z) (sym (stage_same l lt)) (well_stays g.rule n own (view_of g n h l) (view_of g n h' l) (stage_of l h) (w.well l lt) m.grounded m.stays (later_same l lt));
          alike = λ l k ll lk z. absurd (let b = bit_there n h h' p l ll in omega arith);
        };
        later = λ l lt. let e = stage_same l lt in omega arith;
        coin = subst (λ (c : C). Rattle.vote_turns.proofs.Known.CoinMoves g.coins own okc h.coin c) (sym p.coin) (coin_none g.coins own okc h.coin w.coin);
      }

    -- then the steps of the slots below m
    pub taken_moved : (m : ℕ) → m ≤ n → (h : Holding R C) → VotesWell g n own h → Moves h (taken_below g n own m h)
    unfolding taken_below
    taken_moved zero le h w = moved_none g n own ok okc h w
    taken_moved (suc m) le h w =
        let t = taken_below g n own m h in
        let x = taken_moved m (omega arith) h w in
        let u = sheets_taken g n own m t in
        let y = sheets_moved g n own ok okc laws m t x.well in
        moved_then g n own ok okc h t (votes_taken g n own m u) x
        (moved_then g n own ok okc t u (votes_taken g n own m u) y (votes_moved g n own ok okc laws keeps most own_low m (omega arith) u y.well))

    -- after the steps of a slot's sheets
    pub voted_moved : (k : ℕ) → k < n → (h : Holding R C) → VotesWell g n own h → Moves h (votes_or_proposal g n own k h)
    voted_moved k lk h w = cond_both (may_propose g n own k h) (taken_below g n own n (proposed_below g n own n h)) (votes_taken g n own k h) (Moves h)
        (λ may.
        let q = and_parts (eqb (ballot_at k h).opening.entered 0) _ may in
        let p = proposed_below g n own n h in
        let x = proposing_moved h w p (proposed_all n h w.ballots_room) (λ l ll. w.alike k l lk ll (eqb-true (ballot_at k h).opening.entered 0 q.0)) (leb-true _ _ q.1) in
        moved_then g n own ok okc h p (taken_below g n own n p) x (taken_moved n (omega arith) p x.well))
        (λ _. votes_moved g n own ok okc laws keeps most own_low k lk h w)

    pub slot_moved : (k : ℕ) → k < n → (h : Holding R C) → VotesWell g n own h → Moves h (slot_taken g n own k h)
    unfolding slot_taken
    slot_moved k lk h w =
        let t = sheets_taken g n own k h in
        let x = sheets_moved g n own ok okc laws k h w in
        moved_then g n own ok okc h t (votes_or_proposal g n own k t) x (voted_moved k lk t x.well)

    -- looking at the slots below m
    pub looked_moved : (m : ℕ) → m ≤ n → (h : Holding R C) → VotesWell g n own h → Moves h (looked g n own m h)
    unfolding looked
    looked_moved zero le h w = moved_none g n own ok okc h w
    looked_moved (suc m) le h w =
        let t = looked g n own m h in
        let x = looked_moved m (omega arith) h w in
        moved_then g n own ok okc h t (slot_taken g n own m t) x (slot_moved m (omega arith) t x.well)

    -- from one slot on to another
    pub looked_between : (m l : ℕ) → l ≤ m → m ≤ n → (h : Holding R C) → VotesWell g n own h → Moves (looked g n own l h) (looked g n own m h)
    unfolding looked
    looked_between zero l le top h w = subst (λ (z : ℕ). Moves (looked g n own z h) h) (let z : 0 ≡ l = omega arith in z) (moved_none g n own ok okc h w)
    looked_between (suc m) l le top h w = ⊎_elim
        (λ e. subst (λ (z : ℕ). Moves (looked g n own z h) (looked g n own (suc m) h)) (sym e) (moved_none g n own ok okc (looked g n own (suc m) h) (looked_moved (suc m) top h w).well))
        (λ ne.
        let t = looked g n own m h in
        moved_then g n own ok okc (looked g n own l h) t (slot_taken g n own m t) (looked_between m l (omega arith) (omega arith) h w) (slot_moved m (omega arith) t (looked_moved m (omega arith) h w).well))
        (cases_eq l (suc m))
