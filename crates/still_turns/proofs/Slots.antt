-- Slots at which no step is left, and what the steps of other slots leave of them. Assumes nothing.
use Rattle.std.proofs.Common.{◌≡◌, ℕ, zero, suc, ◌<◌, ◌≤◌, ◌≢◌, true, false, List, get_or, eqb, nat_le, None, is_some, refl, sym, ap, ◌∙◌, subst, ⊎_elim, arith, get_or-set_same, get_or-set_other}
use Rattle.std.proofs.lemmas.Bool.{cond-false, cond_both, cases_Bool, cases_eq, leb-true, eqb-true, ne_eqb, eq-eqb, and_parts, and_from, and_left, and_right, false≢true}
use Rattle.std.proofs.lemmas.List.{set-get_or}
use Rattle.basis.specs.Counts.{count}
use Rattle.basis.specs.Halls.{largest, quorum}
use Rattle.broadcast.specs.Claims.{RowLaws}
use Rattle.broadcast.proofs.Ending.{steps_end}
use Rattle.broadcast.proofs.Moves.{Sound}
use Rattle.coins.specs.Coins.{Keeps as CoinKeeps}
use Rattle.rules.specs.Rounds.{Round, Vote, cleared}
use Rattle.rules.specs.Laws.{Laws, Reached}
use Rattle.slots.specs.declared.slot.Slot.{Slot}
use Rattle.slots.specs.Steps.{Slots, next}
use Rattle.ballots.specs.States.{Opened, BallotState, place, unopened}
use Rattle.ballots.specs.Listed.{ballot_taken}
use Rattle.outcomes.specs.Holdings.{Setting, Holding, is_delivered, ballot_at, state_of, with_slots, with_state}
use Rattle.outcomes.specs.Taking.{sheets_taken, votes_taken, may_propose, proposed_below, taken_below, votes_or_proposal, slot_taken, looked}
use Rattle.outcomes.proofs.Elsewhere.{SheetsSame, sheets_alike, none_same, other_sheets}
use Rattle.outcomes.proofs.Turning.{stays}
use Rattle.vote_turns.proofs.Known.{CoinMoves, coin_none, VotesWell}
use Rattle.vote_turns.proofs.Parts.{Piece, taken_part}
use Rattle.vote_turns.proofs.Moved.{own_small, small, ready_for, votes_moved}
use Rattle.vote_turns.proofs.Delivering.{sheets_moved}
use Rattle.vote_turns.proofs.Taking.{proposed_all, bit_there, proposing_moved}
use Rattle.still_turns.proofs.Ballots.{BallotDone, taken_same, ballot_kept, taken_done}

-- whatever may be heard
abbrev pub any_vote : ℕ → ℕ → Vote → Type 0
any_vote k r w = Unit {0}

abbrev pub any_share : ℕ → ℕ → ℕ → ℕ → Type 0
any_share k r j v = Unit {0}

module _ {R C : Type 0} (g : Setting R C) (n own : ℕ) where
  -- no step of the slot's sheets is left, and none of its ballot
  pub record SlotDone (k : ℕ) (h : Holding R C) : Type 0 where
    pub sheets : next g.rows n own k h.slots ≡ None
    pub ballot : BallotDone g.rule g.coins n own k (is_delivered k h) (state_of k h)

  -- the same of all slots, and proposing is not left either
  pub record AllDone (h : Holding R C) : Type 0 where
    pub slots : (k : ℕ) → k < n → SlotDone k h
    pub proposed : (k : ℕ) → k < n → may_propose g n own k h ≡ false

  -- what is told of slot k is the same, and the coin has at most taken in more
  pub record SlotSame (k : ℕ) (h h' : Holding R C) : Type 0 where
    pub sheets : SheetsSame g.rows n own k h.slots h'.slots
    pub ballot : ballot_at k h' ≡ ballot_at k h
    pub rounds : (r : ℕ) → r < 15 → get_or h'.rounds (place k r) cleared ≡ get_or h.rounds (place k r) cleared
    pub shown : (r : ℕ) → r < 15 → g.coins.shown h'.coin k (suc r) ≡ g.coins.shown h.coin k (suc r)
    pub coin : CoinMoves g.coins own any_share h.coin h'.coin

  -- where no step of a slot is left its steps change nothing
  pub slot_same : (k : ℕ) (h : Holding R C) → SlotDone k h → may_propose g n own k h ≡ false → slot_taken g n own k h ≡ h
  unfolding slot_taken
  slot_same k h x off =
      ap (λ (t : Slots R). votes_or_proposal g n own k (with_slots t h)) (stays g n own k 3 h.slots x.sheets)
      ∙ cond-false (may_propose g n own k h) (taken_below g n own n (proposed_below g n own n h)) (votes_taken g n own k h) off
      ∙ ap (λ (t : BallotState C). with_state k t h) (taken_same g.rule g.coins n own k (is_delivered k h) (state_of k h) x.ballot)
      ∙ ap (λ (os : List Opened). record { life = h.life; slots = h.slots; ballots = os; rounds = h.rounds; coin = h.coin }) (set-get_or h.ballots k unopened)

  -- and so looking
  pub looked_same : (m : ℕ) → m ≤ n → (h : Holding R C) → AllDone h → looked g n own m h ≡ h
  unfolding looked
  looked_same zero le h x = refl
  looked_same (suc m) le h x = ap (slot_taken g n own m) (looked_same m (omega arith) h x) ∙ slot_same m h (x.slots m (omega arith)) (x.proposed m (omega arith))

  -- where a ballot is proposed in the replica does not propose
  bit_waits : (k : ℕ) (h : Holding R C) → 0 < (ballot_at k h).opening.entered → may_propose g n own k h ≡ false
  bit_waits k h lo = and_left (eqb (ballot_at k h).opening.entered 0) (nat_le (quorum n) (count n (λ l. is_delivered l h))) (ne_eqb (ballot_at k h).opening.entered 0 (λ e. omega arith))

  module _ (laws : Laws g.rule n own) (keeps : CoinKeeps g.coins) (most : n ≤ largest) (lo : own < n) where
    abbrev own_low : own < largest
    own_low = own_small g n own any_vote any_share laws keeps most lo

    abbrev low : (k : ℕ) → k < n → k < largest
    low k lk = small g n own any_vote any_share laws keeps most lo k lk

    -- a slot of which the same is told stays without a step
    pub slot_kept : (k : ℕ) → k < n → (h h' : Holding R C) → SlotSame k h h' → SlotDone k h → SlotDone k h'
    slot_kept k lk h h' e x = record {
      sheets = none_same g.rows n own k h.slots h'.slots lo e.sheets x.sheets;
      ballot = ballot_kept g.rule g.coins n own k laws keeps own_low (low k lk) (any_vote k) any_share (is_delivered k h) (is_delivered k h') (state_of k h) (state_of k h')
          (ap (λ (r : Slot). is_some r.delivered) e.sheets.delivery) e.ballot e.rounds e.shown e.coin x.ballot;
    }

    -- the steps of another slot's sheets
    sheets_apart : (m k : ℕ) → k < n → (m ≢ k) → (h : Holding R C) → VotesWell g n own h → SlotSame k h (sheets_taken g n own m h)
    sheets_apart m k lk ne h w = record {
      sheets = other_sheets g.rows n own m k lo lk ne 3 h.slots;
      ballot = refl;
      rounds = λ r lt. refl;
      shown = λ r lt. refl;
      coin = coin_none g.coins own any_share h.coin w.coin;
    }

    module _ (m : ℕ) (lm : m < n) (h : Holding R C) (w : VotesWell g n own h) where
      piece : Piece g.rule g.coins n own m laws keeps own_low (low m lm) (any_vote m) any_share (is_delivered m h) (state_of m h) (ballot_taken g.rule g.coins n own m (is_delivered m h) (state_of m h))
      piece = taken_part g.rule g.coins n own m laws keeps own_low (low m lm) (any_vote m) any_share (is_delivered m h) (state_of m h) (ready_for g n own any_vote any_share laws keeps most lo m lm h w)

      here : ballot_at m (votes_taken g n own m h) ≡ (ballot_taken g.rule g.coins n own m (is_delivered m h) (state_of m h)).ballot
      here = get_or-set_same h.ballots m (ballot_taken g.rule g.coins n own m (is_delivered m h) (state_of m h)).ballot unopened (let r = w.ballots_room in omega (arith, lm))

      there : (k : ℕ) → (m ≢ k) → ballot_at k (votes_taken g n own m h) ≡ ballot_at k h
      there k ne = get_or-set_other h.ballots m k (ballot_taken g.rule g.coins n own m (is_delivered m h) (state_of m h)).ballot unopened (λ e. ne (sym e))

      -- the steps of another slot's ballot
      votes_apart : (k : ℕ) → k < n → (m ≢ k) → SlotSame k h (votes_taken g n own m h)
      votes_apart k lk ne = record {
        sheets = sheets_alike g.rows n own k h.slots;
        ballot = there k ne;
        rounds = λ r lt. piece.apart k r (λ e. ne (sym e)) lt;
        shown = λ r lt. piece.elsewhere k (suc r) (record { ballot_below = low k lk; round_from = omega arith; round_to = omega arith }) (λ e. ne (sym e));
        coin = piece.coin;
      }

      -- proposals stay
      votes_bit : (k : ℕ) → (ballot_at k (votes_taken g n own m h)).opening.entered ≡ (ballot_at k h).opening.entered
      votes_bit k = ⊎_elim
          (λ e. subst (λ (z : ℕ). (ballot_at z (votes_taken g n own m h)).opening.entered ≡ (ballot_at z h).opening.entered) e (ap (λ (o : Opened). o.opening.entered) here ∙ piece.proposal))
          (λ ne. ap (λ (o : Opened). o.opening.entered) (there k ne)) (cases_eq m k)

      -- after the steps of its sheets, those of its ballot leave no step
      votes_done : ((y : Round) → Reached g.rule n own y → g.rule.steps n own (g.rule.steps n own y) ≡ g.rule.steps n own y) → next g.rows n own m h.slots ≡ None → SlotDone m (votes_taken g n own m h)
      votes_done settle none =
          let t = ballot_taken g.rule g.coins n own m (is_delivered m h) (state_of m h) in
          let state : state_of m (votes_taken g n own m h) ≡ t = ap (λ (o : Opened). record { ballot = o; rounds = t.rounds; coin = t.coin }) here in
          record {
            sheets = none;
            ballot = subst (BallotDone g.rule g.coins n own m (is_delivered m h)) (sym state)
                (taken_done g.rule g.coins n own m laws keeps own_low (low m lm) (any_vote m) any_share (is_delivered m h) settle (state_of m h) (ready_for g n own any_vote any_share laws keeps most lo m lm h w));
          }

    module _ (rows : RowLaws g.rows g.size g.lawful) (settle : (y : Round) → Reached g.rule n own y → g.rule.steps n own (g.rule.steps n own y) ≡ g.rule.steps n own y) where
      -- the slots below m have taken their steps after proposing
      record Proposing (m : ℕ) (h : Holding R C) : Type 0 where
        votes : VotesWell g n own h
        sheets : (k : ℕ) → k < n → next g.rows n own k h.slots ≡ None
        bits : (k : ℕ) → k < n → 0 < (ballot_at k h).opening.entered
        slots : (k : ℕ) → k < m → SlotDone k h

      proposing_one : (m : ℕ) → m < n → (h : Holding R C) → Proposing m h → Proposing (suc m) (votes_taken g n own m h)
      proposing_one m lm h x = record {
        votes = (votes_moved g n own any_vote any_share laws keeps most lo m lm h x.votes).well;
        sheets = x.sheets;
        bits = λ k lk. subst (λ (z : ℕ). 0 < z) (sym (votes_bit m lm h x.votes k)) (x.bits k lk);
        slots = λ k lk. ⊎_elim
            (λ e. subst (λ (z : ℕ). SlotDone z (votes_taken g n own m h)) e (votes_done m lm h x.votes settle (x.sheets m lm)))
            (λ ne. slot_kept k (omega arith) h (votes_taken g n own m h) (votes_apart m lm h x.votes k (omega arith) ne) (x.slots k (let z : m ≢ k = ne in omega arith))) (cases_eq m k);
      }

      proposing_below : (m : ℕ) → m ≤ n → (h : Holding R C) → Proposing 0 h → Proposing m (taken_below g n own m h)
      unfolding taken_below
      proposing_below zero le h x = x
      proposing_below (suc m) le h x =
          let u = taken_below g n own m h in
          let y = proposing_below m (omega arith) h x in
          subst (λ (t : Slots R). Proposing (suc m) (votes_taken g n own m (with_slots t u))) (sym (stays g n own m 3 u.slots (y.sheets m (omega arith)))) (proposing_one m (omega arith) u y)

      -- the sheets of all slots have taken their steps, and slot k is the one whose steps are taken
      module _ (k : ℕ) (lk : k < n) (h : Holding R C) (w : VotesWell g n own h) (sheets : (l : ℕ) → l < n → next g.rows n own l h.slots ≡ None) where
        abbrev p : Holding R C
        p = proposed_below g n own n h

        -- the replica proposes
        proposal_done : may_propose g n own k h ≡ true → AllDone (taken_below g n own n p)
        proposal_done may =
            let q = and_parts (eqb (ballot_at k h).opening.entered 0) (nat_le (quorum n) (count n (λ l. is_delivered l h))) may in
            let pr = proposed_all g n own n h w.ballots_room in
            let x = proposing_moved g n own any_vote any_share laws keeps most lo h w p pr (λ l ll. w.alike k l lk ll (eqb-true (ballot_at k h).opening.entered 0 q.0)) (leb-true (quorum n) (count n (λ l. is_delivered l h)) q.1) in
            let y = proposing_below n (omega arith) p (record {
              votes = x.well;
              sheets = λ l ll. ap (next g.rows n own l) pr.slots ∙ sheets l ll;
              bits = λ l ll. bit_there g n own n h p pr l ll;
              slots = λ l ll. absurd (omega arith);
            }) in
            record { slots = λ l ll. y.slots l ll; proposed = λ l ll. bit_waits l (taken_below g n own n p) (y.bits l ll) }

        -- it does not
        votes_all : may_propose g n own k h ≡ false → ((l : ℕ) → l < n → (k ≢ l) → SlotDone l h) → AllDone (votes_taken g n own k h)
        votes_all off others = record {
          slots = λ l ll. ⊎_elim
              (λ e. subst (λ (z : ℕ). SlotDone z (votes_taken g n own k h)) e (votes_done k lk h w settle (sheets k lk)))
              (λ ne. slot_kept l ll h (votes_taken g n own k h) (votes_apart k lk h w l ll ne) (others l ll ne)) (cases_eq k l);
          proposed = λ l ll. ⊎_elim (λ many. waits l ll many) (λ few. and_right (eqb (ballot_at l (votes_taken g n own k h)).opening.entered 0) (nat_le (quorum n) (count n (λ i. is_delivered i h))) few) (cases_Bool (nat_le (quorum n) (count n (λ i. is_delivered i h))));
        }
          where
            waits : (l : ℕ) → l < n → nat_le (quorum n) (count n (λ i. is_delivered i h)) ≡ true → may_propose g n own l (votes_taken g n own k h) ≡ false
            waits l ll many = and_left (eqb (ballot_at l (votes_taken g n own k h)).opening.entered 0) (nat_le (quorum n) (count n (λ i. is_delivered i h)))
                (ne_eqb (ballot_at l (votes_taken g n own k h)).opening.entered 0 (λ e.
                let z = w.alike l k ll lk (sym (votes_bit k lk h w l) ∙ e) in
                false≢true (sym off ∙ and_from (eqb (ballot_at k h).opening.entered 0) (nat_le (quorum n) (count n (λ i. is_delivered i h))) (eq-eqb (ballot_at k h).opening.entered 0 z) many)))

      -- the steps of a slot, where none is left at the others, leave none anywhere
      pub slot_done : (k : ℕ) → k < n → (h : Holding R C) → VotesWell g n own h → Sound g.rows n own h.slots → ((l : ℕ) → l < n → (k ≢ l) → SlotDone l h) → AllDone (slot_taken g n own k h)
      unfolding slot_taken
      slot_done k lk h w sound others =
          let s = sheets_taken g n own k h in
          let ws = (sheets_moved g n own any_vote any_share laws k h w).well in
          let apart : (l : ℕ) → l < n → (k ≢ l) → SlotDone l s = λ l ll ne. slot_kept l ll h s (sheets_apart k l ll ne h w) (others l ll ne) in
          let none : next g.rows n own k s.slots ≡ None = steps_end g.rows rows n own k h.slots lo lk sound.records_fit sound.places_fit in
          let sheets : (l : ℕ) → l < n → next g.rows n own l s.slots ≡ None = λ l ll. ⊎_elim (λ e. subst (λ (z : ℕ). next g.rows n own z s.slots ≡ None) e none) (λ ne. (apart l ll ne).sheets) (cases_eq k l) in
          cond_both (may_propose g n own k s) (taken_below g n own n (proposed_below g n own n s)) (votes_taken g n own k s) AllDone
          (λ on. proposal_done k lk s ws sheets on) (λ off. votes_all k lk s ws sheets off apart)
