-- After proposing and the steps of all slots no step of a slot applies. Assumes nothing.
use Rattle.std.proofs.Common.{◌≡◌, ℕ, zero, suc, ◌<◌, ◌≤◌, ⊎_elim, Bool, true, false, eqb, leb, length, get_or, set, None, is_some, refl, sym, ap, ◌∙◌, subst, arith, get_or-set_same, get_or-set_other, length-set}
use Rattle.std.proofs.lemmas.Bool.{cond-false, cond_both, and_left, ne_eqb, cases_eq}
use Rattle.basis.specs.Counts.{count}
use Rattle.basis.specs.Halls.{quorum, largest}
use Rattle.basis.specs.Steps.{Idle}
use Rattle.ballots.specs.Listed.{Taking, listed_steps, all_taken}
use Rattle.ballots.specs.States.{Opened, place, unopened}
use Rattle.ballots.proofs.Order.{listed_order}
use Rattle.coins.specs.Coins.{Keeps as CoinKeeps}
use Rattle.openings.specs.Openings.{proposed}
use Rattle.phases.specs.Steps.{says, begun}
use Rattle.rules.specs.Rounds.{Round, cleared, voted, bit_set}
use Rattle.slots.specs.Places.{all_places}
use Rattle.slots.specs.declared.slot.Slot.{Slot}
use Rattle.slots.specs.Steps.{Slots, next, settled as sheets_settled}
use Rattle.outcomes.specs.Holdings.{Setting, Holding, is_delivered, ballot_at, state_of, with_slots}
use Rattle.outcomes.specs.Taking.{sheets_taken, votes_taken, may_propose, proposed_in, proposed_below, taken_below, slot_taken}
use Rattle.outcomes.specs.SlotSteps.{Turn, Roomy}
use Rattle.outcomes.proofs.Elsewhere.{sheets_kept, SheetsSame, sheets_alike, sheets_then, none_same, other_sheets}
use Rattle.outcomes.proofs.Ended.{idle_stays}
use Rattle.outcomes.proofs.Keeping.{Proposes, proposal_kept, kept_settled, Others, OthersKept, others_kept}
use Rattle.outcomes.proofs.Turning.{sheets_first, put_same, stays}
use Rattle.outcomes.proofs.Voting.{after_sheets, idle_by}

proposed_bit : (own x : ℕ) (m : Round) → (proposed own x m).entered ≡ x
proposed_bit own x m =
    let y : Round = says 32 x own (begun x m) in
    cond_both (eqb x 2) _ y (λ (z : Round). z.entered ≡ x) (λ _. cond_both (voted 33 own y) y (says 33 2 own y) (λ (z : Round). z.entered ≡ x) (λ _. refl) (λ _. refl)) (λ _. refl)

bit_some : (b : Bool) → 0 < bit_set b
bit_some true = omega arith
bit_some false = omega arith

module _ {R C : Type 0} (g : Setting R C) (n own : ℕ) where
  -- proposing changes the ballots alone
  record AllProposed (m : ℕ) (h h' : Holding R C) : Type 0 where
    slots : h'.slots ≡ h.slots
    coin : h'.coin ≡ h.coin
    size : length h'.ballots ≡ length h.ballots
    bits : (k : ℕ) → k < m → 0 < (ballot_at k h').opening.entered

  all_proposed : (m : ℕ) (h : Holding R C) → m ≤ length h.ballots → AllProposed m h (proposed_below g n own m h)
  unfolding proposed_below
  all_proposed zero h le = record { slots = refl; coin = refl; size = refl; bits = λ k l. absurd (omega arith) }
  all_proposed (suc m) h le =
      let p = all_proposed m h (omega arith) in
      let u = proposed_below g n own m h in
      let o = proposed_in g n own m u in
      let bit : 0 < o.opening.entered = subst (λ (x : ℕ). 0 < x) (sym (proposed_bit own (bit_set (is_delivered m u)) (ballot_at m u).opening)) (bit_some (is_delivered m u)) in
      let within : m < length u.ballots = (let e = p.size in omega arith) in
      record {
        slots = p.slots;
        coin = p.coin;
        size = length-set u.ballots m o ∙ p.size;
        bits = λ k l. ⊎_elim
            (λ here. subst (λ (i : ℕ). 0 < (get_or (set u.ballots m o) i unopened).opening.entered) (sym here) (subst (λ (y : Opened). 0 < y.opening.entered) (sym (get_or-set_same u.ballots m o unopened within)) bit))
            (λ ne. subst (λ (y : Opened). 0 < y.opening.entered) (sym (get_or-set_other u.ballots m k o unopened ne)) (p.bits k (omega arith)))
            (cases_eq k m);
      }

  -- the tables of sheets stay as long as they are
  abbrev Sized : Slots R → Slots R → Type 0
  Sized t t' = (length t'.records ≡ length t.records) × (length t'.places ≡ length t.places)

  sized_sheets : (m : ℕ) (t : Slots R) → Sized t (sheets_settled g.rows n own m 3 t)
  sized_sheets m t = sheets_kept g.rows n own m (λ u. Sized t u)
      (λ u x q. (q.0, length-set u.places _ _ ∙ q.1)) (λ u x q. (q.0, length-set u.places _ _ ∙ q.1)) (λ u j q. (length-set u.records _ _ ∙ q.0, q.1)) 3 t (refl, refl)

  sized_below : (m : ℕ) (h : Holding R C) → Sized h.slots (taken_below g n own m h).slots
  unfolding taken_below
  sized_below zero h = (refl, refl)
  sized_below (suc m) h = let q = sized_below m h in let r = sized_sheets m (taken_below g n own m h).slots in (r.0 ∙ q.0, r.1 ∙ q.1)

  module _ (k : ℕ) where
    -- what is told of slot k is the same, the coin is sound, and there are as many ballots
    record Apart (h h' : Holding R C) : Type 0 where
      sheets : SheetsSame g.rows n own k h.slots h'.slots
      ballot : ballot_at k h' ≡ ballot_at k h
      rounds : (r : ℕ) → r < 15 → get_or h'.rounds (place k r) cleared ≡ get_or h.rounds (place k r) cleared
      shown : (r : ℕ) → r < 15 → g.coins.shown h'.coin k (suc r) ≡ g.coins.shown h.coin k (suc r)
      sound : g.coins.sound h'.coin
      size : length h'.ballots ≡ length h.ballots

    apart_none : (h : Holding R C) → g.coins.sound h.coin → Apart h h
    apart_none h s = record { sheets = sheets_alike g.rows n own k h.slots; ballot = refl; rounds = λ r l. refl; shown = λ r l. refl; sound = s; size = refl }

    module _ (coins : CoinKeeps g.coins) (hall : n ≤ largest) (lo : own < n) (lk : k < n) where
      -- another slot takes its steps
      module _ (m : ℕ) (lm : m < n) (ne : m ≡ k → ⊥) (h u : Holding R C) (p : Apart h u) where
        abbrev sheeted : Holding R C
        sheeted = sheets_taken g n own m u

        abbrev taken : Taking C
        taken = all_taken g.rule g.coins n own m (is_delivered m sheeted) (state_of m sheeted)

        others : Others g.rule g.coins n own m u.rounds u.coin taken.state.rounds taken.state.coin
        unfolding all_taken
        others = kept_settled (OthersKept g.rule g.coins n own m coins (omega arith) (omega arith) u.rounds u.coin) (listed_steps g.rule g.coins n own m (is_delivered m sheeted)) 52
            (record { state = state_of m sheeted; called = 0; passed = 0 })
            (others_kept g.rule g.coins n own m coins (omega arith) (omega arith) u.rounds u.coin (is_delivered m sheeted))
            (record { sound = p.sound; rounds = λ l r z q. refl; shown = λ l r z w q. refl })

        apart_more : Apart h (votes_taken g n own m (sheets_taken g n own m u))
        apart_more = record {
          sheets = sheets_then g.rows n own k h.slots u.slots sheeted.slots p.sheets (other_sheets g.rows n own m k lo lk ne 3 u.slots);
          ballot = get_or-set_other u.ballots m k taken.state.ballot unopened (λ e. ne (sym e)) ∙ p.ballot;
          rounds = λ r l. others.rounds k r (λ e. ne (sym e)) l ∙ p.rounds r l;
          shown = λ r l. others.shown k r (λ e. ne (sym e)) (omega arith) l ∙ p.shown r l;
          sound = others.sound;
          size = length-set u.ballots m taken.state.ballot ∙ p.size;
        }

      -- so many slots from l on, none of which is slot k
      apart_below : (l m : ℕ) (h : Holding R C) → l ≤ m → m ≤ n → ((i : ℕ) → l ≤ i → i < m → i ≡ k → ⊥) → g.coins.sound (taken_below g n own l h).coin → Apart (taken_below g n own l h) (taken_below g n own m h)
      unfolding taken_below
      apart_below l zero h le lm apart s = subst (λ (i : ℕ). Apart (taken_below g n own l h) (taken_below g n own i h)) (let z : l ≡ 0 = omega arith in z) (apart_none (taken_below g n own l h) s)
      apart_below l (suc m) h le lm apart s = ⊎_elim
          (λ same. subst (λ (i : ℕ). Apart (taken_below g n own l h) (taken_below g n own i h)) same (apart_none (taken_below g n own l h) s))
          (λ ne. apart_more m (omega arith) (apart m (omega arith) (omega arith)) (taken_below g n own l h) (taken_below g n own m h) (apart_below l m h (omega arith) (omega arith) (λ i lo hi. apart i lo (omega arith)) s))
          (cases_eq l (suc m))

      -- h proposes
      module _ (h : Holding R C) (room : n ≤ length h.ballots) (sound : g.coins.sound h.coin) where
        abbrev p : Holding R C
        p = proposed_below g n own n h

        -- the replica before slot k's turn
        abbrev u : Holding R C
        u = taken_below g n own k p

        -- the ballot after it, and the replica
        abbrev x : Taking C
        x = all_taken g.rule g.coins n own k (is_delivered k u) (state_of k u)

        abbrev v : Holding R C
        v = votes_taken g n own k u

        -- the replica at last
        abbrev pub w : Holding R C
        w = taken_below g n own n p

        proposing : AllProposed n h p
        proposing = all_proposed n h room

        below : Apart p u
        unfolding taken_below
        below = apart_below 0 k p (omega arith) (omega arith) (λ i lo hi. omega arith) (subst g.coins.sound (sym proposing.coin) sound)

        -- with nothing proposed any more, slot k takes its steps
        off_u : may_propose g n own k (sheets_taken g n own k u) ≡ false
        off_u =
            let bit = subst (λ (o : Opened). 0 < o.opening.entered) (sym below.ballot) (proposing.bits k lk) in
            and_left (eqb (ballot_at k u).opening.entered 0) (leb (quorum n) (count n (λ l. is_delivered l (sheets_taken g n own k u)))) (ne_eqb (ballot_at k u).opening.entered 0 (λ e. omega arith))

        pub turn_is : taken_below g n own (suc k) p ≡ slot_taken g n own k u
        unfolding taken_below slot_taken
        turn_is =
            let t = sheets_taken g n own k u in
            sym (cond-false (may_propose g n own k t) (taken_below g n own n (proposed_below g n own n t)) (votes_taken g n own k t) off_u)

        pub roomy : n ≤ length h.slots.records → all_places n ≤ length h.slots.places → Roomy g n u
        roomy fr fp =
            let z = sized_below k p in
            let er : length p.slots.records ≡ length h.slots.records = ap (λ (t : Slots R). length t.records) proposing.slots in
            let ep : length p.slots.places ≡ length h.slots.places = ap (λ (t : Slots R). length t.places) proposing.slots in
            let eb = proposing.size in
            let es = below.size in
            record { slots = (let x = z.0 in omega arith); places = (let x = z.1 in omega arith); ballots = omega arith; coin = below.sound }

        -- slot k's sheets have taken their steps in h
        module _ (none : next g.rows n own k h.slots ≡ None) where
          none_u : next g.rows n own k u.slots ≡ None
          none_u = none_same g.rows n own k p.slots u.slots lo below.sheets (ap (next g.rows n own k) proposing.slots ∙ none)

          v_is : taken_below g n own (suc k) p ≡ v
          unfolding taken_below
          v_is = ap (λ (t : Slots R). votes_taken g n own k (with_slots t u)) (stays g n own k 3 u.slots none_u)

          sound_v : g.coins.sound v.coin
          unfolding all_taken
          sound_v =
              let kept : OthersKept g.rule g.coins n own k coins (omega arith) (omega arith) u.rounds u.coin x = kept_settled (OthersKept g.rule g.coins n own k coins (omega arith) (omega arith) u.rounds u.coin) (listed_steps g.rule g.coins n own k (is_delivered k u)) 52
              (record { state = state_of k u; called = 0; passed = 0 })
              (others_kept g.rule g.coins n own k coins (omega arith) (omega arith) u.rounds u.coin (is_delivered k u))
              (record { sound = below.sound; rounds = λ l r z q. refl; shown = λ l r z y q. refl }) in
              kept.sound

          above : Apart v w
          above = subst (λ (z : Holding R C). Apart z w) v_is (apart_below (suc k) n p (omega arith) (omega arith) (λ i lo hi. omega arith) (subst (λ (z : Holding R C). g.coins.sound z.coin) (sym v_is) sound_v))

          within : k < length u.ballots
          within = let e = proposing.size in let f = below.size in omega arith

          room_w : k < length w.ballots
          room_w = let e = above.size in let f = length-set u.ballots k x.state.ballot in let i = within in omega arith

          ballot_w : ballot_at k w ≡ x.state.ballot
          ballot_w = above.ballot ∙ get_or-set_same u.ballots k x.state.ballot unopened within

          proposal_w : 0 < (ballot_at k w).opening.entered
          unfolding all_taken
          proposal_w =
              let e = (ballot_at k u).opening.entered in
              let same : x.state.ballot.opening.entered ≡ e = kept_settled (Proposes g.rule g.coins n own k e) (listed_steps g.rule g.coins n own k (is_delivered k u)) 52
              (record { state = state_of k u; called = 0; passed = 0 }) (proposal_kept g.rule g.coins n own k e (is_delivered k u)) refl in
              subst (λ (i : ℕ). 0 < i) (sym (ap (λ (o : Opened). o.opening.entered) ballot_w ∙ same ∙ ap (λ (o : Opened). o.opening.entered) below.ballot)) (proposing.bits k lk)

          off : may_propose g n own k w ≡ false
          off = and_left (eqb (ballot_at k w).opening.entered 0) (leb (quorum n) (count n (λ l. is_delivered l w))) (ne_eqb (ballot_at k w).opening.entered 0 (λ e. let i = proposal_w in omega arith))

          idle_w : Idle (listed_steps g.rule g.coins n own k (is_delivered k w)) (record { state = state_of k w; called = 15; passed = 15 })
          idle_w = subst (λ (d : Bool). Idle (listed_steps g.rule g.coins n own k d) (record { state = state_of k w; called = 15; passed = 15 })) (sym (ap (λ (y : Slot). is_some y.delivered) above.sheets.delivery))
              (idle_stays g.rule g.coins n own k (is_delivered k u) x (state_of k w) ballot_w above.rounds above.shown (listed_order g.rule g.coins n own k (is_delivered k u) (state_of k u)).1)

          pub proposed_idle : Idle (sheets_first g n own k (after_sheets g n own k)) (record { holding = w; called = 15; passed = 15 })
          proposed_idle =
              let t : Taking C = record { state = state_of k w; called = 15; passed = 15 } in
              let same = put_same g n own k w room_w 15 15 in
              subst (Idle (sheets_first g n own k (after_sheets g n own k))) same
              (idle_by g n own k w room_w (none_same g.rows n own k v.slots w.slots lo above.sheets none_u) t (ap (λ (y : Turn R C). may_propose g n own k y.holding) same ∙ off) idle_w)
