-- A replica that has offered, in a hall where all sheets are one and all votes heard are for 1. Assumes nothing.
use Rattle.std.proofs.Common.{◌≡◌, ℕ, zero, suc, ◌<◌, ◌≤◌, true, false, not, ◌&&◌, eqb, ◌⊎◌, List, length, get_or, set, Some, Ok, sym, refl, ap, ◌∙◌, subst, inl, inr, ⊎_elim, le_refl, arith, length-set, get_or-set_other, get_or-set_same}
use Rattle.std.proofs.lemmas.Bool.{cases_eq, eq-eqb, and_parts, cond_both}
use Rattle.basis.specs.Bytes.{Octets}
use Rattle.basis.specs.Halls.{faults, quorum, beyond_faults}
use Rattle.basis.specs.declared.heard.Heard.TheVariants.{New}
use Rattle.basis.proofs.Counts.{count_some}
use Rattle.ballots.specs.Listed.{ballot_taken}
use Rattle.ballots.specs.States.{Opened, unopened}
use Rattle.broadcast.specs.Calls.{may_send}
use Rattle.broadcast.specs.Claims.{RowLaws}
use Rattle.broadcast.proofs.Moves.{at, many, others, Sound, Moves, moves_none}
use Rattle.broadcast.proofs.Tables.{holds_some, some_inj, other_not}
use Rattle.messages.specs.declared.message.Message.{Message}
use Rattle.messages.specs.declared.message.Message.TheVariants.{Sheet, Bit, Set, Share}
use Rattle.messages.specs.declared.message.Phase.{Phase}
use Rattle.messages.specs.declared.message.Phase.TheVariants.{Send, Echo, Ready}
use Rattle.messages.specs.Reading.{Lawful, placed}
use Rattle.messages.specs.Tags.{vote_tag}
use Rattle.messages.specs.Writing.{written}
use Rattle.sheets.specs.Holds.{holds}
use Rattle.slots.specs.Steps.{Slots}
use Rattle.outcomes.specs.Hearing.{message_answer, message_noted}
use Rattle.outcomes.specs.Holdings.{Setting, Holding, syntax_of, is_delivered, ballot_at, state_of, with_ballot}
use Rattle.outcomes.specs.Taking.{sheets_taken, votes_taken, may_propose, proposed_in, proposed_below, taken_below, votes_or_proposal, slot_taken, looked}
use Rattle.sheet_turns.proofs.Moving.{Moved, moved_none, moved_on, votes_moved, sheets_moved}
use Rattle.sheet_turns.proofs.Turns.{noted_moved}
use Rattle.evening_witness.proofs.Ballots.{BallotWell, Grows as Rises, grows_none, grows_on, Moves as Turns, proposal_moves, vote_moves, Taken, taken}

-- the messages that are heard: the sheet x, and votes for 1 in the opening round
abbrev pub Ours : List ℕ → Message (List ℕ) → Type 0
Ours x (Sheet ph k s) = s ≡ x
Ours x (Bit vote k r b) = (r ≡ 0) × (b ≡ true)
Ours x (Set tag k r v) = ⊥
Ours x (Share k r v) = ⊥

module _ {R C : Type 0} (g : Setting R C) (laws : RowLaws g.rows g.size g.lawful) (n : ℕ) (some : 1 ≤ faults n) (x : List ℕ) (own : ℕ) (lo : own < n) where
  -- the one sheet
  abbrev pub one : Phase → ℕ → ℕ → List ℕ → Type 0
  one ph k j z = z ≡ x

  abbrev pub Same : Slots R → Type 0
  Same t = (ph : Phase) (k j : ℕ) (z : List ℕ) → k < n → j < n → may_send ph k j ≡ true → at g.rows n t ph k j ≡ Some z → z ≡ x

  -- no other comes in
  module _ (t t' : Slots R) (sent : at g.rows n t' Send own own ≡ Some x) (same : Same t) (m : Moves g.rows n own one t t') where
    same_send : (k : ℕ) (z : List ℕ) → k < n → at g.rows n t' Send k k ≡ Some z → z ≡ x
    same_send k z lk e = ⊎_elim (same Send k k z lk lk (eq-eqb k k refl))
        (λ r. ⊎_elim (λ q. some_inj (ap (λ (i : ℕ). at g.rows n t' Send i i) (sym q) ∙ e) sent) (λ q. q) r)
        (m.only Send k k z lk lk (eq-eqb k k refl) e)

    same_echo : (k j : ℕ) (z : List ℕ) → k < n → j < n → at g.rows n t' Echo k j ≡ Some z → z ≡ x
    same_echo k j z lk lj e = ⊎_elim (same Echo k j z lk lj refl)
        (λ r. ⊎_elim (λ q. same_send k z lk (m.sound.echo k z lk (ap (at g.rows n t' Echo k) (sym q) ∙ e))) (λ q. q) r)
        (m.only Echo k j z lk lj refl e)

    ready_cause : (k : ℕ) (z : List ℕ) → k < n → (quorum n ≤ many g.rows n t' Echo k z) ⊎ (beyond_faults n ≤ others g.rows n own t' k z) → z ≡ x
    ready_cause k z lk (inl q) = let c = count_some n (λ j. holds z (at g.rows n t' Echo k j)) (omega arith) in same_echo k c.0 z lk c.1 (holds_some z _ c.2)
    ready_cause k z lk (inr q) =
        let c = count_some n (λ j. holds z (at g.rows n t' Ready k j) && not (eqb j own)) (omega arith) in
        let p = and_parts _ _ c.2 in
        ⊎_elim (same Ready k c.0 z lk c.1 refl) (λ r. ⊎_elim (λ d. absurd (other_not own c.0 p.1 d)) (λ d. d) r) (m.only Ready k c.0 z lk c.1 refl (holds_some z _ p.0))

    pub same_moved : Same t'
    same_moved Send k j z lk lj may e = same_send k z lk e
    same_moved Echo k j z lk lj may e = same_echo k j z lk lj e
    same_moved Ready k j z lk lj may e = ⊎_elim (same Ready k j z lk lj refl)
        (λ r. ⊎_elim (λ q. ready_cause k z lk (m.sound.ready k z lk (ap (at g.rows n t' Ready k) (sym q) ∙ e))) (λ q. q) r)
        (m.only Ready k j z lk lj refl e)

  -- what is known of a replica
  pub record ReplicaWell (h : Holding R C) : Type 0 where
    pub sound : Sound g.rows n own h.slots
    pub sent : at g.rows n h.slots Send own own ≡ Some x
    pub same : Same h.slots
    pub room : n ≤ length h.ballots
    pub ballots_well : (k : ℕ) → k < n → BallotWell own (ballot_at k h)

  -- and of what it comes to
  pub record Later (h h' : Holding R C) : Type 0 where
    pub well : ReplicaWell h'
    pub moved : Moved g n own one h h'
    pub grown : (k : ℕ) → k < n → Rises own (ballot_at k h) (ballot_at k h')

  pub later_none : (h : Holding R C) → ReplicaWell h → Later h h
  later_none h e = record { well = e; moved = moved_none g n own one e.sound; grown = λ k lk. grows_none own (ballot_at k h) }

  pub later_on : {h u v : Holding R C} → Later h u → Later u v → Later h v
  later_on a b = record { well = b.well; moved = moved_on g n own one a.moved b.moved; grown = λ k lk. grows_on own (a.grown k lk) (b.grown k lk) }

  later_from : (h h' : Holding R C) → ReplicaWell h → Moved g n own one h h' → ((k : ℕ) → k < n → Turns own (ballot_at k h) (ballot_at k h')) → Later h h'
  later_from h h' e m b = record {
    well = record {
      sound = m.moves.sound;
      sent = m.moves.grows.sheets Send own own x lo lo e.sent;
      same = same_moved h.slots h'.slots (m.moves.grows.sheets Send own own x lo lo e.sent) e.same m.moves;
      room = (let q = m.lengths.ballots in let r = e.room in omega arith);
      ballots_well = λ k lk. (b k lk).well;
    };
    moved = m;
    grown = λ k lk. (b k lk).grows;
  }

  -- where no ballot has changed
  unturned : (h : Holding R C) → ReplicaWell h → (k : ℕ) → k < n → Turns own (ballot_at k h) (ballot_at k h)
  unturned h e k lk = record { well = e.ballots_well k lk; grows = grows_none own (ballot_at k h) }

  -- and where one has
  one_turned : (h : Holding R C) → ReplicaWell h → (k : ℕ) (o : Opened) → Turns own (ballot_at k h) o → (l : ℕ) → l < n → Turns own (ballot_at l h) (get_or (set h.ballots k o) l unopened)
  one_turned h e k o t l ll = ⊎_elim
      (λ d. subst (λ (i : ℕ). Turns own (ballot_at i h) (get_or (set h.ballots k o) i unopened)) (sym d)
      (subst (Turns own (ballot_at k h)) (sym (get_or-set_same h.ballots k o unopened (let r = e.room in omega arith))) t))
      (λ ne. subst (Turns own (ballot_at l h)) (sym (get_or-set_other h.ballots k l o unopened ne)) (unturned h e l ll))
      (cases_eq l k)

  pub sheets_later : (k : ℕ) → k < n → (h : Holding R C) → ReplicaWell h → Later h (sheets_taken g n own k h)
  sheets_later k lk h e = later_from h _ e (sheets_moved g n own one laws lo k lk h e.sound) (unturned h e)

  abbrev pub votes_of : ℕ → Holding R C → Opened
  votes_of k h = (ballot_taken g.rule g.coins n own k (is_delivered k h) (state_of k h)).ballot

  pub votes_done : (k : ℕ) → k < n → (h : Holding R C) → ReplicaWell h → Taken g.rule g.coins n own k some (is_delivered k h) (ballot_at k h) (votes_of k h)
  votes_done k lk h e = taken g.rule g.coins n own k some (is_delivered k h) (state_of k h) (e.ballots_well k lk)

  pub votes_here : (k : ℕ) → k < n → (h : Holding R C) → ReplicaWell h → ballot_at k (votes_taken g n own k h) ≡ votes_of k h
  votes_here k lk h e = get_or-set_same h.ballots k (votes_of k h) unopened (let r = e.room in omega arith)

  pub votes_later : (k : ℕ) → k < n → (h : Holding R C) → ReplicaWell h → Later h (votes_taken g n own k h)
  votes_later k lk h e = later_from h _ e (votes_moved g n own one k h e.sound) (one_turned h e k (votes_of k h) (votes_done k lk h e).moves)

  -- proposing in one ballot, and in those below m
  proposes_later : (k : ℕ) → k < n → (h : Holding R C) → ReplicaWell h → Later h (with_ballot k (proposed_in g n own k h) h)
  proposes_later k lk h e = later_from h _ e
      (record { life = refl; lengths = record { records = refl; places = refl; ballots = length-set h.ballots k _; rounds = refl }; moves = moves_none g.rows n e.sound })
      (one_turned h e k (proposed_in g n own k h) (proposal_moves own n (is_delivered k h) (ballot_at k h) (e.ballots_well k lk)).0)

  -- a replica has proposed in ballot k
  abbrev pub Proposed : ℕ → Holding R C → Type 0
  Proposed k h = 0 < (ballot_at k h).opening.entered

  pub proposed_stays : {h h' : Holding R C} → Later h h' → (k : ℕ) → k < n → Proposed k h → Proposed k h'
  proposed_stays l k lk p = (l.grown k lk).round.entered p

  proposed_later : (m : ℕ) → m ≤ n → (h : Holding R C) → ReplicaWell h → Later h (proposed_below g n own m h) × ((k : ℕ) → k < m → Proposed k (proposed_below g n own m h))
  unfolding proposed_below
  proposed_later zero le h e = (later_none h e, λ k lk. absurd (omega arith))
  proposed_later (suc m) le h e =
      let a = proposed_later m (omega arith) h e in
      let u = proposed_below g n own m h in
      let b = proposes_later m (omega arith) u a.0.well in
      let o = proposed_in g n own m u in
      let here : ballot_at m (with_ballot m o u) ≡ o = get_or-set_same u.ballots m o unopened (let r = a.0.well.room in omega arith) in (
        later_on a.0 b,
        λ k lk. ⊎_elim
            (λ d. subst (λ (i : ℕ). Proposed i (with_ballot m o u)) (sym d) (subst (λ (w : Opened). 0 < w.opening.entered) (sym here) (proposal_moves own n (is_delivered m u) (ballot_at m u) (a.0.well.ballots_well m (omega arith))).1))
            (λ ne. proposed_stays b k (omega arith) (a.1 k (omega arith))) (cases_eq k m),
      )

  below_later : (m : ℕ) → m ≤ n → (h : Holding R C) → ReplicaWell h → Later h (taken_below g n own m h)
  unfolding taken_below
  below_later zero le h e = later_none h e
  below_later (suc m) le h e =
      let a = below_later m (omega arith) h e in
      let b = sheets_later m (omega arith) _ a.well in
      later_on a (later_on b (votes_later m (omega arith) _ b.well))

  -- proposing with the steps of all slots
  pub proposal_later : (h : Holding R C) → ReplicaWell h → Later h (taken_below g n own n (proposed_below g n own n h)) × ((k : ℕ) → k < n → Proposed k (taken_below g n own n (proposed_below g n own n h)))
  proposal_later h e =
      let a = proposed_later n (le_refl n) h e in
      let b = below_later n (le_refl n) _ a.0.well in
      (later_on a.0 b, λ k lk. proposed_stays b k lk (a.1 k lk))

  pub rest_later : (k : ℕ) → k < n → (h : Holding R C) → ReplicaWell h → Later h (votes_or_proposal g n own k h)
  rest_later k lk h e = cond_both (may_propose g n own k h) _ (votes_taken g n own k h) (Later h) (λ _. (proposal_later h e).0) (λ _. votes_later k lk h e)

  pub slot_later : (k : ℕ) → k < n → (h : Holding R C) → ReplicaWell h → Later h (slot_taken g n own k h)
  unfolding slot_taken
  slot_later k lk h e = let a = sheets_later k lk h e in later_on a (rest_later k lk _ a.well)

  pub looked_later : (m : ℕ) → m ≤ n → (h : Holding R C) → ReplicaWell h → Later h (looked g n own m h)
  unfolding looked
  looked_later zero le h e = later_none h e
  looked_later (suc m) le h e = let a = looked_later m (omega arith) h e in later_on a (slot_later m (omega arith) _ a.well)

  -- what the steps of slot k bring about, and what then stays, looking brings about
  pub looked_has : (Q : Holding R C → Type 0) → ((h h' : Holding R C) → Later h h' → Q h → Q h') → (k : ℕ) (h : Holding R C) → ReplicaWell h → ((u : Holding R C) → Later h u → Q (slot_taken g n own k u)) →
      (m : ℕ) → m ≤ n → k < m → Q (looked g n own m h)
  unfolding looked
  looked_has Q stays k h e brings zero le lk = absurd (omega arith)
  looked_has Q stays k h e brings (suc m) le lk =
      let a = looked_later m (omega arith) h e in ⊎_elim
      (λ d. subst (λ (i : ℕ). Q (slot_taken g n own i (looked g n own m h))) d (brings _ a))
      (λ ne. stays _ _ (slot_later m (omega arith) _ a.well) (looked_has Q stays k h e brings m (omega arith) (omega arith))) (cases_eq k m)

  -- recording such a message
  pub noted_later : (j : ℕ) → j < n → (j ≡ own → ⊥) → (h : Holding R C) → ReplicaWell h → (m : Message (List ℕ)) → Ours x m → Lawful (syntax_of g n) m → Octets (written m) → message_answer g n own j h (placed m) ≡ Ok New → Later h (message_noted g n own j (placed m) h)
  noted_later j lj ne h e (Sheet ph k s) our law oct new = later_from h _ e (noted_moved g n own one laws lo j lj ne h e.sound (Sheet ph k s) law oct new our) (unturned h e)
  noted_later j lj ne h e (Bit vote k zero true) our law oct new = later_from h _ e (noted_moved g n own one laws lo j lj ne h e.sound (Bit vote k zero true) law oct new tt)
      (one_turned h e k _ (vote_moves own (vote_tag vote) j (ballot_at k h) (e.ballots_well k law.0)))
  noted_later j lj ne h e (Bit vote k zero false) our law oct new = absurd (let q = our.1 in let z : ◌≡◌ {A = ℕ} 0 1 = cc in omega arith)
  noted_later j lj ne h e (Bit vote k (suc r) b) our law oct new = absurd (let q = our.0 in omega arith)
  noted_later j lj ne h e (Set tag k r v) our law oct new = absurd our
  noted_later j lj ne h e (Share k r v) our law oct new = absurd our
