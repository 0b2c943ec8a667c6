-- Evenings can close: from any hall that is opened, replicas that are all honest can come to close. Assumes nothing.
use Rattle.std.proofs.Common.{◌≡◌, ℕ, ◌+◌, ◌*◌, ◌<◌, ◌≤◌, Bool, true, eqb, List, Some, sym, refl, ap, ◌∙◌, subst, le_refl, arith}
use Rattle.std.proofs.lemmas.Bool.{eqb-true, eq-eqb}
use Rattle.basis.specs.Bytes.{Octets}
use Rattle.basis.specs.Halls.{faults}
use Rattle.broadcast.specs.Calls.{may_send}
use Rattle.broadcast.specs.Claims.{RowLaws}
use Rattle.broadcast.proofs.Moves.{at as sheet_at}
use Rattle.messages.specs.declared.message.Message.TheVariants.{Sheet, Bit}
use Rattle.messages.specs.declared.message.Phase.{Phase}
use Rattle.messages.specs.declared.message.Phase.TheVariants.{Send, Echo, Ready}
use Rattle.messages.specs.declared.message.Vote.{Vote}
use Rattle.messages.specs.declared.message.Vote.TheVariants.{First, Second}
use Rattle.messages.specs.Tags.{vote_tag}
use Rattle.phases.specs.declared.round.PhasedRound.{PhasedRound}
use Rattle.phases.specs.Records.{meaning_of}
use Rattle.outcomes.specs.Calls.{offer, close, Allowed, call_after}
use Rattle.outcomes.specs.Holdings.{Closed, Setting, Holding, is_delivered, ballot_at}
use Rattle.outcomes.specs.Opening.{Opened}
use Rattle.outcomes.specs.Taking.{slot_taken, looked}
use Rattle.evenings.specs.Evenings.{Replica, held, AllOpen, Leads, nothing}
use Rattle.evening_witness.specs.Witness.{everyone}
use Rattle.evening_witness.proofs.Rows.{Writable}
use Rattle.evening_witness.proofs.Turning.{ReplicaWell, Later, looked_later, looked_has}
use Rattle.evening_witness.proofs.Looking.{recorded_stays, delivered_stays, voted_stays, started_stays, decided_stays, echo_said, ready_said, delivers, proposes, first_said, second_said, decides}
use Rattle.evening_witness.proofs.Offering.{Offered, offered, closes, sheet_octets, vote_octets}
use Rattle.evening_witness.proofs.Halls.{Spread, each_calls, all_look, all_hear}

module _ {R C : Type 0} (g : Setting R C) (rule : Writable g.rule) (laws : RowLaws g.rows g.size g.lawful) (n : ℕ) (some : 1 ≤ faults n) (thirds : n ≡ 3 * faults n + 1) (small : n ≤ 16) (x : List ℕ) (law : g.lawful x ≡ true) (oct : Octets x) where
  abbrev Hall : Type 0
  Hall = ℕ → Replica R C PhasedRound

  abbrev at : Hall → ℕ → Holding R C
  at s i = held meaning_of (s i)

  abbrev Well : (i : ℕ) → i < n → Holding R C → Type 0
  Well i li h = Offered g laws n some x law oct i li h

  abbrev Good : Hall → Type 0
  Good s = (i : ℕ) (li : i < n) → Well i li (at s i)

  abbrev E : (i : ℕ) → i < n → Holding R C → Type 0
  E i li h = ReplicaWell g laws n some x i li h

  abbrev L : (i : ℕ) → i < n → Holding R C → Holding R C → Type 0
  L i li h h' = Later g laws n some x i li h h'

  -- what holds at replica i
  abbrev Fact : Type 1
  Fact = ℕ → Holding R C → Type 0

  abbrev Rec : Phase → ℕ → ℕ → Holding R C → Type 0
  Rec ph k j h = sheet_at g.rows n h.slots ph k j ≡ Some x

  abbrev Vote-of : ℕ → ℕ → ℕ → Holding R C → Type 0
  Vote-of t k j h = (ballot_at k h).opening.votes t 2 j ≡ true

  abbrev Delivered : ℕ → Holding R C → Type 0
  Delivered k h = is_delivered k h ≡ true

  abbrev Started : ℕ → Holding R C → Type 0
  Started k h = 0 < (ballot_at k h).opening.entered

  abbrev Decided : ℕ → Holding R C → Type 0
  Decided k h = 0 < (ballot_at k h).decided

  -- what looking brings about of each slot
  looks_have : (i : ℕ) (li : i < n) (Q : ℕ → Holding R C → Type 0) → ((k : ℕ) → k < n → (h h' : Holding R C) → L i li h h' → Q k h → Q k h') → (h : Holding R C) → E i li h →
      ((k : ℕ) → k < n → (u : Holding R C) → L i li h u → Q k (slot_taken g n i k u)) → (k : ℕ) → k < n → Q k (looked g n i n h)
  looks_have i li Q stays h e brings k lk = looked_has g laws n some x i li (Q k) (stays k lk) k h e (brings k lk) n (le_refl n) lk

  -- what a looking replica has before and after
  abbrev Sent : Fact
  Sent i h = (k : ℕ) → k < n → Rec Send k k h

  abbrev Heard : Phase → Fact
  Heard ph i h = (k j : ℕ) → k < n → j < n → Rec ph k j h

  abbrev Says : Phase → Fact
  Says ph i h = (k : ℕ) → k < n → Rec ph k i h

  abbrev Delivers : Fact
  Delivers i h = (k : ℕ) → k < n → Delivered k h

  abbrev Begun : Fact
  Begun i h = (k : ℕ) → k < n → Delivered k h × Started k h

  abbrev Votes : ℕ → Fact
  Votes t i h = (k : ℕ) → k < n → Vote-of t k i h

  abbrev HeardVotes : ℕ → Fact
  HeardVotes t i h = (k j : ℕ) → k < n → j < n → Vote-of t k j h

  abbrev Decides : Fact
  Decides i h = (k : ℕ) → k < n → Delivered k h × Decided k h

  begun_stays : (i : ℕ) (li : i < n) (h h' : Holding R C) → L i li h h' → Begun i h → Begun i h'
  begun_stays i li h h' l b k lk = (delivered_stays g laws n some thirds x i li k lk h h' l (b k lk).0, started_stays g laws n some thirds x i li k lk h h' l (b k lk).1)

  votes_stay : (t i : ℕ) (li : i < n) (h h' : Holding R C) → L i li h h' → HeardVotes t i h → HeardVotes t i h'
  votes_stay t i li h h' l v k j lk lj = voted_stays g laws n some thirds x i li t k j lk h h' l (v k j lk lj)

  module _ (i : ℕ) (li : i < n) (h : Holding R C) (e : E i li h) where
    all : L i li h (looked g n i n h)
    all = looked_later g laws n some x i li n (le_refl n) h e

    look_echoes : Sent i h → Says Echo i (looked g n i n h)
    look_echoes f = looks_have i li (λ k. Rec Echo k i) (λ k lk. recorded_stays g laws n some thirds x i li Echo k i lk li) h e
        (λ k lk u l. echo_said g laws n some thirds x i li k lk u l.well (recorded_stays g laws n some thirds x i li Send k k lk lk h u l (f k lk)))

    look_readies : Heard Echo i h → Says Ready i (looked g n i n h)
    look_readies f = looks_have i li (λ k. Rec Ready k i) (λ k lk. recorded_stays g laws n some thirds x i li Ready k i lk li) h e
        (λ k lk u l. ready_said g laws n some thirds x i li k lk u l.well (λ j lj. recorded_stays g laws n some thirds x i li Echo k j lk lj h u l (f k j lk lj)))

    look_delivers : Heard Ready i h → Delivers i (looked g n i n h)
    look_delivers f = looks_have i li Delivered (delivered_stays g laws n some thirds x i li) h e
        (λ k lk u l. delivers g laws n some thirds x i li k lk u l.well (λ j lj. recorded_stays g laws n some thirds x i li Ready k j lk lj h u l (f k j lk lj)))

    look_begins : Delivers i h → Begun i (looked g n i n h)
    look_begins f k lk = (
      delivered_stays g laws n some thirds x i li k lk h _ all (f k lk),
      looks_have i li Started (started_stays g laws n some thirds x i li) h e
          (λ k lk u l. proposes g laws n some thirds x i li k lk u l.well (λ m lm. delivered_stays g laws n some thirds x i li m lm h u l (f m lm))) k lk,
    )

    look_votes : Begun i h → Begun i (looked g n i n h) × Votes 32 i (looked g n i n h)
    look_votes f = (
      begun_stays i li h _ all f,
      looks_have i li (λ k. Vote-of 32 k i) (λ k lk. voted_stays g laws n some thirds x i li 32 k i lk) h e
          (λ k lk u l. let b = begun_stays i li h u l f k lk in first_said g laws n some thirds x i li k lk u l.well b.0 b.1),
    )

    look_again : Begun i h × HeardVotes 32 i h → (Begun i (looked g n i n h) × HeardVotes 32 i (looked g n i n h)) × Votes 33 i (looked g n i n h)
    look_again f = (
      (begun_stays i li h _ all f.0, votes_stay 32 i li h _ all f.1),
      looks_have i li (λ k. Vote-of 33 k i) (λ k lk. voted_stays g laws n some thirds x i li 33 k i lk) h e
          (λ k lk u l. second_said g laws n some thirds x i li k lk u l.well (begun_stays i li h u l f.0 k lk).1 (λ j lj. votes_stay 32 i li h u l f.1 k j lk lj)),
    )

    look_decides : (Begun i h × HeardVotes 32 i h) × HeardVotes 33 i h → Decides i (looked g n i n h)
    look_decides f k lk = (
      delivered_stays g laws n some thirds x i li k lk h _ all (f.0.0 k lk).0,
      looks_have i li Decided (decided_stays g laws n some thirds x i li) h e
          (λ k lk u l. decides g laws n some thirds x i li k lk u l.well (begun_stays i li h u l f.0.0 k lk).1 (λ j lj. votes_stay 32 i li h u l f.0.1 k j lk lj) (λ j lj. votes_stay 33 i li h u l f.1 k j lk lj)) k lk,
    )

  module _ (start : Hall) where
    -- a hall of the evening, where something holds at each replica
    record Here (P : Fact) : Type 0 where
      hall : Hall
      run : Leads g meaning_of n everyone start hall
      good : Good hall
      fact : (i : ℕ) → i < n → P i (at hall i)

    look_to : (F G : Fact) → ((i : ℕ) (li : i < n) (h : Holding R C) → E i li h → F i h → G i (looked g n i n h)) → Here F → Here G
    look_to F G brings s =
        let r = all_look g rule laws n some x law oct start (λ i li. F i) (λ i li. G i) brings s.hall s.run s.good s.fact in
        record { hall = r.0; run = r.1; good = r.2; fact = r.3 }

    -- all hear the sheets of one phase
    module _ (ph : Phase) (ok : ℕ → ℕ → Bool) (may : (k j : ℕ) → ok k j ≡ true → may_send ph k j ≡ true) (F : Fact) (said : (k j : ℕ) → k < n → j < n → ok k j ≡ true → (h : Holding R C) → F j h → Rec ph k j h) where
      sheets_heard : (s : Here F) → Spread g rule laws n some x law oct start (λ k. Sheet ph k x) ok (λ k lk. refl) (λ k lk. (lk, law)) (λ k lk. lk) (λ k lk. sheet_octets ph k x (omega arith) oct) (λ k j lk lj t. may k j t) s.hall
      sheets_heard s = all_hear g rule laws n some x law oct start (λ k. Sheet ph k x) ok (λ k lk. refl) (λ k lk. (lk, law)) (λ k lk. lk) (λ k lk. sheet_octets ph k x (omega arith) oct) (λ k j lk lj t. may k j t) s.hall s.run s.good (λ k j lk lj t. said k j lk lj t (at s.hall j) (s.fact j lj))

    hear_sends : Here (λ i h. Rec Send i i h) → Here Sent
    hear_sends s =
        let r = sheets_heard Send (λ k j. eqb k j) (λ k j t. t) (λ i h. Rec Send i i h) (λ k j lk lj t h f. subst (λ (z : ℕ). Rec Send z j h) (sym (eqb-true k j t)) f) s in
        record { hall = r.hall; run = r.run; good = r.good; fact = λ i li k lk. r.has i k k li lk lk (eq-eqb k k refl) }

    hear_phase : (ph : Phase) → ((k j : ℕ) → may_send ph k j ≡ true) → Here (Says ph) → Here (Heard ph)
    hear_phase ph may s =
        let r = sheets_heard ph (λ k j. true) (λ k j t. may k j) (Says ph) (λ k j lk lj t h f. f k lk) s in
        record { hall = r.hall; run = r.run; good = r.good; fact = λ i li k j lk lj. r.has i k j li lk lj refl }

    -- all hear the votes for 1 under one tag, F being what stays
    hear_votes : (vote : Vote) (F : Fact) → ((i : ℕ) (li : i < n) (h h' : Holding R C) → L i li h h' → F i h → F i h') → Here (λ i h. F i h × Votes (vote_tag vote) i h) → Here (λ i h. F i h × HeardVotes (vote_tag vote) i h)
    hear_votes vote F stays s =
        let r = all_hear g rule laws n some x law oct start (λ k. Bit vote k 0 true) (λ k j. true) (λ k lk. (refl, refl)) (λ k lk. (lk, omega arith)) (λ k lk. lk) (λ k lk. vote_octets vote k (omega arith)) (λ k j lk lj t. tt) s.hall s.run s.good (λ k j lk lj t. (s.fact j lj).1 k lk) in
        record { hall = r.hall; run = r.run; good = r.good; fact = λ i li. (stays i li _ _ (r.after i li) (s.fact i li).0, λ k j lk lj. r.has i k j li lk lj refl) }

    -- a replica that has offered, and one that has closed
    record Sends (i : ℕ) (t : Replica R C PhasedRound) : Type 0 where
      well : (li : i < n) → Well i li (held meaning_of t)
      sent : Rec Send i i (held meaning_of t)

    record Ends (i : ℕ) (t : Replica R C PhasedRound) : Type 0 where
      well : (li : i < n) → Well i li (held meaning_of t)
      decides : Decides i (held meaning_of t)

    offer_step : (i : ℕ) → i < n → (t : Replica R C PhasedRound) → Opened g n i (held meaning_of t) → Allowed g (offer x) (held meaning_of t) × ((t' : Replica R C PhasedRound) → held meaning_of t' ≡ call_after g n i (offer x) (held meaning_of t) → Sends i t')
    offer_step i lo t o = (
      (o.fresh, law, oct),
      λ t' e. record {
        well = λ li. subst (Well i li) (sym e) (offered g laws n some x law oct i (held meaning_of t) o li).0;
        sent = subst (Rec Send i i) (sym e) (offered g laws n some x law oct i (held meaning_of t) o lo).1;
      },
    )

    all_offer : AllOpen g meaning_of n everyone start → Here (λ i h. Rec Send i i h)
    all_offer o =
        let r = each_calls g rule laws n some x law oct start (λ i t. Opened g n i (held meaning_of t)) Sends (λ i. offer x) (λ s i. tt) offer_step start nothing (λ i li. o i (li, refl)) in
        record { hall = r.0; run = r.1; good = λ i li. (r.2 i li).well li; fact = λ i li. (r.2 i li).sent }

    -- all deliver, decide and close
    all_begin : Here (λ i h. Rec Send i i h) → Here Begun
    all_begin s =
        let a = look_to Sent (Says Echo) look_echoes (hear_sends s) in
        let b = look_to (Heard Echo) (Says Ready) look_readies (hear_phase Echo (λ k j. refl) a) in
        let c = look_to (Heard Ready) Delivers look_delivers (hear_phase Ready (λ k j. refl) b) in
        look_to Delivers Begun look_begins c

    all_decide : Here Begun → Here Decides
    all_decide s =
        let a = hear_votes First Begun begun_stays (look_to Begun (λ i h. Begun i h × Votes 32 i h) look_votes s) in
        let b = look_to (λ i h. Begun i h × HeardVotes 32 i h) (λ i h. (Begun i h × HeardVotes 32 i h) × Votes 33 i h) look_again a in
        let c = hear_votes Second (λ i h. Begun i h × HeardVotes 32 i h) (λ i li h h' l f. (begun_stays i li h h' l f.0, votes_stay 32 i li h h' l f.1)) b in
        look_to (λ i h. (Begun i h × HeardVotes 32 i h) × HeardVotes 33 i h) Decides look_decides c

    close_step : (i : ℕ) → i < n → (t : Replica R C PhasedRound) → Ends i t → Allowed g close (held meaning_of t) × ((t' : Replica R C PhasedRound) → held meaning_of t' ≡ call_after g n i close (held meaning_of t) → t'.life ≡ Closed)
    close_step i lo t d = ((d.well lo).live, λ t' e. ap (λ (h : Holding R C). h.life) e ∙ closes g laws n some x law oct i lo (held meaning_of t) (d.well lo) (λ k lk. (d.decides k lk).0) (λ k lk. (d.decides k lk).1))

    all_close : Here Decides → (u : Hall) × Leads g meaning_of n everyone start u × ((i : ℕ) → i < n → (u i).life ≡ Closed)
    all_close s = each_calls g rule laws n some x law oct start Ends (λ i t. t.life ≡ Closed) (λ i. close) (λ s i. tt) close_step s.hall s.run (λ i li. record { well = λ lj. s.good i lj; decides = s.fact i li })

    pub evening_closes : AllOpen g meaning_of n everyone start → (u : Hall) × Leads g meaning_of n everyone start u × ((i : ℕ) → i < n → (u i).life ≡ Closed)
    evening_closes o = all_close (all_decide (all_begin (all_offer o)))
