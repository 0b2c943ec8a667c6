-- Whatever a call leaves, some tables mean it. Assumes nothing.
use Rattle.std.proofs.Common.{◌≡◌, ℕ, zero, suc, ◌<◌, Bool, true, false, cond, ◌&&◌, eqb, ltb, List, [], ◌∷◌, map, get_or, set, Some, None, Ok, Err, Option, Result, sym, refl, ap, ◌∙◌, subst, ap₂, arith}
use Rattle.std.proofs.Math.Seq.{map-set_same}
use Rattle.std.proofs.lemmas.List.{map-set}
use Rattle.std.proofs.lemmas.Bool.{eqb-true, eqb-false, cond_both, and_parts, ltb-true}
use Rattle.basis.specs.Refusals.{Refused}
use Rattle.basis.specs.declared.heard.Heard.{Heard}
use Rattle.basis.specs.declared.heard.Heard.TheVariants.{New, Known}
use Rattle.ballots.specs.declared.ballot.Ballot.{Ballot}
use Rattle.ballots.specs.declared.ballot.Stage.TheVariants.{InRound}
use Rattle.ballots.specs.Ballots.{next_bit, with_opening, went_on, may_go, face, verdict_at, ruled, shared, gone_on, round_settled, later_settled}
use Rattle.ballots.specs.Listed.{reproposed, ballot_taken}
use Rattle.ballots.specs.States.{Opened, BallotState, ballot_meaning, unopened, place}
use Rattle.ballots.proofs.Order.{listed_order}
use Rattle.broadcast.specs.Calls.{if_new}
use Rattle.broadcast.proofs.Settling.{Step, echoes, readies, delivers, rests, stepped}
use Rattle.coins.specs.Coins.{take_after}
use Rattle.messages.specs.declared.message.Message.{Message}
use Rattle.messages.specs.declared.message.Message.TheVariants.{Sheet, Bit, Set, Share}
use Rattle.messages.specs.declared.message.BitSet.{BitSet}
use Rattle.messages.specs.declared.message.BitSet.TheVariants.{Zero, One, Both}
use Rattle.messages.specs.Reading.{Placed, reading}
use Rattle.messages.specs.Tags.{bits_number, vote_tag}
use Rattle.phases.specs.declared.round.PhasedRound.{PhasedRound}
use Rattle.phases.specs.Records.{meaning_of}
use Rattle.rules.specs.Rounds.{Round, cleared, bit_if_any, set_if_any}
use Rattle.slots.specs.declared.slot.Slot.{Slot}
use Rattle.slots.specs.Steps.{Slots, settled}
use Rattle.openings.specs.Openings.{again, opening_settled}
use Rattle.outcomes.specs.declared.opening_record.OpeningRecord.{OpeningRecord}
use Rattle.outcomes.specs.Calls.{Call, offer, hear, look, say, close, list, write, call_after, if_accepted}
use Rattle.outcomes.specs.Closing.{closing_view, close_answer}
use Rattle.outcomes.specs.Hearing.{hear_answer_lem, message_noted, message_taken, vote_noted, share_from}
use Rattle.outcomes.specs.Holdings.{Life, Closed, Setting, Holding, syntax_of, sizes_ok, ballot_at, state_of, is_delivered, with_slots, with_ballot, with_rounds, with_life, with_coin}
use Rattle.outcomes.specs.Tables.{slots_in, ballots_in}
use Rattle.outcomes.specs.Taking.{sheets_taken, votes_taken, may_propose, proposed_in, proposed_below, taken_below, slot_taken, looked}
use Rattle.evenings.specs.Evenings.{Replica, held}
use Rattle.evening_witness.proofs.Rows.{Written, cleared_written, heard_written, bit_named, proposed_written, again_written, opening_written, Writable}

-- some record means the ballot
abbrev pub BallotWritten : Opened → Type 0
BallotWritten o = (b : Ballot) × (ballot_meaning b ≡ o)

-- a decided bit, or none
abbrev Bit-or-none : ℕ → Type 0
Bit-or-none d = (b : Option Bool) × (bit_if_any b ≡ d)

kept_from : (o : Opened) → Written o.opening → Bit-or-none o.decided → BallotWritten o
kept_from o w d = (record { opening = w.0; stage = InRound o.stage; decided = d.0 }, ap₂ (λ (m : Round) (x : ℕ). record { opening = m; stage = o.stage; decided = x }) w.1 d.1)

kept_opening : (o : Opened) → BallotWritten o → Written o.opening
kept_opening o k = (k.0.opening, ap (λ (p : Opened). p.opening) k.1)

kept_decided : (o : Opened) → BallotWritten o → Bit-or-none o.decided
kept_decided o k = (k.0.decided, ap (λ (p : Opened). p.decided) k.1)

-- what is read in a row, or where there is none
got : {X Y : Type 0} (f : X → Y) (d : Y) → ((x : X) × (f x ≡ d)) → (xs : List X) (k : ℕ) → (x : X) × (f x ≡ get_or (map f xs) k d)
got f d e [] k = e
got f d e (x ∷ xs) zero = (x, refl)
got f d e (x ∷ xs) (suc k) = got f d e xs k

-- some rows mean the rounds
abbrev pub RoundsWritten : List Round → Type 0
RoundsWritten ms = (rows : List PhasedRound) × (map meaning_of rows ≡ ms)

rowed_get : (ms : List Round) (p : ℕ) → RoundsWritten ms → Written (get_or ms p cleared)
rowed_get ms p r = let x = got meaning_of cleared cleared_written r.0 p in (x.0, x.1 ∙ ap (λ (l : List Round). get_or l p cleared) r.1)

rowed_set : (ms : List Round) (p : ℕ) (m : Round) → RoundsWritten ms → Written m → RoundsWritten (set ms p m)
rowed_set ms p m r w = (set r.0 p w.0, map-set meaning_of r.0 p w.0 ∙ ap₂ (λ (l : List Round) (x : Round). set l p x) r.1 w.1)

set_small : (v : Option BitSet) → set_if_any v < 4
set_small None = omega arith
set_small (Some Zero) = omega arith
set_small (Some One) = omega arith
set_small (Some Both) = omega arith

verdict_below : (m : Round) → Written m → m.verdict < 4
verdict_below m w = subst (λ (x : Round). x.verdict < 4) w.1 (set_small w.0.verdict)

bit_below : (b : Option Bool) → bit_if_any b < 3
bit_below None = omega arith
bit_below (Some true) = omega arith
bit_below (Some false) = omega arith

-- the next bit is one bit
next_single : (v c : ℕ) → 0 < v → v < 4 → 0 < c → c < 3 → (0 < next_bit v c) × (next_bit v c < 3)
next_single v c lv hv lc hc = cond_both (eqb v 3) c v (λ (x : ℕ). (0 < x) × (x < 3)) (λ _. (lc, hc)) (λ h. (lv, let ne = eqb-false v 3 h in omega arith))

module _ {R C : Type 0} (g : Setting R C) (rule : Writable g.rule) (n own : ℕ) where
  -- a ballot's state that some tables mean
  record StateWritten (s : BallotState C) : Type 0 where
    ballot : BallotWritten s.ballot
    rounds : RoundsWritten s.rounds

  module _ (k : ℕ) where
    verdict_small : (r : ℕ) (s : BallotState C) → StateWritten s → verdict_at g.rule g.coins n own k r s < 4
    verdict_small zero s d = verdict_below _ (kept_opening s.ballot d.ballot)
    verdict_small (suc r) s d = verdict_below _ (rowed_get s.rounds (place k r) d.rounds)

    face_named : (r : ℕ) (s : BallotState C) → (b : Option Bool) × (bit_if_any b ≡ face g.rule g.coins n own k r s)
    face_named zero s = (Some true, refl)
    face_named (suc r) s = (g.coins.shown s.coin k (suc r), refl)

    gone_drawn : (r : ℕ) (s : BallotState C) → StateWritten s → StateWritten (gone_on g.rule g.coins n own k r s)
    gone_drawn r s d = record {
      ballot = cond_both (may_go r v c s.ballot) (went_on v c s.ballot) s.ballot BallotWritten
          (λ _. kept_from (went_on v c s.ballot) (kept_opening s.ballot d.ballot)
          (cond_both (eqb s.ballot.decided 0 && eqb v c) v s.ballot.decided Bit-or-none (λ h. subst Bit-or-none (sym (eqb-true v c (and_parts (eqb s.ballot.decided 0) _ h).1)) f) (λ _. kept_decided s.ballot d.ballot)))
          (λ _. d.ballot);
      rounds = cond_both (may_go r v c s.ballot) (cond (ltb r 15) (set s.rounds (place k r) m) s.rounds) s.rounds RoundsWritten
          (λ h. cond_both (ltb r 15) (set s.rounds (place k r) m) s.rounds RoundsWritten (λ _. rowed_set s.rounds (place k r) m d.rounds (entered h)) (λ _. d.rounds)) (λ _. d.rounds);
    }
      where
        v : ℕ
        v = verdict_at g.rule g.coins n own k r s

        c : ℕ
        c = face g.rule g.coins n own k r s

        f : Bit-or-none c
        f = face_named r s

        m : Round
        m = g.rule.enter n own (next_bit v c) (get_or s.rounds (place k r) cleared)

        entered : may_go r v c s.ballot ≡ true → Written m
        entered h =
            let p = and_parts (ltb 0 v) _ (and_parts (eqb s.ballot.stage r) _ h).1 in
            let b = bit_named (next_bit v c) (next_single v c (ltb-true 0 v p.0) (verdict_small r s d) (ltb-true 0 c p.1) (subst (λ (x : ℕ). x < 3) f.1 (bit_below f.0))) in
            subst (λ (x : ℕ). Written (g.rule.enter n own x (get_or s.rounds (place k r) cleared))) b.1 (rule.enter n own b.0 _ (rowed_get s.rounds (place k r) d.rounds))

    ruled_drawn : (r : ℕ) (s : BallotState C) → StateWritten s → StateWritten (ruled g.rule g.coins n own k r s)
    ruled_drawn r s d = record {
      ballot = d.ballot;
      rounds = cond_both (ltb r s.ballot.stage) (set s.rounds (place k r) (g.rule.steps n own (get_or s.rounds (place k r) cleared))) s.rounds RoundsWritten
          (λ _. rowed_set s.rounds (place k r) _ d.rounds (rule.steps n own _ (rowed_get s.rounds (place k r) d.rounds))) (λ _. d.rounds);
    }

    later_drawn : (u r : ℕ) (s : BallotState C) → StateWritten s → StateWritten (later_settled g.rule g.coins n own k u r s)
    unfolding later_settled
    later_drawn zero r s d = d
    later_drawn (suc u) r s d =
        let t = ruled g.rule g.coins n own k r s in
        let a = ruled_drawn r s d in
        later_drawn u (suc r) (round_settled g.rule g.coins n own k r s) (gone_drawn (suc r) (shared g.rule g.coins n own k r t) (record { ballot = a.ballot; rounds = a.rounds }))

    -- the steps of the opening round, with another opening round
    opened_drawn : (m : Round) (s : BallotState C) → Written m → StateWritten s → StateWritten (record { ballot = with_opening m s.ballot; rounds = s.rounds; coin = s.coin })
    opened_drawn m s w d = record { ballot = kept_from (with_opening m s.ballot) w (kept_decided s.ballot d.ballot); rounds = d.rounds }

    reproposed_drawn : (b : Bool) (s : BallotState C) → StateWritten s → StateWritten (reproposed own b s)
    reproposed_drawn b s d = opened_drawn _ s (cond_both (b && (again own).applies s.ballot.opening) ((again own).leaves s.ballot.opening) s.ballot.opening Written (λ _. again_written own _ (kept_opening s.ballot d.ballot)) (λ _. kept_opening s.ballot d.ballot)) d

    taken_drawn : (b : Bool) (s : BallotState C) → StateWritten s → StateWritten (ballot_taken g.rule g.coins n own k b s)
    taken_drawn b s d =
        let t = reproposed own b s in
        let a = reproposed_drawn b s d in
        let o = opened_drawn (opening_settled n own t.ballot.opening) t (opening_written n own _ (kept_opening t.ballot a.ballot)) a in
        subst StateWritten (sym (listed_order g.rule g.coins n own k b s).0) (later_drawn 15 0 _ (gone_drawn 0 (record { ballot = with_opening (opening_settled n own t.ballot.opening) t.ballot; rounds = t.rounds; coin = t.coin }) o))

-- some tables mean what a replica holds
pub record Filled {R C : Type 0} (h : Holding R C) : Type 0 where
  pub records : List OpeningRecord
  pub slots : slots_in records ≡ h.slots.records
  pub ballots : ballots_in records ≡ h.ballots
  pub rounds : RoundsWritten h.rounds

pub filled : {R C : Type 0} (h : Holding R C) → Filled h → (t : Replica R C PhasedRound) × (held meaning_of t ≡ h)
filled h f = (
  record { life = h.life; records = f.records; rounds = f.rounds.0; places = h.slots.places; coin = h.coin },
  ap₂ (λ (a : List Slot) (b : List Opened). record { life = h.life; slots = record { records = a; places = h.slots.places }; ballots = b; rounds = map meaning_of f.rounds.0; coin = h.coin }) f.slots f.ballots
      ∙ ap (λ (a : List Round). record { life = h.life; slots = h.slots; ballots = h.ballots; rounds = a; coin = h.coin }) f.rounds.1,
)

pub held_filled : {R C : Type 0} (t : Replica R C PhasedRound) → Filled (held meaning_of t)
held_filled t = record { records = t.records; slots = refl; ballots = refl; rounds = (t.rounds, refl) }

-- the ballot in a row, or one that nobody proposed in
unopened_kept : BallotWritten unopened
unopened_kept = kept_from unopened cleared_written (None, refl)

module _ {R C : Type 0} where
  ballot_kept : (h : Holding R C) → Filled h → (k : ℕ) → BallotWritten (ballot_at k h)
  ballot_kept h f k =
      let u = unopened_kept in
      let x = got (λ (r : OpeningRecord). ballot_meaning r.ballot) unopened (record { slot = record { delivered = None }; ballot = u.0 }, u.1) f.records k in
      (x.0.ballot, x.1 ∙ ap (λ (os : List Opened). get_or os k unopened) f.ballots)

  -- a row with another slot or another ballot
  slot_filled : (h : Holding R C) (k : ℕ) (x : Slot) (ps : List R) → Filled h → Filled (with_slots (record { records = set h.slots.records k x; places = ps }) h)
  slot_filled h k x ps f =
      let d : OpeningRecord = record { slot = x; ballot = unopened_kept.0 } in
      let y : OpeningRecord = record { slot = x; ballot = (get_or f.records k d).ballot } in
      record {
        records = set f.records k y;
        slots = map-set (λ (r : OpeningRecord). r.slot) f.records k y ∙ ap (λ (l : List Slot). set l k x) f.slots;
        ballots = map-set_same (λ (r : OpeningRecord). ballot_meaning r.ballot) f.records k y d refl ∙ f.ballots;
        rounds = f.rounds;
      }

  ballot_filled : (h : Holding R C) (k : ℕ) (o : Opened) → BallotWritten o → Filled h → Filled (with_ballot k o h)
  ballot_filled h k o b f =
      let d : OpeningRecord = record { slot = record { delivered = None }; ballot = b.0 } in
      let y : OpeningRecord = record { slot = (get_or f.records k d).slot; ballot = b.0 } in
      record {
        records = set f.records k y;
        slots = map-set_same (λ (r : OpeningRecord). r.slot) f.records k y d refl ∙ f.slots;
        ballots = map-set (λ (r : OpeningRecord). ballot_meaning r.ballot) f.records k y ∙ ap₂ (λ (l : List Opened) (z : Opened). set l k z) f.ballots b.1;
        rounds = f.rounds;
      }

  places_filled : (h : Holding R C) (ps : List R) → Filled h → Filled (with_slots (record { records = h.slots.records; places = ps }) h)
  places_filled h ps f = record { records = f.records; slots = f.slots; ballots = f.ballots; rounds = f.rounds }

  rounds_filled : (h : Holding R C) (ms : List Round) → RoundsWritten ms → Filled h → Filled (with_rounds ms h)
  rounds_filled h ms r f = record { records = f.records; slots = f.slots; ballots = f.ballots; rounds = r }

  coin_filled : (h : Holding R C) (c : C) → Filled h → Filled (with_coin c h)
  coin_filled h c f = record { records = f.records; slots = f.slots; ballots = f.ballots; rounds = f.rounds }

  life_filled : (h : Holding R C) (l : Life) → Filled h → Filled (with_life l h)
  life_filled h l f = record { records = f.records; slots = f.slots; ballots = f.ballots; rounds = f.rounds }

module _ {R C : Type 0} (g : Setting R C) (rule : Writable g.rule) (n own : ℕ) where
  -- the steps of a slot's sheets
  step_filled : (k : ℕ) (h : Holding R C) (t' : Slots R) → Step g.rows n own k h.slots t' → Filled h → Filled (with_slots t' h)
  step_filled k h t' (echoes x e) f = places_filled h _ f
  step_filled k h t' (readies x e) f = places_filled h _ f
  step_filled k h t' (delivers j e) f = slot_filled h k _ h.slots.places f
  step_filled k h t' (rests e r d) f = f

  settled_filled : (k fuel : ℕ) (h : Holding R C) → Filled h → Filled (with_slots (settled g.rows n own k fuel h.slots) h)
  unfolding settled
  settled_filled k zero h f = f
  settled_filled k (suc fuel) h f = settled_filled k fuel (with_slots _ h) (step_filled k h _ (stepped g.rows n own k h.slots) f)

  votes_filled : (k : ℕ) (h : Holding R C) → Filled h → Filled (votes_taken g n own k h)
  votes_filled k h f =
      let d = taken_drawn g rule n own k (is_delivered k h) (state_of k h) (record { ballot = ballot_kept h f k; rounds = f.rounds }) in
      let s = ballot_taken g.rule g.coins n own k (is_delivered k h) (state_of k h) in
      coin_filled _ s.coin (rounds_filled (with_ballot k s.ballot h) s.rounds d.rounds (ballot_filled h k s.ballot d.ballot f))

  proposed_filled : (m : ℕ) (h : Holding R C) → Filled h → Filled (proposed_below g n own m h)
  unfolding proposed_below
  proposed_filled zero h f = f
  proposed_filled (suc m) h f =
      let u = proposed_below g n own m h in
      let a = proposed_filled m h f in
      let o = ballot_at m u in
      let b = ballot_kept u a m in
      ballot_filled u m (proposed_in g n own m u) (kept_from _ (proposed_written own (is_delivered m u) o.opening (kept_opening o b)) (kept_decided o b)) a

  below_filled : (m : ℕ) (h : Holding R C) → Filled h → Filled (taken_below g n own m h)
  unfolding taken_below
  below_filled zero h f = f
  below_filled (suc m) h f = votes_filled m _ (settled_filled m 3 _ (below_filled m h f))

  slot_steps_filled : (k : ℕ) (h : Holding R C) → Filled h → Filled (slot_taken g n own k h)
  unfolding slot_taken
  slot_steps_filled k h f =
      let u = sheets_taken g n own k h in
      let a = settled_filled k 3 h f in
      cond_both (may_propose g n own k u) _ (votes_taken g n own k u) Filled (λ _. below_filled n _ (proposed_filled n u a)) (λ _. votes_filled k u a)

  looked_filled : (m : ℕ) (h : Holding R C) → Filled h → Filled (looked g n own m h)
  unfolding looked
  looked_filled zero h f = f
  looked_filled (suc m) h f = slot_steps_filled m _ (looked_filled m h f)

  -- a message that is heard
  vote_filled : (j k r t : ℕ) (b : BitSet) (h : Holding R C) → Filled h → Filled (vote_noted g n own j k r (record { tag = t; set = bits_number b; sender = j }) h)
  vote_filled j k zero t b h f =
      let o = ballot_at k h in
      let c = ballot_kept h f k in
      ballot_filled h k _ (kept_from _ (heard_written t b j o.opening (kept_opening o c)) (kept_decided o c)) f
  vote_filled j k (suc r) t b h f = rounds_filled h _ (rowed_set h.rounds (place k r) _ f.rounds (rule.hear n own t b j _ (rowed_get h.rounds (place k r) f.rounds))) f

  noted_filled : (j : ℕ) (m : Message Placed) (h : Holding R C) → Filled h → Filled (message_noted g n own j m h)
  noted_filled j (Sheet ph k p) h f = places_filled h _ f
  noted_filled j (Bit vote k r true) h f = vote_filled j k r (vote_tag vote) One h f
  noted_filled j (Bit vote k r false) h f = vote_filled j k r (vote_tag vote) Zero h f
  noted_filled j (Set tag k r v) h f = vote_filled j k r tag v h f
  noted_filled j (Share k r x) h f = coin_filled h (take_after g.coins h.coin (share_from j k r x)) f

  hear_filled : (j : ℕ) (xs : List ℕ) (h : Holding R C) → Filled h → (a : Result Heard Refused) → Filled (if_new a (message_taken g n own j h (reading (syntax_of g n) xs)) h)
  hear_filled j xs h f (Ok New) = go (reading (syntax_of g n) xs)
    where
      go : (r : Result (Message Placed) Refused) → Filled (message_taken g n own j h r)
      go (Ok m) = slot_steps_filled _ _ (noted_filled j m h f)
      go (Err e) = f
  hear_filled j xs h f (Ok Known) = f
  hear_filled j xs h f (Err e) = f

  call_filled : (c : Call) (h : Holding R C) → Filled h → Filled (call_after g n own c h)
  call_filled (offer s) h f = cond_both (sizes_ok n h) _ h Filled (λ _. slot_steps_filled own _ (places_filled _ _ (life_filled h _ f))) (λ _. f)
  call_filled (hear j xs) h f = hear_filled j xs h f (hear_answer_lem g n own j xs h)
  call_filled look h f = cond_both (sizes_ok n h) (looked g n own n h) h Filled (λ _. looked_filled n h f) (λ _. f)
  call_filled (say from) h f = f
  call_filled close h f = go (close_answer g.rows n (closing_view h))
    where
      go : (r : Result (Unit {0}) Refused) → Filled (if_accepted r (with_life Closed h) h)
      go (Ok x) = life_filled h Closed f
      go (Err e) = f
  call_filled (list index) h f = f
  call_filled write h f = f

  -- each call leaves what some tables mean
  pub call_left : (c : Call) (t : Replica R C PhasedRound) → (t' : Replica R C PhasedRound) × (held meaning_of t' ≡ call_after g n own c (held meaning_of t))
  call_left c t = filled _ (call_filled c (held meaning_of t) (held_filled t))
