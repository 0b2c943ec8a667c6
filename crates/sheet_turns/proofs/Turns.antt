-- Every call keeps what is known of a replica's sheets, and takes in only what it may. Assumes nothing.
use Rattle.std.proofs.Common.{◌≡◌, ℕ, zero, suc, ◌<◌, Bool, true, eqb, ◌⊎◌, List, Some, None, Ok, Err, Option, Result, is_some, sym, refl, ap, ◌∙◌, subst, inl, inr, le_refl, arith, length-set}
use Rattle.std.proofs.lemmas.Bool.{and_parts, leb-true, eq-eqb, cond-true, false≢true}
use Rattle.basis.specs.Bytes.{Octets}
use Rattle.basis.specs.Refusals.{Refused}
use Rattle.basis.specs.declared.heard.Heard.{Heard}
use Rattle.basis.specs.declared.heard.Heard.TheVariants.{New, Known}
use Rattle.broadcast.specs.Calls.{may_send}
use Rattle.broadcast.specs.Claims.{RowLaws}
use Rattle.broadcast.proofs.Hearing.{compared_new}
use Rattle.broadcast.proofs.Kept.{Quoted}
use Rattle.broadcast.proofs.Everywhere.{delivered_ready, delivered_stays}
use Rattle.broadcast.proofs.Moves.{at, chosen, Sound, Grows, Moves, moves_none, moves_on, note_moves}
use Rattle.broadcast.proofs.Settling.{Settled}
use Rattle.broadcast.proofs.Tables.{none_some, some_inj, noted_here}
use Rattle.messages.specs.declared.message.Message.{Message}
use Rattle.messages.specs.declared.message.Message.TheVariants.{Sheet, Bit, Set, Share}
use Rattle.messages.specs.declared.message.Phase.{Phase}
use Rattle.messages.specs.declared.message.Phase.TheVariants.{Send, Echo, Ready}
use Rattle.messages.specs.Reading.{Lawful, placed}
use Rattle.messages.specs.Tags.{vote_tag, bits_number}
use Rattle.messages.specs.Writing.{written, slot_of}
use Rattle.messages.proofs.Lists.{passed}
use Rattle.rules.specs.Rounds.{Vote}
use Rattle.slots.proofs.Positions.{place_within}
use Rattle.slots.specs.Places.{place, sheet_of}
use Rattle.slots.specs.Steps.{Slots, noted}
use Rattle.outcomes.specs.Calls.{Call, offer, hear, look, say, close, list, write, if_accepted, look_after, close_after, call_after, HasSaid, Said, HasOffered, Allowed}
use Rattle.outcomes.specs.Closing.{closing_view, close_answer, sheet_of_slot}
use Rattle.outcomes.specs.Hearing.{bit_vote, set_vote, vote_noted, message_answer, message_noted, hear_answer_lem, hear_after}
use Rattle.outcomes.specs.Holdings.{Life, Fresh, Running, Closed, Setting, Holding, syntax_of, sizes_ok, is_delivered, ballot_at, with_life, with_slots}
use Rattle.outcomes.specs.Opening.{offer_after, Opened}
use Rattle.outcomes.specs.Taking.{slot_taken, looked}
use Rattle.sheet_turns.proofs.Closing.{MayClose}
use Rattle.sheet_turns.proofs.Lengths.{SameLengths, lengths_none, lengths_on, sizes_same}
use Rattle.sheet_turns.proofs.Messages.{lawful_low, Accepted, accepted, new_taken, known_left, refused_left, said_message}
use Rattle.sheet_turns.proofs.Moving.{Moved, moved_none, moved_on, slot_moved, looked_moved, looked_still}

-- a sheet that is taken in may be taken in
abbrev pub MayTake : (Phase → ℕ → ℕ → List ℕ → Type 0) → ℕ → Message (List ℕ) → Type 0
MayTake ok j (Sheet ph k s) = ok ph k j s
MayTake ok j (Bit vote k r b) = Unit {0}
MayTake ok j (Set tag k r v) = Unit {0}
MayTake ok j (Share k r x) = Unit {0}

fresh_offered : {l : Life} → l ≡ Fresh → HasOffered l → ⊥
fresh_offered p (inl q) = let z : ◌≡◌ {A = ℕ} 0 1 = cc in omega arith
fresh_offered p (inr q) = let z : ◌≡◌ {A = ℕ} 0 1 = cc in omega arith

some_of : {X : Type 0} (o : Option X) → is_some o ≡ true → (x : X) × (o ≡ Some x)
some_of None h = absurd (false≢true h)
some_of (Some x) h = (x, refl)

module _ {R C : Type 0} (g : Setting R C) (n own : ℕ) where
  abbrev sent : Holding R C → Option (List ℕ)
  sent h = at g.rows n h.slots Send own own

  -- what is known of a replica, as far as sheets go
  pub record SheetsWell (h : Holding R C) : Type 0 where
    pub sizes : sizes_ok n h ≡ true
    pub sound : Sound g.rows n own h.slots
    pub began : HasOffered h.life → (x : List ℕ) × (at g.rows n h.slots Send own own ≡ Some x)
    pub fresh : h.life ≡ Fresh → at g.rows n h.slots Send own own ≡ None

  pub opened_well : own < n → (h : Holding R C) → Opened g n own h → SheetsWell h
  opened_well lo h o =
      let p = and_parts _ _ o.tables.sizes in
      let q = and_parts _ _ p.1 in
      record {
        sizes = o.tables.sizes;
        sound = record {
          records_fit = leb-true _ _ p.0;
          places_fit = leb-true _ _ q.1;
          echo = λ k x lk e. absurd (none_some (nothing Echo k lk) e);
          ready = λ k x lk e. absurd (none_some (nothing Ready k lk) e);
          got = λ k j lk e. absurd (none_some (o.tables.undelivered k lk) e);
        };
        began = λ e. absurd (fresh_offered o.fresh e);
        fresh = λ _. nothing Send own lo;
      }
    where
      nothing : (ph : Phase) (k : ℕ) → k < n → at g.rows n h.slots ph k own ≡ None
      nothing ph k lk = o.tables.empty (place n ph k own) (place_within n ph k own lk lo)

  -- a delivered slot stays delivered, with its sheet
  pub is_delivered_stays : (h h' : Holding R C) → Grows g.rows n h.slots h'.slots → (k : ℕ) → k < n → is_delivered k h ≡ true → is_delivered k h' ≡ true
  is_delivered_stays h h' grows k lk e = let d = some_of (chosen g.rows n h.slots k) e in ap (λ (o : Option ℕ). is_some o) (grows.delivery k d.0 lk d.1)

  pub sheet_stays : (h h' : Holding R C) → Sound g.rows n own h.slots → Grows g.rows n h.slots h'.slots → (k : ℕ) (x : List ℕ) → k < n → sheet_of_slot g.rows n (closing_view h) k ≡ Some x → sheet_of_slot g.rows n (closing_view h') k ≡ Some x
  sheet_stays h h' sound grows k x lk e = delivered_stays g.rows n own h.slots h'.slots sound grows k x lk e

  -- a slot is delivered exactly if it has a sheet
  pub delivered_sheet : (h : Holding R C) → Sound g.rows n own h.slots → (k : ℕ) → k < n → is_delivered k h ≡ true → (x : List ℕ) × (sheet_of_slot g.rows n (closing_view h) k ≡ Some x)
  delivered_sheet h sound k lk e =
      let d = some_of (chosen g.rows n h.slots k) e in
      let o = sound.got k d.0 lk d.1 in
      (o.1, ap (sheet_of g.rows n h.slots.places Ready k) d.1 ∙ o.2)

  pub sheet_delivered : (h : Holding R C) → Sound g.rows n own h.slots → (k : ℕ) (x : List ℕ) → k < n → sheet_of_slot g.rows n (closing_view h) k ≡ Some x → is_delivered k h ≡ true
  sheet_delivered h sound k x lk e = let d = delivered_ready g.rows n own h.slots sound k x lk e in ap (λ (o : Option ℕ). is_some o) d.2

  -- a call's turn: ok says which sheet of a sender may be taken in
  pub record Turn (ok : Phase → ℕ → ℕ → List ℕ → Type 0) (h h' : Holding R C) : Type 0 where
    pub well : SheetsWell h'
    pub lengths : SameLengths h h'
    pub moves : Moves g.rows n own ok h.slots h'.slots
    pub offered : HasOffered h.life → HasOffered h'.life

  module _ (ok : Phase → ℕ → ℕ → List ℕ → Type 0) where
    pub turn_none : {h : Holding R C} → SheetsWell h → Turn ok h h
    turn_none w = record { well = w; lengths = lengths_none; moves = moves_none g.rows n w.sound; offered = λ o. o }

    -- a replica that has offered moves, with its state
    pub turn_moved : own < n → {h h' : Holding R C} → SheetsWell h → HasOffered h.life → Moved g n own ok h h' → Turn ok h h'
    turn_moved lo w live m = record {
      well = record {
        sizes = sizes_same n m.lengths ∙ w.sizes;
        sound = m.moves.sound;
        began = λ _. let b = w.began live in (b.0, m.moves.grows.sheets Send own own b.0 lo lo b.1);
        fresh = λ e. absurd (fresh_offered (sym m.life ∙ e) live);
      };
      lengths = m.lengths;
      moves = m.moves;
      offered = λ o. subst HasOffered (sym m.life) o;
    }

    -- recording a vote moves no sheet
    vote_moved : (j k r : ℕ) (w : Vote) (h : Holding R C) → Sound g.rows n own h.slots → Moved g n own ok h (vote_noted g n own j k r w h)
    vote_moved j k zero w h s = record { life = refl; lengths = record { records = refl; places = refl; ballots = length-set h.ballots k _; rounds = refl }; moves = moves_none g.rows n s }
    vote_moved j k (suc r) w h s = record { life = refl; lengths = record { records = refl; places = refl; ballots = refl; rounds = length-set h.rounds _ _ }; moves = moves_none g.rows n s }

    -- what is taken in by a call may be taken in
    abbrev pub Vouched : Call → Holding R C → Type 0
    Vouched (offer x) h = Unit {0}
    Vouched (hear j xs) h = (a : Accepted g n own j h xs New) → MayTake ok j a.message
    Vouched look h = Unit {0}
    Vouched (say from) h = Unit {0}
    Vouched close h = Unit {0}
    Vouched (list index) h = Unit {0}
    Vouched write h = Unit {0}

    module _ (laws : RowLaws g.rows g.size g.lawful) (lo : own < n) where
      -- recording a message that is new
      pub noted_moved : (j : ℕ) → j < n → (j ≡ own → ⊥) → (h : Holding R C) → Sound g.rows n own h.slots → (m : Message (List ℕ)) → Lawful (syntax_of g n) m → Octets (written m) → message_answer g n own j h (placed m) ≡ Ok New → MayTake ok j m →
          Moved g n own ok h (message_noted g n own j (placed m) h)
      noted_moved j lj ne h s (Sheet ph k x) law oct e may =
          let p = passed (may_send ph k j) _ (record { number = 12; place = 3 }) New e in
          record {
            life = refl;
            lengths = record { records = refl; places = length-set h.slots.places _ _; ballots = refl; rounds = refl };
            moves = note_moves g.rows n laws own lo h.slots s k law.0 ph j x lj p.0 law.1 (λ i. oct (suc (suc (suc (suc i))))) (compared_new _ x p.1) ok (λ q. absurd (ne q)) (inr may);
          }
      noted_moved j lj ne h s (Bit vote k r b) law oct e may = vote_moved j k r (bit_vote j (vote_tag vote) b) h s
      noted_moved j lj ne h s (Set tag k r v) law oct e may = vote_moved j k r (set_vote j tag (bits_number v)) h s
      noted_moved j lj ne h s (Share k r x) law oct e may = record { life = refl; lengths = record { records = refl; places = refl; ballots = refl; rounds = refl }; moves = moves_none g.rows n s }

      -- what hearing changes is a message recorded, and the steps of its slot
      pub hear_moved : (j : ℕ) (xs : List ℕ) (h : Holding R C) → Sound g.rows n own h.slots → Octets xs → Vouched (hear j xs) h → Moved g n own ok h (hear_after g n own j xs h)
      hear_moved j xs h s oct vouched = go (hear_answer_lem g n own j xs h) refl
        where
          go : (r : Result Heard Refused) → hear_answer_lem g n own j xs h ≡ r → Moved g n own ok h (hear_after g n own j xs h)
          go (Ok New) e =
              let a = accepted g n own j h xs laws oct New e in
              let b = noted_moved j a.sender a.other h s a.message a.lawful (subst Octets a.bytes oct) a.answer (vouched a) in
              let c = slot_moved g n own ok laws lo (slot_of a.message) (lawful_low (syntax_of g n) a.message a.lawful) _ b.moves.sound in
              subst (λ (z : Holding R C). Moved g n own ok h z) (sym (new_taken g n own j h xs e a.message a.read)) (moved_on g n own ok b c)
          go (Ok Known) e = subst (λ (z : Holding R C). Moved g n own ok h z) (sym (known_left g n own j h xs e)) (moved_none g n own ok s)
          go (Err r) e = subst (λ (z : Holding R C). Moved g n own ok h z) (sym (refused_left g n own j h xs r e)) (moved_none g n own ok s)

      pub offer_turn : (x : List ℕ) → (h : Holding R C) → SheetsWell h → h.life ≡ Fresh → g.lawful x ≡ true → Octets x → Turn ok h (offer_after g n own x h) × (at g.rows n (offer_after g n own x h).slots Send own own ≡ Some x) × ((offer_after g n own x h).life ≡ Running)
      offer_turn x h w new law oct =
          let t = noted g.rows n own own Send own h.slots x in
          let u = with_slots t (with_life Running h) in
          let a = note_moves g.rows n laws own lo h.slots w.sound own lo Send own x lo (eq-eqb own own refl) law oct (w.fresh new) ok (λ _. tt) (inl refl) in
          let b = slot_moved g n own ok laws lo own lo u a.sound in
          let z = slot_taken g n own own u in
          let here : at g.rows n z.slots Send own own ≡ Some x = b.moves.grows.sheets Send own own x lo lo (noted_here g.rows n own own Send own h.slots x laws lo lo w.sound.places_fit law oct) in
          let first : SameLengths h u = record { records = refl; places = length-set h.slots.places _ _; ballots = refl; rounds = refl } in
          let same = lengths_on first b.lengths in
          subst (λ (z : Holding R C). Turn ok h z × (at g.rows n z.slots Send own own ≡ Some x) × (z.life ≡ Running)) (sym (cond-true (sizes_ok n h) z h w.sizes)) (
            record {
              well = record {
                sizes = sizes_same n same ∙ w.sizes;
                sound = b.moves.sound;
                began = λ _. (x, here);
                fresh = λ e. absurd (fresh_offered e (inl b.life));
              };
              lengths = same;
              moves = moves_on g.rows n a b.moves;
              offered = λ _. inl b.life;
            },
            here,
            b.life,
          )

      look_turn : (h : Holding R C) → SheetsWell h → HasOffered h.life → Turn ok h (look_after g n own h)
      look_turn h w live = subst (λ (z : Holding R C). Turn ok h z) (sym (cond-true (sizes_ok n h) (looked g n own n h) h w.sizes)) (turn_moved lo w live (looked_moved g n own ok laws lo n (le_refl _) h w.sound))

      close_turn : (h : Holding R C) → SheetsWell h → h.life ≡ Running → Turn ok h (close_after g n own h)
      close_turn h w live = go (close_answer g.rows n (closing_view h))
        where
          go : (r : Result (Unit {0}) Refused) → Turn ok h (if_accepted r (with_life Closed h) h)
          go (Ok x) = record {
            well = record { sizes = w.sizes; sound = w.sound; began = λ _. w.began (inl live); fresh = λ e. absurd (fresh_offered e (inr refl)) };
            lengths = record { records = refl; places = refl; ballots = refl; rounds = refl };
            moves = moves_none g.rows n w.sound;
            offered = λ _. inr refl;
          }
          go (Err e) = turn_none w

      -- every call
      pub call_turn : (c : Call) (h : Holding R C) → SheetsWell h → Allowed g c h → Vouched c h → Turn ok h (call_after g n own c h)
      call_turn (offer x) h w can v = (offer_turn x h w can.0 can.1 can.2).0
      call_turn (hear j xs) h w can v = turn_moved lo w can.0 (hear_moved j xs h w.sound can.1 v)
      call_turn look h w can v = look_turn h w can
      call_turn (say from) h w can v = turn_none w
      call_turn close h w can v = close_turn h w can
      call_turn (list index) h w can v = turn_none w
      call_turn write h w can v = turn_none w

      -- what a call leaves of the state
      abbrev pub life_after : Call → Holding R C → Life
      life_after (offer x) h = Running
      life_after (hear j xs) h = h.life
      life_after look h = h.life
      life_after (say from) h = h.life
      life_after close h = if_accepted (close_answer g.rows n (closing_view h)) Closed h.life
      life_after (list index) h = h.life
      life_after write h = h.life

      pub call_life : (c : Call) (h : Holding R C) → SheetsWell h → Allowed g c h → Vouched c h → (call_after g n own c h).life ≡ life_after c h
      call_life (offer x) h w can v = (offer_turn x h w can.0 can.1 can.2).2
      call_life (hear j xs) h w can v = (hear_moved j xs h w.sound can.1 v).life
      call_life look h w can v = ap (λ (z : Holding R C). z.life) (cond-true (sizes_ok n h) (looked g n own n h) h w.sizes) ∙ (looked_moved g n own ok laws lo n (le_refl _) h w.sound).life
      call_life (say from) h w can v = refl
      call_life close h w can v = go (close_answer g.rows n (closing_view h))
        where
          go : (r : Result (Unit {0}) Refused) → (if_accepted r (with_life Closed h) h).life ≡ if_accepted r Closed h.life
          go (Ok x) = refl
          go (Err e) = refl
      call_life (list index) h w can v = refl
      call_life write h w can v = refl

      -- only a call to close that is not refused closes
      pub closed_by : (c : Call) (h : Holding R C) → SheetsWell h → Allowed g c h → Vouched c h → (call_after g n own c h).life ≡ Closed → (h.life ≡ Closed) ⊎ ((c ≡ close) × (close_answer g.rows n (closing_view h) ≡ Ok tt))
      closed_by (offer x) h w can v e = absurd (let q = sym (call_life (offer x) h w can v) ∙ e in let z : ◌≡◌ {A = ℕ} 0 1 = cc in omega arith)
      closed_by (hear j xs) h w can v e = inl (sym (call_life (hear j xs) h w can v) ∙ e)
      closed_by look h w can v e = inl (sym (call_life look h w can v) ∙ e)
      closed_by (say from) h w can v e = inl e
      closed_by close h w can v e = go (close_answer g.rows n (closing_view h)) refl (sym (call_life close h w can v) ∙ e)
        where
          go : (r : Result (Unit {0}) Refused) → close_answer g.rows n (closing_view h) ≡ r → if_accepted r Closed h.life ≡ Closed → (h.life ≡ Closed) ⊎ ((close ≡ close) × (close_answer g.rows n (closing_view h) ≡ Ok tt))
          go (Ok tt) q z = inr (refl, q)
          go (Err r) q z = inl z
      closed_by (list index) h w can v e = inl e
      closed_by write h w can v e = inl e

      -- a replica that has offered sends nothing more
      pub offered_sent : (h : Holding R C) (t : Slots R) → SheetsWell h → HasOffered h.life → Grows g.rows n h.slots t → (x : List ℕ) → at g.rows n t Send own own ≡ Some x → at g.rows n h.slots Send own own ≡ Some x
      offered_sent h t w live grows x e = let b = w.began live in b.1 ∙ ap Some (some_inj (grows.sheets Send own own b.0 lo lo b.1) e)

      -- a call to offer sends its sheet, and no other call sends
      pub call_sends : (h : Holding R C) → SheetsWell h → (x : List ℕ) → Allowed g (offer x) h → at g.rows n (call_after g n own (offer x) h).slots Send own own ≡ Some x
      call_sends h w x can = (offer_turn x h w can.0 can.1 can.2).1

      pub call_sent : (c : Call) (h : Holding R C) → SheetsWell h → Allowed g c h → Vouched c h → (x : List ℕ) → at g.rows n (call_after g n own c h).slots Send own own ≡ Some x → (c ≡ offer x) ⊎ (at g.rows n h.slots Send own own ≡ Some x)
      call_sent (offer y) h w can v x e = inl (ap offer (some_inj (call_sends h w y can) e))
      call_sent (hear j xs) h w can v x e = inr (offered_sent h _ w can.0 (call_turn (hear j xs) h w can v).moves.grows x e)
      call_sent look h w can v x e = inr (offered_sent h _ w can (call_turn look h w can v).moves.grows x e)
      call_sent (say from) h w can v x e = inr e
      call_sent close h w can v x e = inr (offered_sent h _ w (inl can) (call_turn close h w can v).moves.grows x e)
      call_sent (list index) h w can v x e = inr e
      call_sent write h w can v x e = inr e

  -- where an honest sender is quoted only with what it has said, what is heard of it may be taken in
  pub quoted : RowLaws g.rows g.size g.lawful → (honest : ℕ → Bool) (s : ℕ → Holding R C) (j : ℕ) (h : Holding R C) (xs : List ℕ) → (a : Accepted g n own j h xs New) → (honest j ≡ true → Said g n j (s j) xs) →
      MayTake (Quoted g.rows n honest (λ i. (s i).slots)) j a.message
  quoted laws honest s j h xs a said = go a.message (λ hj. let d = said hj in subst (HasSaid g n j (s j)) (sym (said_message g n own j h xs laws (s j) d a.message a.read)) d.has_said)
    where
      go : (m : Message (List ℕ)) → (honest j ≡ true → HasSaid g n j (s j) m) → MayTake (Quoted g.rows n honest (λ i. (s i).slots)) j m
      go (Sheet ph k x) has = λ hj. (has hj).1
      go (Bit vote k r b) has = tt
      go (Set tag k r v) has = tt
      go (Share k r x) has = tt

  -- what may close may close after every turn that keeps its decisions
  pub may_stay : {ok : Phase → ℕ → ℕ → List ℕ → Type 0} (h h' : Holding R C) → SheetsWell h → Turn ok h h' → ((k : ℕ) → k < n → 0 < (ballot_at k h).decided → (ballot_at k h').decided ≡ (ballot_at k h).decided) → MayClose g n own h → MayClose g n own h'
  may_stay h h' w t stays m = record {
    sizes = t.well.sizes;
    decided = λ k lk. subst (λ (z : ℕ). 0 < z) (sym (stays k lk (m.decided k lk))) (m.decided k lk);
    sheets = λ k lk d. let s = m.sheets k lk (ap (λ (z : ℕ). eqb z 2) (sym (stays k lk (m.decided k lk))) ∙ d) in (s.0, sheet_stays h h' w.sound t.moves.grows k s.0 lk s.1);
  }

  -- looking that changes nothing leaves every slot settled
  pub still_settled : RowLaws g.rows g.size g.lawful → own < n → (h : Holding R C) → SheetsWell h → look_after g n own h ≡ h → (k : ℕ) → k < n → Settled g.rows n own k h.slots
  still_settled laws lo h w e k lk = looked_still g laws n own lo h w.sound (sym (cond-true (sizes_ok n h) (looked g n own n h) h w.sizes) ∙ e) k lk
