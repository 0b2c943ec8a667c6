-- Every call leaves no step at a replica that has offered. Assumes nothing.
use Rattle.std.proofs.Common.{◌≡◌, ℕ, zero, suc, ◌<◌, ◌≤◌, ◌≢◌, true, false, List, Ok, Err, Option, Result, eqb, refl, sym, ap, ◌∙◌, subst, inl, le_refl, arith, set, get_or-set_other}
use Rattle.std.proofs.lemmas.Bool.{cond_both, and_left, eq-eqb, ne_eqb}
use Rattle.basis.specs.Bytes.{Octets}
use Rattle.basis.specs.Halls.{largest}
use Rattle.basis.specs.Refusals.{Refused}
use Rattle.basis.specs.declared.heard.Heard.{Heard}
use Rattle.basis.specs.declared.heard.Heard.TheVariants.{New, Known}
use Rattle.broadcast.specs.Calls.{may_send}
use Rattle.broadcast.specs.Claims.{RowLaws}
use Rattle.broadcast.proofs.Moves.{note_moves}
use Rattle.broadcast.proofs.Tables.{places_apart, noted_other}
use Rattle.coins.specs.Coins.{Keeps as CoinKeeps, Takes, left_by}
use Rattle.messages.specs.declared.message.Message.{Message}
use Rattle.messages.specs.declared.message.Message.TheVariants.{Sheet, Bit, Set, Share}
use Rattle.messages.specs.declared.message.Phase.{Phase}
use Rattle.messages.specs.declared.message.Phase.TheVariants.{Send, Echo, Ready}
use Rattle.messages.specs.Reading.{Lawful, placed}
use Rattle.messages.specs.Writing.{slot_of}
use Rattle.rules.specs.Rounds.{Round, cleared}
use Rattle.rules.specs.Laws.{Laws, Reached}
use Rattle.slots.specs.Places.{recorded}
use Rattle.slots.specs.Steps.{Slots, noted}
use Rattle.ballots.specs.States.{place, unopened}
use Rattle.outcomes.proofs.Elsewhere.{SheetsSame, sheets_alike}
use Rattle.outcomes.specs.Calls.{Call, offer, hear, look, say, close, list, write, if_accepted, look_after, call_after, HasOffered, Allowed}
use Rattle.outcomes.specs.Closing.{closing_view, close_answer}
use Rattle.outcomes.specs.Hearing.{share_from, message_noted, hear_answer_lem, hear_after}
use Rattle.outcomes.specs.Holdings.{Running, Closed, Setting, Holding, syntax_of, sizes_ok, with_life, with_slots, with_rounds}
use Rattle.outcomes.specs.Taking.{may_propose, slot_taken, looked}
use Rattle.sheet_turns.proofs.Messages.{lawful_low, Unheard, message_new, Accepted, accepted, new_taken, known_left, refused_left}
use Rattle.sheet_turns.proofs.Turns.{SheetsWell, MayTake, noted_moved}
use Rattle.vote_turns.proofs.Known.{coin_none, VotesWell}
use Rattle.vote_turns.proofs.Calling.{life_moved}
use Rattle.vote_turns.proofs.Delivering.{flags_moved}
use Rattle.vote_turns.proofs.Heard.{Allows, message_moved}
use Rattle.still_turns.proofs.Slots.{any_vote, any_share, SlotDone, AllDone, SlotSame, looked_same, slot_kept, slot_done}

-- whatever sheet may be taken in
abbrev any_sheet : Phase → ℕ → ℕ → List ℕ → Type 0
any_sheet ph k j x = Unit {0}

module _ {R C : Type 0} (g : Setting R C) (n own : ℕ) where
  -- No step is left at any slot, and a replica that has offered does not propose.
  pub record Left (h : Holding R C) : Type 0 where
    pub slots : (k : ℕ) → k < n → SlotDone g n own k h
    pub proposed : HasOffered h.life → (k : ℕ) → k < n → may_propose g n own k h ≡ false

  of_all : (h : Holding R C) → AllDone g n own h → Left h
  of_all h x = record { slots = x.slots; proposed = λ o. x.proposed }

  -- so looking changes nothing
  pub still : (h : Holding R C) → Left h → HasOffered h.life → look_after g n own h ≡ h
  still h x o = cond_both (sizes_ok n h) (looked g n own n h) h (λ (z : Holding R C). z ≡ h) (λ _. looked_same g n own n (le_refl n) h (record { slots = x.slots; proposed = x.proposed o })) (λ _. refl)

  may_take : (j : ℕ) (m : Message (List ℕ)) → MayTake any_sheet j m
  may_take j (Sheet ph k s) = tt
  may_take j (Bit vote k r b) = tt
  may_take j (Set tag k r v) = tt
  may_take j (Share k r x) = tt

  allowed : (j : ℕ) (m : Message (List ℕ)) → Allows g n own any_vote any_share j m
  allowed j (Sheet ph k s) = tt
  allowed j (Bit vote k r b) = tt
  allowed j (Set tag k r v) = tt
  allowed j (Share k r x) = tt

  -- a sheet that is recorded of another slot
  noted_apart : (k l : ℕ) → l < n → (k ≢ l) → (ph : Phase) (j : ℕ) → j < n → may_send ph k j ≡ true → (t : Slots R) (x : List ℕ) → SheetsSame g.rows n own l t (noted g.rows n own k ph j t x)
  noted_apart k l ll ne ph j lj may t x = record { send = away Send l ll (eq-eqb l l refl); echoes = λ i li. away Echo i li refl; readies = λ i li. away Ready i li refl; delivery = refl }
    where
      away : (ph' : Phase) (i : ℕ) → i < n → may_send ph' l i ≡ true → recorded g.rows n (noted g.rows n own k ph j t x).places ph' l i ≡ recorded g.rows n t.places ph' l i
      away ph' i li may' = noted_other g.rows n own k ph j t x ph' l i (λ e. ne (sym (places_apart n ph' ph l k i j li lj may' may e).1))

  module _ (laws : Laws g.rule n own) (keeps : CoinKeeps g.coins) (most : n ≤ largest) (lo : own < n) where
    -- a round of another ballot that is written
    round_apart : (k r l : ℕ) → r < 15 → (k ≢ l) → (m : Round) (h : Holding R C) → VotesWell g n own h → SlotSame g n own l h (with_rounds (set h.rounds (place k r) m) h)
    round_apart k r l lt ne m h w = record {
      sheets = sheets_alike g.rows n own l h.slots;
      ballot = refl;
      rounds = λ q lq. get_or-set_other h.rounds (place k r) (place l q) m cleared (λ e. ne (omega arith));
      shown = λ q lq. refl;
      coin = coin_none g.coins own any_share h.coin w.coin;
    }

    -- a message that is recorded of another slot
    message_apart : (j : ℕ) → j < n → (j ≢ own) → (h : Holding R C) → VotesWell g n own h → (xs : List ℕ) (m : Message (List ℕ)) → Lawful (syntax_of g n) m → Unheard g n own j h xs m →
        (l : ℕ) → l < n → (slot_of m ≢ l) → SlotSame g n own l h (message_noted g n own j (placed m) h)
    message_apart j lj other h w xs (Sheet ph k x) law new l ll ne = record {
      sheets = noted_apart k l ll ne ph j lj new.0 h.slots x;
      ballot = refl;
      rounds = λ r lt. refl;
      shown = λ r lt. refl;
      coin = coin_none g.coins own any_share h.coin w.coin;
    }
    message_apart j lj other h w xs (Bit vote k zero b) law new l ll ne = record {
      sheets = sheets_alike g.rows n own l h.slots;
      ballot = get_or-set_other h.ballots k l _ unopened (λ e. ne (sym e));
      rounds = λ r lt. refl;
      shown = λ r lt. refl;
      coin = coin_none g.coins own any_share h.coin w.coin;
    }
    message_apart j lj other h w xs (Bit vote k (suc r) b) law new l ll ne = round_apart k r l (let z = law.1 in omega arith) ne _ h w
    message_apart j lj other h w xs (Set tag k zero v) law new l ll ne = absurd (omega (arith, law.1))
    message_apart j lj other h w xs (Set tag k (suc r) v) law new l ll ne = round_apart k r l (let z = law.2 in omega arith) ne _ h w
    message_apart j lj other h w xs (Share k r x) law new l ll ne =
        let takes : Takes g.coins h.coin (share_from j k r x) = record {
          used = law.4;
          sound = w.coin;
          lawful = record { tossed = record { ballot_below = omega (arith, most, law.0); round_from = law.1; round_to = law.2 }; sender_below = omega (arith, most, lj); value_to = law.3 };
          new = new;
        } in
        record {
          sheets = sheets_alike g.rows n own l h.slots;
          ballot = refl;
          rounds = λ q lt. refl;
          shown = λ q lt. ap (λ (o : Option ℕ). g.coins.shown (left_by o (g.coins.taken h.coin (share_from j k r x)) h.coin) l (suc q)) new
              ∙ keeps.shown_elsewhere h.coin (share_from j k r x) takes l (suc q) (record { ballot_below = omega (arith, most, ll); round_from = omega arith; round_to = omega arith }) (and_left (eqb k l) (eqb r (suc q)) (ne_eqb k l ne));
          coin = (message_moved g n own any_vote any_share j laws keeps most lo lj other h w (Share k r x) law tt).coin;
        }

    module _ (rows : RowLaws g.rows g.size g.lawful) (settle : (y : Round) → Reached g.rule n own y → g.rule.steps n own (g.rule.steps n own y) ≡ g.rule.steps n own y) where
      heard_left : (j : ℕ) (xs : List ℕ) (h : Holding R C) → SheetsWell g n own h → VotesWell g n own h → Octets xs → Left h → Left (hear_after g n own j xs h)
      heard_left j xs h sw vw oct x = go (hear_answer_lem g n own j xs h) refl
        where
          go : (r : Result Heard Refused) → hear_answer_lem g n own j xs h ≡ r → Left (hear_after g n own j xs h)
          go (Ok New) e =
              let a : Accepted g n own j h xs New = accepted g n own j h xs rows oct New e in
              let m = a.message in
              let u = message_noted g n own j (placed m) h in
              let wu = (message_moved g n own any_vote any_share j laws keeps most lo a.sender a.other h vw m a.lawful (allowed j m)).well in
              let su = (noted_moved g n own any_sheet rows lo j a.sender a.other h sw.sound m a.lawful (subst Octets a.bytes oct) a.answer (may_take j m)).moves.sound in
              let all = slot_done g n own laws keeps most lo rows settle (slot_of m) (lawful_low (syntax_of g n) m a.lawful) u wu su
              (λ l ll ne. slot_kept g n own laws keeps most lo l ll h u (message_apart j a.sender a.other h vw xs m a.lawful (message_new g n own j h xs m a.answer) l ll ne) (x.slots l ll)) in
              subst Left (sym (new_taken g n own j h xs e m a.read)) (of_all (slot_taken g n own (slot_of m) u) all)
          go (Ok Known) e = subst Left (sym (known_left g n own j h xs e)) x
          go (Err r) e = subst Left (sym (refused_left g n own j h xs r e)) x

      -- every call
      pub call_left : (c : Call) (h : Holding R C) → SheetsWell g n own h → VotesWell g n own h → Allowed g c h → Left h → Left (call_after g n own c h)
      call_left (offer s) h sw vw can x =
          let t = noted g.rows n own own Send own h.slots s in
          let h1 = with_life Running h in
          let h2 = with_slots t h1 in
          let w1 = (life_moved g n own any_vote any_share laws keeps most lo Running h vw).well in
          let w2 = (flags_moved g n own any_vote any_share laws h1 t w1 (λ l e. e)).well in
          let s2 = (note_moves g.rows n rows own lo h.slots sw.sound own lo Send own s lo (eq-eqb own own refl) can.1 can.2 (sw.fresh can.0) any_sheet (λ _. tt) (inl refl)).sound in
          cond_both (sizes_ok n h) (slot_taken g n own own h2) h Left
          (λ _. of_all (slot_taken g n own own h2) (slot_done g n own laws keeps most lo rows settle own lo h2 w2 s2
          (λ l ll ne. slot_kept g n own laws keeps most lo l ll h h2
          (record {
            sheets = noted_apart own l ll ne Send own lo (eq-eqb own own refl) h.slots s;
            ballot = refl;
            rounds = λ r lt. refl;
            shown = λ r lt. refl;
            coin = coin_none g.coins own any_share h.coin vw.coin;
          })
          (x.slots l ll))))
          (λ _. x)
      call_left (hear j xs) h sw vw can x = heard_left j xs h sw vw can.1 x
      call_left look h sw vw can x = subst Left (sym (still h x can)) x
      call_left (say from) h sw vw can x = x
      call_left close h sw vw can x = go (close_answer g.rows n (closing_view h))
        where
          go : (r : Result (Unit {0}) Refused) → Left (if_accepted r (with_life Closed h) h)
          go (Ok y) = record { slots = λ k lk. let d = x.slots k lk in record { sheets = d.sheets; ballot = d.ballot }; proposed = λ o. x.proposed (inl can) }
          go (Err e) = x
      call_left (list index) h sw vw can x = x
      call_left write h sw vw can x = x
