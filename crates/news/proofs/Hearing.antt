-- What each call adds to what its replica has recorded: nothing is lost, and what is heard new is one more. Assumes nothing.
use Rattle.std.proofs.Common.{◌≡◌, ℕ, zero, suc, ◌+◌, ◌<◌, ◌≤◌, Bool, true, false, not, ◌&&◌, ◌||◌, ◌≢◌, eqb, T, List, length, Some, None, Ok, Err, Option, Result, is_some, sym, refl, ap, ◌∙◌, subst, arith, get_or-set_same}
use Rattle.std.proofs.lemmas.Bool.{and_parts, and_from, eq-eqb, cond-true, leb-true}
use Rattle.basis.specs.Bytes.{Octets}
use Rattle.basis.specs.Halls.{listed}
use Rattle.basis.specs.Refusals.{Refused}
use Rattle.basis.specs.declared.heard.Heard.{Heard}
use Rattle.basis.specs.declared.heard.Heard.TheVariants.{New, Known}
use Rattle.basis.proofs.Thirds.{at_most_16}
use Rattle.coins.specs.Coins.{Tossed, Sender, left_by}
use Rattle.messages.specs.declared.message.BitSet.{BitSet}
use Rattle.messages.specs.declared.message.Message.{Message}
use Rattle.messages.specs.declared.message.Message.TheVariants.{Sheet, Bit, Set, Share}
use Rattle.messages.specs.declared.message.Phase.{Phase}
use Rattle.messages.specs.declared.message.Vote.{Vote as VoteKind}
use Rattle.messages.specs.declared.message.Vote.TheVariants.{First, Second}
use Rattle.messages.specs.Reading.{Lawful as LawfulMessage, placed}
use Rattle.messages.specs.Tags.{vote_tag, bits_number, uses, is_set_tag}
use Rattle.messages.specs.Writing.{slot_of, written}
use Rattle.messages.specs.declared.tags.VoteTags.{VoteTags}
use Rattle.phases.specs.Steps.{hears, records}
use Rattle.rules.specs.Laws.{Reached, Audible, Laws}
use Rattle.rules.specs.Rounds.{Round, Vote, cleared, bit_set, is_new, adding}
use Rattle.ballots.specs.States.{Opened, unopened, place, round_at}
use Rattle.ballots.specs.Ballots.{with_opening}
use Rattle.ballot_runs.specs.Claims.{Stays}
use Rattle.broadcast.specs.Calls.{may_send}
use Rattle.broadcast.proofs.Moves.{Sound, Grows}
use Rattle.broadcast.proofs.Tables.{noted_here}
use Rattle.slots.specs.Places.{recorded}
use Rattle.outcomes.specs.Calls.{Call, offer, hear, look, say, close, list, write, HasOffered, Allowed, call_after}
use Rattle.outcomes.specs.Hearing.{bit_vote, set_vote, share_from, vote_noted, message_noted, hear_answer_lem, hear_after}
use Rattle.outcomes.specs.Holdings.{Setting, Holding, syntax_of, ballot_at, state_of}
use Rattle.outcomes.specs.Taking.{slot_taken}
use Rattle.evenings.specs.Claims.{Lawful}
use Rattle.sheet_turns.proofs.Messages.{accepted, new_taken, known_left, refused_left, message_new, Unheard}
use Rattle.sheet_turns.proofs.Moving.{slot_moved as sheets_slot_moved}
use Rattle.sheet_turns.proofs.Turns.{SheetsWell, Vouched, call_turn, MayTake, noted_moved}
use Rattle.vote_turns.proofs.Calling.{look_moved, close_moved, offer_moved, heard_moved, lawful_slot}
use Rattle.vote_turns.proofs.Heard.{Allows, message_moved}
use Rattle.vote_turns.proofs.Known.{view_of, CoinMoves, VotesWell}
use Rattle.vote_turns.proofs.Moved.{Moved, moved_none, moved_stays}
use Rattle.vote_turns.proofs.Taking.{slot_moved}
use Rattle.claims.proofs.Views.{view_round}
use Rattle.news.specs.Recorded.{has_vote, recorded_in, one_if_new, new_by}
use Rattle.news.proofs.Adding.{bit_within, set_within, Still, has_message, still_mono, message_more}

-- a vote that is added is there
adding_here : (t v j : ℕ) (votes : ℕ → ℕ → ℕ → Bool) → adding t v j votes t v j ≡ true
adding_here t v j votes = or_true (votes t v j) (eqb t t && (eqb v v && eqb j j)) (and_from _ _ (eq-eqb t t refl) (and_from _ _ (eq-eqb v v refl) (eq-eqb j j refl)))
  where
    or_true : (a b : Bool) → b ≡ true → (a || b) ≡ true
    or_true true b h = refl
    or_true false b h = h

-- the opening round records a new vote for a bit
opening_adds : (vote : VoteKind) (b : Bool) (j : ℕ) (m : Round) → is_new (bit_vote j (vote_tag vote) b) m ≡ true → (hears (bit_vote j (vote_tag vote) b) m).votes (vote_tag vote) (bit_set b) j ≡ true
opening_adds vote b j m new =
    subst (λ (z : Round). z.votes (vote_tag vote) (bit_set b) j ≡ true) (sym (cond-true (is_new (bit_vote j (vote_tag vote) b) m) (records (vote_tag vote) (bit_set b) j m) m new)) (go vote)
  where
    go : (vote : VoteKind) → (records (vote_tag vote) (bit_set b) j m).votes (vote_tag vote) (bit_set b) j ≡ true
    go First = adding_here 32 (bit_set b) j m.votes
    go Second = adding_here 33 (bit_set b) j m.votes

-- a lawful vote for a bit, and one for a set, may be heard
bit_audible : (tags : VoteTags) (n i j : ℕ) (vote : VoteKind) (b : Bool) → j < n → (j ≢ i) → Audible tags n i (bit_vote j (vote_tag vote) b)
bit_audible tags n i j vote b lj ne = let v = bit_within b in record { low = lj; other = ne; used = used vote; some = v.0; few = omega (arith, v.1); one = λ _. v.1 }
  where
    used : (vote : VoteKind) → uses tags (vote_tag vote) ≡ true
    used First = refl
    used Second = refl

set_audible : (tags : VoteTags) (n i j tag : ℕ) (v : BitSet) → j < n → (j ≢ i) → is_set_tag tag ≡ true → uses tags tag ≡ true → Audible tags n i (set_vote j tag (bits_number v))
set_audible tags n i j tag v lj ne high used =
    let w = set_within v in
    record { low = lj; other = ne; used = used; some = w.0; few = w.1; one = λ lt. absurd (let z = leb-true 34 tag (and_parts _ _ high).0 in omega arith) }

-- what is new is not recorded
new_not : (a b : Bool) → (not a && not b) ≡ true → a ≡ false
new_not true b h = sym h
new_not false b h = refl

some_there : {X : Type 0} (o : Option X) → is_some o ≡ true → (x : X) × (o ≡ Some x)
some_there None h = absurd (let z : ◌≡◌ {A = ℕ} 0 1 = cc in omega arith)
some_there (Some x) h = (x, refl)

module _ {R C : Type 0} (g : Setting R C) (n i : ℕ) (laws : Lawful g) (li : T (listed n)) (lo : i < n) where
  -- what may be heard does not matter here
  abbrev any_sheet : Phase → ℕ → ℕ → List ℕ → Type 0
  any_sheet ph k j x = Unit {0}

  abbrev any_vote : ℕ → ℕ → Vote → Type 0
  any_vote k r v = Unit {0}

  abbrev any_share : ℕ → ℕ → ℕ → ℕ → Type 0
  any_share k r j x = Unit {0}

  abbrev MovedTo : Holding R C → Holding R C → Type 0
  MovedTo h h' = Moved g n i any_vote any_share h h'

  rule_laws : Laws g.rule n i
  rule_laws = laws.rule n i li lo

  most : n ≤ 16
  most = at_most_16 n li

  any_allowed : (j : ℕ) (m : Message (List ℕ)) → Allows g n i any_vote any_share j m
  any_allowed j (Sheet ph k x) = tt
  any_allowed j (Bit vote k r b) = tt
  any_allowed j (Set tag k r v) = tt
  any_allowed j (Share k r x) = tt

  any_taken : (j : ℕ) (m : Message (List ℕ)) → MayTake any_sheet j m
  any_taken j (Sheet ph k x) = tt
  any_taken j (Bit vote k r b) = tt
  any_taken j (Set tag k r v) = tt
  any_taken j (Share k r x) = tt

  any_vouched : (c : Call) (h : Holding R C) → Vouched g n i any_sheet c h
  any_vouched (offer x) h = tt
  any_vouched (hear j xs) h = λ a. any_taken j a.message
  any_vouched look h = tt
  any_vouched (say from) h = tt
  any_vouched close h = tt
  any_vouched (list index) h = tt
  any_vouched write h = tt

  -- what stays of sheets, votes and shares is recorded still
  still_from : (h h' : Holding R C) → Grows g.rows n h.slots h'.slots → ((k : ℕ) → Stays (view_of g n h k) (view_of g n h' k)) → CoinMoves g.coins i any_share h.coin h'.coin → Still g n h h'
  still_from h h' grows stays coin = record {
    sheets = λ k ph j lk lj e.
        let p = and_parts (may_send ph k j) _ e in
        let x = some_there (recorded g.rows n h.slots.places ph k j) p.1 in
        and_from (may_send ph k j) _ p.0 (ap (λ (o : Option (List ℕ)). is_some o) (grows.sheets ph k j x.0 lk lj x.1));
    votes = λ k r t v j lk lr e.
        ap (λ (m : Round). m.votes t v j) (sym (view_round g n h' k lk r lr))
        ∙ ((stays k).rounds r).votes t v j (ap (λ (m : Round). m.votes t v j) (view_round g n h k lk r lr) ∙ e);
    shares = λ k r j lk lr lj e.
        let x = some_there (g.coins.taken_of h.coin k (suc r) j) e in
        ap (λ (o : Option ℕ). is_some o) (coin.taken k (suc r) j (record { ballot_below = omega (arith, most); round_from = omega arith; round_to = omega arith }) (omega (arith, most)) x.0 x.1);
  }

  module _ (h : Holding R C) (sheets : SheetsWell g n i h) (votes : VotesWell g n i h) where
    stands : MovedTo h h
    stands = moved_none g n i any_vote any_share h votes

    -- what a call does to the ballots
    call_moves : (c : Call) → Allowed g c h → MovedTo h (call_after g n i c h)
    call_moves (offer x) can = offer_moved g n i any_vote any_share rule_laws laws.coins most lo x h votes
    call_moves (hear j xs) can = go (hear_answer_lem g n i j xs h) refl
      where
        go : (r : Result Heard Refused) → hear_answer_lem g n i j xs h ≡ r → MovedTo h (hear_after g n i j xs h)
        go (Ok New) e =
            let a = accepted g n i j h xs laws.rows can.1 New e in
            subst (MovedTo h) (sym (new_taken g n i j h xs e a.message a.read))
            (heard_moved g n i any_vote any_share rule_laws laws.coins most lo j a.sender a.other a.message a.lawful (any_allowed j a.message) h votes)
        go (Ok Known) e = subst (MovedTo h) (sym (known_left g n i j h xs e)) stands
        go (Err r) e = subst (MovedTo h) (sym (refused_left g n i j h xs r e)) stands
    call_moves look can = look_moved g n i any_vote any_share rule_laws laws.coins most lo h votes
    call_moves (say from) can = stands
    call_moves close can = close_moved g n i any_vote any_share rule_laws laws.coins most lo h votes
    call_moves (list index) can = stands
    call_moves write can = stands

    pub call_still : (c : Call) → Allowed g c h → Still g n h (call_after g n i c h)
    call_still c can =
        let m = call_moves c can in
        let t = call_turn g n i any_sheet laws.rows lo c h sheets can (any_vouched c h) in
        still_from h (call_after g n i c h) t.moves.grows (moved_stays g n i any_vote any_share rule_laws h (call_after g n i c h) votes m) m.coin

    -- no call makes what is recorded less
    pub recorded_stays : (c : Call) → Allowed g c h → recorded_in g n h ≤ recorded_in g n (call_after g n i c h)
    recorded_stays c can = still_mono g n (call_still c can)

    module _ (j : ℕ) (lj : j < n) (ne : j ≢ i) where
      -- a vote that is recorded stands
      vote_there : (k r : ℕ) → k < n → r < 16 → (w : Vote) → Audible g.rule.tags n i w → (r ≡ 0 → (vote : VoteKind) × (b : Bool) × (w ≡ bit_vote j (vote_tag vote) b)) →
          is_new w (round_at k r (state_of k h)) ≡ true → has_vote g n (vote_noted g n i j k r w h) k r w.tag w.set w.sender ≡ true
      vote_there k zero lk lr w au bits new =
          let p = bits refl in
          let o = with_opening (hears w (ballot_at k h).opening) (ballot_at k h) in
          ap (λ (x : Opened). x.opening.votes w.tag w.set w.sender) (get_or-set_same h.ballots k o unopened (let q = votes.ballots_room in omega arith))
          ∙ subst (λ (z : Vote). is_new z (ballot_at k h).opening ≡ true → (hears z (ballot_at k h).opening).votes z.tag z.set z.sender ≡ true) (sym p.2) (opening_adds p.0 p.1 j (ballot_at k h).opening) new
      vote_there k (suc r) lk lr w au bits new =
          let m = round_at k (suc r) (state_of k h) in
          let low : place k r < length h.rounds = (let q = votes.rounds_room in omega arith) in
          let reached = subst (λ (z : Round). Reached g.rule n i z) (view_round g n h k lk (suc r) lr) ((votes.well k lk).grounded.reached (suc r)) in
          ap (λ (z : Round). z.votes w.tag w.set w.sender) (get_or-set_same h.rounds (place k r) (g.rule.hear n i w m) cleared low)
          ∙ rule_laws.hearing_adds_the_vote m reached w au new w.tag w.set w.sender
          ∙ adding_here w.tag w.set w.sender m.votes

      -- the new message is recorded, before the steps of its slot
      noted_there : (xs : List ℕ) → (m : Message (List ℕ)) → LawfulMessage (syntax_of g n) m → Octets (written m) → Unheard g n i j h xs m → has_message g n (message_noted g n i j (placed m) h) j m ≡ true
      noted_there xs (Sheet ph k x) law oct new =
          and_from (may_send ph k j) _ new.0 (ap (λ (o : Option (List ℕ)). is_some o) (noted_here g.rows n i k ph j h.slots x laws.rows law.0 lj sheets.sound.places_fit law.1 (λ p. oct (suc (suc (suc (suc p)))))))
      noted_there xs (Bit vote k r b) law oct new = vote_there k r law.0 (omega (arith, law.1)) (bit_vote j (vote_tag vote) b) (bit_audible g.rule.tags n i j vote b lj ne) (λ _. (vote, b, refl)) new
      noted_there xs (Set tag k r v) law oct new = vote_there k r law.0 (omega (arith, law.2)) (set_vote j tag (bits_number v)) (set_audible g.rule.tags n i j tag v lj ne law.3 law.4) (λ e. absurd (omega (arith, law.1))) new
      noted_there xs (Share k r x) law oct new =
          let s = share_from j k r x in
          let tossed : Tossed k r = record { ballot_below = omega (arith, most, law.0); round_from = law.1; round_to = law.2 } in
          let sender : Sender j = omega (arith, most) in
          subst (λ (o : Option ℕ). is_some (g.coins.taken_of (left_by o (g.coins.taken h.coin s) h.coin) k r j) ≡ true) (sym new)
          (ap (λ (o : Option ℕ). is_some o)
          (laws.coins.adds_one h.coin s (record { used = law.4; sound = votes.coin; lawful = record { tossed = tossed; sender_below = sender; value_to = law.3 }; new = new }) k r j tossed sender
          ∙ cond-true (eqb k k && eqb r r && eqb j j) (Some x) (g.coins.taken_of h.coin k r j) (and_from _ _ (and_from _ _ (eq-eqb k k refl) (eq-eqb r r refl)) (eq-eqb j j refl))))

      -- the steps keep it
      steps_still : (m : Message (List ℕ)) → LawfulMessage (syntax_of g n) m → (t : Holding R C) → Sound g.rows n i t.slots → VotesWell g n i t → Still g n t (slot_taken g n i (slot_of m) t)
      steps_still m law t sound well =
          let lk = lawful_slot g n m law in
          let x = slot_moved g n i any_vote any_share rule_laws laws.coins most lo (slot_of m) lk t well in
          let y = sheets_slot_moved g n i any_sheet laws.rows lo (slot_of m) lk t sound in
          still_from t (slot_taken g n i (slot_of m) t) y.moves.grows (moved_stays g n i any_vote any_share rule_laws t (slot_taken g n i (slot_of m) t) well x) x.coin

      -- what still stands of a message
      message_still : (t t' : Holding R C) → Still g n t t' → (m : Message (List ℕ)) → LawfulMessage (syntax_of g n) m → has_message g n t j m ≡ true → has_message g n t' j m ≡ true
      message_still t t' s (Sheet ph k x) law e = s.sheets k ph j law.0 lj e
      message_still t t' s (Bit vote k r b) law e = s.votes k r (vote_tag vote) (bit_set b) j law.0 (omega (arith, law.1)) e
      message_still t t' s (Set tag k r v) law e = s.votes k r tag (bits_number v) j law.0 (omega (arith, law.2)) e
      message_still t t' s (Share k zero x) law e = absurd (omega (arith, law.1))
      message_still t t' s (Share k (suc r) x) law e = s.shares k r j law.0 (omega (arith, law.2)) lj e

      unheard_not : (xs : List ℕ) (m : Message (List ℕ)) → Unheard g n i j h xs m → has_message g n h j m ≡ false
      unheard_not xs (Sheet ph k x) u = ap (λ (o : Option (List ℕ)). may_send ph k j && is_some o) u.1 ∙ ap (λ (b : Bool). b && false) u.0
      unheard_not xs (Bit vote k r b) u = new_not _ _ u
      unheard_not xs (Set tag k r v) u = new_not _ _ u
      unheard_not xs (Share k r x) u = ap (λ (o : Option ℕ). is_some o) u

    -- what is heard new makes it more
    pub recorded_grows : (j : ℕ) (xs : List ℕ) → Octets xs → HasOffered h.life → hear_answer_lem g n i j xs h ≡ Ok New → recorded_in g n h < recorded_in g n (hear_after g n i j xs h)
    recorded_grows j xs oct live e =
        let a = accepted g n i j h xs laws.rows oct New e in
        let t = message_noted g n i j (placed a.message) h in
        let u = message_new g n i j h xs a.message a.answer in
        let wide = subst Octets a.bytes oct in
        let well = (message_moved g n i any_vote any_share j rule_laws laws.coins most lo a.sender a.other h votes a.message a.lawful (any_allowed j a.message)).well in
        let sound = (noted_moved g n i any_sheet laws.rows lo j a.sender a.other h sheets.sound a.message a.lawful wide a.answer (any_taken j a.message)).moves.sound in
        let there = noted_there j a.sender a.other xs a.message a.lawful wide u in
        let kept = message_still j a.sender a.other t (slot_taken g n i (slot_of a.message) t) (steps_still j a.sender a.other a.message a.lawful t sound well) a.message a.lawful there in
        message_more g n (call_still (hear j xs) (live, oct)) j a.sender a.message a.lawful (unheard_not j a.sender a.other xs a.message u)
        (subst (λ (z : Holding R C). has_message g n z j a.message ≡ true) (sym (new_taken g n i j h xs e a.message a.read)) kept)

    -- so each call adds at least 1 where it hears something new
    pub news_added : (c : Call) → Allowed g c h → new_by g n i c h + recorded_in g n h ≤ recorded_in g n (call_after g n i c h)
    news_added (offer x) can = let m = recorded_stays (offer x) can in omega arith
    news_added (hear j xs) can = go (hear_answer_lem g n i j xs h) refl
      where
        go : (r : Result Heard Refused) → hear_answer_lem g n i j xs h ≡ r → one_if_new r + recorded_in g n h ≤ recorded_in g n (hear_after g n i j xs h)
        go (Ok New) e = let m = recorded_grows j xs can.1 can.0 e in omega arith
        go (Ok Known) e = let m = recorded_stays (hear j xs) can in omega arith
        go (Err r) e = let m = recorded_stays (hear j xs) can in omega arith
    news_added look can = let m = recorded_stays look can in omega arith
    news_added (say from) can = let m = recorded_stays (say from) can in omega arith
    news_added close can = let m = recorded_stays close can in omega arith
    news_added (list index) can = let m = recorded_stays (list index) can in omega arith
    news_added write can = let m = recorded_stays write can in omega arith
