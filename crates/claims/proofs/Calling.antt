-- What one call at an honest replica does to a hall, and so what all calls of an evening do. Assumes nothing.
use Rattle.std.proofs.Common.{◌≡◌, ℕ, ◌<◌, ◌≤◌, Bool, true, not, T, List, Ok, Err, Result, sym, refl, ap, ◌∙◌, subst, ⊎_elim, arith}
use Rattle.basis.specs.Counts.{count}
use Rattle.basis.specs.Halls.{listed, faults}
use Rattle.basis.specs.Refusals.{Refused}
use Rattle.basis.specs.declared.heard.Heard.{Heard}
use Rattle.basis.specs.declared.heard.Heard.TheVariants.{New, Known}
use Rattle.basis.proofs.Thirds.{at_most_16}
use Rattle.messages.specs.declared.message.Message.{Message}
use Rattle.messages.specs.declared.message.Message.TheVariants.{Sheet, Bit, Set, Share}
use Rattle.messages.specs.Reading.{Lawful as LawfulMessage}
use Rattle.messages.specs.Tags.{vote_tag, bits_number}
use Rattle.rules.specs.Laws.{Laws}
use Rattle.rules.specs.Rounds.{Round, bit_set}
use Rattle.ballot_runs.specs.Runs.{opened}
use Rattle.ballot_runs.proofs.Lasting.{stays_same, stays_then, turns_stay}
use Rattle.broadcast.proofs.Moves.{grows_on, moves_none, Sound}
use Rattle.broadcast.proofs.Tables.{none_some}
use Rattle.outcomes.specs.Calls.{Call, offer, hear, look, say, close, list, write, Allowed, HasSaid, Said, call_after}
use Rattle.outcomes.specs.Hearing.{hear_answer_lem, hear_after}
use Rattle.outcomes.specs.Holdings.{Closed, Setting, Holding, syntax_of, ballot_at}
use Rattle.evenings.specs.Evenings.{Replica, held, upd, AllOpen, Authentic, Leads, nothing, called, Evening}
use Rattle.evenings.specs.Claims.{Lawful}
use Rattle.sheet_turns.proofs.Closing.{MayClose, closed_may}
use Rattle.sheet_turns.proofs.Halls.{caller_turn, whole_called, whole_opened, authentic_vouched, MayQuote}
use Rattle.sheet_turns.proofs.Messages.{Accepted, accepted, new_taken, known_left, refused_left, said_message}
use Rattle.sheet_turns.proofs.Turns.{Turn, call_life, closed_by, may_stay, life_after}
use Rattle.vote_turns.proofs.Calling.{look_moved, close_moved, offer_moved, heard_moved}
use Rattle.vote_turns.proofs.Heard.{Allows}
use Rattle.vote_turns.proofs.Known.{view_of}
use Rattle.vote_turns.proofs.Moved.{Moved, moved_none}
use Rattle.vote_turns.proofs.Starting.{opened_fresh, opened_well}
use Rattle.claims.proofs.Halls.{Turned, Whole, Grown, ballots_of, QuotedBallot, QuotedShare, whole_turned, grown_turned, at_upd}
use Rattle.claims.proofs.Views.{view_decided, view_round}

module _ {R C Row : Type 0} (g : Setting R C) (meaning : Row → Round) (n : ℕ) (honest : ℕ → Bool) (laws : Lawful g) (li : T (listed n)) (few : count n (λ j. not (honest j)) ≤ faults n) where
  abbrev Hall : Type 0
  Hall = ℕ → Replica R C Row

  abbrev Fine : ℕ → Type 0
  Fine i = (i < n) × (honest i ≡ true)

  abbrev holds : Hall → ℕ → Holding R C
  holds s i = held meaning (s i)

  laws_at : (i : ℕ) → Fine i → Laws g.rule n i
  laws_at i gi = laws.rule n i li gi.0

  -- what is heard of an honest sender is what it has said, of votes and of shares
  votes_quoted : (s : Hall) (i j : ℕ) (xs : List ℕ) → (a : Accepted g n i j (holds s i) xs New) → (honest j ≡ true → Said g n j (holds s j) xs) →
      Allows g n i (QuotedBallot g meaning n honest laws.rows s) (QuotedShare g meaning n honest laws.rows s) j a.message
  votes_quoted s i j xs a said = go a.message a.lawful (λ hj. let d = said hj in subst (HasSaid g n j (holds s j)) (sym (said_message g n i j (holds s i) xs laws.rows (holds s j) d a.message a.read)) d.has_said)
    where
      go : (m : Message (List ℕ)) → LawfulMessage (syntax_of g n) m → (honest j ≡ true → HasSaid g n j (holds s j) m) → Allows g n i (QuotedBallot g meaning n honest laws.rows s) (QuotedShare g meaning n honest laws.rows s) j m
      go (Sheet ph k x) law has = tt
      go (Bit vote k r b) law has = λ hj. ap (λ (m : Round). m.votes (vote_tag vote) (bit_set b) j) (view_round g n (holds s j) k law.0 r (let z = law.1 in omega arith)) ∙ has hj
      go (Set tag k r v) law has = λ hj. ap (λ (m : Round). m.votes tag (bits_number v) j) (view_round g n (holds s j) k law.0 r (let z = law.2 in omega arith)) ∙ has hj
      go (Share k r x) law has = λ hj. has hj

  module _ (s : Hall) (w : Whole g meaning n honest laws.rows s) (i : ℕ) (gi : Fine i) where
    abbrev MovedTo : Holding R C → Type 0
    MovedTo h = Moved g n i (QuotedBallot g meaning n honest laws.rows s) (QuotedShare g meaning n honest laws.rows s) (holds s i) h

    stands : MovedTo (holds s i)
    stands = moved_none g n i (QuotedBallot g meaning n honest laws.rows s) (QuotedShare g meaning n honest laws.rows s) (holds s i) (w.votes i gi)

    -- what a call does to the ballots of its replica
    call_moved : (c : Call) → Allowed g c (holds s i) → Authentic g meaning n honest s i c → MovedTo (call_after g n i c (holds s i))
    call_moved (offer x) can au = offer_moved g n i (QuotedBallot g meaning n honest laws.rows s) (QuotedShare g meaning n honest laws.rows s) (laws_at i gi) laws.coins (at_most_16 n li) gi.0 x (holds s i) (w.votes i gi)
    call_moved (hear j xs) can au = go (hear_answer_lem g n i j xs (holds s i)) refl
      where
        go : (r : Result Heard Refused) → hear_answer_lem g n i j xs (holds s i) ≡ r → MovedTo (hear_after g n i j xs (holds s i))
        go (Ok New) e =
            let a = accepted g n i j (holds s i) xs laws.rows can.1 New e in
            subst MovedTo (sym (new_taken g n i j (holds s i) xs e a.message a.read))
            (heard_moved g n i (QuotedBallot g meaning n honest laws.rows s) (QuotedShare g meaning n honest laws.rows s) (laws_at i gi) laws.coins (at_most_16 n li) gi.0 j a.sender a.other a.message a.lawful
            (votes_quoted s i j xs a (λ hj. au a.sender hj a.other)) (holds s i) (w.votes i gi))
        go (Ok Known) e = subst MovedTo (sym (known_left g n i j (holds s i) xs e)) stands
        go (Err r) e = subst MovedTo (sym (refused_left g n i j (holds s i) xs r e)) stands
    call_moved look can au = look_moved g n i (QuotedBallot g meaning n honest laws.rows s) (QuotedShare g meaning n honest laws.rows s) (laws_at i gi) laws.coins (at_most_16 n li) gi.0 (holds s i) (w.votes i gi)
    call_moved (say from) can au = stands
    call_moved close can au = close_moved g n i (QuotedBallot g meaning n honest laws.rows s) (QuotedShare g meaning n honest laws.rows s) (laws_at i gi) laws.coins (at_most_16 n li) gi.0 (holds s i) (w.votes i gi)
    call_moved (list index) can au = stands
    call_moved write can au = stands

    -- a closed replica stays closed
    life_stays : (c : Call) → Allowed g c (holds s i) → Authentic g meaning n honest s i c → (s i).life ≡ Closed → (call_after g n i c (holds s i)).life ≡ Closed
    life_stays c can au e = go c can (call_life g n i (MayQuote g meaning n honest laws.rows s) laws.rows gi.0 c (holds s i) (w.cast.well i gi) can (authentic_vouched g meaning n honest laws.rows s i c au))
      where
        go : (c : Call) → Allowed g c (holds s i) → (call_after g n i c (holds s i)).life ≡ life_after g n i (MayQuote g meaning n honest laws.rows s) laws.rows gi.0 c (holds s i) → (call_after g n i c (holds s i)).life ≡ Closed
        go (offer x) can q = absurd (let p = sym can.0 ∙ e in let z : ◌≡◌ {A = ℕ} 0 1 = cc in omega arith)
        go (hear j xs) can q = q ∙ e
        go look can q = q ∙ e
        go (say from) can q = q ∙ e
        go close can q = absurd (let p = sym can ∙ e in let z : ◌≡◌ {A = ℕ} 0 1 = cc in omega arith)
        go (list index) can q = q ∙ e
        go write can q = q ∙ e

    module _ (c : Call) (can : Allowed g c (holds s i)) (au : Authentic g meaning n honest s i c) (t : Replica R C Row) (e : held meaning t ≡ call_after g n i c (holds s i)) where
      moved_to : MovedTo (held meaning t)
      moved_to = subst MovedTo (sym e) (call_moved c can au)

      sheets_turn : Turn g n i (MayQuote g meaning n honest laws.rows s) (holds s i) (held meaning t)
      sheets_turn = caller_turn g meaning n honest laws.rows s w.cast i c gi can au t e

      kept_decision : (k : ℕ) → k < n → 0 < (ballot_at k (holds s i)).decided → (ballot_at k (held meaning t)).decided ≡ (ballot_at k (holds s i)).decided
      kept_decision k lk lo =
          let q = view_decided g n (holds s i) k lk in
          let st = turns_stay g.rule n honest few laws_at (ballots_of g meaning n honest laws.rows s) w.run i (view_of g n (held meaning t)) gi moved_to.turns k in
          sym (view_decided g n (held meaning t) k lk) ∙ st.decided (subst (λ (z : ℕ). 0 < z) (sym q) lo) ∙ q

      closed_well : (held meaning t).life ≡ Closed → MayClose g n i (held meaning t)
      closed_well q = may_stay g n i (holds s i) (held meaning t) (w.cast.well i gi) sheets_turn kept_decision
          (⊎_elim (w.closed i gi) (λ z. closed_may g n i (holds s i) z.1)
          (closed_by g n i (MayQuote g meaning n honest laws.rows s) laws.rows gi.0 c (holds s i) (w.cast.well i gi) can (authentic_vouched g meaning n honest laws.rows s i c au) (ap (λ (z : Holding R C). z.life) (sym e) ∙ q)))

      pub turned_by : Turned g meaning n honest laws.rows s i (held meaning t)
      turned_by = record {
        votes = moved_to.well;
        closed = closed_well;
        turns = moved_to.turns;
        coin = moved_to.coin;
        stays_closed = λ q. ap (λ (z : Holding R C). z.life) e ∙ life_stays c can au q;
        grows = sheets_turn.moves.grows;
      }

      pub whole_after : Whole g meaning n honest laws.rows (upd s i t)
      whole_after = whole_turned g meaning n honest laws.rows few laws_at s w i gi t (whole_called g meaning n honest laws.rows s w.cast i c gi can au t e few) turned_by

      pub grown_after : (j : ℕ) → Fine j → Grown g meaning n honest laws.rows (holds s j) (holds (upd s i t) j)
      grown_after j gj = at_upd (λ (z : Replica R C Row). Grown g meaning n honest laws.rows (holds s j) (held meaning z)) s i j t
          (λ q. subst (λ (z : ℕ). Grown g meaning n honest laws.rows (holds s z) (held meaning t)) (sym q) (grown_turned g meaning n honest laws.rows few laws_at s w i gi (held meaning t) turned_by))
          (λ _. grown_same (holds s j) (w.cast.well j gj).sound)
        where
          grown_same : (h : Holding R C) → Sound g.rows n j h.slots → Grown g meaning n honest laws.rows h h
          grown_same h so = record { sheets = (moves_none g.rows n {ok = MayQuote g meaning n honest laws.rows s} so).grows; views = λ k. stays_same (view_of g n h k); shares = λ k r j v to se q. q; closed = λ q. q }

  grown_then : (h h' h'' : Holding R C) → Grown g meaning n honest laws.rows h h' → Grown g meaning n honest laws.rows h' h'' → Grown g meaning n honest laws.rows h h''
  grown_then h h' h'' a b = record {
    sheets = grows_on g.rows n a.sheets b.sheets;
    views = λ k. stays_then (view_of g n h k) (view_of g n h' k) (view_of g n h'' k) (a.views k) (b.views k);
    shares = λ k r j v to se q. b.shares k r j v to se (a.shares k r j v to se q);
    closed = λ q. b.closed (a.closed q);
  }

  -- a hall that is opened
  pub whole_begun : (s : Hall) → AllOpen g meaning n honest s → Whole g meaning n honest laws.rows s
  whole_begun s o = record {
    cast = whole_opened g meaning n honest laws.rows s o;
    votes = λ i gi. opened_well g n i (holds s i) (o i gi);
    closed = λ i gi q. absurd (let p = sym (o i gi).fresh ∙ q in let z : ◌≡◌ {A = ℕ} 0 1 = cc in omega arith);
    run = opened (ballots_of g meaning n honest laws.rows s) (λ i k gi. opened_fresh g n i (holds s i) (o i gi) k);
    shares = λ i j k r v gi gj to se h. absurd (none_some ((o i gi).new_coin.none_taken k r j to se) h);
    own_shares = λ i k r v gi to se h. absurd (none_some ((o i gi).new_coin.none_taken k r i to se) h);
  }

  -- what calls in any order lead to
  pub record After (s s' : Hall) : Type 0 where
    pub whole : Whole g meaning n honest laws.rows s'
    pub grown : (i : ℕ) → Fine i → Grown g meaning n honest laws.rows (holds s i) (holds s' i)

  pub leads_after : {s s' : Hall} → Whole g meaning n honest laws.rows s → Leads g meaning n honest s s' → After s s'
  leads_after {s} w nothing = record { whole = w; grown = λ i gi. record { sheets = (moves_none g.rows n {ok = MayQuote g meaning n honest laws.rows s} (w.cast.well i gi).sound).grows; views = λ k. stays_same (view_of g n (holds s i) k); shares = λ k r j v to se q. q; closed = λ q. q } }
  leads_after {s} w (called {s'} r i c gi can au t e) =
      let a = leads_after w r in
      record {
        whole = whole_after s' a.whole i gi c can au t e;
        grown = λ j gj. grown_then (holds s j) (holds s' j) (holds (upd s' i t) j) (a.grown j gj) (grown_after s' a.whole i gi c can au t e j gj);
      }

  pub evening_whole : {s : Hall} → Evening g meaning n honest s → Whole g meaning n honest laws.rows s
  evening_whole e = (leads_after (whole_begun e.start e.opened) e.calls).whole
