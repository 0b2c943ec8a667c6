-- The sheets of a whole hall, through every evening, and at rest. Assumes nothing.
use Rattle.std.proofs.Common.{◌≡◌, ℕ, ◌+◌, ◌*◌, ◌<◌, ◌≤◌, Bool, true, not, eqb, List, Some, None, sym, refl, subst, inl, inr, ⊎_elim}
use Rattle.std.proofs.lemmas.Bool.{cases_eq, eqb-true, eq-eqb, ne_eqb, cond-true, cond-false, cond_both}
use Rattle.basis.specs.Counts.{count}
use Rattle.basis.specs.Halls.{faults}
use Rattle.broadcast.specs.Calls.{may_send}
use Rattle.broadcast.specs.Claims.{RowLaws}
use Rattle.broadcast.proofs.Everywhere.{deliveries_same, delivery_sent, Quiet, delivery_shared, sent_delivered}
use Rattle.broadcast.proofs.Kept.{Kept, Quoted, kept_moved, kept_empty}
use Rattle.broadcast.proofs.Moves.{at, Grows, grows_on, moves_none}
use Rattle.broadcast.proofs.Tables.{none_some, some_inj}
use Rattle.messages.specs.declared.message.Message.TheVariants.{Sheet}
use Rattle.messages.specs.declared.message.Phase.{Phase}
use Rattle.messages.specs.declared.message.Phase.TheVariants.{Send}
use Rattle.messages.specs.Writing.{written}
use Rattle.rules.specs.Rounds.{Round}
use Rattle.slots.proofs.Positions.{place_within}
use Rattle.slots.specs.Places.{place}
use Rattle.slots.specs.Steps.{Slots}
use Rattle.outcomes.specs.Calls.{Call, offer, hear, look, say, close, list, write, HasOffered, Allowed, HasSaid, Said, call_after}
use Rattle.outcomes.specs.Closing.{closing_view, sheet_of_slot}
use Rattle.outcomes.specs.Holdings.{Setting, Holding}
use Rattle.evenings.specs.Claims.{AtRest}
use Rattle.evenings.specs.Evenings.{Replica, held, upd, AllOpen, Authentic, Leads, nothing, called, Offers, Evening}
use Rattle.sheet_turns.proofs.Messages.{said_known}
use Rattle.sheet_turns.proofs.Turns.{SheetsWell, opened_well, Turn, turn_none, Vouched, call_turn, call_sends, call_sent, quoted, sheet_stays, still_settled}

-- a hall where one replica has changed
pub at_upd : {X : Type 0} (P : X → Type 0) (s : ℕ → X) (i j : ℕ) (t : X) → (j ≡ i → P t) → P (s j) → P (upd s i t j)
at_upd P s i j t new old = cond_both (eqb j i) t (s j) P (λ e. new (eqb-true j i e)) (λ _. old)

pub upd_here : {X : Type 0} (s : ℕ → X) (i : ℕ) (t : X) → upd s i t i ≡ t
upd_here s i t = cond-true (eqb i i) t (s i) (eq-eqb i i refl)

pub upd_there : {X : Type 0} (s : ℕ → X) (i j : ℕ) (t : X) → (j ≡ i → ⊥) → upd s i t j ≡ s j
upd_there s i j t ne = cond-false (eqb j i) t (s j) (ne_eqb j i ne)

module _ {R C Row : Type 0} (g : Setting R C) (meaning : Row → Round) (n : ℕ) (honest : ℕ → Bool) (laws : RowLaws g.rows g.size g.lawful) where
  abbrev Hall : Type 0
  Hall = ℕ → Replica R C Row

  abbrev Fine : ℕ → Type 0
  Fine i = (i < n) × (honest i ≡ true)

  -- what a replica holds, and its sheets
  abbrev pub holds_at : Hall → ℕ → Holding R C
  holds_at s i = held meaning (s i)

  abbrev pub tables : Hall → ℕ → Slots R
  tables s i = (held meaning (s i)).slots

  abbrev pub MayQuote : Hall → Phase → ℕ → ℕ → List ℕ → Type 0
  MayQuote s = Quoted g.rows n honest (tables s)

  -- what is known of the sheets of a hall
  pub record SheetsWhole (s : Hall) : Type 0 where
    pub well : (i : ℕ) → Fine i → SheetsWell g n i (held meaning (s i))
    pub kept : Kept g.rows n honest (tables s)

  pub authentic_vouched : (s : Hall) (i : ℕ) (c : Call) → Authentic g meaning n honest s i c → Vouched g n i (MayQuote s) c (held meaning (s i))
  authentic_vouched s i (offer x) au = tt
  authentic_vouched s i (hear j xs) au = λ a. quoted g n i laws honest (holds_at s) j (held meaning (s i)) xs a (λ hj. au a.sender hj a.other)
  authentic_vouched s i look au = tt
  authentic_vouched s i (say from) au = tt
  authentic_vouched s i close au = tt
  authentic_vouched s i (list index) au = tt
  authentic_vouched s i write au = tt

  -- one call is a turn of every honest replica
  module _ (s : Hall) (wh : SheetsWhole s) (i : ℕ) (c : Call) (gi : Fine i) (can : Allowed g c (held meaning (s i))) (au : Authentic g meaning n honest s i c) (t : Replica R C Row) (e : held meaning t ≡ call_after g n i c (held meaning (s i))) where
    pub caller_turn : Turn g n i (MayQuote s) (held meaning (s i)) (held meaning t)
    caller_turn = subst (λ (z : Holding R C). Turn g n i (MayQuote s) (held meaning (s i)) z) (sym e) (call_turn g n i (MayQuote s) laws gi.0 c (held meaning (s i)) (wh.well i gi) can (authentic_vouched s i c au))

    pub hall_turn : (j : ℕ) → Fine j → Turn g n j (MayQuote s) (held meaning (s j)) (held meaning (upd s i t j))
    hall_turn j gj = at_upd (λ (z : Replica R C Row). Turn g n j (MayQuote s) (held meaning (s j)) (held meaning z)) s i j t
        (λ d. subst (λ (z : ℕ). Turn g n z (MayQuote s) (held meaning (s z)) (held meaning t)) (sym d) caller_turn) (turn_none g n j (MayQuote s) (wh.well j gj))

    pub whole_called : count n (λ j. not (honest j)) ≤ faults n → SheetsWhole (upd s i t)
    whole_called few = record {
      well = λ j gj. (hall_turn j gj).well;
      kept = kept_moved g.rows n honest few (tables s) (tables (upd s i t)) (λ j gj. (hall_turn j gj).moves) wh.kept;
    }

  empty_at : (s : Hall) → AllOpen g meaning n honest s → (i : ℕ) (ph : Phase) (k j : ℕ) → Fine i → k < n → j < n → at g.rows n (tables s i) ph k j ≡ None
  empty_at s o i ph k j gi lk lj = (o i gi).tables.empty (place n ph k j) (place_within n ph k j lk lj)

  pub whole_opened : (s : Hall) → AllOpen g meaning n honest s → SheetsWhole s
  whole_opened s o =
      let well = λ (i : ℕ) (gi : Fine i). opened_well g n i gi.0 (held meaning (s i)) (o i gi) in
      record { well = well; kept = kept_empty g.rows n honest (tables s) (λ i gi. (well i gi).sound) (empty_at s o) }

  module _ (few : count n (λ j. not (honest j)) ≤ faults n) where
    -- through calls in any order all is kept, and sheets and deliveries stay
    pub record Later (s s' : Hall) : Type 0 where
      pub whole : SheetsWhole s'
      pub grows : (i : ℕ) → Fine i → Grows g.rows n (tables s i) (tables s' i)
      pub offered : (i : ℕ) → Fine i → HasOffered (s i).life → HasOffered (s' i).life

    pub leads_later : {s s' : Hall} → SheetsWhole s → Leads g meaning n honest s s' → Later s s'
    leads_later {s} wh nothing = record { whole = wh; grows = λ i gi. (moves_none g.rows n {ok = MayQuote s} (wh.well i gi).sound).grows; offered = λ i gi o. o }
    leads_later wh (called {s'} r i c gi can au t e) =
        let a = leads_later wh r in
        let turns = hall_turn s' a.whole i c gi can au t e in
        record {
          whole = whole_called s' a.whole i c gi can au t e few;
          grows = λ j gj. grows_on g.rows n (a.grows j gj) (turns j gj).moves.grows;
          offered = λ j gj o. (turns j gj).offered (a.offered j gj o);
        }

    pub evening_whole : {s : Hall} → Evening g meaning n honest s → SheetsWhole s
    evening_whole e = (leads_later (whole_opened e.start e.opened) e.calls).whole

    -- a replica has sent what it was called to offer, and nothing else
    pub offers_sent : {s s' : Hall} (wh : SheetsWhole s) (r : Leads g meaning n honest s s') (k : ℕ) (x : List ℕ) → Fine k → Offers g meaning n honest r k x → at g.rows n (tables s' k) Send k k ≡ Some x
    offers_sent wh nothing k x gk h = absurd h
    offers_sent wh (called {s'} r i c gi can au t e) k x gk (inl h) =
        let w = (leads_later wh r).whole.well i gi in
        let here : at g.rows n (held meaning t).slots Send i i ≡ Some x = subst (λ (z : Holding R C). at g.rows n z.slots Send i i ≡ Some x) (sym e) (call_sends' c can h.1 w) in
        subst (λ (z : ℕ). at g.rows n (tables (upd s' i t) z) Send z z ≡ Some x) h.0 (subst (λ (z : Replica R C Row). at g.rows n (held meaning z).slots Send i i ≡ Some x) (sym (upd_here s' i t)) here)
      where
        call_sends' : (c : Call) → Allowed g c (held meaning (s' i)) → c ≡ offer x → SheetsWell g n i (held meaning (s' i)) → at g.rows n (call_after g n i c (held meaning (s' i))).slots Send i i ≡ Some x
        call_sends' c can q w = subst (λ (z : Call). at g.rows n (call_after g n i z (held meaning (s' i))).slots Send i i ≡ Some x) (sym q) (call_sends g n i (MayQuote s') laws gi.0 (held meaning (s' i)) w x (subst (λ (z : Call). Allowed g z (held meaning (s' i))) q can))
    offers_sent wh (called {s'} r i c gi can au t e) k x gk (inr h) = (hall_turn s' (leads_later wh r).whole i c gi can au t e k gk).moves.grows.sheets Send k k x gk.0 gk.0 (offers_sent wh r k x gk h)

    pub sent_offers : {s s' : Hall} → AllOpen g meaning n honest s → (r : Leads g meaning n honest s s') (k : ℕ) (x : List ℕ) → Fine k → at g.rows n (tables s' k) Send k k ≡ Some x → Offers g meaning n honest r k x
    sent_offers {s} o nothing k x gk h = none_some (empty_at s o k Send k k gk gk.0 gk.0) h
    sent_offers {s} o (called {s'} r i c gi can au t e) k x gk h = ⊎_elim
        (λ q. let here : at g.rows n (held meaning t).slots Send i i ≡ Some x = subst (λ (z : Replica R C Row). at g.rows n (held meaning z).slots Send i i ≡ Some x) (upd_here s' i t) (subst (λ (z : ℕ). at g.rows n (tables (upd s' i t) z) Send z z ≡ Some x) q h) in
        let after : at g.rows n (call_after g n i c (held meaning (s' i))).slots Send i i ≡ Some x = subst (λ (z : Holding R C). at g.rows n z.slots Send i i ≡ Some x) e here in
        ⊎_elim (λ p. inl (sym q, p)) (λ old. inr (sent_offers o r k x gk (subst (λ (z : ℕ). at g.rows n (tables s' z) Send z z ≡ Some x) (sym q) old)))
        (call_sent g n i (MayQuote s') laws gi.0 c (held meaning (s' i)) ((leads_later (whole_opened s o) r).whole.well i gi) can (authentic_vouched s' i c au) x after))
        (λ ne. inr (sent_offers o r k x gk (subst (λ (z : Replica R C Row). at g.rows n (held meaning z).slots Send k k ≡ Some x) (upd_there s' i k t ne) h)))
        (cases_eq k i)

    module _ (three : n ≡ 3 * faults n + 1) where
      -- the sheets of a slot are the same at two moments, and at two replicas
      pub sheets_agree : (s s' : Hall) → SheetsWhole s → Later s s' → (i j k : ℕ) (x x' : List ℕ) → Fine i → Fine j → k < n → sheet_of_slot g.rows n (closing_view (held meaning (s i))) k ≡ Some x → sheet_of_slot g.rows n (closing_view (held meaning (s' j))) k ≡ Some x' → x ≡ x'
      sheets_agree s s' wh l i j k x x' gi gj lk a b =
          let c = sheet_stays g n i (held meaning (s i)) (held meaning (s' i)) (wh.well i gi).sound (l.grows i gi) k x lk a in
          deliveries_same g.rows n honest three few (tables s') l.whole.kept i j k x x' gi gj lk c b

      -- for an honest replica's slot the sheet that it was called to offer is delivered
      pub sheet_offered : (s : Hall) (e : Evening g meaning n honest s) (i k : ℕ) (x : List ℕ) → Fine i → Fine k → sheet_of_slot g.rows n (closing_view (held meaning (s i))) k ≡ Some x → Offers g meaning n honest e.calls k x
      sheet_offered s e i k x gi gk h = sent_offers e.opened e.calls k x gk (delivery_sent g.rows n honest three few (tables s) (evening_whole e).kept i k x gi gk h)

      module _ (s : Hall) (wh : SheetsWhole s) (rest : AtRest g meaning n honest s) where
        pub quiet : Quiet g.rows n honest three few (tables s) wh.kept
        quiet = record { heard = heard; settled = λ i k gi lk. still_settled g n i laws gi.0 (held meaning (s i)) (wh.well i gi) (rest.still i gi) k lk }
          where
            heard : (i j : ℕ) (ph : Phase) (k : ℕ) (x : List ℕ) → Fine i → Fine j → k < n → may_send ph k j ≡ true → at g.rows n (tables s j) ph k j ≡ Some x → at g.rows n (tables s i) ph k j ≡ Some x
            heard i j ph k x gi gj lk may h = ⊎_elim (λ q. subst (λ (z : ℕ). at g.rows n (tables s z) ph k j ≡ Some x) q h)
                (λ ne. let d : Said g n j (held meaning (s j)) (written (Sheet ph k x)) = record { message = Sheet ph k x; lawful = (lk, (laws.kept _ x h).0); has_said = (may, h); bytes = refl } in
                said_known g n i j (held meaning (s i)) (written (Sheet ph k x)) laws (held meaning (s j)) d (rest.heard i j (written (Sheet ph k x)) gi gj ne d))
                (cases_eq j i)

        -- at rest every honest replica's sheet is delivered everywhere, and what one has delivered all have
        pub own_sheets_reach : (i k : ℕ) → Fine i → Fine k → (x : List ℕ) × (at g.rows n (tables s k) Send k k ≡ Some x) × (sheet_of_slot g.rows n (closing_view (held meaning (s i))) k ≡ Some x)
        own_sheets_reach i k gi gk = let b = (wh.well k gk).began (rest.offered k gk) in (b.0, b.1, sent_delivered g.rows n honest three few (tables s) wh.kept quiet i k b.0 gi gk b.1)

        pub sheets_reach : (i j k : ℕ) (x : List ℕ) → Fine i → Fine j → k < n → sheet_of_slot g.rows n (closing_view (held meaning (s i))) k ≡ Some x → sheet_of_slot g.rows n (closing_view (held meaning (s j))) k ≡ Some x
        sheets_reach i j k x gi gj lk h = delivery_shared g.rows n honest three few (tables s) wh.kept quiet i j k x gi gj lk h

  -- what an honest replica has said of sheets differs from nothing that stands of it at a later moment
  pub sheet_alone : (s s' : Hall) → SheetsWhole s' → ((i : ℕ) → Fine i → Grows g.rows n (tables s i) (tables s' i)) → (i j : ℕ) → Fine i → Fine j → (ph : Phase) (k : ℕ) (x : List ℕ) → k < n → HasSaid g n j (held meaning (s j)) (Sheet ph k x) → (r : List ℕ) → at g.rows n (tables s' i) ph k j ≡ Some r → r ≡ x
  sheet_alone s s' wh grows i j gi gj ph k x lk said r h = some_inj (wh.kept.authentic i j ph k r gi gj lk said.0 h) ((grows j gj).sheets ph k j x lk gj.0 said.1)
