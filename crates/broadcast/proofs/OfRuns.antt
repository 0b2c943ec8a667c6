-- The claims of the sheet broadcast, over every run. Assumes nothing.
use Rattle.std.proofs.Common.{◌≡◌, ℕ, ◌+◌, ◌*◌, ◌<◌, ◌≤◌, Bool, true, not, T, eqb, ◌⊎◌, List, Some, None, sym, refl, ap, ◌∙◌, subst, inl, inr, ⊎_elim, arith}
use Rattle.std.proofs.lemmas.Bool.{cases_eq, eqb-true, eq-eqb, ne_eqb, cond-true, cond-false, cond_both}
use Rattle.std.proofs.lemmas.Bool.Decides.{nat_tests}
use Rattle.basis.specs.Counts.{count}
use Rattle.basis.specs.Halls.{listed, faults}
use Rattle.messages.specs.declared.message.Message.TheVariants.{Sheet}
use Rattle.messages.specs.declared.message.Phase.{Phase}
use Rattle.messages.specs.declared.message.Phase.TheVariants.{Send}
use Rattle.messages.specs.Reading.{Syntax, reading}
use Rattle.messages.specs.Writing.{written}
use Rattle.slots.proofs.Positions.{place_within}
use Rattle.sheets.specs.Holds.{Rows}
use Rattle.slots.specs.Places.{place}
use Rattle.slots.specs.Steps.{Slots}
use Rattle.broadcast.specs.Runs.{Call, offer, hear, look, ask, close, upd, Authentic, Run, opening, calling, Offered}
use Rattle.broadcast.specs.Calls.{Holding, sizes_ok, looked, Said, Opened, Allowed, call_after, replicas}
use Rattle.broadcast.specs.Claims.{RowLaws, Rest, Claims, BroadcastHolds}
use Rattle.broadcast.proofs.Tables.{none_some, some_inj}
use Rattle.broadcast.proofs.Moves.{at}
use Rattle.broadcast.proofs.Settling.{looked_settled}
use Rattle.broadcast.proofs.Hearing.{Takes, said_read, read_once, known_stands, said_unrefused}
use Rattle.broadcast.proofs.Turns.{Well, well_sizes, Turn, turn_none, running_sent, offer_turn, look_turn, hear_turn, opened_well}
use Rattle.broadcast.proofs.Kept.{Good, Kept, Quoted, kept_moved, kept_empty}
use Rattle.broadcast.proofs.Everywhere.{delivered_stays, deliveries_same, delivery_sent, Quiet, delivery_shared, sent_delivered}

-- a hall where one replica has changed
at_upd : {S : Type 0} (P : S → Type 0) (s : ℕ → S) (i j : ℕ) (t : S) → (j ≡ i → P t) → P (s j) → P (upd s i t j)
at_upd P s i j t new old = cond_both (eqb j i) t (s j) P (λ e. new (eqb-true j i e)) (λ _. old)

module _ {R : Type 0} (rows : Rows R) (y : Syntax) (laws : RowLaws rows y.size y.lawful) (honest : ℕ → Bool) (few : count y.replicas (λ j. not (honest j)) ≤ faults y.replicas) where
  abbrev Fine : ℕ → Type 0
  Fine i = Good rows y.replicas honest i

  -- the tables of the hall
  abbrev tables : (ℕ → Holding R) → ℕ → Slots R
  tables s i = (s i).slots

  abbrev MayQuote : (ℕ → Holding R) → Phase → ℕ → ℕ → List ℕ → Type 0
  MayQuote s = Quoted rows y.replicas honest (tables s)

  pub record Whole (s : ℕ → Holding R) : Type 0 where
    pub well : (i : ℕ) → Fine i → Well rows y i (s i)
    pub kept : Kept rows y.replicas honest (tables s)

  module _ (s : ℕ → Holding R) (i : ℕ) (li : i < y.replicas) (w : Well rows y i (s i)) where
    pub call_turn : (c : Call (List ℕ)) → Allowed rows y c (s i) → Authentic (replicas rows y) y.replicas honest s i c → Turn rows y i (MayQuote s) (s i) (call_after rows y i c (s i))
    call_turn (offer x) can au = (offer_turn rows y laws i li (MayQuote s) (s i) w x can.0 can.1 can.2).0
    call_turn (hear j xs) can au = hear_turn rows y laws i li (MayQuote s) (s i) w j xs can.0 can.1 (λ m hj. quoted m (au m.sender hj m.other))
      where
        -- the message that was said is the one that is read
        quoted : (m : Takes rows y i j xs (s i).slots) → Said rows y j (s j) xs → at rows y.replicas (s j).slots m.phase m.slot j ≡ Some m.sheet
        quoted m d =
            let e = read_once (reading y xs) m.phase d.phase m.slot d.slot m.sheet d.sheet m.read (said_read rows y laws i j xs (s i) (s j) d) in
            rw (e.0, e.1, e.2) d.stands
    call_turn look can au = look_turn rows y laws i li (MayQuote s) (s i) w can
    call_turn ask can au = turn_none rows y w
    call_turn close can au = turn_none rows y w

    -- a call to offer sends the sheet, and no other call sends
    call_sends : (c : Call (List ℕ)) → Allowed rows y c (s i) → (x : List ℕ) → c ≡ offer x → at rows y.replicas (call_after rows y i c (s i)).slots Send i i ≡ Some x
    call_sends (offer x') can x e = let q : x' ≡ x = cc in (offer_turn rows y laws i li (MayQuote s) (s i) w x' can.0 can.1 can.2).1 ∙ ap Some q
    call_sends (hear j xs) can x e = absurd (let z : ◌≡◌ {A = ℕ} 0 1 = cc in omega arith)
    call_sends look can x e = absurd (let z : ◌≡◌ {A = ℕ} 0 1 = cc in omega arith)
    call_sends ask can x e = absurd (let z : ◌≡◌ {A = ℕ} 0 1 = cc in omega arith)
    call_sends close can x e = absurd (let z : ◌≡◌ {A = ℕ} 0 1 = cc in omega arith)

    call_sent : (c : Call (List ℕ)) → Allowed rows y c (s i) → Authentic (replicas rows y) y.replicas honest s i c → (x : List ℕ) → at rows y.replicas (call_after rows y i c (s i)).slots Send i i ≡ Some x → (c ≡ offer x) ⊎ (at rows y.replicas (s i).slots Send i i ≡ Some x)
    call_sent (offer x') can au x h = inl (ap offer (some_inj (call_sends (offer x') can x' refl) h))
    call_sent (hear j xs) can au x h = inr (running_sent rows y li w can.0 (call_turn (hear j xs) can au).moves.grows h)
    call_sent look can au x h = inr (running_sent rows y li w can (call_turn look can au).moves.grows h)
    call_sent ask can au x h = inr h
    call_sent close can au x h = inr h

  pub whole_called : (s : ℕ → Holding R) → Whole s → (i : ℕ) (t : Holding R) → Turn rows y i (MayQuote s) (s i) t → (j : ℕ) → Fine j → Turn rows y j (MayQuote s) (s j) (upd s i t j)
  whole_called s wh i t turn j gj = at_upd (λ (z : Holding R). Turn rows y j (MayQuote s) (s j) z) s i j t (λ d. subst (λ (z : ℕ). Turn rows y z (MayQuote s) (s z) t) (sym d) turn) (turn_none rows y (wh.well j gj))

  nothing : (s : ℕ → Holding R) → ((i : ℕ) → i < y.replicas → honest i ≡ true → Opened rows y (s i)) → (i : ℕ) (ph : Phase) (k j : ℕ) → Fine i → k < y.replicas → j < y.replicas → at rows y.replicas (s i).slots ph k j ≡ None
  nothing s o i ph k j gi lk lj = (o i gi.0 gi.1).empty (place y.replicas ph k j) (place_within y.replicas ph k j lk lj)

  pub whole : {s : ℕ → Holding R} → Run (replicas rows y) y.replicas honest s → Whole s
  whole (opening s o) =
      let well = λ (i : ℕ) (gi : Fine i). opened_well rows y i (s i) gi.0 (o i gi.0 gi.1) in
      record { well = well; kept = kept_empty rows y.replicas honest (tables s) (λ i gi. (well i gi).sound) (nothing s o) }
  whole (calling {s} r i c li hi can au) =
      let wh = whole r in
      let turns = whole_called s wh i _ (call_turn s i li (wh.well i (li, hi)) c can au) in
      record { well = λ j gj. (turns j gj).well; kept = kept_moved rows y.replicas honest few (tables s) _ (λ j gj. (turns j gj).moves) wh.kept }

  -- a replica has sent what it was called to offer
  offered_sent : {s : ℕ → Holding R} (run : Run (replicas rows y) y.replicas honest s) (k : ℕ) (a : List ℕ) → Fine k → Offered (replicas rows y) y.replicas honest run k a → at rows y.replicas (s k).slots Send k k ≡ Some a
  offered_sent (opening s o) k a gk h = absurd h
  offered_sent (calling {s} r i c li hi can au) k a gk (inl h) =
      subst (λ (z : ℕ). at rows y.replicas (upd s i (call_after rows y i c (s i)) z).slots Send z z ≡ Some a) h.0
      (subst (λ (z : Holding R). at rows y.replicas z.slots Send i i ≡ Some a) (sym (cond-true (eqb i i) _ (s i) (eq-eqb i i refl))) (call_sends s i li ((whole r).well i (li, hi)) c can a h.1))
  offered_sent (calling {s} r i c li hi can au) k a gk (inr h) =
      let wh = whole r in
      (whole_called s wh i _ (call_turn s i li (wh.well i (li, hi)) c can au) k gk).moves.grows.sheets Send k k a gk.0 gk.0 (offered_sent r k a gk h)

  sent_offered : {s : ℕ → Holding R} (run : Run (replicas rows y) y.replicas honest s) (k : ℕ) (a : List ℕ) → Fine k → at rows y.replicas (s k).slots Send k k ≡ Some a → Offered (replicas rows y) y.replicas honest run k a
  sent_offered (opening s o) k a gk h = none_some (nothing s o k Send k k gk gk.0 gk.0) h
  sent_offered (calling {s} r i c li hi can au) k a gk h = ⊎_elim
      (λ q. let here : at rows y.replicas (call_after rows y i c (s i)).slots Send i i ≡ Some a = subst (λ (z : Holding R). at rows y.replicas z.slots Send i i ≡ Some a) (cond-true (eqb i i) _ (s i) (eq-eqb i i refl)) (subst (λ (z : ℕ). at rows y.replicas (upd s i (call_after rows y i c (s i)) z).slots Send z z ≡ Some a) q h) in
      ⊎_elim (λ p. inl (sym q, p)) (λ old. inr (sent_offered r k a gk (subst (λ (z : ℕ). at rows y.replicas (s z).slots Send z z ≡ Some a) (sym q) old))) (call_sent s i li ((whole r).well i (li, hi)) c can au a here))
      (λ ne. inr (sent_offered r k a gk (subst (λ (z : Holding R). at rows y.replicas z.slots Send k k ≡ Some a) (cond-false (eqb k i) _ (s k) (ne_eqb k i ne)) h)))
      (cases_eq k i)

  module _ (e : y.replicas ≡ 3 * faults y.replicas + 1) {s : ℕ → Holding R} (run : Run (replicas rows y) y.replicas honest s) where
    quiet : Whole s → Rest rows y honest s → Quiet rows y.replicas honest e few (tables s) (whole run).kept
    quiet wh rest = record {
      heard = λ i j ph k x gi gj lk m h. ⊎_elim (λ q. subst (λ (z : ℕ). at rows y.replicas (s z).slots ph k j ≡ Some x) q h)
          (λ ne. let d : Said rows y j (s j) (written (Sheet ph k x)) = record { phase = ph; slot = k; sheet = x; low = lk; allowed = m; stands = h; bytes = refl } in
          known_stands rows y laws i j (written (Sheet ph k x)) (s i) (s j) d (rest.heard i j (written (Sheet ph k x)) gi gj ne d))
          (cases_eq j i);
      settled = λ i k gi lk. looked_settled rows y laws i gi.0 (s i).slots (wh.well i gi).sound (still i gi) k lk;
    }
      where
        still : (i : ℕ) → Fine i → looked rows y i y.replicas (s i).slots ≡ (s i).slots
        still i gi = sym (ap (λ (z : Holding R). z.slots) (cond-true (sizes_ok y.replicas (s i)) _ (s i) (well_sizes rows y (wh.well i gi)))) ∙ ap (λ (z : Holding R). z.slots) (rest.still i gi)

    pub claims : Claims rows y honest s run
    claims = let n = y.replicas in let wh = whole run in let kp = wh.kept in record {
      same = deliveries_same rows n honest e few (tables s) kp;
      lasting = λ i k a c gi lk can au h. delivered_stays rows n i (s i).slots _ (wh.well i gi).sound (call_turn s i gi.0 (wh.well i gi) c can au).moves.grows k a lk h;
      valid = delivery_sent rows n honest e few (tables s) kp;
      sent_offered = sent_offered run;
      offered_sent = offered_sent run;
      unrefused = λ i j xs r gi gj ne d h. said_unrefused rows y laws i j xs (s i) (s j) d (well_sizes rows y (wh.well i gi)) gj.0 ne
          (λ a q. some_inj (kp.authentic i j d.phase d.slot a gi gj d.low d.allowed q) d.stands) r h;
      reached = λ rest i k gi gk. let b = (wh.well k gk).began (rest.running k gk) in (b.0, b.1, sent_delivered rows n honest e few (tables s) kp (quiet wh rest) i k b.0 gi gk b.1);
      shared = λ rest. delivery_shared rows n honest e few (tables s) kp (quiet wh rest);
    }

thirds : (n : ℕ) → T (listed n) → n ≡ 3 * faults n + 1
thirds n h = grind (arith, nat_tests)

pub broadcast_holds : {R : Type 0} (rows : Rows R) (size : ℕ) (lawful : List ℕ → Bool) → RowLaws rows size lawful → BroadcastHolds rows size lawful
broadcast_holds rows size lawful laws n tags shares honest s l few run =
    let y : Syntax = record { replicas = n; size = size; lawful = lawful; tags = tags; shares = shares } in
    claims rows y laws honest few (thirds n l) run
