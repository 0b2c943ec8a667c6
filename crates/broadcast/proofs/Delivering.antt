-- Runs can deliver: from any hall that is opened, honest replicas can come to deliver a sheet. Assumes nothing.
use Rattle.std.proofs.Common.{◌≡◌, ℕ, zero, suc, ◌+◌, ◌*◌, ◌<◌, ◌≤◌, Bool, true, not, eqb, ◌⊎◌, List, ◌∷◌, ◌++◌, length, Some, None, Ok, Err, Option, Result, sym, refl, ap, ◌∙◌, subst, ap₂, inl, inr, ⊎_elim, le_refl, arith, lit<}
use Rattle.std.proofs.lemmas.Bool.{cases_eq, cases_Bool, both_ways, eqb-true, eqb-false, eq-eqb, cond-true, cond_both}
use Rattle.basis.specs.Bytes.{be, Octets}
use Rattle.basis.specs.Counts.{count}
use Rattle.basis.specs.Halls.{faults, quorum}
use Rattle.basis.specs.Refusals.{Refused}
use Rattle.basis.proofs.Counts.{count_not}
use Rattle.basis.proofs.Digits.{octets_be, octets_append}
use Rattle.basis.proofs.Totals.{count_below}
use Rattle.messages.specs.declared.message.Message.{Message}
use Rattle.messages.specs.declared.message.Message.TheVariants.{Sheet}
use Rattle.messages.specs.declared.message.Phase.{Phase}
use Rattle.messages.specs.declared.message.Phase.TheVariants.{Send, Echo, Ready}
use Rattle.messages.specs.Reading.{Syntax, Placed, reading}
use Rattle.messages.specs.Tags.{phase_tag}
use Rattle.messages.specs.Writing.{written}
use Rattle.sheets.specs.Holds.{Rows, holds}
use Rattle.slots.specs.Places.{place, sheet_of}
use Rattle.slots.specs.Steps.{Slots, go_on, settled, delivered_sheet_lem}
use Rattle.broadcast.specs.Runs.{offer, hear, upd, Run, opening, calling}
use Rattle.broadcast.specs.Calls.{Running, Holding, sizes_ok, may_send, hear_answer, if_new, taken, hear_after, offer_after, Said, Opened, Allowed, replicas}
use Rattle.basis.specs.declared.heard.Heard.{Heard}
use Rattle.basis.specs.declared.heard.Heard.TheVariants.{New, Known}
use Rattle.broadcast.specs.Claims.{RowLaws}
use Rattle.broadcast.proofs.Tables.{none_some, some_inj, some_holds, noted_here}
use Rattle.slots.proofs.Positions.{place_within}
use Rattle.broadcast.proofs.Moves.{at, many, Sound, Grows, grows_on, moves_none, note_moves}
use Rattle.broadcast.proofs.Settling.{Settled, stepped, still_settled, settled_moves}
use Rattle.broadcast.proofs.Ending.{steps_end}
use Rattle.broadcast.proofs.Hearing.{takes, read_once, said_read, known_stands}
use Rattle.broadcast.proofs.Turns.{offer_turn}
use Rattle.broadcast.proofs.Kept.{Good}
use Rattle.broadcast.proofs.Everywhere.{echoes_same}
use Rattle.broadcast.proofs.OfRuns.{call_turn, whole, whole_called, claims}

octets_cons : (a : ℕ) (s : List ℕ) → a < 256 → Octets s → Octets (a ∷ s)
octets_cons a s h k zero = h
octets_cons a s h k (suc i) = k i

tag_low : (ph : Phase) → phase_tag ph < 256
tag_low Send = lit< tt
tag_low Echo = lit< tt
tag_low Ready = lit< tt

-- a sheet message is written in bytes
written_octets : (ph : Phase) (k : ℕ) (x : List ℕ) → k < 256 → Octets x → Octets (written (Sheet ph k x))
written_octets ph k x lk oct = octets_cons (phase_tag ph) (be 2 (length (k ∷ x)) ++ (k ∷ x)) (tag_low ph) (octets_append (be 2 (length (k ∷ x))) (k ∷ x) (octets_be 2 (length (k ∷ x))) (octets_cons k x lk oct))

-- what replica j holds once replica i alone has changed
upd_either : {S : Type 0} (P : S → Type 0) (s : ℕ → S) (i j : ℕ) (t : S) → (j ≡ i → P t) → ((j ≡ i → ⊥) → P (s j)) → P (upd s i t j)
upd_either P s i j t new old = cond_both (eqb j i) t (s j) P (λ e. new (eqb-true j i e)) (λ e. old (eqb-false j i e))

upd_here : {S : Type 0} (P : S → Type 0) (s : ℕ → S) (i : ℕ) (t : S) → P t → P (upd s i t i)
upd_here P s i t h = upd_either P s i i t (λ _. h) (λ ne. absurd (ne refl))

-- sheet x is for slot k, and replica k is honest
module _ {R : Type 0} (rows : Rows R) (y : Syntax) (laws : RowLaws rows y.size y.lawful) (honest : ℕ → Bool) (few : count y.replicas (λ j. not (honest j)) ≤ faults y.replicas) (e : y.replicas ≡ 3 * faults y.replicas + 1) (small : y.replicas ≤ 16) (k : ℕ) (gk : Good rows y.replicas honest k) (x : List ℕ) (law : y.lawful x ≡ true) (oct : Octets x) where
  abbrev Hall : Type 0
  Hall = ℕ → Holding R

  abbrev Fine : ℕ → Type 0
  Fine i = Good rows y.replicas honest i

  abbrev Runs : Hall → Type 0
  Runs s = Run (replicas rows y) y.replicas honest s

  -- what of a sender stands in slot k
  abbrev has : Holding R → Phase → ℕ → Option (List ℕ)
  has t ph j = at rows y.replicas t.slots ph k j

  -- no step of slot k applies
  abbrev Calm : ℕ → Holding R → Type 0
  Calm i t = Settled rows y.replicas i k t.slots

  -- for what grows it does not matter what may be taken in
  abbrev any : Phase → ℕ → ℕ → List ℕ → Type 0
  any ph l j z = Unit {0}

  settles : (i : ℕ) → i < y.replicas → (t : Slots R) → Sound rows y.replicas i t → Settled rows y.replicas i k (settled rows y.replicas i k 3 t)
  settles i li t sound =
      let n = y.replicas in
      let u = settled rows n i k 3 t in
      let after = (settled_moves rows n laws i li {ok = any} k gk.0 3 t sound).sound in
      let none = steps_end rows laws n i k t li gk.0 sound.records_fit sound.places_fit in
      still_settled rows n laws i li k gk.0 u _ after (stepped rows n i k u) (subst (λ (o : Option (Slots R)). Grows rows n (go_on rows n i k u o) u) (sym none) (moves_none rows n {ok = any} after).grows)

  -- what a replica holds that has heard the sheet from a sender
  record Told (i j : ℕ) (ph : Phase) (t : Holding R) : Type 0 where
    live : t.life ≡ Running
    there : has t ph j ≡ Some x
    calm : Calm i t

  -- a later hall of the run
  record Later (s s' : Hall) : Type 0 where
    grows : (i : ℕ) → Fine i → Grows rows y.replicas (s i).slots (s' i).slots
    running : (i : ℕ) → (s i).life ≡ Running → (s' i).life ≡ Running
    calm : (i : ℕ) → Fine i → Calm i (s i) → Calm i (s' i)

  later_on : {s u v : Hall} → Later s u → Later u v → Later s v
  later_on a b = record {
    grows = λ i gi. grows_on rows y.replicas (a.grows i gi) (b.grows i gi);
    running = λ i h. b.running i (a.running i h);
    calm = λ i gi h. b.calm i gi (a.calm i gi h);
  }

  -- a later hall where P holds
  record Reach (s : Hall) (P : Hall → Type 0) : Type 0 where
    hall : Hall
    run : Runs hall
    later : Later s hall
    fact : P hall

  reach_now : (s : Hall) (P : Hall → Type 0) → Runs s → P s → Reach s P
  reach_now s P run h = record {
    hall = s;
    run = run;
    later = record { grows = λ i gi. (moves_none rows y.replicas {ok = any} ((whole rows y laws honest few run).well i gi).sound).grows; running = λ i h. h; calm = λ i gi h. h };
    fact = h;
  }

  -- replica i hears the sheet from replica j, which has said it
  module _ (s : Hall) (run : Runs s) (i j : ℕ) (gi : Fine i) (gj : Fine j) (ne : j ≡ i → ⊥) (live : (s i).life ≡ Running) (ph : Phase) (may : may_send ph k j ≡ true) (said : has (s j) ph j ≡ Some x) where
    abbrev packet : List ℕ
    packet = written (Sheet ph k x)

    abbrev says : Said rows y j (s j) packet
    says = record { phase = ph; slot = k; sheet = x; low = gk.0; allowed = may; stands = said; bytes = refl }

    can : Allowed rows y (hear j packet) (s i)
    can = (live, written_octets ph k x (omega (arith, gk.0)) oct)

    hear_run : Runs (upd s i (hear_after rows y i j packet (s i)))
    hear_run = calling run i (hear j packet) gi.0 gi.1 can (λ _ _ _. says)

    hear_told : (has (s i) ph j ≡ None) ⊎ Calm i (s i) → Told i j ph (hear_after rows y i j packet (s i))
    hear_told before = go (hear_answer rows y i j packet (s i)) refl
      where
        read : reading y packet ≡ Ok (Sheet ph k (record { at = 4; bytes = x }))
        read = said_read rows y laws i j packet (s i) (s j) says

        go : (r : Result Heard Refused) → hear_answer rows y i j packet (s i) ≡ r → Told i j ph (if_new r (record { life = (s i).life; slots = taken rows y i j (s i).slots (reading y packet); rounds = (s i).rounds }) (s i))
        go (Ok New) a =
            let n = y.replicas in
            let sound = ((whole rows y laws honest few run).well i gi).sound in
            let m = takes rows y laws i j packet (s i) can.1 a in
            let q = read_once (reading y packet) ph m.phase k m.slot x m.sheet read m.read in
            let free : has (s i) ph j ≡ None = ap₂ (λ (p : Phase) (l : ℕ). at rows n (s i).slots p l j) q.0 q.1 ∙ m.free in
            let b = note_moves rows n laws i gi.0 (s i).slots sound k gk.0 ph j x gj.0 may law oct free any (λ d. absurd (ne d)) (inr tt) in
            let c = settled_moves rows n laws i gi.0 {ok = any} k gk.0 3 _ b.sound in
            subst (λ (z : Result (Message Placed) Refused). Told i j ph (record { life = (s i).life; slots = taken rows y i j (s i).slots z; rounds = (s i).rounds })) (sym read) (record {
              live = live;
              there = c.grows.sheets ph k j x gk.0 gj.0 (noted_here rows n i k ph j (s i).slots x laws gk.0 gj.0 sound.places_fit law oct);
              calm = settles i gi.0 _ b.sound;
            })
        go (Ok Known) a =
            let there = known_stands rows y laws i j packet (s i) (s j) says a in
            record { live = live; there = there; calm = ⊎_elim (λ none. absurd (none_some none there)) (λ st. st) before }
        go (Err r) a = absurd ((claims rows y laws honest few e run).unrefused i j packet r gi gj ne says a)

    reach_heard : Calm i (s i) → Reach s (λ u. has (u i) ph j ≡ Some x)
    reach_heard st =
        let t = hear_after rows y i j packet (s i) in
        let told = hear_told (inr st) in
        let wh = whole rows y laws honest few run in
        let turn = call_turn rows y laws honest few s i gi.0 (wh.well i gi) (hear j packet) can (λ _ _ _. says) in
        record {
          hall = upd s i t;
          run = hear_run;
          later = record {
            grows = λ l gl. (whole_called rows y laws honest few s wh i t turn l gl).moves.grows;
            running = λ l h. upd_either (λ (z : Holding R). z.life ≡ Running) s i l t (λ _. told.live) (λ _. h);
            calm = λ l gl h. upd_either (Calm l) s i l t (λ d. subst (λ (z : ℕ). Calm z t) (sym d) told.calm) (λ _. h);
          };
          fact = upd_here (λ (z : Holding R). has z ph j ≡ Some x) s i t told.there;
        }

  -- what can be reached for each number can be reached for all
  module _ (P : ℕ → Hall → Type 0) (keeps : (l : ℕ) (u v : Hall) → Later u v → P l u → P l v) (s : Hall) (run : Runs s) (reach : (l : ℕ) → l < y.replicas → (u : Hall) → Runs u → Later s u → Reach u (P l)) where
    each : (m : ℕ) → m ≤ y.replicas → Reach s (λ u. (l : ℕ) → l < m → P l u)
    each zero h = reach_now s _ run (λ l lt. absurd (omega arith))
    each (suc m) h =
        let a = each m (omega arith) in
        let b = reach m h a.hall a.run a.later in
        record {
          hall = b.hall;
          run = b.run;
          later = later_on a.later b.later;
          fact = λ l lt. ⊎_elim (λ d. subst (λ (z : ℕ). P z b.hall) (sym d) b.fact) (λ ne. keeps l a.hall b.hall b.later (a.fact l (omega arith))) (cases_eq l m);
        }

    everywhere : Reach s (λ u. (l : ℕ) → l < y.replicas → P l u)
    everywhere = each y.replicas (le_refl _)

  -- what each has said, each comes to hear from all
  module _ (ph : Phase) (may : (j : ℕ) → may_send ph k j ≡ true) (s : Hall) (run : Runs s) (live : (i : ℕ) → Fine i → (s i).life ≡ Running) (calm : (i : ℕ) → Fine i → Calm i (s i)) (said : (j : ℕ) → Fine j → has (s j) ph j ≡ Some x) where
    abbrev From : ℕ → ℕ → Hall → Type 0
    From i j u = honest j ≡ true → has (u i) ph j ≡ Some x

    stays : (i j : ℕ) → Fine i → j < y.replicas → (u v : Hall) → Later u v → From i j u → From i j v
    stays i j gi lj u v g h hj = (g.grows i gi).sheets ph k j x gk.0 lj (h hj)

    hear_one : (i j : ℕ) → Fine i → j < y.replicas → (u : Hall) → Runs u → Later s u → Reach u (From i j)
    hear_one i j gi lj u ru g = ⊎_elim
        (λ hj. let gj : Fine j = (lj, hj) in let own = (g.grows j gj).sheets ph k j x gk.0 lj (said j gj) in ⊎_elim
        (λ d. reach_now u (From i j) ru (λ _. subst (λ (z : ℕ). has (u z) ph j ≡ Some x) d own))
        (λ ne. let r = reach_heard u ru i j gi gj ne (g.running i (live i gi)) ph (may j) own (g.calm i gi (calm i gi)) in record { hall = r.hall; run = r.run; later = r.later; fact = λ _. r.fact })
        (cases_eq j i))
        (λ no. reach_now u (From i j) ru (λ hj. absurd (both_ways (honest j) no hj))) (cases_Bool (honest j))

    abbrev FromAll : ℕ → Hall → Type 0
    FromAll i u = honest i ≡ true → (j : ℕ) → j < y.replicas → From i j u

    hear_all : (i : ℕ) → i < y.replicas → (u : Hall) → Runs u → Later s u → Reach u (FromAll i)
    hear_all i li u ru g = ⊎_elim
        (λ hi. let gi : Fine i = (li, hi) in
        let r = everywhere (λ j v. (j < y.replicas → From i j v)) (λ j v w l h lj. stays i j gi lj v w l (h lj)) u ru (λ j lj v rv l. let r = hear_one i j gi lj v rv (later_on g l) in record { hall = r.hall; run = r.run; later = r.later; fact = λ _. r.fact }) in
        record { hall = r.hall; run = r.run; later = r.later; fact = λ _ j lj. r.fact j lj lj })
        (λ no. reach_now u (FromAll i) ru (λ hi. absurd (both_ways (honest i) no hi))) (cases_Bool (honest i))

    spread : Reach s (λ u. (i : ℕ) → Fine i → (j : ℕ) → Fine j → has (u i) ph j ≡ Some x)
    spread =
        let r = everywhere (λ i u. (i < y.replicas → FromAll i u)) (λ i u v l h li hi j lj. stays i j (li, hi) lj u v l (h li hi j lj)) s run (λ i li u ru l. let r = hear_all i li u ru l in record { hall = r.hall; run = r.run; later = r.later; fact = λ _. r.fact }) in
        record { hall = r.hall; run = r.run; later = r.later; fact = λ i gi j gj. r.fact i gi.0 gi.0 gi.1 j gj.0 gj.1 }

  -- a replica that has offered and has the send of slot k
  record Joined (i : ℕ) (t : Holding R) : Type 0 where
    live : t.life ≡ Running
    sent : has t Send k ≡ Some x
    calm : Calm i t

  quorum_has : (ph : Phase) (t : Holding R) → ((j : ℕ) → Fine j → has t ph j ≡ Some x) → quorum y.replicas ≤ many rows y.replicas t.slots ph k x
  quorum_has ph t all = omega (arith, count_below y.replicas honest (λ j. holds x (has t ph j)) (λ j lj hj. some_holds x _ (all j (lj, hj))), count_not y.replicas honest)

  -- once all have joined, all can deliver
  joined_delivers : (s : Hall) → Runs s → ((i : ℕ) → Fine i → Joined i (s i)) → (u : Hall) × Runs u × ((i : ℕ) → Fine i → delivered_sheet_lem rows y.replicas i k (u i).slots ≡ Some x)
  joined_delivers s run joined = (b.hall, b.run, delivers)
    where
      echo : (j : ℕ) → Fine j → has (s j) Echo j ≡ Some x
      echo j gj =
          let r = (joined j gj).calm.echoed x (joined j gj).sent in
          r.1 ∙ ap Some (some_inj (((whole rows y laws honest few run).well j gj).sound.echo k r.0 gk.0 r.1) (joined j gj).sent)

      a : Reach s (λ u. (i : ℕ) → Fine i → (j : ℕ) → Fine j → has (u i) Echo j ≡ Some x)
      a = spread Echo (λ _. refl) s run (λ i gi. (joined i gi).live) (λ i gi. (joined i gi).calm) echo

      ready : (j : ℕ) → Fine j → has (a.hall j) Ready j ≡ Some x
      ready j gj =
          let kept = (whole rows y laws honest few a.run).kept in
          let q = quorum_has Echo (a.hall j) (a.fact j gj) in
          let r = (a.later.calm j gj (joined j gj).calm).readied x (inl q) in
          r.1 ∙ ap Some (echoes_same rows y.replicas honest e few (λ i. (a.hall i).slots) kept k r.0 x gk.0 (kept.origin j k r.0 gj gk.0 r.1) (j, gj, q))

      b : Reach a.hall (λ u. (i : ℕ) → Fine i → (j : ℕ) → Fine j → has (u i) Ready j ≡ Some x)
      b = spread Ready (λ _. refl) a.hall a.run (λ i gi. a.later.running i (joined i gi).live) (λ i gi. a.later.calm i gi (joined i gi).calm) ready

      delivers : (i : ℕ) → Fine i → delivered_sheet_lem rows y.replicas i k (b.hall i).slots ≡ Some x
      delivers i gi =
          let l = later_on a.later b.later in
          let c = (l.calm i gi (joined i gi).calm).got x (quorum_has Ready (b.hall i) (b.fact i gi)) in
          let g = ((whole rows y laws honest few b.run).well i gi).sound.got k c.0 gk.0 c.1 in
          let d : delivered_sheet_lem rows y.replicas i k (b.hall i).slots ≡ Some g.1 = ap (sheet_of rows y.replicas (b.hall i).slots.places Ready k) c.1 ∙ g.2 in
          let sent = (l.grows k gk).sheets Send k k x gk.0 gk.0 (joined k gk).sent in
          d ∙ ap Some (some_inj ((claims rows y laws honest few e b.run).valid i k g.1 gi gk d) sent)

  -- replica i offers
  module _ (s : Hall) (run : Runs s) (i : ℕ) (gi : Fine i) (o : Opened rows y (s i)) where
    abbrev offered : Holding R
    offered = offer_after rows y i x (s i)

    offer_run : Runs (upd s i offered)
    offer_run = calling run i (offer x) gi.0 gi.1 (o.fresh, law, oct) tt

    offer_live : offered.life ≡ Running
    offer_live = subst (λ (z : Holding R). z.life ≡ Running) (sym (cond-true (sizes_ok y.replicas (s i)) _ (s i) o.sizes)) refl

    -- and has no send of slot k, if that is not its own
    offer_none : (k ≡ i → ⊥) → has offered Send k ≡ None
    offer_none ne = go (has offered Send k) refl
      where
        only : (z : List ℕ) → has offered Send k ≡ Some z → ⊥
        only z h = ⊎_elim (λ old. none_some (o.empty (place y.replicas Send k k) (place_within y.replicas Send k k gk.0 gk.0)) old) (⊎_elim ne (λ no. no))
            ((offer_turn rows y laws i gi.0 (λ _ _ _ _. ⊥) (s i) ((whole rows y laws honest few run).well i gi) x o.fresh law oct).0.moves.only Send k k z gk.0 gk.0 (eq-eqb k k refl) h)

        go : (r : Option (List ℕ)) → has offered Send k ≡ r → has offered Send k ≡ None
        go None q = q
        go (Some z) q = absurd (only z q)

  -- replica k has joined once it has offered
  offer_joined : (s : Hall) (run : Runs s) → Opened rows y (s k) → Joined k (offer_after rows y k x (s k))
  offer_joined s run o =
      let n = y.replicas in
      let w = (whole rows y laws honest few run).well k gk in
      let a = note_moves rows n laws k gk.0 (s k).slots w.sound k gk.0 Send k x gk.0 (eq-eqb k k refl) law oct (w.fresh o.fresh) any (λ _. tt) (inl refl) in
      record {
        live = offer_live s run k gk o;
        sent = (offer_turn rows y laws k gk.0 any (s k) w x o.fresh law oct).1;
        calm = subst (Calm k) (sym (cond-true (sizes_ok n (s k)) _ (s k) o.sizes)) (settles k gk.0 _ a.sound);
      }

  -- replica k and those below m have joined, and the others have yet to offer
  record Begun (m : ℕ) (s : Hall) : Type 0 where
    run : Runs s
    joined : (i : ℕ) → Fine i → (i < m) ⊎ (i ≡ k) → Joined i (s i)
    waiting : (i : ℕ) → Fine i → m ≤ i → (i ≡ k → ⊥) → Opened rows y (s i)

  begin : (s : Hall) → ((i : ℕ) → i < y.replicas → honest i ≡ true → Opened rows y (s i)) → (u : Hall) × Begun 0 u
  begin s o =
      let r : Runs s = opening s o in
      let ok = o k gk.0 gk.1 in
      let t = offer_after rows y k x (s k) in (
        upd s k t,
        record {
          run = offer_run s r k gk ok;
          joined = λ i gi. ⊎_elim (λ lt. absurd (omega arith)) (λ d. subst (λ (z : ℕ). Joined z (upd s k t z)) (sym d) (upd_here (Joined k) s k t (offer_joined s r ok)));
          waiting = λ i gi h ne. upd_either (Opened rows y) s k i t (λ d. absurd (ne d)) (λ _. o i gi.0 gi.1);
        },
      )

  -- replica m is next
  module _ (m : ℕ) (s : Hall) (b : Begun m s) where
    within : (i : ℕ) → (i < suc m) ⊎ (i ≡ k) → (i ≡ m → i ≡ k) → (i < m) ⊎ (i ≡ k)
    within i (inl lt) f = ⊎_elim (λ d. inr (f d)) (λ ne. inl (omega arith)) (cases_eq i m)
    within i (inr d) f = inr d

    skip : (honest m ≡ true → m ≡ k) → Begun (suc m) s
    skip f = record {
      run = b.run;
      joined = λ i gi h. b.joined i gi (within i h (λ d. d ∙ f (ap honest (sym d) ∙ gi.1)));
      waiting = λ i gi h ne. b.waiting i gi (omega arith) ne;
    }

    -- it offers, and hears the send of slot k
    module _ (gm : Fine m) (apart : k ≡ m → ⊥) where
      abbrev first : Holding R
      first = offer_after rows y m x (s m)

      abbrev hall₁ : Hall
      hall₁ = upd s m first

      unopened : Opened rows y (s m)
      unopened = b.waiting m gm (le_refl m) (λ d. apart (sym d))

      run₁ : Runs hall₁
      run₁ = offer_run s b.run m gm unopened

      live₁ : (hall₁ m).life ≡ Running
      live₁ = upd_here (λ (z : Holding R). z.life ≡ Running) s m first (offer_live s b.run m gm unopened)

      none₁ : has (hall₁ m) Send k ≡ None
      none₁ = upd_here (λ (z : Holding R). has z Send k ≡ None) s m first (offer_none s b.run m gm unopened apart)

      said₁ : has (hall₁ k) Send k ≡ Some x
      said₁ = upd_either (λ (z : Holding R). has z Send k ≡ Some x) s m k first (λ d. absurd (apart d)) (λ _. (b.joined k gk (inr refl)).sent)

      abbrev second : Holding R
      second = hear_after rows y m k (written (Sheet Send k x)) (hall₁ m)

      told₂ : Told m k Send second
      told₂ = hear_told hall₁ run₁ m k gm gk apart live₁ Send (eq-eqb k k refl) said₁ (inl none₁)

      joins : Begun (suc m) (upd hall₁ m second)
      joins = record {
        run = hear_run hall₁ run₁ m k gm gk apart live₁ Send (eq-eqb k k refl) said₁;
        joined = λ i gi h. upd_either (Joined i) hall₁ m i second
            (λ d. subst (λ (z : ℕ). Joined z second) (sym d) (record { live = told₂.live; sent = told₂.there; calm = told₂.calm }))
            (λ ni. upd_either (Joined i) s m i first (λ d. absurd (ni d)) (λ _. b.joined i gi (within i h (λ d. absurd (ni d)))));
        waiting = λ i gi h nk. upd_either (Opened rows y) hall₁ m i second (λ d. absurd (omega arith)) (λ ni. upd_either (Opened rows y) s m i first (λ d. absurd (ni d)) (λ _. b.waiting i gi (omega arith) nk));
      }

    join : m < y.replicas → (u : Hall) × Begun (suc m) u
    join lm = ⊎_elim (λ d. (s, skip (λ _. sym d))) (λ apart. ⊎_elim (λ hm. (_, joins (lm, hm) apart)) (λ no. (s, skip (λ hm. absurd (both_ways (honest m) no hm)))) (cases_Bool (honest m))) (cases_eq k m)

  begun : (s : Hall) → ((i : ℕ) → i < y.replicas → honest i ≡ true → Opened rows y (s i)) → (m : ℕ) → m ≤ y.replicas → (u : Hall) × Begun m u
  begun s o zero h = begin s o
  begun s o (suc m) h = let b = begun s o m (omega arith) in join m b.0 b.1 h

  pub run_delivers : (s : Hall) → ((i : ℕ) → i < y.replicas → honest i ≡ true → Opened rows y (s i)) → (u : Hall) × Runs u × ((i : ℕ) → Fine i → delivered_sheet_lem rows y.replicas i k (u i).slots ≡ Some x)
  run_delivers s o = let b = begun s o y.replicas (le_refl _) in joined_delivers b.0 b.1.run (λ i gi. b.1.joined i gi (inl gi.0))
