-- Halls of such replicas: calls at each of them, and hearing what all have said. Assumes nothing.
use Rattle.std.proofs.Common.{◌≡◌, ℕ, zero, suc, ◌<◌, ◌≤◌, Bool, true, List, sym, refl, ap, ◌∙◌, subst, inl, ⊎_elim, le_refl, arith}
use Rattle.std.proofs.lemmas.Bool.{cases_eq, cases_Bool, cond-true, both_ways}
use Rattle.basis.specs.Bytes.{Octets}
use Rattle.basis.specs.Halls.{faults}
use Rattle.broadcast.specs.Claims.{RowLaws}
use Rattle.messages.specs.declared.message.Message.{Message}
use Rattle.messages.specs.Reading.{Lawful}
use Rattle.messages.specs.Writing.{written, slot_of}
use Rattle.phases.specs.declared.round.PhasedRound.{PhasedRound}
use Rattle.phases.specs.Records.{meaning_of}
use Rattle.outcomes.specs.Calls.{Call, hear, look, Allowed, Said, call_after, look_after}
use Rattle.outcomes.specs.Holdings.{Setting, Holding, syntax_of, sizes_ok}
use Rattle.outcomes.specs.Taking.{looked}
use Rattle.evenings.specs.Evenings.{Replica, held, upd, Authentic, Leads, called}
use Rattle.sheet_turns.proofs.Halls.{at_upd, upd_here, upd_there}
use Rattle.sheet_turns.proofs.Lengths.{sizes_same}
use Rattle.evening_witness.specs.Witness.{everyone}
use Rattle.evening_witness.proofs.Rows.{Writable}
use Rattle.evening_witness.proofs.Filling.{call_left}
use Rattle.evening_witness.proofs.Turning.{ReplicaWell, Later, later_none, later_on, looked_later, Ours}
use Rattle.evening_witness.proofs.Offering.{Offered}
use Rattle.evening_witness.proofs.Hearing.{May, Has, has_said, has_stays, hears_it}

module _ {R C : Type 0} (g : Setting R C) (rule : Writable g.rule) (laws : RowLaws g.rows g.size g.lawful) (n : ℕ) (some : 1 ≤ faults n) (x : List ℕ) (law : g.lawful x ≡ true) (oct : Octets x) where
  abbrev pub Hall : Type 0
  Hall = ℕ → Replica R C PhasedRound

  abbrev pub at : Hall → ℕ → Holding R C
  at s i = held meaning_of (s i)

  -- what is known of a replica
  abbrev pub Well : (i : ℕ) → i < n → Holding R C → Type 0
  Well i li h = Offered g laws n some x law oct i li h

  abbrev pub L : (i : ℕ) → i < n → Holding R C → Holding R C → Type 0
  L i li h h' = Later g laws n some x i li h h'

  pub well_later : (i : ℕ) (li : i < n) (h h' : Holding R C) → Well i li h → L i li h h' → Well i li h'
  well_later i li h h' w l = record { sizes = sizes_same n l.moved.lengths ∙ w.sizes; live = l.moved.life ∙ w.live; well = l.well }

  abbrev pub Good : Hall → Type 0
  Good s = (i : ℕ) (li : i < n) → Well i li (at s i)

  abbrev pub After : Hall → Hall → Type 0
  After s u = (i : ℕ) (li : i < n) → L i li (at s i) (at u i)

  pub after_on : (s u v : Hall) → After s u → After u v → After s v
  after_on s u v a b i li = later_on g laws n some x i li (a i li) (b i li)

  pub good_after : (s u : Hall) → Good s → After s u → Good u
  good_after s u w a i li = well_later i li _ _ (w i li) (a i li)

  module _ (start : Hall) where
    abbrev pub Runs : Hall → Type 0
    Runs s = Leads g meaning_of n everyone start s

    -- the same call at each replica, one after another
    module _ (A B : ℕ → Replica R C PhasedRound → Type 0) (c : ℕ → Call) (free : (s : Hall) (i : ℕ) → Authentic g meaning_of n everyone s i (c i))
        (step : (i : ℕ) → i < n → (t : Replica R C PhasedRound) → A i t → Allowed g (c i) (held meaning_of t) × ((t' : Replica R C PhasedRound) → held meaning_of t' ≡ call_after g n i (c i) (held meaning_of t) → B i t')) where
      record Partly (m : ℕ) : Type 0 where
        hall : Hall
        run : Runs hall
        done : (i : ℕ) → i < m → B i (hall i)
        left : (i : ℕ) → m ≤ i → i < n → A i (hall i)

      partly : (s : Hall) → Runs s → ((i : ℕ) → i < n → A i (s i)) → (m : ℕ) → m ≤ n → Partly m
      partly s run all zero le = record { hall = s; run = run; done = λ i l. absurd (omega arith); left = λ i h l. all i l }
      partly s run all (suc m) le =
          let p = partly s run all m (omega arith) in
          let st = step m (omega arith) (p.hall m) (p.left m (le_refl m) (omega arith)) in
          let t = call_left g rule n m (c m) (p.hall m) in
          record {
            hall = upd p.hall m t.0;
            run = called p.run m (c m) (omega arith, refl) st.0 (free p.hall m) t.0 t.1;
            done = λ i l. ⊎_elim (λ d. subst (λ (j : ℕ). B j (upd p.hall m t.0 j)) (sym d) (subst (B m) (sym (upd_here p.hall m t.0)) (st.1 t.0 t.1)))
                (λ ne. subst (B i) (sym (upd_there p.hall m i t.0 ne)) (p.done i (omega arith))) (cases_eq i m);
            left = λ i h l. subst (A i) (sym (upd_there p.hall m i t.0 (λ d. absurd (omega arith)))) (p.left i (omega arith) l);
          }

      pub each_calls : (s : Hall) → Runs s → ((i : ℕ) → i < n → A i (s i)) → (u : Hall) × Runs u × ((i : ℕ) → i < n → B i (u i))
      each_calls s run all = let p = partly s run all n (le_refl n) in (p.hall, p.run, p.done)

    -- all look
    module _ (F G : (i : ℕ) → i < n → Holding R C → Type 0) (brings : (i : ℕ) (li : i < n) (h : Holding R C) → ReplicaWell g laws n some x i li h → F i li h → G i li (looked g n i n h)) where
      record Known (P : (i : ℕ) → i < n → Holding R C → Type 0) (i : ℕ) (t : Replica R C PhasedRound) : Type 0 where
        well : (li : i < n) → Well i li (held meaning_of t)
        fact : (li : i < n) → P i li (held meaning_of t)

      look_step : (i : ℕ) → i < n → (t : Replica R C PhasedRound) → Known F i t → Allowed g look (held meaning_of t) × ((t' : Replica R C PhasedRound) → held meaning_of t' ≡ call_after g n i look (held meaning_of t) → Known G i t')
      look_step i lo t k = (inl (k.well lo).live, after)
        where
          h : Holding R C
          h = held meaning_of t

          after : (t' : Replica R C PhasedRound) → held meaning_of t' ≡ look_after g n i (held meaning_of t) → Known G i t'
          after t' e =
              let h = held meaning_of t in
              let q = cond-true (sizes_ok n h) (looked g n i n h) h (k.well lo).sizes in
              let there : held meaning_of t' ≡ looked g n i n h = e ∙ q in
              record {
                well = λ li. subst (Well i li) (sym there) (well_later i li h _ (k.well li) (looked_later g laws n some x i li n (le_refl n) h (k.well li).well));
                fact = λ li. subst (G i li) (sym there) (brings i li h (k.well li).well (k.fact li));
              }

      pub all_look : (s : Hall) → Runs s → Good s → ((i : ℕ) (li : i < n) → F i li (at s i)) → (u : Hall) × Runs u × Good u × ((i : ℕ) (li : i < n) → G i li (at u i))
      all_look s run good all =
          let r = each_calls (Known F) (Known G) (λ i. look) (λ s i. tt) look_step s run (λ i l. record { well = λ li. good i li; fact = λ li. all i li }) in
          (r.0, r.1, (λ i li. (r.2 i li).well li), (λ i li. (r.2 i li).fact li))

    -- a later hall where P holds
    record Reach (s : Hall) (P : Hall → Type 0) : Type 0 where
      hall : Hall
      run : Runs hall
      after : After s hall
      fact : P hall

    after_none : (s : Hall) → Good s → After s s
    after_none s good i li = later_none g laws n some x i li (at s i) (good i li).well

    reach_now : (s : Hall) (P : Hall → Type 0) → Runs s → Good s → P s → Reach s P
    reach_now s P run good h = record { hall = s; run = run; after = after_none s good; fact = h }

    -- what can be reached for each number can be reached for all
    module _ (P : ℕ → Hall → Type 0) (keeps : (l : ℕ) → l < n → (u v : Hall) → After u v → P l u → P l v) (s : Hall) (run : Runs s) (good : Good s) (reach : (l : ℕ) → l < n → (u : Hall) → Runs u → After s u → Reach u (P l)) where
      each : (m : ℕ) → m ≤ n → Reach s (λ u. (l : ℕ) → l < m → P l u)
      each zero h = reach_now s _ run good (λ l lt. absurd (omega arith))
      each (suc m) h =
          let a = each m (omega arith) in
          let b = reach m h a.hall a.run a.after in
          record {
            hall = b.hall;
            run = b.run;
            after = after_on s a.hall b.hall a.after b.after;
            fact = λ l lt. ⊎_elim (λ d. subst (λ (z : ℕ). P z b.hall) (sym d) b.fact) (λ ne. keeps l (omega arith) a.hall b.hall b.after (a.fact l (omega arith))) (cases_eq l m);
          }

      everywhere : Reach s (λ u. (l : ℕ) → l < n → P l u)
      everywhere = each n (le_refl n)

    -- of each slot one message, said by those senders that ok names
    module _ (msg : ℕ → Message (List ℕ)) (ok : ℕ → ℕ → Bool) (ours : (k : ℕ) → k < n → Ours x (msg k)) (lawful : (k : ℕ) → k < n → Lawful (syntax_of g n) (msg k)) (low : (k : ℕ) → k < n → slot_of (msg k) < n)
        (octets : (k : ℕ) → k < n → Octets (written (msg k))) (may : (k j : ℕ) → k < n → j < n → ok k j ≡ true → May j (msg k)) where
      abbrev pub HasIt : ℕ → Holding R C → ℕ → Type 0
      HasIt j h k = Has g laws n some x law oct j h (msg k)

      stays : (i k j : ℕ) (li : i < n) → k < n → j < n → (h h' : Holding R C) → L i li h h' → HasIt j h k → HasIt j h' k
      stays i k j li lk lj h h' l has = has_stays g laws n some x law oct i li j lj h h' l (msg k) (ours k lk) (low k lk) has

      -- replica i hears it of replica j
      hear_said : (s : Hall) → Runs s → Good s → (i k j : ℕ) → i < n → k < n → j < n → (j ≡ i → ⊥) → ok k j ≡ true → HasIt j (at s j) k → Reach s (λ u. HasIt j (at u i) k)
      hear_said s run good i k j li lk lj ne t has =
          let m = msg k in
          let c : Call = hear j (written m) in
          let mj = may k j lk lj t in
          let said : Said g n j (at s j) (written m) = record { message = m; lawful = lawful k lk; has_said = has_said g laws n some x law oct j (at s j) m mj has; bytes = refl } in
          let r = call_left g rule n i c (s i) in
          let b = hears_it g laws n some x law oct i li j lj ne (at s i) (at s j) (good i li).sizes (good i li).well m (ours k lk) (lawful k lk) (low k lk) (octets k lk) mj has in
          let here : held meaning_of (upd s i r.0 i) ≡ call_after g n i c (at s i) = ap (held meaning_of) (upd_here s i r.0) ∙ r.1 in
          record {
            hall = upd s i r.0;
            run = called run i c (li, refl) (inl (good i li).live, octets k lk) (λ _ _ _. said) r.0 r.1;
            after = λ l ll. at_upd (λ (z : Replica R C PhasedRound). L l ll (at s l) (held meaning_of z)) s i l r.0 (λ d. moved l ll d) (after_none s good l ll);
            fact = subst (λ (z : Holding R C). HasIt j z k) (sym here) b.has;
          }
        where
          moved : (l : ℕ) (ll : l < n) → l ≡ i → L l ll (at s l) (held meaning_of (call_left g rule n i (hear j (written (msg k))) (s i)).0)
          moved l ll d =
              let m = msg k in
              let r = call_left g rule n i (hear j (written m)) (s i) in
              subst (λ (z : ℕ). (lz : z < n) → L z lz (at s z) (held meaning_of r.0)) (sym d)
              (λ lz. subst (L i lz (at s i)) (sym r.1) (hears_it g laws n some x law oct i lz j lj ne (at s i) (at s j) (good i lz).sizes (good i lz).well m (ours k lk) (lawful k lk) (low k lk) (octets k lk) (may k j lk lj t) has).later) ll

      abbrev From : ℕ → ℕ → ℕ → Hall → Type 0
      From i k j u = ok k j ≡ true → HasIt j (at u i) k

      -- all hear it of all that have said it
      module _ (s : Hall) (run : Runs s) (good : Good s) (said : (k j : ℕ) → k < n → j < n → From j k j s) where
        hear_one : (i k j : ℕ) → i < n → k < n → j < n → (u : Hall) → Runs u → After s u → Reach u (From i k j)
        hear_one i k j li lk lj u ru a = ⊎_elim
            (λ t. let own = stays j k j lj lk lj _ _ (a j lj) (said k j lk lj t) in ⊎_elim
            (λ d. reach_now u (From i k j) ru (good_after s u good a) (λ _. subst (λ (z : ℕ). HasIt j (at u z) k) d own))
            (λ ne. let r = hear_said u ru (good_after s u good a) i k j li lk lj ne t own in record { hall = r.hall; run = r.run; after = r.after; fact = λ _. r.fact })
            (cases_eq j i))
            (λ f. reach_now u (From i k j) ru (good_after s u good a) (λ t. absurd (both_ways _ f t))) (cases_Bool (ok k j))

        from_stays : (i k j : ℕ) → i < n → k < n → j < n → (u v : Hall) → After u v → From i k j u → From i k j v
        from_stays i k j li lk lj u v a h t = stays i k j li lk lj _ _ (a i li) (h t)

        hear_slot : (i k : ℕ) → i < n → k < n → (u : Hall) → Runs u → After s u → Reach u (λ v. (j : ℕ) → j < n → From i k j v)
        hear_slot i k li lk u ru a = everywhere (From i k) (λ j lj v w b h. from_stays i k j li lk lj v w b h) u ru (good_after s u good a)
            (λ j lj v rv b. hear_one i k j li lk lj v rv (after_on s u v a b))

        hear_all : (i : ℕ) → i < n → (u : Hall) → Runs u → After s u → Reach u (λ v. (k : ℕ) → k < n → (j : ℕ) → j < n → From i k j v)
        hear_all i li u ru a = everywhere (λ k v. (j : ℕ) → j < n → From i k j v) (λ k lk v w b h j lj. from_stays i k j li lk lj v w b (h j lj)) u ru (good_after s u good a)
            (λ k lk v rv b. hear_slot i k li lk v rv (after_on s u v a b))

        spread : Reach s (λ v. (i : ℕ) → i < n → (k : ℕ) → k < n → (j : ℕ) → j < n → From i k j v)
        spread = everywhere (λ i v. (k : ℕ) → k < n → (j : ℕ) → j < n → From i k j v) (λ i li v w b h k lk j lj. from_stays i k j li lk lj v w b (h k lk j lj)) s run good
            (λ i li v rv b. hear_all i li v rv b)

      -- the hall that this comes to
      pub record Spread (s : Hall) : Type 0 where
        pub hall : Hall
        pub run : Runs hall
        pub good : Good hall
        pub after : After s hall
        pub has : (i k j : ℕ) → i < n → k < n → j < n → ok k j ≡ true → HasIt j (at hall i) k

      pub all_hear : (s : Hall) → Runs s → Good s → ((k j : ℕ) → k < n → j < n → ok k j ≡ true → HasIt j (at s j) k) → Spread s
      all_hear s run good said =
          let r = spread s run good said in
          record { hall = r.hall; run = r.run; good = good_after s r.hall good r.after; after = r.after; has = λ i k j li lk lj t. r.fact i li k lk j lj t }
