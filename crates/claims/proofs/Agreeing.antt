-- Agreement: decisions, lists, records, and that none accuses another. Assumes nothing.
use Rattle.std.proofs.Common.{◌≡◌, ℕ, zero, suc, ◌<◌, ◌≤◌, Bool, true, not, T, eqb, List, Some, sym, refl, ap, ◌∙◌, subst, arith}
use Rattle.basis.specs.Counts.{count}
use Rattle.basis.specs.Halls.{listed, faults}
use Rattle.basis.proofs.Thirds.{thirds, at_most_16}
use Rattle.broadcast.proofs.Tables.{some_inj}
use Rattle.coins.specs.Coins.{Tossed, Sender}
use Rattle.messages.specs.declared.message.Message.{Message}
use Rattle.messages.specs.declared.message.Message.TheVariants.{Sheet, Bit, Set, Share}
use Rattle.messages.specs.Reading.{Lawful as LawfulMessage}
use Rattle.messages.specs.Tags.{vote_tag, bits_number}
use Rattle.rules.specs.Rounds.{Round, bit_set}
use Rattle.ballots.specs.States.{round_at}
use Rattle.ballot_runs.specs.Claims.{Claims, CoinsAgree as FacesAgree}
use Rattle.ballot_runs.proofs.Holding.{ballots_hold}
use Rattle.outcomes.specs.Calls.{HasSaid}
use Rattle.outcomes.specs.Holdings.{Closed, Setting, Holding, syntax_of, ballot_at, state_of}
use Rattle.evenings.specs.Evenings.{Replica, held}
use Rattle.evenings.specs.Claims.{CoinsAgree, Agreement, Lawful}
use Rattle.sheet_turns.proofs.Closing.{SameOutcome, list_same, record_same}
use Rattle.sheet_turns.proofs.Halls.{Later, sheets_agree, sheet_alone}
use Rattle.sheet_turns.proofs.Messages.{Alone, said_unrefused}
use Rattle.claims.proofs.Halls.{Whole, Grown, holds_at, ballots_of}
use Rattle.claims.proofs.Views.{view_decided, view_round, face_shown}

module _ {R C Row : Type 0} (g : Setting R C) (meaning : Row → Round) (n : ℕ) (honest : ℕ → Bool) (laws : Lawful g) (li : T (listed n)) (few : count n (λ j. not (honest j)) ≤ faults n) where
  abbrev Hall : Type 0
  Hall = ℕ → Replica R C Row

  abbrev Fine : ℕ → Type 0
  Fine i = (i < n) × (honest i ≡ true)

  -- what holds of the ballots of a hall
  pub ballots_claims : (s : Hall) → Whole g meaning n honest laws.rows s → Claims g.rule n honest (ballots_of g meaning n honest laws.rows s)
  ballots_claims s w = ballots_hold g.rule laws.rule n honest (ballots_of g meaning n honest laws.rows s) li few w.run

  -- coins that agree show faces that agree
  faces_agree : (s : Hall) → CoinsAgree g meaning n honest s → (k : ℕ) → k < n → FacesAgree g.rule n honest (ballots_of g meaning n honest laws.rows s) k
  faces_agree s coins k lk i j zero gi gj a b = refl
  faces_agree s coins k lk i j (suc r) gi gj a b =
      let p = face_shown g n (holds_at g meaning n honest laws.rows s i) k lk r a in
      let q = face_shown g n (holds_at g meaning n honest laws.rows s j) k lk r b in
      p.3 ∙ ap bit_set (coins i j k (suc r) p.1 q.1 gi gj lk (omega arith) (let z = p.0 in omega arith) p.2 q.2) ∙ sym q.3

  module _ (s s' : Hall) (w' : Whole g meaning n honest laws.rows s')
      (grown : (i : ℕ) → Fine i → Grown g meaning n honest laws.rows (holds_at g meaning n honest laws.rows s i) (holds_at g meaning n honest laws.rows s' i)) (i j : ℕ) (gi : Fine i) (gj : Fine j) where
    -- a vote that stands of an honest sender is one that it has said, and under a tag above 0x20 it says one
    votes_one : (k r t v v' : ℕ) → k < n → r < 16 → 32 < t → (round_at k r (state_of k (held meaning (s' i)))).votes t v j ≡ true → (round_at k r (state_of k (held meaning (s j)))).votes t v' j ≡ true → v ≡ v'
    votes_one k r t v v' lk lr above h d =
        let c = ballots_claims s' w' in
        let a = c.authentic i j k r t v gi gj (ap (λ (m : Round). m.votes t v j) (view_round g n (held meaning (s' i)) k lk r lr) ∙ h) in
        let b = (((grown j gj).views k).rounds r).votes t v' j (ap (λ (m : Round). m.votes t v' j) (view_round g n (held meaning (s j)) k lk r lr) ∙ d) in
        c.one_vote_a_tag j k r t v v' gj above a b

    -- a share that stands of an honest sender is the one that its own coin has taken
    shares_one : (k r v x : ℕ) → k < n → (1 ≤ r) × (r ≤ 15) → g.coins.taken_of (s' i).coin k r j ≡ Some v → g.coins.taken_of (s j).coin k r j ≡ Some x → v ≡ x
    shares_one k r v x lk lr h d =
        let top = at_most_16 n li in
        let to : Tossed k r = record { ballot_below = omega arith; round_from = lr.0; round_to = lr.1 } in
        let sj : Sender j = (let z = gj.0 in omega arith) in
        some_inj (w'.shares i j k r v gi gj to sj h) ((grown j gj).shares k r j x to sj d)

  module _ (s s' : Hall) (w : Whole g meaning n honest laws.rows s) (w' : Whole g meaning n honest laws.rows s')
      (later : Later g meaning n honest laws.rows few s s')
      (grown : (i : ℕ) → Fine i → Grown g meaning n honest laws.rows (holds_at g meaning n honest laws.rows s i) (holds_at g meaning n honest laws.rows s' i)) where
    abbrev now : ℕ → Holding R C
    now i = held meaning (s i)

    abbrev then : ℕ → Holding R C
    then i = held meaning (s' i)

    pub decisions_stay : (i k : ℕ) → Fine i → k < n → 0 < (ballot_at k (now i)).decided → (ballot_at k (then i)).decided ≡ (ballot_at k (now i)).decided
    decisions_stay i k gi lk lo =
        let e = view_decided g n (now i) k lk in
        sym (view_decided g n (then i) k lk) ∙ ((grown i gi).views k).decided (subst (λ (z : ℕ). 0 < z) (sym e) lo) ∙ e

    module _ (coins : CoinsAgree g meaning n honest s') where
      same_then : (i j k : ℕ) → Fine i → Fine j → k < n → 0 < (ballot_at k (then i)).decided → 0 < (ballot_at k (then j)).decided → (ballot_at k (then i)).decided ≡ (ballot_at k (then j)).decided
      same_then i j k gi gj lk a b =
          let p = view_decided g n (then i) k lk in
          let q = view_decided g n (then j) k lk in
          sym p ∙ (ballots_claims s' w').agreement i j k gi gj (faces_agree s' coins k lk) (subst (λ (z : ℕ). 0 < z) (sym p) a) (subst (λ (z : ℕ). 0 < z) (sym q) b) ∙ q

      same_decisions : (i j k : ℕ) → Fine i → Fine j → k < n → 0 < (ballot_at k (now i)).decided → 0 < (ballot_at k (then j)).decided → (ballot_at k (now i)).decided ≡ (ballot_at k (then j)).decided
      same_decisions i j k gi gj lk a b =
          let e = decisions_stay i k gi lk a in
          sym e ∙ same_then i j k gi gj lk (subst (λ (z : ℕ). 0 < z) (sym e) a) b

      same_outcome : (i j : ℕ) → Fine i → Fine j → (s i).life ≡ Closed → (s' j).life ≡ Closed → SameOutcome g n i j (now i) (then j)
      same_outcome i j gi gj ci cj =
          let a = w.closed i gi ci in
          let b = w'.closed j gj cj in
          record {
            decided_in = λ k lk. ap (λ (z : ℕ). eqb z 2) (same_decisions i j k gi gj lk (a.decided k lk) (b.decided k lk));
            sheets = λ k lk e.
                let x = a.sheets k lk e in
                let y = b.sheets k lk (sym (ap (λ (z : ℕ). eqb z 2) (same_decisions i j k gi gj lk (a.decided k lk) (b.decided k lk))) ∙ e) in
                x.1 ∙ ap Some (sheets_agree g meaning n honest laws.rows few (thirds n li) s s' w.cast later i j k x.0 y.0 gi gj lk x.1 y.1) ∙ sym y.1;
          }

    -- what an honest replica has said stands alone
    alone : (i j : ℕ) (xs : List ℕ) → Fine i → Fine j → (m : Message (List ℕ)) → LawfulMessage (syntax_of g n) m → HasSaid g n j (now j) m → Alone g n i j (then i) xs m
    alone i j xs gi gj (Sheet ph k x) law said = sheet_alone g meaning n honest laws.rows s s' w'.cast later.grows i j gi gj ph k x law.0 said
    alone i j xs gi gj (Bit vote k r b) law said = λ above v h. votes_one s s' w' grown i j gi gj k r (vote_tag vote) v (bit_set b) law.0 (let z = law.1 in omega arith) above h said
    alone i j xs gi gj (Set tag k r b) law said = λ above v h. votes_one s s' w' grown i j gi gj k r tag v (bits_number b) law.0 (let z = law.2 in omega arith) above h said
    alone i j xs gi gj (Share k r x) law said = λ v h. shares_one s s' w' grown i j gi gj k r v x law.0 (law.1, law.2) h said

    pub agreement : CoinsAgree g meaning n honest s' → Agreement g meaning n honest s s'
    agreement coins = record {
      same_decisions = same_decisions coins;
      decisions_stay = decisions_stay;
      same_lists = λ i j index gi gj ci cj. list_same g n i j (now i) (then j) (same_outcome coins i j gi gj ci cj) (w.closed i gi ci).sizes (w'.closed j gj cj).sizes index;
      same_records = λ i j gi gj ci cj. record_same g n i j (now i) (then j) (same_outcome coins i j gi gj ci cj);
      no_accusation = λ i j xs e gi gj ne d q. said_unrefused g n i j (then i) xs laws.rows (now j) d (w'.cast.well i gi).sizes gj.0 ne (alone i j xs gi gj d.message d.lawful d.has_said) e q;
      coins_sound = λ i gi. (w'.votes i gi).coin;
    }
