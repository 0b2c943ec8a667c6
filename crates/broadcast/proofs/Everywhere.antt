-- One sheet for each slot, and at rest it is everywhere. Assumes nothing.
use Rattle.std.proofs.Common.{◌≡◌, ℕ, ◌+◌, ◌*◌, ◌<◌, ◌≤◌, Bool, true, not, ◌&&◌, ◌||◌, List, Some, None, Option, refl, ap, ◌∙◌, subst, inl, inr, arith}
use Rattle.std.proofs.lemmas.Bool.{and_parts, eq-eqb}
use Rattle.basis.specs.Counts.{count}
use Rattle.basis.specs.Halls.{faults, quorum, beyond_faults}
use Rattle.basis.proofs.Counts.{count_both, count_le, count_not, one_honest, honest_in_both}
use Rattle.basis.proofs.Totals.{count_below}
use Rattle.messages.specs.declared.message.Phase.{Phase}
use Rattle.messages.specs.declared.message.Phase.TheVariants.{Send, Echo, Ready}
use Rattle.sheets.specs.Holds.{Rows, holds}
use Rattle.slots.specs.Places.{sheet_of}
use Rattle.slots.specs.Steps.{Slots, delivered_sheet_lem}
use Rattle.broadcast.specs.Calls.{may_send}
use Rattle.broadcast.proofs.Tables.{holds_some, some_holds, none_some, some_inj}
use Rattle.broadcast.proofs.Moves.{at, many, chosen, Cause, Sound, Grows}
use Rattle.broadcast.proofs.Settling.{Settled}
use Rattle.broadcast.proofs.Kept.{Good, Echoed, Kept}

module _ {R : Type 0} (rows : Rows R) (n : ℕ) where
  -- the sheet of a delivery, of which a quorum is ready
  pub delivered_ready : (own : ℕ) (t : Slots R) → Sound rows n own t → (k : ℕ) (x : List ℕ) → k < n → delivered_sheet_lem rows n own k t ≡ Some x → (j : ℕ) × (j < n) × (chosen rows n t k ≡ Some j) × (at rows n t Ready k j ≡ Some x) × (quorum n ≤ many rows n t Ready k x)
  delivered_ready own t sound k x lk h = go (chosen rows n t k) refl h
    where
      go : (o : Option ℕ) → chosen rows n t k ≡ o → sheet_of rows n t.places Ready k o ≡ Some x → (j : ℕ) × (j < n) × (chosen rows n t k ≡ Some j) × (at rows n t Ready k j ≡ Some x) × (quorum n ≤ many rows n t Ready k x)
      go None q h' = absurd (none_some refl h')
      go (Some j) q h' = let g = sound.got k j lk q in (j, g.0, q, h', subst (λ (z : List ℕ). quorum n ≤ many rows n t Ready k z) (some_inj g.2 h') g.3)

  -- a delivered slot stays delivered, with its sheet
  pub delivered_stays : (own : ℕ) (t t' : Slots R) → Sound rows n own t → Grows rows n t t' → (k : ℕ) (x : List ℕ) → k < n → delivered_sheet_lem rows n own k t ≡ Some x → delivered_sheet_lem rows n own k t' ≡ Some x
  delivered_stays own t t' sound g k x lk h =
      let d = delivered_ready own t sound k x lk h in
      ap (sheet_of rows n t'.places Ready k) (g.delivery k d.0 lk d.2) ∙ g.sheets Ready k d.0 x lk d.1 d.3

  module _ (honest : ℕ → Bool) (e : n ≡ 3 * faults n + 1) (few : count n (λ j. not (honest j)) ≤ faults n) (s : ℕ → Slots R) (kp : Kept rows n honest s) where
    abbrev Fine : ℕ → Type 0
    Fine i = Good rows n honest i

    abbrev has : ℕ → Phase → ℕ → ℕ → Option (List ℕ)
    has i ph k j = at rows n (s i) ph k j

    abbrev tallied : ℕ → Phase → ℕ → List ℕ → ℕ
    tallied i ph k x = many rows n (s i) ph k x

    abbrev brought : ℕ → ℕ → Option (List ℕ)
    brought i k = delivered_sheet_lem rows n i k (s i)

    -- two quorums of echoes are of one sheet
    pub echoes_same : (k : ℕ) (x x' : List ℕ) → k < n → Echoed rows n honest s k x → Echoed rows n honest s k x' → x ≡ x'
    echoes_same k x x' lk o p =
        let h = honest_in_both (faults n) n (λ j. holds x (has o.0 Echo k j)) (λ j. holds x' (has p.0 Echo k j)) honest e few o.2 p.2 in
        let g : Fine h.0 = (h.1, h.4) in
        some_inj (kp.authentic o.0 h.0 Echo k x o.1 g lk refl (holds_some x _ h.2)) (kp.authentic p.0 h.0 Echo k x' p.1 g lk refl (holds_some x' _ h.3))

    -- of f + 1 that are ready one is honest
    ready_echoed : (i k : ℕ) (x : List ℕ) → Fine i → k < n → beyond_faults n ≤ tallied i Ready k x → Echoed rows n honest s k x
    ready_echoed i k x gi lk enough =
        let o = one_honest (faults n) n (λ j. holds x (has i Ready k j)) honest few enough in
        let g : Fine o.0 = (o.1, o.3) in
        kp.origin o.0 k x g lk (kp.authentic i o.0 Ready k x gi g lk refl (holds_some x _ o.2))

    got_echoed : (i k : ℕ) (x : List ℕ) → Fine i → k < n → brought i k ≡ Some x → Echoed rows n honest s k x
    got_echoed i k x gi lk h = ready_echoed i k x gi lk (omega (arith, (delivered_ready i (s i) (kp.sound i gi) k x lk h).4))

    -- all deliveries of a slot are the same
    pub deliveries_same : (i j k : ℕ) (x x' : List ℕ) → Fine i → Fine j → k < n → brought i k ≡ Some x → brought j k ≡ Some x' → x ≡ x'
    deliveries_same i j k x x' gi gj lk p q = echoes_same k x x' lk (got_echoed i k x gi lk p) (got_echoed j k x' gj lk q)

    -- and what an honest replica has sent for its slot
    pub delivery_sent : (i k : ℕ) (x : List ℕ) → Fine i → Fine k → brought i k ≡ Some x → has k Send k k ≡ Some x
    delivery_sent i k x gi gk b =
        let o = got_echoed i k x gi gk.0 b in
        let enough : beyond_faults n ≤ tallied o.0 Echo k x = omega (arith, o.2) in
        let h = one_honest (faults n) n (λ j. holds x (has o.0 Echo k j)) honest few enough in
        let g : Fine h.0 = (h.1, h.3) in
        kp.authentic h.0 k Send k x g gk gk.0 (eq-eqb k k refl) ((kp.sound h.0 g).echo k x gk.0 (kp.authentic o.0 h.0 Echo k x o.1 g gk.0 refl (holds_some x _ h.2)))

    -- all have recorded what honest replicas have said, and no step applies
    pub record Quiet : Type 0 where
      pub heard : (i j : ℕ) (ph : Phase) (k : ℕ) (x : List ℕ) → Fine i → Fine j → k < n → may_send ph k j ≡ true → has j ph k j ≡ Some x → has i ph k j ≡ Some x
      pub settled : (i k : ℕ) → Fine i → k < n → Settled rows n i k (s i)

    module _ (rest : Quiet) where
      -- what all have said, all have a quorum of
      from_all : (ph : Phase) (k : ℕ) (x : List ℕ) → k < n → ((j : ℕ) → may_send ph k j ≡ true) → ((j : ℕ) → Fine j → has j ph k j ≡ Some x) → (i : ℕ) → Fine i → quorum n ≤ tallied i ph k x
      from_all ph k x lk may all i gi =
          omega (arith, count_below n honest (λ j. holds x (has i ph k j)) (λ j lj hj. some_holds x _ (rest.heard i j ph k x gi (lj, hj) lk (may j) (all j (lj, hj)))), count_not n honest)

      -- all deliver an echoed sheet once each has cause to be ready of it
      ready_all : (k : ℕ) (x : List ℕ) → k < n → Echoed rows n honest s k x → ((j : ℕ) → Fine j → Cause rows n (s j) k Ready x) → (i : ℕ) → Fine i → brought i k ≡ Some x
      ready_all k x lk o why i gi =
          let c = (rest.settled i k gi lk).got x (from_all Ready k x lk (λ _. refl) ready i gi) in
          let g = (kp.sound i gi).got k c.0 lk c.1 in
          let same = echoes_same k g.1 x lk (ready_echoed i k g.1 gi lk (omega (arith, g.3))) o in
          ap (sheet_of rows n (s i).places Ready k) c.1 ∙ g.2 ∙ ap Some same
        where
          ready : (j : ℕ) → Fine j → has j Ready k j ≡ Some x
          ready j gj = let r = (rest.settled j k gj lk).readied x (why j gj) in r.1 ∙ ap Some (echoes_same k r.0 x lk (kp.origin j k r.0 gj lk r.1) o)

      pub delivery_shared : (i j k : ℕ) (x : List ℕ) → Fine i → Fine j → k < n → brought i k ≡ Some x → brought j k ≡ Some x
      delivery_shared i j k x gi gj lk h = ready_all k x lk (got_echoed i k x gi lk h) (λ l gl. inr (
          let p : ℕ → Bool = λ z. holds x (has i Ready k z) in
          let both = count_both n p honest in
          let top = count_le n (λ z. p z || honest z) in
          let heard = count_below n (λ z. p z && honest z) (λ z. holds x (has l Ready k z))
          (λ z lz b. let q = and_parts _ _ b in let gz : Fine z = (lz, q.1) in some_holds x _ (rest.heard l z Ready k x gl gz lk refl (kp.authentic i z Ready k x gi gz lk refl (holds_some x _ q.0)))) in
          omega (arith, (delivered_ready i (s i) (kp.sound i gi) k x lk h).4, count_not n honest))) j gj

      pub sent_delivered : (i k : ℕ) (x : List ℕ) → Fine i → Fine k → has k Send k k ≡ Some x → brought i k ≡ Some x
      sent_delivered i k x gi gk sent = ready_all k x gk.0 (k, gk, echoed k gk) (λ j gj. inl (echoed j gj)) i gi
        where
          mine : (j : ℕ) → Fine j → has j Echo k j ≡ Some x
          mine j gj =
              let there = rest.heard j k Send k x gj gk gk.0 (eq-eqb k k refl) sent in
              let r = (rest.settled j k gj gk.0).echoed x there in
              r.1 ∙ ap Some (some_inj ((kp.sound j gj).echo k r.0 gk.0 r.1) there)

          echoed : (j : ℕ) → Fine j → quorum n ≤ tallied j Echo k x
          echoed = from_all Echo k x gk.0 (λ _. refl) mine
