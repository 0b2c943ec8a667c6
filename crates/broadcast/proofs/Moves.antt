-- How a replica's tables may change by one step, and what each change keeps. Assumes nothing.
use Rattle.std.proofs.Common.{◌≡◌, ℕ, ◌<◌, ◌≤◌, Bool, true, not, ◌&&◌, eqb, ◌⊎◌, List, length, get_or, Some, None, Option, sym, refl, ap, ◌∙◌, subst, inl, inr, ⊎_elim, arith, length-set, get_or-set_other, get_or-set_same}
use Rattle.std.proofs.lemmas.Bool.{cases_eq, and_parts, and_from, ne_eqb, not_from_false}
use Rattle.basis.specs.Bytes.{Octets}
use Rattle.basis.specs.Counts.{count}
use Rattle.basis.specs.Halls.{quorum, beyond_faults}
use Rattle.basis.proofs.Totals.{count_below}
use Rattle.messages.specs.declared.message.Phase.{Phase}
use Rattle.messages.specs.declared.message.Phase.TheVariants.{Send, Echo, Ready}
use Rattle.sheets.specs.Holds.{Rows, holds}
use Rattle.slots.specs.Places.{all_places, place, recorded, tally}
use Rattle.slots.specs.Steps.{Slots, cleared, noted, delivered_by}
use Rattle.broadcast.specs.Calls.{may_send}
use Rattle.broadcast.specs.Claims.{RowLaws}
use Rattle.broadcast.proofs.Tables.{holds_some, some_holds, none_some, some_inj, places_apart, noted_here, noted_other}

module _ {R : Type 0} (rows : Rows R) (n : ℕ) where
  abbrev pub at : Slots R → Phase → ℕ → ℕ → Option (List ℕ)
  at t ph k j = recorded rows n t.places ph k j

  abbrev pub many : Slots R → Phase → ℕ → List ℕ → ℕ
  many t ph k x = tally rows n t.places ph k x

  -- how many others are ready
  abbrev pub others : ℕ → Slots R → ℕ → List ℕ → ℕ
  others own t k x = count n (λ j. holds x (at t Ready k j) && not (eqb j own))

  -- the sender whose ready has the delivered sheet
  abbrev pub chosen : Slots R → ℕ → Option ℕ
  chosen t k = (get_or t.records k cleared).delivered

  -- why a replica says a message of a phase
  abbrev pub Cause : Slots R → ℕ → Phase → List ℕ → Type 0
  Cause t k Send x = Unit {0}
  Cause t k Echo x = at t Send k k ≡ Some x
  Cause t k Ready x = (quorum n ≤ many t Echo k x) ⊎ (beyond_faults n ≤ many t Ready k x)

  -- what a replica's tables keep over every run
  pub record Sound (own : ℕ) (t : Slots R) : Type 0 where
    pub records_fit : n ≤ length t.records
    pub places_fit : all_places n ≤ length t.places
    pub echo : (k : ℕ) (x : List ℕ) → k < n → at t Echo k own ≡ Some x → at t Send k k ≡ Some x
    pub ready : (k : ℕ) (x : List ℕ) → k < n → at t Ready k own ≡ Some x → (quorum n ≤ many t Echo k x) ⊎ (beyond_faults n ≤ others own t k x)
    pub got : (k j : ℕ) → k < n → chosen t k ≡ Some j → (j < n) × (x : List ℕ) × (at t Ready k j ≡ Some x) × (quorum n ≤ many t Ready k x)

  -- nothing is lost
  pub record Grows (t t' : Slots R) : Type 0 where
    pub sheets : (ph : Phase) (k j : ℕ) (x : List ℕ) → k < n → j < n → at t ph k j ≡ Some x → at t' ph k j ≡ Some x
    pub delivery : (k j : ℕ) → k < n → chosen t k ≡ Some j → chosen t' k ≡ Some j

  pub grows_on : {t u v : Slots R} → Grows t u → Grows u v → Grows t v
  grows_on g h = record { sheets = λ ph k j x lk lj e. h.sheets ph k j x lk lj (g.sheets ph k j x lk lj e); delivery = λ k j lk e. h.delivery k j lk (g.delivery k j lk e) }

  pub many_grow : {t t' : Slots R} → Grows t t' → (ph : Phase) (k : ℕ) (x : List ℕ) → k < n → many t ph k x ≤ many t' ph k x
  many_grow {t} {t'} g ph k x lk = count_below n (λ j. holds x (at t ph k j)) (λ j. holds x (at t' ph k j)) (λ j lj h. some_holds x _ (g.sheets ph k j x lk lj (holds_some x _ h)))

  pub others_grow : (own : ℕ) {t t' : Slots R} → Grows t t' → (k : ℕ) (x : List ℕ) → k < n → others own t k x ≤ others own t' k x
  others_grow own {t} {t'} g k x lk = count_below n (λ j. holds x (at t Ready k j) && not (eqb j own)) (λ j. holds x (at t' Ready k j) && not (eqb j own))
      (λ j lj h. let p = and_parts _ _ h in and_from _ _ (some_holds x _ (g.sheets Ready k j x lk lj (holds_some x _ p.0))) p.1)

  -- ok: which sheet of a sender may be taken in
  pub record Moves (own : ℕ) (ok : Phase → ℕ → ℕ → List ℕ → Type 0) (t t' : Slots R) : Type 0 where
    pub sound : Sound own t'
    pub grows : Grows t t'
    pub only : (ph : Phase) (k j : ℕ) (x : List ℕ) → k < n → j < n → may_send ph k j ≡ true → at t' ph k j ≡ Some x → (at t ph k j ≡ Some x) ⊎ ((j ≡ own) ⊎ ok ph k j x)

  module _ {own : ℕ} {ok : Phase → ℕ → ℕ → List ℕ → Type 0} where
    pub moves_none : {t : Slots R} → Sound own t → Moves own ok t t
    moves_none h = record { sound = h; grows = record { sheets = λ ph k j x lk lj e. e; delivery = λ k j lk e. e }; only = λ ph k j x lk lj m e. inl e }

    pub moves_on : {t u v : Slots R} → Moves own ok t u → Moves own ok u v → Moves own ok t v
    moves_on a b = record { sound = b.sound; grows = grows_on a.grows b.grows; only = λ ph k j x lk lj m e. ⊎_elim (a.only ph k j x lk lj m) inr (b.only ph k j x lk lj m e) }

  -- a place that was empty and a slot that was not delivered may change
  pub note_grows : (own k : ℕ) (ph : Phase) (j : ℕ) (t : Slots R) (s : List ℕ) → at t ph k j ≡ None → Grows t (noted rows n own k ph j t s)
  note_grows own k ph j t s free = record {
    sheets = λ ph' k' j' x lk' lj' e. noted_other rows n own k ph j t s ph' k' j' (λ q. none_some free (sym (ap (λ p. rows.held (get_or t.places p rows.vacant)) q) ∙ e)) ∙ e;
    delivery = λ k' j' lk' e. e;
  }

  module _ (own : ℕ) (t : Slots R) (k j : ℕ) where
    pub chosen_here : k < n → n ≤ length t.records → chosen (delivered_by rows n own k t j) k ≡ Some j
    chosen_here lk fit = ap (λ r. r.delivered) (get_or-set_same t.records k (record { delivered = Some j }) cleared (omega arith))

    chosen_there : (k' : ℕ) → (k' ≡ k → ⊥) → chosen (delivered_by rows n own k t j) k' ≡ chosen t k'
    chosen_there k' ne = ap (λ r. r.delivered) (get_or-set_other t.records k k' (record { delivered = Some j }) cleared ne)

    pub deliver_grows : chosen t k ≡ None → Grows t (delivered_by rows n own k t j)
    deliver_grows free = record { sheets = λ ph k' j' x lk lj e. e; delivery = λ k' j' lk e. chosen_there k' (λ d. none_some free (ap (chosen t) (sym d) ∙ e)) ∙ e }

  module _ {size : ℕ} {lawful : List ℕ → Bool} (laws : RowLaws rows size lawful) (own : ℕ) (lo : own < n) (t : Slots R) (sound : Sound own t) (k : ℕ) (lk : k < n) where
    module _ (ph : Phase) (j : ℕ) (s : List ℕ) (lj : j < n) (may : may_send ph k j ≡ true) (law : lawful s ≡ true) (oct : Octets s) (free : at t ph k j ≡ None) where
      abbrev after_note : Slots R
      after_note = noted rows n own k ph j t s

      abbrev grown : Grows t after_note
      grown = note_grows own k ph j t s free

      note_only : (ph' : Phase) (k' j' : ℕ) (x : List ℕ) → k' < n → j' < n → may_send ph' k' j' ≡ true → at after_note ph' k' j' ≡ Some x → (at t ph' k' j' ≡ Some x) ⊎ ((ph' ≡ ph) × (k' ≡ k) × (j' ≡ j) × (x ≡ s))
      note_only ph' k' j' x lk' lj' m e = ⊎_elim
          (λ q. let a = places_apart n ph' ph k' k j' j lj' lj m may q in
          inr (a.0, a.1, a.2, some_inj e (ap (λ p. rows.held (get_or after_note.places p rows.vacant)) q ∙ noted_here rows n own k ph j t s laws lk lj sound.places_fit law oct)))
          (λ ne. inl (sym (noted_other rows n own k ph j t s ph' k' j' ne) ∙ e))
          (cases_eq (place n ph' k' j') (place n ph k j))

      -- before the own ready all that are ready are others
      all_others : (x : List ℕ) → at t Ready k own ≡ None → many t Ready k x ≤ others own t k x
      all_others x none = count_below n (λ i. holds x (at t Ready k i)) (λ i. holds x (at t Ready k i) && not (eqb i own))
          (λ i li h. and_from _ _ h (not_from_false _ (ne_eqb i own (λ q. none_some none (ap (at t Ready k) (sym q) ∙ holds_some x _ h)))))

      -- what one message more keeps, if a message of one's own has its cause
      pub note_moves : (ok : Phase → ℕ → ℕ → List ℕ → Type 0) → (j ≡ own → Cause t k ph s) → (j ≡ own) ⊎ ok ph k j s → Moves own ok t (noted rows n own k ph j t s)
      note_moves ok cause from = record {
        sound = record {
          records_fit = sound.records_fit;
          places_fit = simp length-set sound.places_fit;
          echo = λ k' x lk' e. ⊎_elim (λ old. grown.sheets Send k' k' x lk' lk' (sound.echo k' x lk' old))
              (λ new. grown.sheets Send k' k' x lk' lk' (new_echo k' x new.0 new.1 new.2 new.3))
              (note_only Echo k' own x lk' lo refl e);
          ready = λ k' x lk' e. ⊎_elim (λ old. more k' x lk' (sound.ready k' x lk' old)) (λ new. more k' x lk' (new_ready k' x new.0 new.1 new.2 new.3)) (note_only Ready k' own x lk' lo refl e);
          got = λ k' j' lk' e. let g = sound.got k' j' lk' e in let m = many_grow grown Ready k' g.1 lk' in (g.0, g.1, grown.sheets Ready k' j' g.1 lk' g.0 g.2, omega (arith, g.3));
        };
        grows = grown;
        only = λ ph' k' j' x lk' lj' m e. ⊎_elim inl (λ new. inr (⊎_elim (λ q. inl (new.2 ∙ q)) (λ q. inr (moved ph' k' j' x new.0 new.1 new.2 new.3 q)) from)) (note_only ph' k' j' x lk' lj' m e);
      }
        where
          moved : (ph' : Phase) (k' j' : ℕ) (x : List ℕ) → ph' ≡ ph → k' ≡ k → j' ≡ j → x ≡ s → ok ph k j s → ok ph' k' j' x
          moved ph' k' j' x a b c d q = rw (a, b, c, d) q

          more : (k' : ℕ) (x : List ℕ) → k' < n → (quorum n ≤ many t Echo k' x) ⊎ (beyond_faults n ≤ others own t k' x) → (quorum n ≤ many after_note Echo k' x) ⊎ (beyond_faults n ≤ others own after_note k' x)
          more k' x lk' (inl h) = let m = many_grow grown Echo k' x lk' in inl (omega arith)
          more k' x lk' (inr h) = let m = others_grow own grown k' x lk' in inr (omega arith)

          new_echo : (k' : ℕ) (x : List ℕ) → Echo ≡ ph → k' ≡ k → own ≡ j → x ≡ s → at t Send k' k' ≡ Some x
          new_echo k' x a b c d = rw (b, d) (subst (λ (p : Phase). Cause t k p s) (sym a) (cause (sym c)))

          new_ready : (k' : ℕ) (x : List ℕ) → Ready ≡ ph → k' ≡ k → own ≡ j → x ≡ s → (quorum n ≤ many t Echo k' x) ⊎ (beyond_faults n ≤ others own t k' x)
          new_ready k' x a b c d = rw (b, d) (⊎_elim inl (λ h. let m = all_others s (ap (at t Ready k) c ∙ subst (λ (p : Phase). at t p k j ≡ None) (sym a) free) in inr (omega arith)) (subst (λ (p : Phase). Cause t k p s) (sym a) (cause (sym c))))

    -- what a delivery keeps
    pub deliver_moves : (ok : Phase → ℕ → ℕ → List ℕ → Type 0) (j : ℕ) (x : List ℕ) → j < n → chosen t k ≡ None → at t Ready k j ≡ Some x → quorum n ≤ many t Ready k x → Moves own ok t (delivered_by rows n own k t j)
    deliver_moves ok j x lj free h q = record {
      sound = record {
        records_fit = simp length-set sound.records_fit;
        places_fit = sound.places_fit;
        echo = sound.echo;
        ready = sound.ready;
        got = λ k' j' lk' e. ⊎_elim (λ d. let same : j' ≡ j = some_inj e (ap (chosen (delivered_by rows n own k t j)) d ∙ chosen_here own t k j lk sound.records_fit) in (omega arith, x, rw (d, same) h, rw d q)) (λ ne. sound.got k' j' lk' (sym (chosen_there own t k j k' ne) ∙ e)) (cases_eq k' k);
      };
      grows = deliver_grows own t k j free;
      only = λ ph k' j' y lk' lj' m e. inl e;
    }
