-- What the steps of one slot's sheets leave of another slot's. Assumes nothing.
use Rattle.std.proofs.Common.{◌≡◌, ℕ, zero, suc, ◌<◌, ◌≤◌, Bool, true, cond, leb, List, get_or, Some, None, Option, refl, sym, ap, ap₂, ◌∙◌, arith, get_or-set_other}
use Rattle.std.proofs.lemmas.Bool.{cond_both, eq-eqb}
use Rattle.std.specs.Option.{option_map}
use Rattle.basis.specs.Halls.{quorum, beyond_faults}
use Rattle.basis.proofs.Counts.{count_same}
use Rattle.broadcast.specs.Calls.{may_send}
use Rattle.broadcast.proofs.Tables.{places_apart, noted_other}
use Rattle.messages.specs.declared.message.Phase.{Phase}
use Rattle.messages.specs.declared.message.Phase.TheVariants.{Send, Echo, Ready}
use Rattle.sheets.specs.Holds.{Rows, holds}
use Rattle.slots.specs.Places.{or_else, recorded, reaches, backed, lowest_backed, sheet_of, to_ready}
use Rattle.slots.specs.declared.slot.Slot.{Slot}
use Rattle.slots.specs.Steps.{Slots, cleared, unless, noted, echo_due, ready_due, delivery_due, delivered_by, next, go_on, settled}

module _ {R : Type 0} (rows : Rows R) (n own k : ℕ) where
  -- what is told of a slot by two tables is the same
  pub record SheetsSame (t t' : Slots R) : Type 0 where
    pub send : recorded rows n t'.places Send k own ≡ recorded rows n t.places Send k own
    pub echoes : (j : ℕ) → j < n → recorded rows n t'.places Echo k j ≡ recorded rows n t.places Echo k j
    pub readies : (j : ℕ) → j < n → recorded rows n t'.places Ready k j ≡ recorded rows n t.places Ready k j
    pub delivery : get_or t'.records k cleared ≡ get_or t.records k cleared

  pub sheets_alike : (t : Slots R) → SheetsSame t t
  sheets_alike t = record { send = refl; echoes = λ j l. refl; readies = λ j l. refl; delivery = refl }

  pub sheets_then : (t u v : Slots R) → SheetsSame t u → SheetsSame u v → SheetsSame t v
  sheets_then t u v x y = record {
    send = y.send ∙ x.send;
    echoes = λ j l. y.echoes j l ∙ x.echoes j l;
    readies = λ j l. y.readies j l ∙ x.readies j l;
    delivery = y.delivery ∙ x.delivery;
  }

  -- so are the lowest_backed and its sheet
  module _ (ph : Phase) (ps ps' : List R) (same : (j : ℕ) → j < n → recorded rows n ps' ph k j ≡ recorded rows n ps ph k j) (least : ℕ) where
    reach_same : (o : Option (List ℕ)) → reaches rows n ps' ph k least o ≡ reaches rows n ps ph k least o
    reach_same None = refl
    reach_same (Some s) = ap (leb least) (count_same n (λ j. holds s (recorded rows n ps' ph k j)) (λ j. holds s (recorded rows n ps ph k j)) (λ j l. ap (holds s) (same j l)))

    lowest_backed_same : (m : ℕ) → m ≤ n → lowest_backed rows n ps' ph k least m ≡ lowest_backed rows n ps ph k least m
    unfolding lowest_backed
    lowest_backed_same zero le = refl
    lowest_backed_same (suc m) le = ap₂ (λ (a : Option ℕ) (b : Bool). or_else a (cond b (Some m) None)) (lowest_backed_same m (omega arith))
        (ap (reaches rows n ps' ph k least) (same m (omega arith)) ∙ reach_same (recorded rows n ps ph k m))

    abbrev Told : Option ℕ → Type 0
    Told o = sheet_of rows n ps' ph k o ≡ sheet_of rows n ps ph k o

    told_first : (a b : Option ℕ) → Told a → Told b → Told (or_else a b)
    told_first None b p q = q
    told_first (Some j) b p q = p

    told : (m : ℕ) → m ≤ n → Told (lowest_backed rows n ps ph k least m)
    unfolding lowest_backed
    told zero le = refl
    told (suc m) le = told_first (lowest_backed rows n ps ph k least m) (cond (backed rows n ps ph k least m) (Some m) None) (told m (omega arith))
        (cond_both (backed rows n ps ph k least m) (Some m) None Told (λ _. same m (omega arith)) (λ _. refl))

    led : sheet_of rows n ps' ph k (lowest_backed rows n ps' ph k least n) ≡ sheet_of rows n ps ph k (lowest_backed rows n ps ph k least n)
    led = ap (sheet_of rows n ps' ph k) (lowest_backed_same n (omega arith)) ∙ told n (omega arith)

  abbrev first_of : Slots R → Option (List ℕ) → Option (List ℕ) → Option ℕ → Option (Slots R)
  first_of t a b c = or_else (option_map (noted rows n own k Echo own t) a) (or_else (option_map (noted rows n own k Ready own t) b) (option_map (delivered_by rows n own k t) c))

  none_first : (t t' : Slots R) (a b : Option (List ℕ)) (c : Option ℕ) → first_of t a b c ≡ None → first_of t' a b c ≡ None
  none_first t t' None None None e = refl
  none_first t t' None None (Some j) e = cc
  none_first t t' None (Some x) c e = cc
  none_first t t' (Some x) b c e = cc

  -- and where no step applies to the one, none applies to the other
  pub none_same : (t t' : Slots R) → own < n → SheetsSame t t' → next rows n own k t ≡ None → next rows n own k t' ≡ None
  none_same t t' lo s e =
      let cause : to_ready rows n t'.places k ≡ to_ready rows n t.places k = ap₂ (λ (a b : Option (List ℕ)). or_else a b) (led Echo t.places t'.places s.echoes (quorum n)) (led Ready t.places t'.places s.readies (beyond_faults n)) in
      let p : echo_due rows n own k t' ≡ echo_due rows n own k t = ap₂ (λ (a b : Option (List ℕ)). unless a b) (s.echoes own lo) s.send in
      let q : ready_due rows n own k t' ≡ ready_due rows n own k t = ap₂ (λ (a b : Option (List ℕ)). unless a b) (s.readies own lo) cause in
      let r : delivery_due rows n own k t' ≡ delivery_due rows n own k t = ap₂ (λ (x : Slot) (o : Option ℕ). unless x.delivered o) s.delivery (lowest_backed_same Ready t.places t'.places s.readies (quorum n) n (omega arith)) in
      ap (λ (a : Option (List ℕ)). first_of t' a (ready_due rows n own k t') (delivery_due rows n own k t')) p
      ∙ ap₂ (λ (b : Option (List ℕ)) (c : Option ℕ). first_of t' (echo_due rows n own k t) b c) q r
      ∙ none_first t t' (echo_due rows n own k t) (ready_due rows n own k t) (delivery_due rows n own k t) e

-- what is kept by each step of a slot's sheets is kept by all
module _ {R : Type 0} (rows : Rows R) (n own m : ℕ) (P : Slots R → Type 0)
    (echo : (t : Slots R) (x : List ℕ) → P t → P (noted rows n own m Echo own t x))
    (ready : (t : Slots R) (x : List ℕ) → P t → P (noted rows n own m Ready own t x))
    (deliver : (t : Slots R) (j : ℕ) → P t → P (delivered_by rows n own m t j)) where
  one_kept : (t : Slots R) (a b : Option (List ℕ)) (c : Option ℕ) → P t → P (go_on rows n own m t (first_of rows n own m t a b c))
  one_kept t (Some x) b c p = echo t x p
  one_kept t None (Some x) c p = ready t x p
  one_kept t None None (Some j) p = deliver t j p
  one_kept t None None None p = p

  pub sheets_kept : (fuel : ℕ) (t : Slots R) → P t → P (settled rows n own m fuel t)
  unfolding settled
  sheets_kept zero t p = p
  sheets_kept (suc fuel) t p = sheets_kept fuel (go_on rows n own m t (next rows n own m t)) (one_kept t (echo_due rows n own m t) (ready_due rows n own m t) (delivery_due rows n own m t) p)

module _ {R : Type 0} (rows : Rows R) (n own m k : ℕ) (lo : own < n) (lk : k < n) (ne : m ≡ k → ⊥) where
  module _ (ph : Phase) (may : may_send ph m own ≡ true) (u : Slots R) (x : List ℕ) where
    away : (ph' : Phase) (j : ℕ) → j < n → may_send ph' k j ≡ true → recorded rows n (noted rows n own m ph own u x).places ph' k j ≡ recorded rows n u.places ph' k j
    away ph' j lj may' = noted_other rows n own m ph own u x ph' k j (λ e. ne (sym (places_apart n ph' ph k m j own lj lo may' may e).1))

    note : SheetsSame rows n own k u (noted rows n own m ph own u x)
    note = record { send = away Send k lk (eq-eqb k k refl); echoes = λ j l. away Echo j l refl; readies = λ j l. away Ready j l refl; delivery = refl }

  -- the steps of a slot's sheets leave every other slot as it is
  pub other_sheets : (fuel : ℕ) (t : Slots R) → SheetsSame rows n own k t (settled rows n own m fuel t)
  other_sheets fuel t = sheets_kept rows n own m (λ u. SheetsSame rows n own k t u)
      (λ u x p. sheets_then rows n own k t u (noted rows n own m Echo own u x) p (note Echo refl u x))
      (λ u x p. sheets_then rows n own k t u (noted rows n own m Ready own u x) p (note Ready refl u x))
      (λ u j p. sheets_then rows n own k t u (delivered_by rows n own m u j) p
      (record { send = refl; echoes = λ i l. refl; readies = λ i l. refl; delivery = get_or-set_other u.records m k (record { delivered = Some j }) cleared (λ e. ne (sym e)) }))
      fuel t (sheets_alike rows n own k t)
