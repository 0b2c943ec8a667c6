-- Each step of a slot once, in their order: that is all the steps which apply, and after them none does. Assumes nothing.
use Rattle.std.proofs.Common.{◌≡◌, ℕ, zero, suc, ◌<◌, ◌≤◌, ◌≢◌, List, length, Some, None, Option, slice_index_or, slice_set, sym, refl, ap, ◌∙◌, ap₂, get_or-set_same, get_or-set_other, length-set, arith}
use Rattle.std.specs.Option.{option_map}
use Rattle.std.proofs.lemmas.List.{set-get_or}
use Rattle.messages.specs.declared.message.Phase.{Phase}
use Rattle.messages.specs.declared.message.Phase.TheVariants.{Send, Echo, Ready}
use Rattle.sheets.specs.Holds.{Rows}
use Rattle.slots.specs.Places.{all_places, place, or_else, recorded, lowest_backed, to_ready}
use Rattle.slots.specs.Steps.{Slots, cleared, unless, marked_slot, marked, noted, said_due, echo_due, ready_due, delivery_due, delivered_by, next, go_on, settled, SettledIn}
use Rattle.slots.specs.declared.slot.Slot.{Slot}
use Rattle.basis.specs.Halls.{quorum}
use Rattle.slots.proofs.Positions.{place_within}

module _ {R : Type 0} (rows : Rows R) (n own k : ℕ) where
  -- the row of a sheet holds it
  abbrev pub Held : Option (List ℕ) → Type 0
  Held None = Unit {0}
  Held (Some x) = rows.held (rows.row x) ≡ Some x

  abbrev both : List Slot → List R → Slots R
  both rs ps = record { records = rs; places = ps }

  abbrev first_of_three : Slots R → Option (List ℕ) → Option (List ℕ) → Option ℕ → Option (Slots R)
  first_of_three t a b c = or_else (option_map (noted rows n own k Echo own t) a) (or_else (option_map (noted rows n own k Ready own t) b) (option_map (delivered_by rows n own k t) c))

  next_is : (t : Slots R) (a b : Option (List ℕ)) (c : Option ℕ) → a ≡ echo_due rows n own k t → b ≡ ready_due rows n own k t → c ≡ delivery_due rows n own k t → first_of_three t a b c ≡ next rows n own k t
  next_is t a b c p q r =
      ap (λ x. first_of_three t x b c) p ∙ ap (λ x. first_of_three t (echo_due rows n own k t) x c) q
      ∙ ap (first_of_three t (echo_due rows n own k t) (ready_due rows n own k t)) r

  -- where no step applies, none is taken
  still : (t : Slots R) → None ≡ next rows n own k t → (fuel : ℕ) → t ≡ settled rows n own k fuel t
  unfolding settled
  still t e zero = refl
  still t e (suc fuel) = still t e fuel ∙ ap (λ x. settled rows n own k fuel (go_on rows n own k t x)) e

  -- a step that is taken
  taken : (t t' : Slots R) (fuel : ℕ) → Some t' ≡ next rows n own k t → settled rows n own k fuel t' ≡ settled rows n own k (suc fuel) t
  unfolding settled
  taken t t' fuel q = ap (λ x. settled rows n own k fuel (go_on rows n own k t x)) q

  -- what is said stands under the own number, and other places stay
  stands : (ph : Phase) (ps : List R) (x : List ℕ) → k < n → own < n → all_places n ≤ length ps → Held (Some x) → Some x ≡ recorded rows n (said_due rows n own k ph ps (Some x)) ph k own
  stands ph ps x lk lo fit h = let l = place_within n ph k own lk lo in sym (ap rows.held (get_or-set_same ps (place n ph k own) (rows.row x) rows.vacant (omega arith)) ∙ h)

  keeps : (ph ph' : Phase) (ps : List R) (x : List ℕ) → (place n ph' k own ≢ place n ph k own) → recorded rows n (said_due rows n own k ph ps (Some x)) ph' k own ≡ recorded rows n ps ph' k own
  keeps ph ph' ps x apart = ap rows.held (get_or-set_other ps (place n ph k own) (place n ph' k own) (rows.row x) rows.vacant apart)

  abbrev done : List Slot → List R → Slots R
  done rs ps = both (marked k rs (delivery_due rows n own k (both rs ps))) ps

  third_by : (fuel : ℕ) (rs : List Slot) (ps : List R) (d : Option ℕ) → k < length rs → None ≡ echo_due rows n own k (both rs ps) → None ≡ ready_due rows n own k (both rs ps) → d ≡ delivery_due rows n own k (both rs ps)
      → both (marked k rs d) ps ≡ settled rows n own k (suc fuel) (both rs ps)
  third_by fuel rs ps None l e r d = still (both rs ps) (next_is (both rs ps) None None None e r d) (suc fuel)
  third_by fuel rs ps (Some j) l e r d =
      let t' = both (marked k rs (Some j)) ps in
      let gone : None ≡ delivery_due rows n own k t' =
      ap (λ (s : Slot). unless s.delivered (lowest_backed rows n ps Ready k (quorum n) n)) (sym (get_or-set_same rs k (record { delivered = Some j }) cleared l)) in
      still t' (next_is t' None None None e r gone) fuel ∙ taken (both rs ps) t' fuel (next_is (both rs ps) None None (Some j) e r d)

  second_by : (fuel : ℕ) (rs : List Slot) (ps : List R) (r : Option (List ℕ)) → k < length rs → k < n → own < n → all_places n ≤ length ps → None ≡ echo_due rows n own k (both rs ps) → r ≡ ready_due rows n own k (both rs ps) → Held r
      → done rs (said_due rows n own k Ready ps r) ≡ settled rows n own k (suc (suc fuel)) (both rs ps)
  second_by fuel rs ps None l lk lo fit e r h = third_by (suc fuel) rs ps (delivery_due rows n own k (both rs ps)) l e r refl
  second_by fuel rs ps (Some y) l lk lo fit e r h =
      let ps' = said_due rows n own k Ready ps (Some y) in
      let e' : None ≡ echo_due rows n own k (both rs ps') = e ∙ sym (ap₂ unless (keeps Ready Echo ps y (omega arith)) (keeps Ready Send ps y (omega arith))) in
      let r' : None ≡ ready_due rows n own k (both rs ps') = ap (λ o. unless o (to_ready rows n ps' k)) (stands Ready ps y lk lo fit h) in
      third_by fuel rs ps' (delivery_due rows n own k (both rs ps')) l e' r' refl
      ∙ taken (both rs ps) (both rs ps') (suc fuel) (next_is (both rs ps) None (Some y) (delivery_due rows n own k (both rs ps)) e r refl)

  -- the echo if it is due, then the ready, then the delivery
  all_steps : (fuel : ℕ) (rs : List Slot) (ps : List R) (e r : Option (List ℕ)) → k < length rs → k < n → own < n → all_places n ≤ length ps
      → e ≡ echo_due rows n own k (both rs ps) → Held e → r ≡ ready_due rows n own k (both rs (said_due rows n own k Echo ps e)) → Held r
      → done rs (said_due rows n own k Ready (said_due rows n own k Echo ps e) r) ≡ settled rows n own k (suc (suc (suc fuel))) (both rs ps)
  all_steps fuel rs ps None r l lk lo fit e he q h = second_by (suc fuel) rs ps r l lk lo fit e q h
  all_steps fuel rs ps (Some x) r l lk lo fit e he q h =
      let ps' = said_due rows n own k Echo ps (Some x) in
      let e' : None ≡ echo_due rows n own k (both rs ps') = ap (λ o. unless o (recorded rows n ps' Send k own)) (stands Echo ps x lk lo fit he) in
      let fit' : all_places n ≤ length ps' = simp length-set fit in
      second_by fuel rs ps' r l lk lo fit' e' q h
      ∙ taken (both rs ps) (both rs ps') (suc (suc fuel)) (next_is (both rs ps) (Some x) (ready_due rows n own k (both rs ps)) (delivery_due rows n own k (both rs ps)) e refl refl)

  -- what stands already is tested once or twice
  unless_twice : {X Y : Type 0} (said : Option X) (y : Option Y) → unless said (unless said y) ≡ unless said y
  unless_twice None y = refl
  unless_twice (Some x) y = refl

  -- a sheet of the kind is held by its row
  held_of : {S : Type 0} (bytes : S → List ℕ) → ((x : S) → rows.held (rows.row (bytes x)) ≡ Some (bytes x)) → {Y : Type 0} (said : Option Y) (o : Option S) → Held (unless said (option_map bytes o))
  held_of bytes law (Some y) o = tt
  held_of bytes law None None = tt
  held_of bytes law None (Some x) = law x

  -- a slot's record put back with its delivery, and without one
  marked_in : (rs : List Slot) (r : Slot) (d : Option ℕ) → slice_index_or rs k cleared ≡ r → slice_set rs k (marked_slot r d) ≡ marked k rs d
  marked_in rs r None e = ap (slice_set rs k) (sym e) ∙ set-get_or rs k cleared
  marked_in rs r (Some j) e = refl

  -- what the three steps leave, each by its contract; e and r are the causes of an echo and of a ready
  pub settles : {S : Type 0} (bytes : S → List ℕ) → ((x : S) → rows.held (rows.row (bytes x)) ≡ Some (bytes x)) → k < n → own < n
      → (t t' : Slot) (ps p1 p2 : List R) (e r : Option S) → all_places n ≤ length ps
      → option_map bytes e ≡ recorded rows n ps Send k own → p1 ≡ said_due rows n own k Echo ps (unless (recorded rows n ps Echo k own) (option_map bytes e))
      → option_map bytes r ≡ unless (recorded rows n p1 Ready k own) (to_ready rows n p1 k) → p2 ≡ said_due rows n own k Ready p1 (unless (recorded rows n p1 Ready k own) (option_map bytes r))
      → t' ≡ marked_slot t (unless t.delivered (lowest_backed rows n p2 Ready k (quorum n) n))
      → SettledIn rows n own k t t' ps p2
  settles bytes law lk lo t t' ps p1 p2 e r fit qe q1 qr q2 q3 rs l at =
      let due = unless (recorded rows n ps Echo k own) (option_map bytes e) in
      let p1' = said_due rows n own k Echo ps due in
      let due' = unless (recorded rows n p1' Ready k own) (option_map bytes r) in
      let said : p2 ≡ said_due rows n own k Ready p1' due' = q2 ∙ ap (λ p. said_due rows n own k Ready p (unless (recorded rows n p Ready k own) (option_map bytes r))) q1 in
      let put : slice_set rs k t' ≡ marked k rs (delivery_due rows n own k (both rs p2)) =
      ap (slice_set rs k) q3 ∙ marked_in rs t (unless t.delivered (lowest_backed rows n p2 Ready k (quorum n) n)) at
      ∙ ap (λ (s : Slot). marked k rs (unless s.delivered (lowest_backed rows n p2 Ready k (quorum n) n))) (sym at) in
      ap (λ x. both x p2) put ∙ ap (done rs) said
      ∙ all_steps 0 rs ps due due' l lk lo fit (ap (unless (recorded rows n ps Echo k own)) qe) (held_of bytes law (recorded rows n ps Echo k own) e)
      (ap (unless (recorded rows n p1' Ready k own)) (qr ∙ ap (λ p. unless (recorded rows n p Ready k own) (to_ready rows n p k)) q1) ∙ unless_twice (recorded rows n p1' Ready k own) (to_ready rows n p1' k)) (held_of bytes law (recorded rows n p1' Ready k own) r)
