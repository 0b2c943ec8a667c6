-- The steps of a slot end: each is taken at most once. Assumes nothing.
use Rattle.std.proofs.Common.{◌≡◌, ℕ, zero, suc, ◌+◌, ◌<◌, ◌≤◌, Bool, ◌⊎◌, List, length, Some, None, Option, sym, refl, ap, ◌∙◌, subst, inl, inr, ⊎_elim, arith, length-set}
use Rattle.std.specs.Option.{option_map}
use Rattle.messages.specs.declared.message.Phase.TheVariants.{Echo, Ready}
use Rattle.sheets.specs.Holds.{Rows}
use Rattle.slots.specs.Places.{all_places, or_else}
use Rattle.slots.specs.Steps.{Slots, noted, echo_due, ready_due, delivery_due, delivered_by, next, go_on, settled}
use Rattle.broadcast.specs.Claims.{RowLaws, StepsEnd}
use Rattle.broadcast.proofs.Tables.{noted_here}
use Rattle.broadcast.proofs.Moves.{at, chosen, Grows, note_grows, chosen_here}
use Rattle.broadcast.proofs.Settling.{unless_some, Step, echoes, readies, delivers, rests, stepped, ready_why, cause_lawful}

-- 1 where nothing stands
abbrev free : {X : Type 0} → Option X → ℕ
free None = 1
free (Some x) = 0

free_le : {X : Type 0} (o : Option X) → free o ≤ 1
free_le None = omega arith
free_le (Some x) = omega arith

-- what stands stays
free_less : {X : Type 0} (o o' : Option X) → ((x : X) → o ≡ Some x → o' ≡ Some x) → free o' ≤ free o
free_less None o' h = free_le o'
free_less (Some x) o' h = subst (λ z. free z ≤ 0) (sym (h x refl)) (omega arith)

filled : {X : Type 0} (o o' : Option X) (x : X) → o ≡ None → o' ≡ Some x → free o' < free o
filled o o' x p q = let a : free o ≡ 1 = ap free p in let b : free o' ≡ 0 = ap free q in omega arith

module _ {R : Type 0} (rows : Rows R) {size : ℕ} {lawful : List ℕ → Bool} (laws : RowLaws rows size lawful) (n own k : ℕ) (lo : own < n) (lk : k < n) where
  record Fit (t : Slots R) : Type 0 where
    records : n ≤ length t.records
    places : all_places n ≤ length t.places

  -- how many steps can still be taken
  abbrev left : Slots R → ℕ
  left t = free (at rows n t Echo k own) + (free (at rows n t Ready k own) + free (chosen rows n t k))

  abbrev Idle : Slots R → Type 0
  Idle t = (echo_due rows n own k t ≡ None) × (ready_due rows n own k t ≡ None) × (delivery_due rows n own k t ≡ None)

  module _ {t t' : Slots R} (g : Grows rows n t t') where
    echo_less : free (at rows n t' Echo k own) ≤ free (at rows n t Echo k own)
    echo_less = free_less _ _ (λ x e. g.sheets Echo k own x lk lo e)

    ready_less : free (at rows n t' Ready k own) ≤ free (at rows n t Ready k own)
    ready_less = free_less _ _ (λ x e. g.sheets Ready k own x lk lo e)

    chosen_less : free (chosen rows n t' k) ≤ free (chosen rows n t k)
    chosen_less = free_less _ _ (λ j e. g.delivery k j lk e)

  step_less : (t t' : Slots R) → Fit t → Step rows n own k t t' → Fit t' × ((left t' < left t) ⊎ Idle t)
  step_less t t' fit (echoes x e) =
      let u = unless_some _ _ x e in
      let l = laws.kept _ x u.1 in
      let g = note_grows rows n own k Echo own t x u.0 in
      let f = filled (at rows n t Echo k own) (at rows n (noted rows n own k Echo own t x) Echo k own) x u.0 (noted_here rows n own k Echo own t x laws lk lo fit.places l.0 l.1) in
      (record { records = fit.records; places = simp length-set fit.places }, inl (omega (arith, f, ready_less g)))
  step_less t t' fit (readies x e) =
      let u = unless_some _ _ x e in
      let l = cause_lawful rows n laws own lo t k x (ready_why rows n own k t x u.1) in
      let g = note_grows rows n own k Ready own t x u.0 in
      let f = filled (at rows n t Ready k own) (at rows n (noted rows n own k Ready own t x) Ready k own) x u.0 (noted_here rows n own k Ready own t x laws lk lo fit.places l.0 l.1) in
      (record { records = fit.records; places = simp length-set fit.places }, inl (omega (arith, f, echo_less g)))
  step_less t t' fit (delivers j e) =
      let u = unless_some _ _ j e in
      let f = filled (chosen rows n t k) (chosen rows n (delivered_by rows n own k t j) k) j u.0 (chosen_here rows n own t k j lk fit.records) in
      (record { records = simp length-set fit.records; places = fit.places }, inl (omega (arith, f)))
  step_less t t' fit (rests e r d) = (fit, inr (e, r, d))

  idle_next : (t : Slots R) → Idle t → next rows n own k t ≡ None
  idle_next t i =
      ap (λ o. or_else (option_map (noted rows n own k Echo own t) o) (or_else (option_map (noted rows n own k Ready own t) (ready_due rows n own k t)) (option_map (delivered_by rows n own k t) (delivery_due rows n own k t)))) i.0
      ∙ ap (λ o. or_else (option_map (noted rows n own k Ready own t) o) (option_map (delivered_by rows n own k t) (delivery_due rows n own k t))) i.1
      ∙ ap (option_map (delivered_by rows n own k t)) i.2

  idle_stays : (fuel : ℕ) (t : Slots R) → next rows n own k t ≡ None → settled rows n own k fuel t ≡ t
  unfolding settled
  idle_stays zero t h = refl
  idle_stays (suc fuel) t h = ap (λ o. settled rows n own k fuel (go_on rows n own k t o)) h ∙ idle_stays fuel t h

  ends : (fuel : ℕ) (t : Slots R) → Fit t → left t ≤ fuel → next rows n own k (settled rows n own k fuel t) ≡ None
  unfolding settled
  ends zero t fit h = let s = step_less t _ fit (stepped rows n own k t) in ⊎_elim (λ l. absurd (omega arith)) (idle_next t) s.1
  ends (suc fuel) t fit h = let s = step_less t _ fit (stepped rows n own k t) in ⊎_elim
      (λ l. ends fuel _ s.0 (omega arith))
      (λ i. let q = idle_next t i in ap (next rows n own k) (idle_stays (suc fuel) t q) ∙ q) s.1

pub steps_end : {R : Type 0} (rows : Rows R) {size : ℕ} {lawful : List ℕ → Bool} → RowLaws rows size lawful → StepsEnd rows
steps_end rows laws n own k t lo lk r p =
    ends rows laws n own k lo lk 3 t (record { records = r; places = p }) (omega (arith, free_le (at rows n t Echo k own), free_le (at rows n t Ready k own), free_le (chosen rows n t k)))
