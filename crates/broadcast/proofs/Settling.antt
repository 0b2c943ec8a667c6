-- Taking the steps of a slot: what it keeps, and what is left once nothing changes. Assumes nothing.
use Rattle.std.proofs.Common.{◌≡◌, ℕ, zero, suc, ◌<◌, ◌≤◌, Bool, true, ◌⊎◌, List, Some, None, Option, sym, refl, subst, inl, inr, ⊎_elim, arith}
use Rattle.std.proofs.lemmas.Bool.{cases_eq, leb-true, false≢true}
use Rattle.std.specs.Option.{option_map}
use Rattle.basis.specs.Bytes.{Octets}
use Rattle.basis.specs.Halls.{quorum, beyond_faults}
use Rattle.basis.proofs.Counts.{count_some}
use Rattle.messages.specs.declared.message.Phase.{Phase}
use Rattle.messages.specs.declared.message.Phase.TheVariants.{Send, Echo, Ready}
use Rattle.messages.specs.Reading.{Syntax}
use Rattle.sheets.specs.Holds.{Rows, holds}
use Rattle.slots.specs.Places.{or_else, reaches, lowest_backed, sheet_of}
use Rattle.slots.specs.Steps.{Slots, unless, noted, echo_due, ready_cause, ready_due, delivery_due, delivered_by, next, go_on, settled}
use Rattle.broadcast.specs.Calls.{looked}
use Rattle.broadcast.specs.Claims.{RowLaws}
use Rattle.broadcast.proofs.Tables.{holds_some, none_some, lowest_backed_some, lowest_backed_found, sheet_many, noted_here}
use Rattle.broadcast.proofs.Moves.{at, many, chosen, Cause, Sound, Grows, grows_on, many_grow, chosen_here, Moves, moves_none, moves_on, note_moves, deliver_moves}

pub unless_some : {X Y : Type 0} (o : Option X) (y : Option Y) (x : Y) → unless o y ≡ Some x → (o ≡ None) × (y ≡ Some x)
unless_some None y x e = (refl, e)
unless_some (Some a) y x e = absurd (none_some refl e)

unless_none : {X Y : Type 0} (o : Option X) (y : Option Y) → unless o y ≡ None → (y ≡ None → ⊥) → (x : X) × (o ≡ Some x)
unless_none None y e there = absurd (there e)
unless_none (Some a) y e there = (a, refl)

or_else_some : {X : Type 0} (a b : Option X) (x : X) → or_else a b ≡ Some x → (a ≡ Some x) ⊎ (b ≡ Some x)
or_else_some None b x e = inr e
or_else_some (Some a) b x e = inl e

or_else_none : {X : Type 0} (a b : Option X) → or_else a b ≡ None → (a ≡ None) × (b ≡ None)
or_else_none None b e = (refl, e)
or_else_none (Some a) b e = absurd (let z : ◌≡◌ {A = ℕ} 0 1 = cc in omega arith)

module _ {R : Type 0} (rows : Rows R) (n : ℕ) where
  -- a sender that is backed has a sheet that so many have
  backed_sheet : (t : Slots R) (ph : Phase) (k least : ℕ) (o : Option (List ℕ)) → reaches rows n t.places ph k least o ≡ true → (x : List ℕ) × (o ≡ Some x) × (least ≤ many rows n t ph k x)
  backed_sheet t ph k least None h = absurd (false≢true h)
  backed_sheet t ph k least (Some x) h = (x, refl, leb-true _ _ h)

  -- a leading sender has a sheet
  lowest_backed_sheet : (t : Slots R) (ph : Phase) (k least : ℕ) → (o : Option ℕ) → lowest_backed rows n t.places ph k least n ≡ o → sheet_of rows n t.places ph k o ≡ None → o ≡ None
  lowest_backed_sheet t ph k least None e h = refl
  lowest_backed_sheet t ph k least (Some j) e h = absurd (let b = backed_sheet t ph k least _ (lowest_backed_some rows n t.places ph k least n j e).1 in none_some h b.1)

  module _ (own k : ℕ) (t : Slots R) where
    -- the first step that applies, or none
    pub data Step : Slots R → Type 0 where
      echoes : (x : List ℕ) → echo_due rows n own k t ≡ Some x → Step (noted rows n own k Echo own t x)
      readies : (x : List ℕ) → ready_due rows n own k t ≡ Some x → Step (noted rows n own k Ready own t x)
      delivers : (j : ℕ) → delivery_due rows n own k t ≡ Some j → Step (delivered_by rows n own k t j)
      rests : echo_due rows n own k t ≡ None → ready_due rows n own k t ≡ None → delivery_due rows n own k t ≡ None → Step t

    pub stepped : Step (go_on rows n own k t (next rows n own k t))
    stepped = go (echo_due rows n own k t) (ready_due rows n own k t) (delivery_due rows n own k t) refl refl refl
      where
        go : (e r : Option (List ℕ)) (d : Option ℕ) → echo_due rows n own k t ≡ e → ready_due rows n own k t ≡ r → delivery_due rows n own k t ≡ d →
            Step (go_on rows n own k t (or_else (option_map (noted rows n own k Echo own t) e) (or_else (option_map (noted rows n own k Ready own t) r) (option_map (delivered_by rows n own k t) d))))
        go (Some x) r d p q o = echoes x p
        go None (Some x) d p q o = readies x q
        go None None (Some j) p q o = delivers j o
        go None None None p q o = rests p q o

    -- the sheet of a ready has its cause
    pub ready_why : (x : List ℕ) → ready_cause rows n own k t.places ≡ Some x → Cause rows n t k Ready x
    ready_why x e = ⊎_elim (λ a. inl (sheet_many rows n t.places Echo k (quorum n) x a)) (λ b. inr (sheet_many rows n t.places Ready k (beyond_faults n) x b)) (or_else_some _ _ x e)

    why_ready : (x : List ℕ) → Cause rows n t k Ready x → ready_cause rows n own k t.places ≡ None → ⊥
    why_ready x c e = let p = or_else_none _ _ e in
        ⊎_elim (λ a. lowest_backed_found rows n t.places Echo k (quorum n) x (omega arith) a (lowest_backed_sheet t Echo k (quorum n) _ refl p.0))
        (λ b. lowest_backed_found rows n t.places Ready k (beyond_faults n) x (omega arith) b (lowest_backed_sheet t Ready k (beyond_faults n) _ refl p.1)) c

  -- what holds of slot k where no step of it applies
  pub record Settled (own k : ℕ) (t : Slots R) : Type 0 where
    pub echoed : (x : List ℕ) → at rows n t Send k k ≡ Some x → (x' : List ℕ) × (at rows n t Echo k own ≡ Some x')
    pub readied : (x : List ℕ) → Cause rows n t k Ready x → (x' : List ℕ) × (at rows n t Ready k own ≡ Some x')
    pub got : (x : List ℕ) → quorum n ≤ many rows n t Ready k x → (j : ℕ) × (chosen rows n t k ≡ Some j)

  rests_settled : (own k : ℕ) (t : Slots R) → echo_due rows n own k t ≡ None → ready_due rows n own k t ≡ None → delivery_due rows n own k t ≡ None → Settled own k t
  rests_settled own k t e r d = record {
    echoed = λ x h. unless_none _ _ e (λ z. none_some z h);
    readied = λ x h. unless_none _ _ r (why_ready own k t x h);
    got = λ x h. unless_none _ _ d (lowest_backed_found rows n t.places Ready k (quorum n) x (omega arith) h);
  }

  -- what is settled in tables that hold the same
  pub settled_there : (own k : ℕ) (t u : Slots R) → own < n → k < n → Grows rows n t u → Grows rows n u t → Settled own k u → Settled own k t
  settled_there own k t u lo lk g h st = record {
    echoed = λ x e. let r = st.echoed x (g.sheets Send k k x lk lk e) in (r.0, h.sheets Echo k own r.0 lk lo r.1);
    readied = λ x c. let r = st.readied x (⊎_elim (λ a. let m = many_grow rows n g Echo k x lk in inl (omega arith)) (λ b. let m = many_grow rows n g Ready k x lk in inr (omega arith)) c) in (r.0, h.sheets Ready k own r.0 lk lo r.1);
    got = λ x e. let m = many_grow rows n g Ready k x lk in let r = st.got x (omega arith) in (r.0, h.delivery k r.0 lk r.1);
  }

  module _ {size : ℕ} {lawful : List ℕ → Bool} (laws : RowLaws rows size lawful) (own : ℕ) (lo : own < n) where
    -- what somebody has is lawful
    counted_lawful : (t : Slots R) (ph : Phase) (k : ℕ) (x : List ℕ) → 1 ≤ many rows n t ph k x → (lawful x ≡ true) × Octets x
    counted_lawful t ph k x h = let c = count_some n (λ j. holds x (at rows n t ph k j)) (omega arith) in laws.kept _ x (holds_some x _ c.2)

    pub cause_lawful : (t : Slots R) (k : ℕ) (x : List ℕ) → Cause rows n t k Ready x → (lawful x ≡ true) × Octets x
    cause_lawful t k x (inl h) = counted_lawful t Echo k x (omega arith)
    cause_lawful t k x (inr h) = counted_lawful t Ready k x (omega arith)

    pub step_moves : {ok : Phase → ℕ → ℕ → List ℕ → Type 0} (k : ℕ) → k < n → (t t' : Slots R) → Sound rows n own t → Step own k t t' → Moves rows n own ok t t'
    step_moves {ok} k lk t t' sound (echoes x e) = let u = unless_some _ _ x e in let l = laws.kept _ x u.1 in
        note_moves rows n laws own lo t sound k lk Echo own x lo refl l.0 l.1 u.0 ok (λ _. u.1) (inl refl)
    step_moves {ok} k lk t t' sound (readies x e) = let u = unless_some _ _ x e in let c = ready_why own k t x u.1 in let l = cause_lawful t k x c in
        note_moves rows n laws own lo t sound k lk Ready own x lo refl l.0 l.1 u.0 ok (λ _. c) (inl refl)
    step_moves {ok} k lk t t' sound (delivers j e) = let u = unless_some _ _ j e in let l = lowest_backed_some rows n t.places Ready k (quorum n) n j u.1 in let b = backed_sheet t Ready k (quorum n) _ l.1 in
        deliver_moves rows n laws own lo t sound k lk ok j b.0 l.0 u.0 b.1 b.2
    step_moves k lk t t' sound (rests e r d) = moves_none rows n sound

    pub settled_moves : {ok : Phase → ℕ → ℕ → List ℕ → Type 0} (k : ℕ) → k < n → (fuel : ℕ) (t : Slots R) → Sound rows n own t → Moves rows n own ok t (settled rows n own k fuel t)
    unfolding settled
    settled_moves k lk zero t sound = moves_none rows n sound
    settled_moves k lk (suc fuel) t sound = let a = step_moves k lk t _ sound (stepped own k t) in moves_on rows n a (settled_moves k lk fuel _ a.sound)

    -- where the first step has changed nothing, none applies
    pub still_settled : (k : ℕ) → k < n → (t t' : Slots R) → Sound rows n own t → Step own k t t' → Grows rows n t' t → Settled own k t
    still_settled k lk t t' sound (echoes x e) g = let u = unless_some _ _ x e in let l = laws.kept _ x u.1 in
        absurd (none_some u.0 (g.sheets Echo k own x lk lo (noted_here rows n own k Echo own t x laws lk lo sound.places_fit l.0 l.1)))
    still_settled k lk t t' sound (readies x e) g = let u = unless_some _ _ x e in let l = cause_lawful t k x (ready_why own k t x u.1) in
        absurd (none_some u.0 (g.sheets Ready k own x lk lo (noted_here rows n own k Ready own t x laws lk lo sound.places_fit l.0 l.1)))
    still_settled k lk t t' sound (delivers j e) g = let u = unless_some _ _ j e in absurd (none_some u.0 (g.delivery k j lk (chosen_here rows n own t k j lk sound.records_fit)))
    still_settled k lk t t' sound (rests e r d) g = rests_settled own k t e r d

module _ {R : Type 0} (rows : Rows R) (y : Syntax) (laws : RowLaws rows y.size y.lawful) (own : ℕ) (lo : own < y.replicas) where
  pub looked_moves : {ok : Phase → ℕ → ℕ → List ℕ → Type 0} (m : ℕ) → m ≤ y.replicas → (t : Slots R) → Sound rows y.replicas own t → Moves rows y.replicas own ok t (looked rows y own m t)
  unfolding looked
  looked_moves {ok} zero h t sound = moves_none rows y.replicas sound
  looked_moves {ok} (suc m) h t sound = let a = looked_moves {ok = ok} m (omega arith) t sound in moves_on rows y.replicas a (settled_moves rows y.replicas laws own lo m (omega arith) 3 _ a.sound)

  -- ok does not matter for what grows
  abbrev any : Phase → ℕ → ℕ → List ℕ → Type 0
  any ph k j x = Unit {0}

  looked_grows : (k m : ℕ) → k ≤ m → m ≤ y.replicas → (t : Slots R) → Sound rows y.replicas own t → Grows rows y.replicas (looked rows y own k t) (looked rows y own m t)
  unfolding looked
  looked_grows k zero h top t sound = subst (λ (z : ℕ). Grows rows y.replicas (looked rows y own z t) t) (sym (let z : k ≡ 0 = omega arith in z)) (moves_none rows y.replicas {ok = any} sound).grows
  looked_grows k (suc m) h top t sound = ⊎_elim
      (λ e. subst (λ (z : ℕ). Grows rows y.replicas (looked rows y own z t) (looked rows y own (suc m) t)) (sym e) (moves_none rows y.replicas {ok = any} (looked_moves {ok = any} (suc m) top t sound).sound).grows)
      (λ ne. grows_on rows y.replicas (looked_grows k m (omega arith) (omega arith) t sound) (settled_moves rows y.replicas laws own lo {ok = any} m (omega arith) 3 _ (looked_moves {ok = any} m (omega arith) t sound).sound).grows)
      (cases_eq k (suc m))

  -- where looking changes nothing every slot is settled
  pub looked_settled : (t : Slots R) → Sound rows y.replicas own t → looked rows y own y.replicas t ≡ t → (k : ℕ) → k < y.replicas → Settled rows y.replicas own k t
  unfolding settled looked
  looked_settled t sound still k lk =
      let a = looked_moves {ok = any} k (omega arith) t sound in
      let u = looked rows y own k t in
      let st = stepped rows y.replicas own k u in
      let v = go_on rows y.replicas own k u (next rows y.replicas own k u) in
      let b = step_moves rows y.replicas laws own lo {ok = any} k lk u v a.sound st in
      let c = settled_moves rows y.replicas laws own lo {ok = any} k lk 2 v b.sound in
      let back : Grows rows y.replicas (looked rows y own (suc k) t) t = subst (λ (z : Slots R). Grows rows y.replicas (looked rows y own (suc k) t) z) still (looked_grows (suc k) y.replicas lk (omega arith) t sound) in
      let down : Grows rows y.replicas v t = grows_on rows y.replicas c.grows back in
      settled_there rows y.replicas own k t u lo lk a.grows (grows_on rows y.replicas b.grows down) (still_settled rows y.replicas laws own lo k lk u v a.sound st (grows_on rows y.replicas down a.grows))
