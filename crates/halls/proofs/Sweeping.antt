-- A sweep that brings nothing new changes nothing, and all that was said is known. Assumes nothing.
use Rattle.std.proofs.Common.{◌≡◌, ℕ, zero, suc, ◌+◌, ◌<◌, ◌≤◌, ◌≢◌, Bool, true, false, cond, ◌||◌, List, Some, None, Ok, Err, Option, Result, refl, sym, ap, ap₂, ◌∙◌, subst, ⊎_elim, set, arith}
use Rattle.std.specs.Prelude.{eqb}
use Rattle.std.proofs.lemmas.Bool.{cases_eq, cases_lt, false≢true, eqb-true}
use Rattle.std.proofs.lemmas.List.{set-get_or}
use Rattle.std.specs.Option.{option_map}
use Rattle.basis.specs.Refusals.{Refused}
use Rattle.basis.specs.declared.heard.Heard.{Heard}
use Rattle.basis.specs.declared.heard.Heard.TheVariants.{New, Known}
use Rattle.messages.specs.declared.message.Message.{Message}
use Rattle.messages.specs.declared.message.Message.TheVariants.{Sheet, Bit, Set, Share}
use Rattle.messages.specs.declared.message.Phase.{Phase}
use Rattle.messages.specs.Reading.{Lawful, bare, PositionsApart}
use Rattle.slots.specs.Places.{recorded}
use Rattle.messages.specs.Writing.{written, position}
use Rattle.outcomes.specs.Calls.{HasOffered, HasSaid}
use Rattle.outcomes.specs.Hearing.{hear_answer_lem, hear_after}
use Rattle.outcomes.specs.Holdings.{Life, Fresh, Running, Closed, syntax_of, sizes_ok}
use Rattle.saying.specs.SaysTheFirst.{ToSay}
use Rattle.scripts.specs.declared.command.RuleName.{RuleName}
use Rattle.halls.specs.Faults.{misplaced, as_problem}
use Rattle.halls.specs.Scenes.{till, if_offered, hearing, hearing_left}
use Rattle.halls.specs.States.{Held, setting_of}
use Rattle.halls.specs.Sweeps.{Spoken, Hearing, is_new, some_new, quiet, joined, said_from, passed_on, passed_left, go_on, positions, heard_from, all_heard, told_below, swept_below, sweep}
use Rattle.halls.proofs.Saying.{Lowest, said_lowest, said_none, position_low}

nothing_left : (a b : Bool) → (a || b) ≡ false → (a ≡ false) × (b ≡ false)
nothing_left true b e = absurd (false≢true (sym e))
nothing_left false b e = (refl, e)

-- an answer that is not new leaves all as it was
old_left : (r : Result Heard Refused) (x h : Held) → is_new (as_problem r) ≡ false → Rattle.broadcast.specs.Calls.if_new r x h ≡ h
old_left (Ok New) x h e = absurd (false≢true (sym e))
old_left (Ok Known) x h e = refl
old_left (Err p) x h e = refl

module _ (rule : RuleName) (n : ℕ) where
  hearing_old : (i j : ℕ) (xs : List ℕ) (h : Held) → is_new (hearing rule n i j xs h) ≡ false → hearing_left rule n i j xs h ≡ h
  hearing_old i j xs h e = go h.life e
    where
      go : (l : Life) → is_new (if_offered l (as_problem (hear_answer_lem (setting_of rule) n i j xs h)) (Err misplaced)) ≡ false → if_offered l (hear_after (setting_of rule) n i j xs h) h ≡ h
      go Fresh q = refl
      go Running q = old_left (hear_answer_lem (setting_of rule) n i j xs h) _ h q
      go Closed q = old_left (hear_answer_lem (setting_of rule) n i j xs h) _ h q

  module _ (j i : ℕ) (hs : List Held) where
    passed_old : (s : Option Spoken) → some_new (option_map (passed_on rule n j i hs) s) ≡ false → passed_left rule n j i hs s ≡ hs
    passed_old None e = refl
    passed_old (Some s) e = ap (λ (z : Held). set hs i z) (hearing_old i j s.packet (till i hs) e) ∙ set-get_or hs i _

    -- what till j has said at or after position p, below q, is not new to till i
    abbrev pub Old : ℕ → ℕ → Type 0
    Old p q = (m : Message (List ℕ)) → ToSay (setting_of rule) n j (till j hs) p m → position m < q → is_new (hearing rule n i j (written m) (till i hs)) ≡ false

  -- nothing was new before what brought nothing new, and the tills are as they were
  heard_same : (k j i p : ℕ) (x : Hearing) → (heard_from rule n k j i p x).news ≡ false → (x.news ≡ false) × ((heard_from rule n k j i p x).tills ≡ x.tills)
  unfolding heard_from
  heard_same zero j i p x e = (e, refl)
  heard_same (suc k) j i p x e = go (said_from rule n j p (till j x.tills)) (heard_same k j i) e
    where
      go : (s : Option Spoken) → ((p' : ℕ) (y : Hearing) → (heard_from rule n k j i p' y).news ≡ false → (y.news ≡ false) × ((heard_from rule n k j i p' y).tills ≡ y.tills)) →
          (go_on rule n (heard_from rule n k j i) x (option_map (passed_on rule n j i x.tills) s) (passed_left rule n j i x.tills s)).news ≡ false →
          (x.news ≡ false) × ((go_on rule n (heard_from rule n k j i) x (option_map (passed_on rule n j i x.tills) s) (passed_left rule n j i x.tills s)).tills ≡ x.tills)
      go None ih q = (q, refl)
      go (Some s) ih q =
          let y = ih _ _ q in
          let w = nothing_left x.news (is_new (hearing rule n i j s.packet (till i x.tills))) y.0 in
          (w.0, y.1 ∙ passed_old j i x.tills (Some s) w.1)

-- a message that is said is known by its position
same_said : {R C : Type 0} (g : Rattle.outcomes.specs.Holdings.Setting R C) (n own : ℕ) (h : Rattle.outcomes.specs.Holdings.Holding R C) (m m' : Message (List ℕ)) → bare m ≡ bare m' → HasSaid g n own h m → HasSaid g n own h m' → m ≡ m'
same_said {R} {C} g n own h (Sheet ph k s) (Sheet ph' k' s') e a b = ap₂ (λ (z : Phase) (l : ℕ). Sheet z l s) phases slots_same ∙ ap (Sheet ph' k') sheets
  where
    phases : ph ≡ ph'
    phases = cc

    slots_same : k ≡ k'
    slots_same = cc

    some_same : {x y : List ℕ} → ◌≡◌ {A = Option (List ℕ)} (Some x) (Some y) → x ≡ y
    some_same q = cc

    sheets : s ≡ s'
    sheets = some_same (sym a.1 ∙ ap₂ (λ (z : Phase) (l : ℕ). recorded g.rows n h.slots.places z l own) phases slots_same ∙ b.1)
same_said g n own h (Sheet ph k s) (Bit v' k' r' b') e a b = absurd (let z : ◌≡◌ {A = ℕ} 0 1 = cc in omega arith)
same_said g n own h (Sheet ph k s) (Set t' k' r' v') e a b = absurd (let z : ◌≡◌ {A = ℕ} 0 1 = cc in omega arith)
same_said g n own h (Sheet ph k s) (Share k' r' x') e a b = absurd (let z : ◌≡◌ {A = ℕ} 0 1 = cc in omega arith)
same_said g n own h (Bit v k r b) (Sheet ph' k' s') e a c = absurd (let z : ◌≡◌ {A = ℕ} 0 1 = cc in omega arith)
same_said g n own h (Bit v k r b) (Bit v' k' r' b') e a c = cc
same_said g n own h (Bit v k r b) (Set t' k' r' v') e a c = absurd (let z : ◌≡◌ {A = ℕ} 0 1 = cc in omega arith)
same_said g n own h (Bit v k r b) (Share k' r' x') e a c = absurd (let z : ◌≡◌ {A = ℕ} 0 1 = cc in omega arith)
same_said g n own h (Set t k r v) (Sheet ph' k' s') e a c = absurd (let z : ◌≡◌ {A = ℕ} 0 1 = cc in omega arith)
same_said g n own h (Set t k r v) (Bit v' k' r' b') e a c = absurd (let z : ◌≡◌ {A = ℕ} 0 1 = cc in omega arith)
same_said g n own h (Set t k r v) (Set t' k' r' v') e a c = cc
same_said g n own h (Set t k r v) (Share k' r' x') e a c = absurd (let z : ◌≡◌ {A = ℕ} 0 1 = cc in omega arith)
same_said g n own h (Share k r x) (Sheet ph' k' s') e a c = absurd (let z : ◌≡◌ {A = ℕ} 0 1 = cc in omega arith)
same_said g n own h (Share k r x) (Bit v' k' r' b') e a c = absurd (let z : ◌≡◌ {A = ℕ} 0 1 = cc in omega arith)
same_said g n own h (Share k r x) (Set t' k' r' v') e a c = absurd (let z : ◌≡◌ {A = ℕ} 0 1 = cc in omega arith)
same_said g n own h (Share k r x) (Share k' r' x') e a c = cc

module _ (rule : RuleName) (n : ℕ) (small : n ≤ 16) (apart : PositionsApart) where
  -- all that is said from p on and lies within reach is old
  heard_old : (k j i p : ℕ) (x : Hearing) → j < n → HasOffered (till j x.tills).life → sizes_ok n (till j x.tills) ≡ true → (heard_from rule n k j i p x).news ≡ false → Old rule n j i x.tills p (p + k)
  unfolding heard_from
  heard_old zero j i p x low o fits e m to lt = absurd (let z = to.after in omega (arith, z, lt))
  heard_old (suc k) j i p x low o fits e m to lt = go (said_from rule n j p (till j x.tills)) refl (heard_old k j i) e
    where
      go : (s : Option Spoken) → said_from rule n j p (till j x.tills) ≡ s →
          ((p' : ℕ) (y : Hearing) → j < n → HasOffered (till j y.tills).life → sizes_ok n (till j y.tills) ≡ true → (heard_from rule n k j i p' y).news ≡ false → Old rule n j i y.tills p' (p' + k)) →
          (go_on rule n (heard_from rule n k j i) x (option_map (passed_on rule n j i x.tills) s) (passed_left rule n j i x.tills s)).news ≡ false →
          is_new (hearing rule n i j (written m) (till i x.tills)) ≡ false
      go None is ih q = absurd (said_none rule n j p (till j x.tills) small low o fits is m to)
      go (Some s) is ih q = ⊎_elim here there (cases_eq (position m) s.position)
        where
          l : Lowest rule n j p (till j x.tills) small low s
          l = said_lowest rule n j p (till j x.tills) small low s is

          y : Hearing
          y = record { news = x.news || is_new (hearing rule n i j s.packet (till i x.tills)); tills = passed_left rule n j i x.tills (Some s) }

          old : is_new (hearing rule n i j s.packet (till i x.tills)) ≡ false
          old = (nothing_left x.news (is_new (hearing rule n i j s.packet (till i x.tills))) (heard_same rule n k j i (s.position + 1) y q).0).1

          same : y.tills ≡ x.tills
          same = passed_old rule n j i x.tills (Some s) old

          here : position m ≡ s.position → is_new (hearing rule n i j (written m) (till i x.tills)) ≡ false
          here e' =
              let b = apart (syntax_of (setting_of rule) n) small m l.message to.lawful l.to_say.lawful (e' ∙ l.place) in
              let it = same_said (setting_of rule) n j (till j x.tills) m l.message b to.said l.to_say.said in
              ap (λ (z : List ℕ). is_new (hearing rule n i j z (till i x.tills))) (ap written it ∙ sym l.bytes) ∙ old

          there : (position m ≢ s.position) → is_new (hearing rule n i j (written m) (till i x.tills)) ≡ false
          there ne =
              let above = l.lowest m to in
              let at = l.place in
              let from = l.to_say.after in
              let rest = ih (s.position + 1) y low (subst (λ (hs : List Held). HasOffered (till j hs).life) (sym same) o) (subst (λ (hs : List Held). sizes_ok n (till j hs) ≡ true) (sym same) fits) q in
              (subst (λ (hs : List Held). Old rule n j i hs (s.position + 1) (s.position + 1 + k)) same rest) m
              (record { lawful = to.lawful; said = to.said; after = omega (arith, above, at, ne) })
              (omega (arith, lt, at, from))

  -- what till j has said is known to till i
  abbrev pub AllOld : ℕ → ℕ → List Held → Type 0
  AllOld j i hs = (m : Message (List ℕ)) → Lawful (syntax_of (setting_of rule) n) m → HasSaid (setting_of rule) n j (till j hs) m → is_new (hearing rule n i j (written m) (till i hs)) ≡ false

  all_old : (j i : ℕ) (hs : List Held) → j < n → HasOffered (till j hs).life → sizes_ok n (till j hs) ≡ true → (all_heard rule n j i hs).news ≡ false → AllOld j i hs
  all_old j i hs low o fits e m law said = heard_old positions j i 0 (quiet hs) low o fits e m (record { lawful = law; said = said; after = omega arith }) (let q = position_low rule n m small law in omega (arith, q))

  -- the others heard nothing new from till j
  told_old : (m j : ℕ) (hs : List Held) → (told_below rule n m j hs).news ≡ false → ((told_below rule n m j hs).tills ≡ hs) × ((i : ℕ) → i < m → (i ≢ j) → (all_heard rule n j i hs).news ≡ false)
  unfolding told_below
  told_old zero j hs e = (refl, λ i lt ne. absurd (omega arith))
  told_old (suc m) j hs e = go (eqb m j) refl (told_old m j hs) e
    where
      t : Hearing
      t = told_below rule n m j hs

      Told : ℕ → Hearing → Type 0
      Told k y = (y.tills ≡ hs) × ((i : ℕ) → i < k → (i ≢ j) → (all_heard rule n j i hs).news ≡ false)

      go : (b : Bool) → eqb m j ≡ b → (t.news ≡ false → Told m t) → (cond b t (joined t (all_heard rule n j m t.tills))).news ≡ false → Told (suc m) (cond b t (joined t (all_heard rule n j m t.tills)))
      go true is ih q = let z = ih q in (z.0, λ i lt ne. z.1 i (let y = eqb-true m j is in omega (arith, lt, ne, y)) ne)
      go false is ih q =
          let w = nothing_left t.news (all_heard rule n j m t.tills).news q in
          let z = ih w.0 in
          let last : (all_heard rule n j m hs).news ≡ false = subst (λ (ys : List Held). (all_heard rule n j m ys).news ≡ false) z.0 w.1 in (
            (heard_same rule n positions j m 0 (quiet t.tills) w.1).1 ∙ z.0,
            λ i lt ne. ⊎_elim (λ below. z.1 i below ne) (λ not_below. subst (λ (l : ℕ). (all_heard rule n j l hs).news ≡ false) (let y : m ≡ i = omega (arith, lt, not_below) in y) last) (cases_lt i m),
          )

  -- nothing new was heard from any till
  swept_old : (m : ℕ) (hs : List Held) → (swept_below rule n m hs).news ≡ false → ((swept_below rule n m hs).tills ≡ hs) × ((j : ℕ) → j < m → (told_below rule n n j hs).news ≡ false)
  unfolding swept_below
  swept_old zero hs e = (refl, λ j lt. absurd (omega arith))
  swept_old (suc m) hs e =
      let t = swept_below rule n m hs in
      let w = nothing_left t.news (told_below rule n n m t.tills).news e in
      let z = swept_old m hs w.0 in
      let last : (told_below rule n n m hs).news ≡ false = subst (λ (ys : List Held). (told_below rule n n m ys).news ≡ false) z.0 w.1 in (
        (told_old n m t.tills w.1).0 ∙ z.0,
        λ j lt. ⊎_elim (λ below. z.1 j below) (λ not_below. subst (λ (l : ℕ). (told_below rule n n l hs).news ≡ false) (let y : m ≡ j = omega (arith, lt, not_below) in y) last) (cases_lt j m),
      )

  -- a sweep that brings nothing new leaves the tills as they are
  pub sweep_same : (hs : List Held) → (sweep rule n hs).news ≡ false → (sweep rule n hs).tills ≡ hs
  sweep_same hs e = (swept_old n hs e).0

  -- and all that a till has said is known to each other till
  pub sweep_old : (hs : List Held) → (sweep rule n hs).news ≡ false → (i j : ℕ) → i < n → j < n → (i ≢ j) → HasOffered (till j hs).life → sizes_ok n (till j hs) ≡ true → AllOld j i hs
  sweep_old hs e i j li lj ne o fits = all_old j i hs lj o fits ((told_old n j hs ((swept_old n hs e).1 j lj)).1 i li ne)
