-- What stands in the sheet places after one more sheet is recorded. Assumes nothing.
use Rattle.std.proofs.Common.{◌≡◌, ℕ, zero, suc, ◌+◌, ◌*◌, ◌/◌, ◌%◌, ◌<◌, ◌≤◌, Bool, true, false, cond, not, eqb, ◌⊎◌, List, [], ◌∷◌, length, Some, None, Option, sym, refl, ap, ◌∙◌, subst, ap₂, inl, inr, add-zero, arith, get_or-set_other, get_or-set_same}
use lib.Arith.{digits_div, digits_mod}
use Rattle.std.proofs.lemmas.Bool.{cases_eq, and_parts, and_from, eqb-true, eq-eqb, leb-true, le-leb, false≢true, not-true, both_ways}
use Rattle.std.specs.Str.{bytes_eq}
use Rattle.basis.specs.Bytes.{Octets}
use Rattle.basis.proofs.Counts.{count_some}
use Rattle.messages.specs.declared.message.Phase.{Phase}
use Rattle.messages.specs.declared.message.Phase.TheVariants.{Send, Echo, Ready}
use Rattle.sheets.specs.Holds.{Rows, holds}
use Rattle.slots.proofs.Positions.{place_within}
use Rattle.slots.specs.Places.{slot_places, all_places, place, recorded, tally, reaches, backed, lowest_backed, sheet_of, or_else}
use Rattle.slots.specs.Steps.{Slots, noted}
use Rattle.broadcast.specs.Calls.{may_send}
use Rattle.broadcast.specs.Claims.{RowLaws}

-- the place within its slot
abbrev inside : ℕ → Phase → ℕ → ℕ
inside n Send j = 0
inside n Echo j = 1 + j
inside n Ready j = 1 + n + j

place_is : (n : ℕ) (ph : Phase) (k j : ℕ) → place n ph k j ≡ k * slot_places n + inside n ph j
place_is n Send k j = sym (add-zero (k * slot_places n))
place_is n Echo k j = refl
place_is n Ready k j = refl

inside_low : (n : ℕ) (ph : Phase) (j : ℕ) → j < n → inside n ph j < slot_places n
inside_low n Send j h = omega arith
inside_low n Echo j h = omega arith
inside_low n Ready j h = omega arith

inside_apart : (n : ℕ) (ph ph' : Phase) (k j j' : ℕ) → j < n → j' < n → may_send ph k j ≡ true → may_send ph' k j' ≡ true → inside n ph j ≡ inside n ph' j' → (ph ≡ ph') × (j ≡ j')
inside_apart n Send Send k j j' l l' m m' e = (refl, sym (eqb-true k j m) ∙ eqb-true k j' m')
inside_apart n Send Echo k j j' l l' m m' e = absurd (omega arith)
inside_apart n Send Ready k j j' l l' m m' e = absurd (omega arith)
inside_apart n Echo Send k j j' l l' m m' e = absurd (omega arith)
inside_apart n Echo Echo k j j' l l' m m' e = (refl, omega arith)
inside_apart n Echo Ready k j j' l l' m m' e = absurd (omega arith)
inside_apart n Ready Send k j j' l l' m m' e = absurd (omega arith)
inside_apart n Ready Echo k j j' l l' m m' e = absurd (omega arith)
inside_apart n Ready Ready k j j' l l' m m' e = (refl, omega arith)

-- no two messages that may be sent share a place
pub places_apart : (n : ℕ) (ph ph' : Phase) (k k' j j' : ℕ) → j < n → j' < n → may_send ph k j ≡ true → may_send ph' k' j' ≡ true → place n ph k j ≡ place n ph' k' j' → (ph ≡ ph') × (k ≡ k') × (j ≡ j')
places_apart n ph ph' k k' j j' l l' m m' e =
    let w : k * slot_places n + inside n ph j ≡ k' * slot_places n + inside n ph' j' = sym (place_is n ph k j) ∙ e ∙ place_is n ph' k' j' in
    let h = inside_low n ph j l in
    let h' = inside_low n ph' j' l' in
    let p : k ≡ k' = sym (digits_div k h) ∙ ap (λ x. x / slot_places n) w ∙ digits_div k' h' in
    let q : inside n ph j ≡ inside n ph' j' = sym (digits_mod k h) ∙ ap (λ x. x % slot_places n) w ∙ digits_mod k' h' in
    let r = inside_apart n ph ph' k' j j' l l' (subst (λ (z : ℕ). may_send ph z j ≡ true) p m) m' q in
    (r.0, p, r.1)

pub other_not : (i j : ℕ) → not (eqb j i) ≡ true → j ≡ i → ⊥
other_not i j h e = both_ways (eqb j i) (not-true _ h) (eq-eqb j i e)

-- bytes that compare as the same are the same
pub same_bytes : (r s : List ℕ) → bytes_eq r s ≡ true → r ≡ s
same_bytes [] [] h = refl
same_bytes [] (b ∷ s) h = absurd (false≢true h)
same_bytes (a ∷ r) [] h = absurd (false≢true h)
same_bytes (a ∷ r) (b ∷ s) h = let p = and_parts _ _ h in ap₂ (λ x y. x ∷ y) (eqb-true a b p.0) (same_bytes r s p.1)

pub bytes_same : (s : List ℕ) → bytes_eq s s ≡ true
bytes_same [] = refl
bytes_same (a ∷ s) = and_from _ _ (eq-eqb a a refl) (bytes_same s)

pub holds_some : (s : List ℕ) (o : Option (List ℕ)) → holds s o ≡ true → o ≡ Some s
holds_some s None h = absurd (false≢true h)
holds_some s (Some r) h = ap Some (same_bytes r s h)

pub some_holds : (s : List ℕ) (o : Option (List ℕ)) → o ≡ Some s → holds s o ≡ true
some_holds s o e = ap (holds s) e ∙ bytes_same s

pub none_some : {X : Type 0} {o : Option X} {x : X} → o ≡ None → o ≡ Some x → ⊥
none_some p q = let z : ◌≡◌ {A = ℕ} 0 1 = cc in omega arith

pub some_inj : {X : Type 0} {o : Option X} {x x' : X} → o ≡ Some x → o ≡ Some x' → x ≡ x'
some_inj p q = cc

module _ {R : Type 0} (rows : Rows R) (n : ℕ) where
  module _ (ps : List R) (ph : Phase) (k least : ℕ) where
    -- a sheet is backed by as many as have it
    backed_many : (j : ℕ) (s : List ℕ) → recorded rows n ps ph k j ≡ Some s → backed rows n ps ph k least j ≡ true → least ≤ tally rows n ps ph k s
    backed_many j s e h = leb-true _ _ (sym (ap (reaches rows n ps ph k least) e) ∙ h)

    -- the leading sender is one of those that are asked, and backed
    pub lowest_backed_some : (m j : ℕ) → lowest_backed rows n ps ph k least m ≡ Some j → (j < m) × (backed rows n ps ph k least j ≡ true)
    unfolding lowest_backed
    lowest_backed_some zero j e = absurd (none_some refl e)
    lowest_backed_some (suc m) j e = go (lowest_backed_some m j) (lowest_backed rows n ps ph k least m) refl (backed rows n ps ph k least m) refl e
      where
        go : (lowest_backed rows n ps ph k least m ≡ Some j → (j < m) × (backed rows n ps ph k least j ≡ true)) → (o : Option ℕ) → lowest_backed rows n ps ph k least m ≡ o → (b : Bool) → backed rows n ps ph k least m ≡ b → or_else o (cond b (Some m) None) ≡ Some j → (j < suc m) × (backed rows n ps ph k least j ≡ true)
        go ih (Some i) o b t h = let q = ih (o ∙ h) in (omega (arith, q.0), q.1)
        go ih None o true t h = let q : m ≡ j = cc in (omega arith, ap (backed rows n ps ph k least) (sym q) ∙ t)
        go ih None o false t h = absurd (none_some refl h)

    -- without a leading sender none is backed
    pub lowest_backed_none : (m : ℕ) → lowest_backed rows n ps ph k least m ≡ None → (j : ℕ) → j < m → backed rows n ps ph k least j ≡ true → ⊥
    unfolding lowest_backed
    lowest_backed_none zero e j lt h = omega arith
    lowest_backed_none (suc m) e j lt h = go (λ o lt'. lowest_backed_none m o j lt' h) (lowest_backed rows n ps ph k least m) refl (backed rows n ps ph k least m) refl e (cases_eq j m)
      where
        go : (lowest_backed rows n ps ph k least m ≡ None → j < m → ⊥) → (o : Option ℕ) → lowest_backed rows n ps ph k least m ≡ o → (b : Bool) → backed rows n ps ph k least m ≡ b → or_else o (cond b (Some m) None) ≡ None → (j ≡ m) ⊎ (j ≡ m → ⊥) → ⊥
        go ih (Some i) o b t h' c = let z : ◌≡◌ {A = ℕ} 0 1 = cc in omega arith
        go ih None o true t h' c = let z : ◌≡◌ {A = ℕ} 0 1 = cc in omega arith
        go ih None o false t h' (inl q) = false≢true (sym t ∙ ap (backed rows n ps ph k least) (sym q) ∙ h)
        go ih None o false t h' (inr q) = ih o (omega arith)

    -- a sheet that so many have has a leading sender
    pub lowest_backed_found : (s : List ℕ) → 1 ≤ least → least ≤ tally rows n ps ph k s → lowest_backed rows n ps ph k least n ≡ None → ⊥
    lowest_backed_found s one many e =
        let c = count_some n (λ j. holds s (recorded rows n ps ph k j)) (omega arith) in
        lowest_backed_none n e c.0 c.1 (ap (reaches rows n ps ph k least) (holds_some s _ c.2) ∙ le-leb _ _ many)

    -- the sheet of a leading sender, and how many have it
    pub sheet_many : (s : List ℕ) → sheet_of rows n ps ph k (lowest_backed rows n ps ph k least n) ≡ Some s → least ≤ tally rows n ps ph k s
    sheet_many s e = go (lowest_backed rows n ps ph k least n) refl e
      where
        go : (o : Option ℕ) → lowest_backed rows n ps ph k least n ≡ o → sheet_of rows n ps ph k o ≡ Some s → least ≤ tally rows n ps ph k s
        go None o h = absurd (none_some refl h)
        go (Some j) o h = backed_many j s h (lowest_backed_some n j o).1

  module _ (own k : ℕ) (ph : Phase) (j : ℕ) (t : Slots R) (s : List ℕ) where
    -- a lawful sheet that is recorded stands at its place
    pub noted_here : {size : ℕ} {lawful : List ℕ → Bool} → RowLaws rows size lawful → k < n → j < n → all_places n ≤ length t.places → lawful s ≡ true → Octets s → recorded rows n (noted rows n own k ph j t s).places ph k j ≡ Some s
    noted_here laws lk lj room law oct =
        let low : place n ph k j < length t.places = omega (arith, place_within n ph k j lk lj) in
        ap rows.held (get_or-set_same t.places (place n ph k j) (rows.row s) rows.vacant low) ∙ laws.restored s oct (laws.sized s law) ∙ ap (λ b. cond b (Some s) None) law

    -- and nothing else changes
    pub noted_other : (ph' : Phase) (k' j' : ℕ) → (place n ph' k' j' ≡ place n ph k j → ⊥) → recorded rows n (noted rows n own k ph j t s).places ph' k' j' ≡ recorded rows n t.places ph' k' j'
    noted_other ph' k' j' ne = ap rows.held (get_or-set_other t.places (place n ph k j) (place n ph' k' j') (rows.row s) rows.vacant ne)
