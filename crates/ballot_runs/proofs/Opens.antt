-- What the opening round can come to, and what holds of it there. Assumes nothing.
use Rattle.std.proofs.Common.{◌≡◌, ℕ, ◌<◌, ◌≤◌, Bool, true, false, ◌⊎◌, eqb, sym, refl, ◌∙◌, subst, inl, inr, ⊎_elim, arith}
use Rattle.std.proofs.lemmas.Bool.{cases_Bool, eqb-true, eqb-false, cond_both, and_parts, and_from, or_left, not-true}
use Rattle.basis.specs.Counts.{count}
use Rattle.basis.specs.Halls.{quorum, beyond_faults}
use Rattle.basis.specs.Steps.{Step, taking}
use Rattle.basis.proofs.Counts.{count_mono}
use Rattle.messages.specs.Tags.{basic_tags}
use Rattle.rules.specs.Rounds.{Round, Vote, cleared, voted, bit_set}
use Rattle.rules.specs.Laws.{Single, Holds, Audible, first_of_others}
use Rattle.phases.specs.Steps.{says, begun, is_entered_lem, hears}
use Rattle.phases.specs.Unions.{Full}
use Rattle.phases.specs.Adding.{says_only, Base, base_says, Own, own_none, own_says}
use Rattle.openings.specs.Openings.{proposed, again, opening_settled}

-- the meanings that the opening round can come to; d: whether the slot is delivered
pub data Opened (n own : ℕ) : Bool → Round → Type 0 where
  unopened : {d : Bool} → Opened n own d cleared
  proposing : {d : Bool} {m : Round} → Opened n own d m → m.entered ≡ 0 → Opened n own d (proposed own (bit_set d) m)
  saying_again : {d : Bool} {m : Round} → Opened n own d m → d ≡ true → Opened n own d (taking (again own) m)
  hearing : {d : Bool} {m : Round} → Opened n own d m → (w : Vote) → Audible basic_tags n own w → Opened n own d (hears w m)
  stepping : {d : Bool} {m : Round} → Opened n own d m → Opened n own d (opening_settled n own m)
  delivering : {d : Bool} {m : Round} → Opened n own d m → Opened n own true m

abbrev pub Others : ℕ → ℕ → Round → Type 0
Others n own m = beyond_faults n ≤ count n (first_of_others own m 2)

-- 1 may be admitted: it is proposed, or f + 1 have cast a first vote for it
abbrev pub OneAdmitted : ℕ → Round → Type 0
OneAdmitted n m = (m.entered ≡ 2) ⊎ (beyond_faults n ≤ count n (m.votes 32 2))

-- why a second vote is said
abbrev pub Ground : ℕ → Round → ℕ → Type 0
Ground n m v = ((v ≡ 1) × Full n m 1) ⊎ ((v ≡ 2) × OneAdmitted n m)

pub record Sound (n own : ℕ) (d : Bool) (m : Round) : Type 0 where
  pub base : Base own m
  pub bit : m.entered < 3
  -- the first vote of the proposal is said, and each second vote has its ground
  pub first : (x : ℕ) → 0 < x → m.entered ≡ x → m.votes 32 x own ≡ true
  pub second : (v : ℕ) → m.votes 33 v own ≡ true → Ground n m v
  -- there is no verdict before proposing, one of one bit rests on a quorum, and one that holds 1 has admitted it
  pub early : m.entered ≡ 0 → m.verdict ≡ 0
  pub small : m.verdict < 4
  pub backed : (x : ℕ) → Single x → m.verdict ≡ x → quorum n ≤ count n (m.votes 33 x)
  pub ones : Holds m.verdict 2 → OneAdmitted n m
  -- 1 is proposed for a delivered slot only, and a first vote for it is said for such a one or with f + 1 others'
  pub delivered : m.entered ≡ 2 → d ≡ true
  pub said : m.votes 32 2 own ≡ true → (d ≡ true) ⊎ Others n own m

pub entered_now : (m : Round) → is_entered_lem m ≡ true → 0 < m.entered
entered_now m h = let ne = eqb-false m.entered 0 (not-true _ h) in omega arith

-- what holds of either form of a proposal holds of it
pub proposed_cases : (own x : ℕ) (m : Round) (P : Round → Type 0) → P (says 32 x own (begun x m)) →
    (x ≡ 2 → voted 33 own (says 32 x own (begun x m)) ≡ false → P (says 33 2 own (says 32 x own (begun x m)))) → P (proposed own x m)
proposed_cases own x m P plain more = cond_both (eqb x 2) _ _ P
    (λ two. cond_both (voted 33 own (says 32 x own (begun x m))) _ _ P (λ _. plain) (λ none. more (eqb-true x 2 two) none)) (λ _. plain)

module _ (n own : ℕ) (d : Bool) where
  pub grown : (m m' : Round) → ((t v j : ℕ) → m.votes t v j ≡ true → m'.votes t v j ≡ true) → (q t x : ℕ) → q ≤ count n (m.votes t x) → q ≤ count n (m'.votes t x)
  grown m m' g q t x h = let c = count_mono n (m.votes t x) (m'.votes t x) (g t x) in omega arith

  pub one_grown : (m m' : Round) → ((t v j : ℕ) → m.votes t v j ≡ true → m'.votes t v j ≡ true) → m'.entered ≡ m.entered → OneAdmitted n m → OneAdmitted n m'
  one_grown m m' g be o = ⊎_elim (λ z. inl (be ∙ z)) (λ z. inr (grown m m' g (beyond_faults n) 32 2 z)) o

  -- votes are added, each of one's own for its cause
  pub sound_next : (m m' : Round) → Base own m' → ((t v j : ℕ) → m.votes t v j ≡ true → m'.votes t v j ≡ true) → m'.entered ≡ m.entered → m'.verdict ≡ m.verdict →
      (m'.votes 32 2 own ≡ true → (m.votes 32 2 own ≡ true) ⊎ ((d ≡ true) ⊎ Others n own m)) →
      ((v : ℕ) → m'.votes 33 v own ≡ true → (m.votes 33 v own ≡ true) ⊎ Ground n m' v) → Sound n own d m → Sound n own d m'
  sound_next m m' b g be ve firsts seconds h = record {
    base = b;
    bit = (let q = h.bit in omega arith);
    first = λ x lo q. g 32 x own (h.first x lo (sym be ∙ q));
    second = λ v q. ⊎_elim (λ old. ⊎_elim (λ one. inl (one.0, grown m m' g (quorum n) 32 1 one.1)) (λ two. inr (two.0, one_grown m m' g be two.1)) (h.second v old)) (λ new. new) (seconds v q);
    early = λ z. ve ∙ h.early (sym be ∙ z);
    small = (let q = h.small in omega arith);
    backed = λ x s q. grown m m' g (quorum n) 33 x (h.backed x s (sym ve ∙ q));
    ones = λ q. one_grown m m' g be (h.ones (⊎_elim (λ z. inl (sym ve ∙ z)) (λ z. inr (sym ve ∙ z)) q));
    delivered = λ q. h.delivered (sym be ∙ q);
    said = λ q. ⊎_elim inl (λ o. inr (let c = count_mono n (first_of_others own m 2) (first_of_others own m' 2) (λ j y. let p = and_parts _ _ y in and_from _ _ (g 32 2 j p.0) p.1) in omega arith)) (⊎_elim h.said (λ new. new) (firsts q));
  }

  abbrev pub Mine : Round → Round → Type 0
  Mine = Own (Sound n own d) own

  pub by_step : (s : Step Round) (m : Round) → (s.applies m ≡ true → Mine m (s.leaves m)) → Mine m (taking s m)
  by_step s m h = cond_both (s.applies m) (s.leaves m) m (Mine m) h (λ _. own_none m)

  -- a first vote, and a second vote where none is said
  pub says_first : (x : ℕ) (m : Round) → Single x → 0 < m.entered → (2 ≡ x → m.votes 32 2 own ≡ false → (d ≡ true) ⊎ Others n own m) → Mine m (says 32 x own m)
  says_first x m s lo why = own_says 32 x m (λ h. sound_next m (says 32 x own m) (base_says 32 x own m s.0 (omega (arith, s.1)) (λ lt. absurd (omega arith)) (λ _. lo) h.base) (λ t v j y. or_left _ _ y) refl refl
      (λ q. ⊎_elim inl (λ new. ⊎_elim inl (λ none. inr (why new.1 none)) (cases_Bool (m.votes 32 2 own))) (says_only 32 x own m 32 2 own q))
      (λ v q. ⊎_elim inl (λ new. absurd (let z : ◌≡◌ {A = ℕ} 33 32 = new.0 in omega arith)) (says_only 32 x own m 33 v own q)) h)

  pub says_second : (x : ℕ) (m : Round) → Single x → 0 < m.entered → voted 33 own m ≡ false → Ground n m x → Mine m (says 33 x own m)
  says_second x m s lo none w = own_says 33 x m (λ h. sound_next m (says 33 x own m) (base_says 33 x own m s.0 (omega (arith, s.1)) (λ _. none) (λ _. lo) h.base) (λ t v j y. or_left _ _ y) refl refl
      (λ q. ⊎_elim inl (λ new. absurd (let z : ◌≡◌ {A = ℕ} 32 33 = new.0 in omega arith)) (says_only 33 x own m 32 2 own q))
      (λ v q. ⊎_elim inl (λ new. inr (later (subst (Ground n m) (sym new.1) w))) (says_only 33 x own m 33 v own q)) h)
    where
      later : {v : ℕ} → Ground n m v → Ground n (says 33 x own m) v
      later w = ⊎_elim (λ one. inl (one.0, grown m (says 33 x own m) (λ t v j y. or_left _ _ y) (quorum n) 32 1 one.1)) (λ two. inr (two.0, one_grown m (says 33 x own m) (λ t v j y. or_left _ _ y) refl two.1)) w
