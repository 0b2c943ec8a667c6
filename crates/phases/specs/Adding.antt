-- Votes added one by one: what each such change keeps. Assumes nothing.
use Rattle.std.specs.Prelude.{◌≡◌, ℕ, zero, suc, ◌<◌, Bool, true, false, ◌&&◌, ◌||◌, ◌⊎◌, ◌==◌, ◌≢◌, refl}
use Rattle.std.proofs.Common.{sym, ap, ◌∙◌, inl, inr, ⊎_elim, arith}
use Rattle.std.proofs.lemmas.Bool.{eqb-true, lt-ltb, cond_both, and_parts, and_from, or_cases, or_parts, or_left, not-true, both_ways, false≢true}
use Rattle.rules.specs.Rounds.{Round, cleared, Vote, voted, contradicts, is_new}
use Rattle.phases.specs.Steps.{says, ends, records, hears}

pub says_only : (t v j : ℕ) (m : Round) (t' v' j' : ℕ) → (says t v j m).votes t' v' j' ≡ true → (m.votes t' v' j' ≡ true) ⊎ ((t' ≡ t) × (v' ≡ v) × (j' ≡ j))
says_only t v j m t' v' j' h = ⊎_elim inl (λ new.
    let a = and_parts (t' == t) (v' == v && j' == j) new in
    let b = and_parts (v' == v) (j' == j) a.1 in
    inr (eqb-true t' t a.0, eqb-true v' v b.0, eqb-true j' j b.1)) (or_cases _ _ h)

-- one vote of each sender under each tag above 0x20, each a set of bits, and none of one's own before entering
pub record Base (own : ℕ) (m : Round) : Type 0 where
  pub single : (t v w j : ℕ) → 32 < t → m.votes t v j ≡ true → m.votes t w j ≡ true → v ≡ w
  pub sets : (t v j : ℕ) → m.votes t v j ≡ true → (0 < v) × (v < 4)
  pub silent : (t v : ℕ) → m.votes t v own ≡ true → 0 < m.entered

pub base_cleared : (own : ℕ) → Base own cleared
base_cleared own = record { single = λ t v w j lo x y. absurd (false≢true x); sets = λ t v j x. absurd (false≢true x); silent = λ t v x. absurd (false≢true x) }

none_of : (m : Round) (t j v : ℕ) → voted t j m ≡ false → 0 < v → v < 4 → m.votes t v j ≢ true
none_of m t j zero e lo hi h = omega arith
none_of m t j (suc zero) e lo hi h = both_ways _ (or_parts (m.votes t 1 j) _ e).0 h
none_of m t j (suc (suc zero)) e lo hi h = both_ways _ (or_parts (m.votes t 2 j) (m.votes t 3 j) (or_parts (m.votes t 1 j) _ e).1).0 h
none_of m t j (suc (suc (suc zero))) e lo hi h = both_ways _ (or_parts (m.votes t 2 j) (m.votes t 3 j) (or_parts (m.votes t 1 j) _ e).1).1 h
none_of m t j (suc (suc (suc (suc v)))) e lo hi h = omega arith

pub base_says : {own : ℕ} (t v j : ℕ) (m : Round) → 0 < v → v < 4 → (32 < t → voted t j m ≡ false) → (j ≡ own → 0 < m.entered) → Base own m → Base own (says t v j m)
base_says t v j m lo hi none mine g = record {
  single = λ t' a b i lt x y. ⊎_elim
      (λ old. ⊎_elim (g.single t' a b i lt old) (λ new. absurd (clash t' a i lt new.0 new.2 old)) (says_only t v j m t' b i y))
      (λ new. ⊎_elim (λ old. absurd (clash t' b i lt new.0 new.2 old)) (λ new'. new.1 ∙ sym new'.1) (says_only t v j m t' b i y))
      (says_only t v j m t' a i x);
  sets = λ t' a i x. ⊎_elim (g.sets t' a i) (λ new. let q = new.1 in omega arith) (says_only t v j m t' a i x);
  silent = λ t' a x. ⊎_elim (g.silent t' a) (λ new. mine (sym new.2)) (says_only t v j m t' a _ x);
}
  where
    clash : (t' a i : ℕ) → 32 < t' → t' ≡ t → i ≡ j → m.votes t' a i ≢ true
    clash t' a i lt et ei h =
        let s = g.sets t' a i h in
        none_of m t j a (none (omega arith)) s.0 s.1 (ap (λ (z : ℕ). m.votes t a z) (sym ei) ∙ ap (λ (z : ℕ). m.votes z a i) (sym et) ∙ h)

-- a change by the replica's own votes
pub record Own (Inv : Round → Type 0) (own : ℕ) (m m' : Round) : Type 0 where
  pub grows : (t v j : ℕ) → m.votes t v j ≡ true → m'.votes t v j ≡ true
  pub only : (t v j : ℕ) → m'.votes t v j ≡ true → (m.votes t v j ≡ true) ⊎ (j ≡ own)
  pub bit : m'.entered ≡ m.entered
  pub stays : 0 < m.verdict → m'.verdict ≡ m.verdict
  pub inv : Inv m → Inv m'

module _ {Inv : Round → Type 0} {own : ℕ} where
  pub own_none : (m : Round) → Own Inv own m m
  own_none m = record { grows = λ t v j h. h; only = λ t v j h. inl h; bit = refl; stays = λ _. refl; inv = λ h. h }

  pub own_then : {m m' m'' : Round} → Own Inv own m m' → Own Inv own m' m'' → Own Inv own m m''
  own_then x y = record {
    grows = λ t v j h. y.grows t v j (x.grows t v j h);
    only = λ t v j h. ⊎_elim (x.only t v j) inr (y.only t v j h);
    bit = y.bit ∙ x.bit;
    stays = λ lo. let e = x.stays lo in y.stays (omega arith) ∙ e;
    inv = λ h. y.inv (x.inv h);
  }

  pub own_says : (t v : ℕ) (m : Round) → (Inv m → Inv (says t v own m)) → Own Inv own m (says t v own m)
  own_says t v m k = record { grows = λ t' v' j h. or_left _ _ h; only = λ t' v' j h. ⊎_elim inl (λ new. inr new.2) (says_only t v own m t' v' j h); bit = refl; stays = λ _. refl; inv = k }

  pub own_ends : (v : ℕ) (m : Round) → m.verdict ≡ 0 → (Inv m → Inv (ends v m)) → Own Inv own m (ends v m)
  own_ends v m z k = record { grows = λ t' v' j h. h; only = λ t' v' j h. inl h; bit = refl; stays = λ lo. absurd (omega arith); inv = k }

-- a heard vote is all that is added, where it is new and its tag one of the three
pub hears_cases : (w : Vote) (m : Round) (P : Round → Type 0) → P m → ((32 < w.tag → voted w.tag w.sender m ≡ false) → P (says w.tag w.set w.sender m)) → P (hears w m)
hears_cases w m P same more = cond_both (is_new w m) (records w.tag w.set w.sender m) m P
    (λ new. cond_both (w.tag == 32 || (w.tag == 33 || w.tag == 34)) (says w.tag w.set w.sender m) m P (λ _. more (free new)) (λ _. same)) (λ _. same)
  where
    free : is_new w m ≡ true → 32 < w.tag → voted w.tag w.sender m ≡ false
    free new lt = go (voted w.tag w.sender m) refl
      where
        go : (b : Bool) → voted w.tag w.sender m ≡ b → b ≡ false
        go true e = absurd (both_ways (contradicts w m) (not-true _ (and_parts _ _ new).1) (and_from _ _ (lt-ltb _ _ lt) e))
        go false e = refl
