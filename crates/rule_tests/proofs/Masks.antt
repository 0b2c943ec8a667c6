-- A vote recorded in a mask is a vote added to the meaning. Assumes nothing.
use Rattle.std.proofs.Common.{◌≡◌, ℕ, ◌^◌, ◌<◌, ◌≤◌, Bool, true, false, cond, ◌&&◌, ◌||◌, Some, None, Option, eqb, List, length, get_or, set, replicate, sym, refl, ap, ap₂, ◌∙◌, arith}
use mathlib.Core.Path.{fun_ext}
use lib.Bits.{bit_or}
use Rattle.std.proofs.lemmas.Bool.{eqb-true, eq-eqb, leb-true, and_parts, both_ways, cond-true}
use Rattle.std.proofs.lemmas.List.{get_or-set_same, get_or-set_other, get_or-replicate}
use Rattle.basis.specs.Counts.{has}
use Rattle.basis.proofs.Counts.{has_or, has_one, has_none}
use Rattle.messages.specs.declared.message.BitSet.{BitSet}
use Rattle.rules.specs.Rounds.{cleared}
use Rattle.rule_tests.specs.declared.one_shot.OneShotRound.{OneShotRound}
use Rattle.rule_tests.specs.OneShot.{with_vote}
use Rattle.rule_tests.specs.Records.{inside, place, place_if_any, cast_of, meaning_of}

bounds : (t v : ℕ) → inside t v ≡ true → (32 ≤ t) × (t ≤ 47) × (1 ≤ v) × (v ≤ 3)
bounds t v h =
    let p = and_parts _ _ h in
    let a = and_parts _ _ p.0 in
    let b = and_parts _ _ p.1 in
    (leb-true 32 t a.0, leb-true t 47 a.1, leb-true 1 v b.0, leb-true v 3 b.1)

-- no two masks stand at one place
apart : (t v t' v' : ℕ) → inside t v ≡ true → inside t' v' ≡ true → place t v ≡ place t' v' → (t' ≡ t) × (v' ≡ v)
apart t v t' v' h k e =
    let b = bounds t v h in
    let c = bounds t' v' k in
    (omega (arith, e, b.0, b.1, b.2, b.3, c.0, c.1, c.2, c.3), omega (arith, e, b.0, b.1, b.2, b.3, c.0, c.1, c.2, c.3))

or_none : (b : Bool) → b ≡ (b || false)
or_none true = refl
or_none false = refl

module _ (r : OneShotRound) (t v j : ℕ) (in' : inside t v ≡ true) (low : place t v < length r.masks) where
  abbrev put : OneShotRound
  put = record { entered = r.entered; masks = set r.masks (place t v) (bit_or (get_or r.masks (place t v) 0) (2 ^ j)); verdict = r.verdict }

  here : (i : ℕ) → has (cast_of put t v) i ≡ (has (cast_of r t v) i || eqb i j)
  here i =
      ap (λ (x : ℕ). has x i) (cond-true (inside t v) _ _ in' ∙ get_or-set_same r.masks (place t v) (bit_or (get_or r.masks (place t v) 0) (2 ^ j)) 0 low)
      ∙ has_or (get_or r.masks (place t v) 0) (2 ^ j) i ∙ ap₂ (λ (a b : Bool). a || b) (ap (λ (x : ℕ). has x i) (sym (cond-true (inside t v) (get_or r.masks (place t v) 0) 0 in'))) (has_one j i)

  there : (t' v' : ℕ) → (t' ≡ t → v' ≡ v → ⊥) → cast_of put t' v' ≡ cast_of r t' v'
  there t' v' ne = go (inside t' v') refl
    where
      go : (b : Bool) → inside t' v' ≡ b → cond b (get_or put.masks (place t' v') 0) 0 ≡ cond b (get_or r.masks (place t' v') 0) 0
      go true k = get_or-set_other r.masks (place t v) (place t' v') _ 0 (λ e. let q = apart t v t' v' in' k (sym e) in ne q.0 q.1)
      go false k = refl

  one_more : (t' v' i : ℕ) → has (cast_of put t' v') i ≡ (has (cast_of r t' v') i || (eqb t' t && (eqb v' v && eqb i j)))
  one_more t' v' i = go (eqb t' t) (eqb v' v) refl refl
    where
      go : (a b : Bool) → eqb t' t ≡ a → eqb v' v ≡ b → has (cast_of put t' v') i ≡ (has (cast_of r t' v') i || (a && (b && eqb i j)))
      go true true e f =
          ap₂ (λ (x y : ℕ). has (cast_of put x y) i) (eqb-true t' t e) (eqb-true v' v f) ∙ here i
          ∙ sym (ap₂ (λ (x y : ℕ). has (cast_of r x y) i || eqb i j) (eqb-true t' t e) (eqb-true v' v f))
      go true false e f = ap (λ (x : ℕ). has x i) (there t' v' (λ p q. both_ways _ f (eq-eqb v' v q))) ∙ or_none _
      go false b e f = ap (λ (x : ℕ). has x i) (there t' v' (λ p q. both_ways _ e (eq-eqb t' t p))) ∙ or_none _

  pub recorded_vote : meaning_of put ≡ with_vote t v j (meaning_of r)
  recorded_vote = ap (λ (w : ℕ → ℕ → ℕ → Bool). record { entered = (meaning_of r).entered; votes = w; verdict = (meaning_of r).verdict }) (fun_ext (λ t'. fun_ext (λ v'. fun_ext (λ i. one_more t' v' i))))

-- the same by the place that was found, and by the mask that is left there
pub recorded_at : (r : OneShotRound) (t v j i x : ℕ) → inside t v ≡ true → i < length r.masks → Some i ≡ place_if_any t v → x ≡ bit_or (get_or r.masks i 0) (2 ^ j)
    → meaning_of (record { entered = r.entered; masks = set r.masks i x; verdict = r.verdict }) ≡ with_vote t v j (meaning_of r)
recorded_at r t v j i x in' low p e =
    let z : ◌≡◌ {A = Option ℕ} (Some i) (Some (place t v)) = p ∙ cond-true (inside t v) (Some (place t v)) None in' in
    let q : i ≡ place t v = cc in
    ap (λ (y : ℕ). meaning_of (record { entered = r.entered; masks = set r.masks i y; verdict = r.verdict })) e
    ∙ ap (λ (k : ℕ). meaning_of (record { entered = r.entered; masks = set r.masks k (bit_or (get_or r.masks k 0) (2 ^ j)); verdict = r.verdict })) q
    ∙ recorded_vote r t v j in' (let l = low in omega (arith, q, l))

-- a round of no masks is cleared
pub none_cast : (r : OneShotRound) → (r.entered ≡ None) × ((r.masks ≡ replicate 48 0) × (r.verdict ≡ None)) → meaning_of r ≡ cleared
none_cast r h =
    ap₂ (λ (a : Option Bool) (m : List ℕ). meaning_of (record { entered = a; masks = m; verdict = r.verdict })) h.0 h.1.0
    ∙ ap (λ (b : Option BitSet). meaning_of (record { entered = None; masks = replicate 48 0; verdict = b })) h.1.1
    ∙ ap (λ (w : ℕ → ℕ → ℕ → Bool). record { entered = 0; votes = w; verdict = 0 }) (fun_ext (λ t. fun_ext (λ v. fun_ext (λ i. go t v i (inside t v) refl))))
  where
    go : (t v i : ℕ) (b : Bool) → inside t v ≡ b → has (cond b (get_or (replicate 48 0) (place t v) 0) 0) i ≡ false
    go t v i true k = let b = bounds t v k in ap (λ (x : ℕ). has x i) (get_or-replicate {0} {A = ℕ} 48 (place t v) 0 0 (omega (arith, b.0, b.1, b.2, b.3))) ∙ has_none i
    go t v i false k = has_none i
