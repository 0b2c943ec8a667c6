-- What a replica's ballots are, read off their views. Assumes nothing.
use Rattle.std.proofs.Common.{◌≡◌, ℕ, suc, ◌<◌, Bool, true, false, cond, ◌&&◌, Some, None, Option, nat_lt, sym, refl, ap, ◌∙◌, subst, arith}
use Rattle.std.proofs.lemmas.Bool.{cond-true, and_from, and_parts, lt-ltb, ltb-true}
use Rattle.rules.specs.Rounds.{bit_set, bit_if_any}
use Rattle.ballots.specs.States.{round_at}
use Rattle.ballot_runs.specs.Views.{View, face}
use Rattle.outcomes.specs.Holdings.{Setting, Holding, is_delivered, ballot_at, state_of}
use Rattle.vote_turns.proofs.Known.{view_of, view_in}

some_of : (o : Option Bool) → 0 < bit_if_any o → (b : Bool) × (o ≡ Some b)
some_of None h = absurd (omega arith)
some_of (Some b) h = (b, refl)

module _ {R C : Type 0} (g : Setting R C) (n : ℕ) (h : Holding R C) (k : ℕ) (lk : k < n) where
  pub view_decided : (view_of g n h k).decided ≡ (ballot_at k h).decided
  view_decided = ap (λ (v : View). v.decided) (view_in g n h k lk)

  pub view_delivered : (view_of g n h k).delivered ≡ is_delivered k h
  view_delivered = ap (λ (v : View). v.delivered) (view_in g n h k lk)

  pub view_round : (r : ℕ) → r < 16 → (view_of g n h k).rounds r ≡ round_at k r (state_of k h)
  view_round r lr = ap (λ (v : View). v.rounds r) (view_in g n h k lk) ∙ cond-true (nat_lt r 16) _ _ (lt-ltb r 16 lr)

  -- the face of a later round is the bit that the coin shows
  pub view_face : (r : ℕ) → suc r < 16 → face (view_of g n h k) (suc r) ≡ bit_if_any (g.coins.shown h.coin k (suc r))
  view_face r lr = ap (λ (v : View). face v (suc r)) (view_in g n h k lk) ∙ cond-true (nat_lt 0 (suc r) && nat_lt (suc r) 16) _ 0 (and_from _ _ (lt-ltb 0 (suc r) (omega arith)) (lt-ltb (suc r) 16 lr))

  -- where there is one, the coin shows it
  pub face_shown : (r : ℕ) → 0 < face (view_of g n h k) (suc r) → (suc r < 16) × (b : Bool) × (g.coins.shown h.coin k (suc r) ≡ Some b) × (face (view_of g n h k) (suc r) ≡ bit_set b)
  face_shown r lo = go (nat_lt 0 (suc r) && nat_lt (suc r) 16) refl
    where
      go : (c : Bool) → (nat_lt 0 (suc r) && nat_lt (suc r) 16) ≡ c → (suc r < 16) × (b : Bool) × (g.coins.shown h.coin k (suc r) ≡ Some b) × (face (view_of g n h k) (suc r) ≡ bit_set b)
      go true e =
          let lr = ltb-true (suc r) 16 (and_parts (nat_lt 0 (suc r)) (nat_lt (suc r) 16) e).1 in
          let f = view_face r lr in
          let s = some_of (g.coins.shown h.coin k (suc r)) (subst (λ (z : ℕ). 0 < z) f lo) in
          (lr, s.0, s.1, f ∙ ap bit_if_any s.1)
      go false e = absurd (let z : face (view_of g n h k) (suc r) ≡ 0 = ap (λ (v : View). face v (suc r)) (view_in g n h k lk) ∙ ap (λ (c : Bool). cond c (bit_if_any (g.coins.shown h.coin k (suc r))) 0) e in omega arith)

  pub shown_face : (r : ℕ) → suc r < 16 → (b : Bool) → g.coins.shown h.coin k (suc r) ≡ Some b → 0 < face (view_of g n h k) (suc r)
  shown_face r lr b e = subst (λ (z : ℕ). 0 < z) (sym (view_face r lr ∙ ap bit_if_any e)) (some b)
    where
      some : (b : Bool) → 0 < bit_set b
      some true = omega arith
      some false = omega arith
