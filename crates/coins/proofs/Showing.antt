-- Shown bits stay, of every ballot and round. Assumes nothing.
use Rattle.std.proofs.Common.{◌≡◌, ℕ, Bool, true, false, Some, ◌==◌, refl, sym, ap, ◌∙◌}
use Rattle.std.proofs.lemmas.Bool.{and_parts, eqb-true}
use Rattle.coins.specs.Coins.{Acts, Keeps, Takes, Tossed, is_for}
use Rattle.coins.specs.declared.share.Share.{Share}

-- at the share's own ballot and round, and elsewhere
pub bits_stay : {C : Type 0} (a : Acts C) → Keeps a → (c : C) (s : Share) → Takes a c s → (k r : ℕ) → Tossed k r → (b : Bool) → a.shown c k r ≡ Some b → a.shown (a.taken c s) k r ≡ Some b
bits_stay a keeps c s h k r t b e = go (is_for s k r) refl
  where
    go : (x : Bool) → is_for s k r ≡ x → a.shown (a.taken c s) k r ≡ Some b
    go true f =
        let p = and_parts (s.ballot == k) (s.round == r) f in
        let ek = eqb-true s.ballot k p.0 in
        let er = eqb-true s.round r p.1 in
        let was = ap (λ (x : ℕ). a.shown c x s.round) ek ∙ ap (λ (x : ℕ). a.shown c k x) er ∙ e in
        ap (λ (x : ℕ). a.shown (a.taken c s) x r) (sym ek) ∙ ap (λ (x : ℕ). a.shown (a.taken c s) s.ballot x) (sym er) ∙ keeps.shown_stays c s h b was
    go false f = keeps.shown_elsewhere c s h k r t f ∙ e
