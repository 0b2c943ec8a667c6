-- The leader's coin keeps what every coin keeps. Assumes nothing.
use Rattle.std.specs.Prelude.{◌≡◌, ℕ, ◌<◌, ◌≤◌, Bool, true, false, cond, ◌&&◌, get_or, replicate, Some, None, Option, ◌==◌, refl}
use Rattle.std.proofs.Common.{sym, ap, ◌∙◌, arith, length-set}
use Rattle.std.specs.Option.{option_map}
use Rattle.std.proofs.lemmas.Option.{none-some}
use Rattle.std.proofs.lemmas.List.{get_or-set_same, get_or-set_other, get_or-replicate, length-replicate}
use Rattle.std.proofs.lemmas.Bool.{and_parts, and_from, eqb-true, eq-eqb, both_ways}
use Rattle.coins.specs.declared.share.Share.{Share}
use Rattle.coins.specs.Coins.{Keeps, NewCoin, Takes, Tossed, Sender, is_for}
use Rattle.coin_tests.specs.declared.leader_coin.LeaderCoin.{LeaderCoin}
use Rattle.coin_tests.specs.Leading.{place, odd, taken_at, leader_acts}

within : (k r j : ℕ) → Tossed k r → Sender j → place k r j < 3840
within k r j t l = omega (arith, t.ballot_below, t.round_from, t.round_to, l)

-- no two shares stand at one place
apart : (k r j k' r' j' : ℕ) → Tossed k r → Tossed k' r' → Sender j → Sender j' → place k r j ≡ place k' r' j' → (k ≡ k') × (r ≡ r') × (j ≡ j')
apart k r j k' r' j' t u l l' e = (
  omega (arith, e, l, l', t.round_from, t.round_to, u.round_from, u.round_to),
  omega (arith, e, l, l', t.round_from, t.round_to, u.round_from, u.round_to),
  omega (arith, e, l, l', t.round_from, t.round_to, u.round_from, u.round_to),
)

-- whether a share is that of a sender for a ballot and a round
abbrev is_of : Share → ℕ → ℕ → ℕ → Bool
is_of s k r j = is_for s k r && s.sender == j

module _ (c : LeaderCoin) (s : Share) (h : Takes leader_acts c s) where
  named : (k r j : ℕ) → is_of s k r j ≡ true → place s.ballot s.round s.sender ≡ place k r j
  named k r j e =
      let a = and_parts (is_for s k r) (s.sender == j) e in
      let b = and_parts (s.ballot == k) (s.round == r) a.0 in
      ap (λ (x : ℕ). place x s.round s.sender) (eqb-true s.ballot k b.0) ∙ ap (λ (x : ℕ). place k x s.sender) (eqb-true s.round r b.1) ∙ ap (place k r) (eqb-true s.sender j a.1)

  here : (k r j : ℕ) → is_of s k r j ≡ true → taken_at (leader_acts.taken c s) k r j ≡ Some s.value
  here k r j e =
      ap (λ (i : ℕ). get_or (leader_acts.taken c s).taken i None) (sym (named k r j e))
      ∙ get_or-set_same c.taken (place s.ballot s.round s.sender) (Some s.value) None (omega (arith, h.sound.all, within s.ballot s.round s.sender h.lawful.tossed h.lawful.sender_below))

  elsewhere : (k r j : ℕ) → Tossed k r → Sender j → is_of s k r j ≡ false → taken_at (leader_acts.taken c s) k r j ≡ taken_at c k r j
  elsewhere k r j t l e = get_or-set_other c.taken (place s.ballot s.round s.sender) (place k r j) (Some s.value) None
      (λ p. let q = apart k r j s.ballot s.round s.sender t h.lawful.tossed l h.lawful.sender_below p in
      both_ways (is_of s k r j) e (and_from _ _ (and_from _ _ (eq-eqb s.ballot k (sym q.0)) (eq-eqb s.round r (sym q.1))) (eq-eqb s.sender j (sym q.2))))

  added : (k r j : ℕ) → Tossed k r → Sender j → taken_at (leader_acts.taken c s) k r j ≡ cond (is_of s k r j) (Some s.value) (taken_at c k r j)
  added k r j t l = go (is_of s k r j) refl
    where
      go : (x : Bool) → is_of s k r j ≡ x → taken_at (leader_acts.taken c s) k r j ≡ cond x (Some s.value) (taken_at c k r j)
      go true e = here k r j e
      go false e = elsewhere k r j t l e

  -- what is taken stays lawful
  lawful : (k r j v : ℕ) → Tossed k r → Sender j → taken_at (leader_acts.taken c s) k r j ≡ Some v → v ≤ 250
  lawful k r j v t l e = go (is_of s k r j) (sym (added k r j t l) ∙ e)
    where
      go : (x : Bool) → cond x (Some s.value) (taken_at c k r j) ≡ Some v → v ≤ 250
      go true f = let q : s.value ≡ v = cc in omega (arith, q, h.lawful.value_to)
      go false f = h.sound.taken_to k r j v t l f

  -- the leader's share is new where it is taken, so a shown bit stays
  stays : (k r : ℕ) → Tossed k r → (b : Bool) → option_map odd (taken_at c k r 0) ≡ Some b → option_map odd (taken_at (leader_acts.taken c s) k r 0) ≡ Some b
  stays k r t b e = go (is_of s k r 0) refl
    where
      go : (x : Bool) → is_of s k r 0 ≡ x → option_map odd (taken_at (leader_acts.taken c s) k r 0) ≡ Some b
      go true f =
          let none : taken_at c k r 0 ≡ None = ap (λ (i : ℕ). get_or c.taken i None) (sym (named k r 0 f)) ∙ h.new in
          absurd (none-some b (sym (ap (option_map odd) none) ∙ e))
      go false f = ap (option_map odd) (elsewhere k r 0 t (omega arith) f) ∙ e

  -- and only that ballot and round may begin to show one
  not_shown : (k r : ℕ) → Tossed k r → is_for s k r ≡ false → option_map odd (taken_at (leader_acts.taken c s) k r 0) ≡ option_map odd (taken_at c k r 0)
  not_shown k r t e = ap (option_map odd) (elsewhere k r 0 t (omega arith) (ap (λ (x : Bool). x && s.sender == 0) e))

-- a coin of which nothing is taken
pub nothing_taken : (own : ℕ) → own ≤ 250 → NewCoin leader_acts (record { own = own; taken = replicate 3840 None })
nothing_taken own l = record {
  sound = record { all = length-replicate {0} {A = Option ℕ} 3840 None; own_to = l; taken_to = λ k r j v t u e. absurd (none-some v (sym (none k r j t u) ∙ e)) };
  none_taken = none;
}
  where
    none : (k r j : ℕ) → Tossed k r → Sender j → get_or {A = Option ℕ} (replicate 3840 None) (place k r j) None ≡ None
    none k r j t u = get_or-replicate {0} {A = Option ℕ} 3840 (place k r j) None None (within k r j t u)

pub leader_keeps : Keeps leader_acts
leader_keeps = record {
  some_new = (record { own = 0; taken = replicate 3840 None }, nothing_taken 0 (omega arith));
  stays_sound = λ c s h. record { all = length-set c.taken _ _ ∙ h.sound.all; own_to = h.sound.own_to; taken_to = λ k r j v t l e. lawful c s h k r j v t l e };
  shown_stays = λ c s h b e. stays c s h s.ballot s.round h.lawful.tossed b e;
  shown_elsewhere = not_shown;
  adds_one = added;
  taken_lawful = λ c h k r j t l v e. h.taken_to k r j v t l e;
  own_fixed = λ c s h k r t. refl;
  own_lawful = λ c h k r t v e. let f : c.own ≡ v = cc in omega (arith, f, h.own_to);
  own_all_or_none = λ c h k r k' r' t t'. refl;
  own_only_used = λ c h k r t e. absurd (let z : ◌≡◌ {A = ℕ} 0 1 = cc in omega arith);
}
