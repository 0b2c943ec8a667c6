-- The share coin keeps what every coin keeps, and shows what polynomials say. Assumes nothing.
use Rattle.std.specs.Prelude.{◌≡◌, ℕ, ◌<◌, ◌≤◌, Bool, true, false, cond, ◌&&◌, List, length, get_or, replicate, Some, None, Option, ◌==◌, slice_index_or, slice_set, refl}
use Rattle.std.proofs.Common.{sym, ap, ap₂, ◌∙◌, subst, ⊎_elim, arith, lit<, length-set}
use Rattle.std.specs.Option.{option_or}
use Rattle.std.proofs.lemmas.List.{get_or-set_same, get_or-set_other, set-get_or, get_or-replicate, length-replicate}
use Rattle.std.proofs.lemmas.Bool.{and_parts, and_from, eqb-true, eq-eqb, both_ways, cases_eq}
use Rattle.polynomials.specs.Polynomials.{at}
use Rattle.coins.specs.declared.share.Share.{Share}
use Rattle.coins.specs.declared.share_coin.ShareCoin.{ShareCoin}
use Rattle.coins.specs.declared.toss.Toss.{Toss}
use Rattle.coins.specs.Coins.{Keeps, NewCoin, Lawful, Tossed, is_for, before, left_by, take_after}
use Rattle.coins.specs.Tosses.{blank, taken_from, toss_bit, recorded, toss_taken, toss_new, SoundToss, LawfulToss}
use Rattle.coins.specs.Shared.{place, toss_at, share_acts, Sound, TakenLawful, ShowsExactly, MadeOf}
use Rattle.coins.specs.Tossing.{seat, taken_after, taken_sound, taken_lawful, new_sound, new_none, new_lawful, toss_exact}

within : (k r : ℕ) → Tossed k r → place k r < 240
within k r t = omega (arith, t.ballot_below, t.round_from, t.round_to)

-- no two tosses stand at one place
apart : (k r k' r' : ℕ) → Tossed k r → Tossed k' r' → place k r ≡ place k' r' → (k ≡ k') × (r ≡ r')
apart k r k' r' t u e = (omega (arith, t.round_from, t.round_to, u.round_from, u.round_to), omega (arith, t.round_from, t.round_to, u.round_from, u.round_to))

-- what a new share leaves of the share's toss, and of the others: of any sound coin, whatever it has taken
module _ (c : ShareCoin) (s : Share) (h : Sound c) (l : Lawful s) (new : before share_acts c s ≡ None) where
  its : SoundToss c.member.n c.member.own (toss_at c s.ballot s.round)
  its = h.each (place s.ballot s.round) (within s.ballot s.round l.tossed)

  toss_for : (k r : ℕ) → is_for s k r ≡ true → (s.ballot ≡ k) × (s.round ≡ r)
  toss_for k r e = let a = and_parts (s.ballot == k) (s.round == r) e in (eqb-true s.ballot k a.0, eqb-true s.round r a.1)

  at_it : (k r : ℕ) → is_for s k r ≡ true → toss_at (share_acts.taken c s) k r ≡ toss_taken c.member.n c.member.own (toss_at c k r) s.sender s.value
  at_it k r e =
      let p : place s.ballot s.round ≡ place k r = ap₂ place (toss_for k r e).0 (toss_for k r e).1 in
      ap (λ (i : ℕ). get_or (share_acts.taken c s).tosses i blank) (sym p)
      ∙ get_or-set_same c.tosses (place s.ballot s.round) _ blank (omega (arith, h.all, within s.ballot s.round l.tossed))
      ∙ ap (λ (i : ℕ). toss_taken c.member.n c.member.own (slice_index_or c.tosses i blank) s.sender s.value) p

  -- the other tosses stay as they are, and so what they show
  pub at_others : (k r : ℕ) → Tossed k r → is_for s k r ≡ false → toss_at (share_acts.taken c s) k r ≡ toss_at c k r
  at_others k r t e = get_or-set_other c.tosses (place s.ballot s.round) (place k r) _ blank
      (λ p. let q = apart k r s.ballot s.round t l.tossed p in
      both_ways (is_for s k r) e (and_from _ _ (eq-eqb s.ballot k (sym q.0)) (eq-eqb s.round r (sym q.1))))

  -- what holds of the share's toss as it is left, and of the others, holds of each
  of_each : (P : Toss → Type 0) → P (toss_taken c.member.n c.member.own (toss_at c s.ballot s.round) s.sender s.value) → ((i : ℕ) → i < 240 → P (slice_index_or c.tosses i blank)) → (i : ℕ) → i < 240 → P (slice_index_or (share_acts.taken c s).tosses i blank)
  of_each P it others i lt = ⊎_elim
      (λ e. subst P (sym (ap (λ (x : ℕ). get_or (share_acts.taken c s).tosses x blank) e ∙ get_or-set_same c.tosses (place s.ballot s.round) _ blank (omega (arith, h.all, within s.ballot s.round l.tossed)))) it)
      (λ ne. subst P (sym (get_or-set_other c.tosses (place s.ballot s.round) i _ blank ne)) (others i lt))
      (cases_eq i (place s.ballot s.round))

  -- the coin stays sound, and its taken shares lawful
  pub sound_after : Sound (share_acts.taken c s)
  sound_after = record {
    all = length-set c.tosses _ _ ∙ h.all;
    each = of_each (SoundToss c.member.n c.member.own) (taken_sound c.member.n c.member.own (toss_at c s.ballot s.round) s.sender s.value (seat c.member) its new) h.each;
  }

  pub lawful_after : TakenLawful c → TakenLawful (share_acts.taken c s)
  lawful_after t = of_each LawfulToss (taken_lawful c.member.n c.member.own (toss_at c s.ballot s.round) s.sender s.value (omega (arith, its.places, l.sender_below)) l.value_to (t (place s.ballot s.round) (within s.ballot s.round l.tossed))) t

  -- bits stay, of every ballot and round
  pub stays : (k r : ℕ) → Tossed k r → (b : Bool) → (toss_at c k r).shown ≡ Some b → (toss_at (share_acts.taken c s) k r).shown ≡ Some b
  stays k r t b e = go (is_for s k r) refl
    where
      go : (x : Bool) → is_for s k r ≡ x → (toss_at (share_acts.taken c s) k r).shown ≡ Some b
      go true f = ap (λ (t : Toss). t.shown) (at_it k r f) ∙ ap (λ (o : Option Bool). option_or o (toss_bit c.member.n c.member.own (recorded (toss_at c k r) s.sender s.value))) e
      go false f = ap (λ (t : Toss). t.shown) (at_others k r t f) ∙ e

  -- the new share is the only one added
  pub added : (k r j : ℕ) → Tossed k r → taken_from (toss_at (share_acts.taken c s) k r) j ≡ cond (is_for s k r && s.sender == j) (Some s.value) (taken_from (toss_at c k r) j)
  added k r j t = go (is_for s k r) refl
    where
      go : (x : Bool) → is_for s k r ≡ x → taken_from (toss_at (share_acts.taken c s) k r) j ≡ cond (x && s.sender == j) (Some s.value) (taken_from (toss_at c k r) j)
      go true f = ap (λ (t : Toss). taken_from t j) (at_it k r f) ∙ taken_after (toss_at c k r) s.sender s.value j (omega (arith, (h.each (place k r) (within k r t)).places, l.sender_below))
      go false f = ap (λ (t : Toss). taken_from t j) (at_others k r t f)

  -- own shares are fixed
  pub own_stays : (k r : ℕ) → Tossed k r → (toss_at (share_acts.taken c s) k r).own ≡ (toss_at c k r).own
  own_stays k r t = go (is_for s k r) refl
    where
      go : (x : Bool) → is_for s k r ≡ x → (toss_at (share_acts.taken c s) k r).own ≡ (toss_at c k r).own
      go true f = ap (λ (t : Toss). t.own) (at_it k r f)
      go false f = ap (λ (t : Toss). t.own) (at_others k r t f)

-- the own shares of a sound coin are lawful
pub own_to : (c : ShareCoin) → Sound c → (k r : ℕ) → Tossed k r → (v : ℕ) → Some (toss_at c k r).own ≡ Some v → v ≤ 250
own_to c h k r t v e = let f : (toss_at c k r).own ≡ v = cc in omega (arith, f, (h.each (place k r) (within k r t)).own_to)

-- a coin of new tosses
pub made_of : (c : ShareCoin) (shares : List ℕ) → length c.tosses ≡ 240 → ((i : ℕ) → i < 240 → slice_index_or c.tosses i blank ≡ toss_new (at shares i)) → MadeOf shares c
made_of c shares all each = record {
  fresh = record {
    sound = record {
      sound = record { all = all; each = λ i l. subst (SoundToss c.member.n c.member.own) (sym (each i l)) (new_sound c.member.n c.member.own (at shares i) (seat c.member)) };
      lawful = λ i l. subst LawfulToss (sym (each i l)) (new_lawful (at shares i));
    };
    none_taken = λ k r j t l. ap (λ (x : Toss). taken_from x j) (each (place k r) (within k r t)) ∙ new_none (at shares (place k r)) j;
  };
  own_is = λ k r t. ap (λ (x : Toss). Some x.own) (each (place k r) (within k r t));
}

-- a coin at replica 0 of a hall of 4, all its own shares 0
abbrev a_coin : ShareCoin
a_coin = record { member = record { n = 4; own = 0; listed = tt; below = lit< tt }; tosses = replicate 240 (toss_new 0) }

a_coin_new : NewCoin share_acts a_coin
a_coin_new = (made_of a_coin (replicate 240 0) (length-replicate {0} {A = Toss} 240 (toss_new 0)) (λ i l.
    get_or-replicate {0} {A = Toss} 240 i (toss_new 0) blank l ∙ ap toss_new (sym (get_or-replicate {0} {A = ℕ} 240 i 0 0 l)))).fresh

pub shared_keeps : Keeps share_acts
shared_keeps = record {
  some_new = (a_coin, a_coin_new);
  stays_sound = λ c s h. record { sound = sound_after c s h.sound.sound h.lawful h.new; lawful = lawful_after c s h.sound.sound h.lawful h.new h.sound.lawful };
  shown_stays = λ c s h b e. stays c s h.sound.sound h.lawful h.new s.ballot s.round h.lawful.tossed b e;
  shown_elsewhere = λ c s h k r t e. ap (λ (t : Toss). t.shown) (at_others c s h.sound.sound h.lawful h.new k r t e);
  adds_one = λ c s h k r j t l. added c s h.sound.sound h.lawful h.new k r j t;
  taken_lawful = λ c h k r j t l v e. h.lawful (place k r) (within k r t) j v e;
  own_fixed = λ c s h k r t. ap Some (own_stays c s h.sound.sound h.lawful h.new k r t);
  own_lawful = λ c h k r t v e. own_to c h.sound k r t v e;
  own_all_or_none = λ c h k r k' r' t t'. refl;
  own_only_used = λ c h k r t e. absurd (let z : ◌≡◌ {A = ℕ} 0 1 = cc in omega arith);
}

-- the share's toss as it is left, put back in its place, is the coin as it is left
pub put_back : (c : ShareCoin) (s : Share) (i : ℕ) (x : Toss) → i ≡ place s.ballot s.round
    → x ≡ left_by (taken_from (slice_index_or c.tosses i blank) s.sender) (toss_taken c.member.n c.member.own (slice_index_or c.tosses i blank) s.sender s.value) (slice_index_or c.tosses i blank)
    → record { member = c.member; tosses = slice_set c.tosses i x } ≡ take_after share_acts c s
put_back c s i x e h = ap (λ (y : Toss). with_toss i y) h ∙ subst (λ (p : ℕ). with_toss p (changed p) ≡ take_after share_acts c s) (sym e) (go (before share_acts c s))
  where
    with_toss : ℕ → Toss → ShareCoin
    with_toss p y = record { member = c.member; tosses = slice_set c.tosses p y }

    changed : ℕ → Toss
    changed p = left_by (taken_from (slice_index_or c.tosses p blank) s.sender) (toss_taken c.member.n c.member.own (slice_index_or c.tosses p blank) s.sender s.value) (slice_index_or c.tosses p blank)

    go : (o : Option ℕ) → with_toss (place s.ballot s.round) (left_by o (toss_taken c.member.n c.member.own (toss_at c s.ballot s.round) s.sender s.value) (toss_at c s.ballot s.round)) ≡ left_by o (share_acts.taken c s) c
    go None = refl
    go (Some w) = ap (λ (ts : List Toss). record { member = c.member; tosses = ts }) (set-get_or c.tosses (place s.ballot s.round) blank)

-- what a sound coin shows, in words
pub shows_exactly : (c : ShareCoin) (k r : ℕ) → Tossed k r → Sound c → ShowsExactly c k r (toss_at c k r).shown
shows_exactly c k r t h = toss_exact c.member.n c.member.own (toss_at c k r) (seat c.member) (h.each (place k r) (within k r t))
