-- What the coin of replica 0 of four shows, by the shares that it has taken. Assumes nothing.
use Rattle.std.specs.Prelude.{◌≡◌, ℕ, zero, suc, true, [], ◌∷◌, ◌+◌, ◌%◌, ◌<◌, ◌≤◌, Bool, cond, ◌&&◌, ◌||◌, is_some, Some, None, Ok, Err, Option, Result, List, replicate, IfOk, ◌==◌, refl}
use Rattle.std.specs.Option.{unwrap_or}
use Rattle.std.proofs.Common.{sym, ap, ap₂, ◌∙◌, subst, arith}
use Rattle.basis.specs.Counts.{has, count}
use Rattle.basis.proofs.Counts.{count_same}
use Rattle.basis.specs.declared.refusal.Refusal.{Refusal}
use Rattle.basis.specs.Members.{Numbers}
use Rattle.basis.specs.Refusals.{Refused}
use Rattle.polynomials.specs.Polynomials.{ev, at, inv, plus, times, newton, slope, through}
use Rattle.polynomials.specs.Shares.{Hall, Enough, Exact, meets, first_of, shown_of}
use Rattle.polynomials.proofs.Choosing.{one_bit, shown_exact}
use Rattle.coins.specs.declared.share.Share.{Share}
use Rattle.coins.specs.declared.share_coin.ShareCoin.{ShareCoin}
use Rattle.coins.specs.Coins.{Tossed, Takes, before, left_by, take_after}
use Rattle.coins.specs.Shared.{share_acts, toss_at, holds, held_share, coin_told, MadeOf}
use Rattle.coins.specs.Keeping.{shared_keeps, shows_exactly}
use Rattle.edges.specs.Tosses.{sent_share, HasTaken, nothing, with_share}

first : Tossed 0 1
first = record { ballot_below = omega arith; round_from = omega arith; round_to = omega arith }

four : Hall 4
four = record { thirds = refl; small = omega arith }

abbrev n_of : Result Numbers Refused → ℕ
n_of (Ok x) = x.n
n_of (Err e) = 0

abbrev own_of : Result Numbers Refused → ℕ
own_of (Ok x) = x.own
own_of (Err e) = 0

-- a new coin of replica 0 of four has taken nothing
pub fresh : (r : Result ShareCoin Refusal) → coin_told r ≡ Ok (record { n = 4; own = 0 }) → IfOk r (MadeOf (replicate 240 3)) → IfOk r (HasTaken nothing)
fresh (Ok c) e m = record {
  sound = m.fresh.sound;
  hall = ap n_of e;
  number = ap own_of e;
  own = m.own_is 0 1 first;
  taken = λ j l. m.fresh.none_taken 0 1 j first l;
}
fresh (Err x) e m = tt

-- one share more is taken
pub more : (t : ℕ → Option ℕ) (c : ShareCoin) (j v : ℕ) → j < 16 → v ≤ 250 → t j ≡ None → HasTaken t c → HasTaken (with_share j v t) (take_after share_acts c (sent_share j v))
more t c j v l lv e h = subst (HasTaken (with_share j v t)) same (record {
  sound = shared_keeps.stays_sound c s takes;
  hall = h.hall;
  number = h.number;
  own = shared_keeps.own_fixed c s takes 0 1 first ∙ h.own;
  taken = λ i li. shared_keeps.adds_one c s takes 0 1 i first li ∙ ap (cond (j == i) (Some v)) (h.taken i li);
})
  where
    s : Share
    s = sent_share j v

    none : before share_acts c s ≡ None
    none = h.taken j l ∙ e

    same : share_acts.taken c s ≡ take_after share_acts c s
    same = ap (λ (o : Option ℕ). left_by o (share_acts.taken c s) c) (sym none)

    takes : Takes share_acts c s
    takes = record { used = refl; sound = h.sound; lawful = record { tossed = first; sender_below = l; value_to = lv }; new = none }

-- the shares of replicas below n are all that counts
module _ (n : ℕ) (held held' : ℕ → Bool) (share share' : ℕ → ℕ) (f : (j : ℕ) → j < n → held j ≡ held' j) (g : (j : ℕ) → j < n → share j ≡ share' j) where
  alike : (p : List ℕ) → count n (meets p held share) ≡ count n (meets p held' share')
  alike p = count_same n _ _ (λ j l. ap₂ (λ (b : Bool) (x : ℕ). b && ev p (j + 1) % 251 == x % 251) (f j l) (g j l))

  there : (p : List ℕ) → Enough n held share p → Enough n held' share' p
  there p e = record { degree = e.degree; many = omega (arith, e.many, alike p) }

  back : (p : List ℕ) → Enough n held' share' p → Enough n held share p
  back p e = record { degree = e.degree; many = omega (arith, e.many, alike p) }

  exact_below : (o : Option Bool) → Exact n held share o → Exact n held' share' o
  exact_below (Some b) x = (x.0, there x.0 x.1, x.2)
  exact_below None x = λ p y. x p (back p y)

-- what is shown is one
one_shown : (n : ℕ) (held : ℕ → Bool) (share : ℕ → ℕ) (o o' : Option Bool) → Hall n → Exact n held share o → Exact n held share o' → o ≡ o'
one_shown n held share None None h x y = refl
one_shown n held share None (Some b) h x y = absurd (x y.0 y.1)
one_shown n held share (Some a) None h x y = absurd (y x.0 x.1)
one_shown n held share (Some a) (Some b) h x y = ap Some (one_bit n held share a b h x y)

below_four : (P : ℕ → Type 0) → P 0 → P 1 → P 2 → P 3 → (j : ℕ) → j < 4 → P j
below_four P a b c d zero l = a
below_four P a b c d (suc zero) l = b
below_four P a b c d (suc (suc zero)) l = c
below_four P a b c d (suc (suc (suc zero))) l = d
below_four P a b c d (suc (suc (suc (suc j)))) l = absurd (omega arith)

-- the coin shows what the search over its held shares comes to
pub shows : (t : ℕ → Option ℕ) (c : ShareCoin) (held : ℕ) (share : ℕ → ℕ) → HasTaken t c →
    ((j : ℕ) → j < 4 → (j == 0 || is_some (t j)) ≡ has held j) → ((j : ℕ) → j < 4 → cond (j == 0) 3 (unwrap_or (t j) 0) ≡ share j) →
    share_acts.shown c 0 1 ≡ shown_of 4 held share
shows t c held share h f g = one_shown 4 (has held) share _ _ four exact (shown_exact 4 held share four)
  where
    own : (toss_at c 0 1).own ≡ 3
    own = let e = h.own in cc

    here : Exact 4 (holds c 0 1) (held_share c 0 1) (toss_at c 0 1).shown
    here = subst (λ (n : ℕ). Exact n (holds c 0 1) (held_share c 0 1) (toss_at c 0 1).shown) h.hall (shows_exactly c 0 1 first h.sound.sound)

    exact : Exact 4 (has held) share (toss_at c 0 1).shown
    exact = exact_below 4 (holds c 0 1) (has held) (held_share c 0 1) share
        (λ j l. ap₂ (λ (x : ℕ) (o : Option ℕ). j == x || is_some o) h.number (h.taken j (omega arith)) ∙ f j l)
        (λ j l. ap₂ (λ (x : ℕ) (o : Option ℕ). cond (j == x) (toss_at c 0 1).own (unwrap_or o 0)) h.number (h.taken j (omega arith)) ∙ ap (λ (x : ℕ). cond (j == 0) x (unwrap_or (t j) 0)) own ∙ g j l)
        (toss_at c 0 1).shown here

-- shares 6 and 7 of replicas 1 and 2 are taken
abbrev two : ℕ → Option ℕ
two = with_share 2 7 (with_share 1 6 nothing)

two_taken : (c a b : ShareCoin) → HasTaken nothing c → a ≡ take_after share_acts c (sent_share 1 6) → b ≡ take_after share_acts a (sent_share 2 7) → HasTaken two b
two_taken c a b h e f =
    let one = subst (HasTaken (with_share 1 6 nothing)) (sym e) (more nothing c 1 6 (omega arith) (omega arith) refl h) in
    subst (HasTaken two) (sym f) (more (with_share 1 6 nothing) a 2 7 (omega arith) (omega arith) refl one)

-- with the own share they show nothing
pub three_show_none : (c a b : ShareCoin) → HasTaken nothing c → a ≡ take_after share_acts c (sent_share 1 6) → b ≡ take_after share_acts a (sent_share 2 7) → share_acts.shown b 0 1 ≡ None
unfolding has count inv plus times newton slope through first_of shown_of
three_show_none c a b h e f =
    shows two b 7 (at (3 ∷ 6 ∷ 7 ∷ 0 ∷ [])) (two_taken c a b h e f) (below_four _ refl refl refl refl) (below_four _ refl refl refl refl) ∙ refl

-- and with 9 of replica 3 they show 1
pub four_show_one : (c a b d : ShareCoin) → HasTaken nothing c → a ≡ take_after share_acts c (sent_share 1 6) → b ≡ take_after share_acts a (sent_share 2 7) → d ≡ take_after share_acts b (sent_share 3 9) → share_acts.shown d 0 1 ≡ Some true
unfolding has count inv plus times newton slope through first_of shown_of
four_show_one c a b d h e f g =
    let all = subst (HasTaken (with_share 3 9 two)) (sym g) (more two b 3 9 (omega arith) (omega arith) refl (two_taken c a b h e f)) in
    shows (with_share 3 9 two) d 15 (at (3 ∷ 6 ∷ 7 ∷ 9 ∷ [])) all (below_four _ refl refl refl refl) (below_four _ refl refl refl refl) ∙ refl
