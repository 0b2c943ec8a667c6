-- What the calls on one toss of the share coin keep. Assumes nothing.
use Rattle.std.specs.Prelude.{◌≡◌, ℕ, zero, suc, ◌%◌, ◌^◌, ◌<◌, ◌≤◌, Bool, true, false, cond, ◌||◌, T, eqb, ◌⊎◌, length, is_some, Some, None, Option, ◌==◌, ◌≢◌, bit_or, nat_le, nat_lt, slice_set, refl}
use Rattle.std.proofs.Common.{sym, ap, ◌∙◌, subst, ⊎_elim, arith, length-set, leb-true}
use Rattle.std.specs.Int.Bits.{or_zero_l}
use Rattle.std.specs.Option.{option_or, unwrap_or}
use Rattle.std.proofs.lemmas.List.{get_or-set_same, get_or-set_other}
use Rattle.std.proofs.lemmas.Option.{none-some}
use Rattle.std.proofs.lemmas.Bool.{and_parts, eqb-true, eq-eqb, ne_eqb, or_cases, or_left, or_right, both_ways, cases_eq, cond-true, cond-false}
use Rattle.std.proofs.lemmas.Bool.Decides.{nat_tests}
use Rattle.std.proofs.Math.Bool.{or-false}
use Rattle.basis.specs.Counts.{has, count}
use Rattle.basis.specs.Halls.{listed, faults, quorum}
use Rattle.basis.proofs.Counts.{count_cong, has_or, has_one, has_none}
use Rattle.basis.specs.declared.member.Member.{Member}
use Rattle.polynomials.specs.Polynomials.{at}
use Rattle.polynomials.specs.Shares.{Hall, Exact}
use Rattle.polynomials.proofs.Choosing.{bit_stays, exact_same, few_show_none, shown_exact}
use Rattle.coins.specs.declared.toss.Toss.{Toss}
use Rattle.coins.specs.Tosses.{toss_new, taken_from, held_of, shares_of, toss_bit, recorded, toss_taken, SoundToss, LawfulToss}

-- a replica's place in a hall of 3f + 1, f from 1 on: its number is below n
pub record Seat (n own : ℕ) : Type 0 where
  pub hall : Hall n
  pub some : 1 ≤ faults n
  pub below : own < n

pub seat : (m : Member) → Seat m.n m.own
seat m =
    let a = and_parts (nat_le 4 m.n) _ (is_true (listed m.n) m.listed) in
    let b = and_parts (nat_le m.n 16) _ a.1 in
    let low = leb-true 4 m.n a.0 in
    let high = leb-true m.n 16 b.0 in
    let third = eqb-true (m.n % 3) 1 b.1 in
    record { hall = record { thirds = omega arith; small = high }; some = omega arith; below = m.below }
  where
    is_true : (t : Bool) → T t → t ≡ true
    is_true true h = refl
    is_true false h = absurd h

-- who is held
held_is : (own : ℕ) (t : Toss) (j : ℕ) → has (held_of own t) j ≡ (has t.taken j || j == own)
held_is own t j = has_or t.taken (2 ^ own) j ∙ ap (λ (b : Bool). has t.taken j || b) (has_one own j)

-- the share that stands at j
at_own : (own : ℕ) (t : Toss) (j : ℕ) → own < length t.shares → j ≡ own → shares_of own t j ≡ t.own
at_own own t j l e = ap (λ (x : ℕ). shares_of own t x) e ∙ get_or-set_same t.shares own t.own 0 l

at_other : (own : ℕ) (t : Toss) (j : ℕ) → (j ≢ own) → shares_of own t j ≡ at t.shares j
at_other own t j ne = get_or-set_other t.shares own j t.own 0 ne

-- what is taken after a share is recorded
pub taken_after : (t : Toss) (i v j : ℕ) → i < length t.shares → taken_from (recorded t i v) j ≡ cond (i == j) (Some v) (taken_from t j)
taken_after t i v j l = ⊎_elim same other (cases_eq i j)
  where
    bits : has (bit_or t.taken (2 ^ i)) j ≡ (has t.taken j || j == i)
    bits = has_or t.taken (2 ^ i) j ∙ ap (λ (b : Bool). has t.taken j || b) (has_one i j)

    same : i ≡ j → taken_from (recorded t i v) j ≡ cond (i == j) (Some v) (taken_from t j)
    same e =
        cond-true (has (bit_or t.taken (2 ^ i)) j) _ _ (bits ∙ or_right (has t.taken j) _ (eq-eqb j i (sym e)))
        ∙ ap Some (ap (λ (x : ℕ). at (slice_set t.shares i v) x) (sym e) ∙ get_or-set_same t.shares i v 0 l)
        ∙ sym (cond-true (i == j) (Some v) (taken_from t j) (eq-eqb i j e))

    other : (i ≢ j) → taken_from (recorded t i v) j ≡ cond (i == j) (Some v) (taken_from t j)
    other ne =
        ap (λ (b : Bool). cond b (Some (at (slice_set t.shares i v) j)) None) (bits ∙ ap (λ (b : Bool). has t.taken j || b) (ne_eqb j i (λ e. ne (sym e))) ∙ or-false (has t.taken j))
        ∙ ap (λ (x : ℕ). cond (has t.taken j) (Some x) None) (get_or-set_other t.shares i j v 0 (λ e. ne (sym e)))
        ∙ sym (cond-false (i == j) (Some v) (taken_from t j) (ne_eqb i j ne))

-- a new share leaves the held ones as they are
held_stay : (own : ℕ) (t : Toss) (i v : ℕ) → length t.shares ≡ 16 → own < 16 → has t.taken i ≡ false
    → (j : ℕ) → has (held_of own t) j ≡ true → (has (held_of own (recorded t i v)) j ≡ true) × (shares_of own t j ≡ shares_of own (recorded t i v) j)
held_stay own t i v len lt new j h = (stays, shares (cases_eq j own))
  where
    before : (has t.taken j || j == own) ≡ true
    before = sym (held_is own t j) ∙ h

    stays : has (held_of own (recorded t i v)) j ≡ true
    stays = held_is own (recorded t i v) j ∙ ⊎_elim
        (λ a. or_left _ _ (has_or t.taken (2 ^ i) j ∙ or_left _ _ a))
        (λ a. or_right (has (bit_or t.taken (2 ^ i)) j) _ a)
        (or_cases (has t.taken j) (j == own) before)

    taken : (j ≢ own) → has t.taken j ≡ true
    taken ne = ⊎_elim (λ a. a) (λ a. absurd (ne (eqb-true j own a))) (or_cases (has t.taken j) (j == own) before)

    shares : (j ≡ own) ⊎ (j ≢ own) → shares_of own t j ≡ shares_of own (recorded t i v) j
    shares w = ⊎_elim
        (λ e. at_own own t j (omega (arith, len)) e ∙ sym (at_own own (recorded t i v) j (omega (arith, len, length-set t.shares i v)) e))
        (λ ne. at_other own t j ne
        ∙ sym (get_or-set_other t.shares i j v 0 (λ e. both_ways (has t.taken i) new (ap (has t.taken) (sym e) ∙ taken ne)))
        ∙ sym (at_other own (recorded t i v) j ne))
        w

-- taking a new share keeps a toss sound
pub taken_sound : (n own : ℕ) (t : Toss) (i v : ℕ) → Seat n own → SoundToss n own t → taken_from t i ≡ None → SoundToss n own (toss_taken n own t i v)
taken_sound n own t i v s h new = record {
  places = length-set t.shares i v ∙ h.places;
  own_to = h.own_to;
  right = go t.shown refl;
}
  where
    absent : (b : Bool) → has t.taken i ≡ b → cond b (Some (at t.shares i)) None ≡ None → has t.taken i ≡ false
    absent false e k = e
    absent true e k = absurd (let z : ◌≡◌ {A = ℕ} 0 1 = cc in omega arith)

    go : (o : Option Bool) → t.shown ≡ o → option_or t.shown (toss_bit n own (recorded t i v)) ≡ toss_bit n own (recorded t i v)
    go None e = ap (λ (o : Option Bool). option_or o (toss_bit n own (recorded t i v))) e
    go (Some b) e =
        ap (λ (o : Option Bool). option_or o (toss_bit n own (recorded t i v))) e
        ∙ sym (bit_stays n (held_of own t) (held_of own (recorded t i v)) (shares_of own t) (shares_of own (recorded t i v)) b s.hall
        (held_stay own t i v h.places (omega (arith, s.below, s.hall.small)) (absent (has t.taken i) refl new)) (sym h.right ∙ e))

-- and taking a lawful one keeps those that are taken lawful
pub taken_lawful : (n own : ℕ) (t : Toss) (i v : ℕ) → i < length t.shares → v ≤ 250 → LawfulToss t → LawfulToss (toss_taken n own t i v)
taken_lawful n own t i v low to h j w e = go (i == j) (sym (taken_after t i v j low) ∙ e)
  where
    go : (b : Bool) → cond b (Some v) (taken_from t j) ≡ Some w → w ≤ 250
    go true f = let g : v ≡ w = cc in omega (arith, g, to)
    go false f = h j w f

-- one number equals i
one_alike : (n i : ℕ) → count n (λ j. eqb j i) ≡ cond (nat_lt i n) 1 0
unfolding count
one_alike zero i = grind (arith, nat_tests)
one_alike (suc n) i = let h = one_alike n i in grind (arith, nat_tests)

pub new_none : (share j : ℕ) → taken_from (toss_new share) j ≡ None
new_none share j = cond-false (has 0 j) _ _ (has_none j)

pub new_lawful : (share : ℕ) → LawfulToss (toss_new share)
new_lawful share j v e = absurd (none-some v (sym (new_none share j) ∙ e))

-- the own share alone shows nothing
pub new_sound : (n own share : ℕ) → Seat n own → SoundToss n own (toss_new share)
new_sound n own share s = record {
  places = refl;
  own_to = omega arith;
  right = sym (few_show_none n (held_of own (toss_new share)) (shares_of own (toss_new share)) s.hall few);
}
  where
    few : count n (has (held_of own (toss_new share))) < quorum n
    few =
        let c = count_cong n (has (held_of own (toss_new share))) (λ j. eqb j own) (λ j. ap (λ (x : ℕ). has x j) (or_zero_l (2 ^ own)) ∙ has_one own j) ∙ one_alike n own in
        let l : cond (nat_lt own n) 1 0 ≤ 1 = elim (nat_lt own n) as (λ b. cond {A = ℕ} b 1 0 ≤ 1) [ true ↦ omega arith | false ↦ omega arith ] in
        omega (arith, c, l, s.some)

-- what a sound toss shows, in words
pub toss_exact : (n own : ℕ) (t : Toss) → Seat n own → SoundToss n own t
    → Exact n (λ j. (j == own) || is_some (taken_from t j)) (λ j. cond (j == own) t.own (unwrap_or (taken_from t j) 0)) t.shown
toss_exact n own t s h = exact_same n (has (held_of own t)) _ (shares_of own t) _ t.shown held shares
    (subst (λ (o : Option Bool). Exact n (has (held_of own t)) (shares_of own t) o) (sym h.right) (shown_exact n (held_of own t) (shares_of own t) s.hall))
  where
    swap : (a b : Bool) (x : ℕ) → (a || b) ≡ (b || is_some (cond a (Some x) None))
    swap true true x = refl
    swap true false x = refl
    swap false true x = refl
    swap false false x = refl

    held : (j : ℕ) → has (held_of own t) j ≡ (j == own || is_some (taken_from t j))
    held j = held_is own t j ∙ swap (has t.taken j) (j == own) (at t.shares j)

    shares : (j : ℕ) → has (held_of own t) j ≡ true → shares_of own t j ≡ cond (j == own) t.own (unwrap_or (taken_from t j) 0)
    shares j k = ⊎_elim
        (λ e. at_own own t j (omega (arith, h.places, s.below, s.hall.small)) e ∙ sym (cond-true (j == own) t.own (unwrap_or (taken_from t j) 0) (eq-eqb j own e)))
        (λ ne. at_other own t j ne
        ∙ sym (cond-false (j == own) t.own (unwrap_or (taken_from t j) 0) (ne_eqb j own ne)
        ∙ ap (λ (b : Bool). unwrap_or (cond b (Some (at t.shares j)) None) 0)
        (⊎_elim (λ a. a) (λ a. absurd (ne (eqb-true j own a))) (or_cases (has t.taken j) (j == own) (sym (held_is own t j) ∙ k)))))
        (cases_eq j own)
