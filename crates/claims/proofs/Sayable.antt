-- The two supplied rules and the opening round say only votes that others may hear. Assumes nothing.
use Rattle.std.proofs.Common.{◌≡◌, ℕ, zero, suc, ◌<◌, ◌≤◌, Bool, true, false, ◌||◌, ◌⊎◌, List, [], ◌∷◌, eqb, sym, refl, ◌∙◌, subst, inl, inr, ⊎_elim, arith, lit<}
use Rattle.std.proofs.lemmas.Bool.{cond_both, and_parts, eqb-true, false≢true, or_left, or_cases}
use Rattle.basis.specs.Counts.{has}
use Rattle.basis.specs.Steps.{Step, stepped, settled}
use Rattle.messages.specs.declared.tags.VoteTags.{VoteTags}
use Rattle.messages.specs.Tags.{uses, basic_tags}
use Rattle.messages.proofs.OfTags.{none_named}
use Rattle.rules.specs.Rounds.{Round, Vote, voted, bit_set}
use Rattle.rules.specs.Laws.{Single, clear, did, entering, hearing, stepping}
use Rattle.phases.specs.Steps.{says, begun, is_entered_lem, lowest_admitted, admitted, union, second, third, two_steps, three_steps, steps_of, enters, hears, two_phase, three_phase, acts_of}
use Rattle.phases.specs.Adding.{says_only, hears_cases}
use Rattle.phases.specs.Unions.{union_some, union_small}
use Rattle.openings.specs.Openings.{once_second, proposed, again, opening_steps}
use Rattle.ballot_runs.proofs.Opens.{Opened, unopened, proposing, saying_again, hearing as hearing_first, stepping as stepping_first, delivering, proposed_cases}
use Rattle.evenings.specs.Claims.{Sayable, SaysSayable}

module _ (used : ℕ → Bool) (own : ℕ) where
  -- all that is said may be heard
  abbrev pub AllSayable : Round → Type 0
  AllSayable m = (t v : ℕ) → m.votes t v own ≡ true → Sayable used t v

  says_sayable : (t v j : ℕ) (m : Round) → (j ≡ own → Sayable used t v) → AllSayable m → AllSayable (says t v j m)
  says_sayable t v j m ok all t' v' h = ⊎_elim (all t' v') (λ new. subst (λ (z : ℕ). Sayable used z v') (sym new.0) (subst (Sayable used t) (sym new.1) (ok (sym new.2)))) (says_only t v j m t' v' own h)

  hears_sayable : (w : Vote) (m : Round) → (w.sender ≡ own → ⊥) → AllSayable m → AllSayable (hears w m)
  hears_sayable w m ne all = hears_cases w m AllSayable all (λ _. says_sayable w.tag w.set w.sender m (λ e. absurd (ne e)) all)

  -- steps that keep it, one after another
  abbrev KeepSayable : List (Step Round) → Type 0
  KeepSayable [] = Unit {0}
  KeepSayable (s ∷ ss) = ((m : Round) → s.applies m ≡ true → AllSayable m → AllSayable (s.leaves m)) × KeepSayable ss

  stepped_sayable : (ss : List (Step Round)) → KeepSayable ss → (m : Round) → AllSayable m → AllSayable (stepped ss m)
  stepped_sayable [] k m all = all
  stepped_sayable (s ∷ ss) k m all = cond_both (s.applies m) (s.leaves m) (stepped ss m) AllSayable (λ h. k.0 m h all) (λ _. stepped_sayable ss k.1 m all)

  settled_sayable : (ss : List (Step Round)) → KeepSayable ss → (fuel : ℕ) (m : Round) → AllSayable m → AllSayable (settled ss fuel m)
  unfolding settled
  settled_sayable ss k zero m all = all
  settled_sayable ss k (suc fuel) m all = settled_sayable ss k fuel (stepped ss m) (stepped_sayable ss k m all)

  module _ (first : used 32 ≡ true) (then : used 33 ≡ true) where
    first_vote : (x : ℕ) → 0 < x → x < 3 → Sayable used 32 x
    first_vote x lo hi = (first, lo, omega arith, λ _. hi)

    second_vote : (x : ℕ) → 0 < x → x < 3 → Sayable used 33 x
    second_vote x lo hi = (then, lo, omega arith, λ _. hi)

    -- the opening round
    once_sayable : (m : Round) → AllSayable m → AllSayable (once_second own 2 m)
    once_sayable m all = cond_both (voted 33 own m) m (says 33 2 own m) AllSayable (λ _. all) (λ _. says_sayable 33 2 own m (λ _. second_vote 2 (lit< tt) (lit< tt)) all)

    proposed_sayable : (d : Bool) (m : Round) → AllSayable m → AllSayable (proposed own (bit_set d) m)
    proposed_sayable d m all =
        let said : AllSayable (says 32 (bit_set d) own (begun (bit_set d) m)) = says_sayable 32 (bit_set d) own (begun (bit_set d) m) (λ _. by_bit d) all in
        proposed_cases own (bit_set d) m AllSayable said (λ _ _. says_sayable 33 2 own (says 32 (bit_set d) own (begun (bit_set d) m)) (λ _. second_vote 2 (lit< tt) (lit< tt)) said)
      where
        by_bit : (d : Bool) → Sayable used 32 (bit_set d)
        by_bit true = first_vote 2 (lit< tt) (lit< tt)
        by_bit false = first_vote 1 (lit< tt) (lit< tt)

    opening_keep : (n : ℕ) → KeepSayable (opening_steps n own)
    opening_keep n = (
      λ m h all. says_sayable 32 1 own m (λ _. first_vote 1 (lit< tt) (lit< tt)) all,
      (
        λ m h all. once_sayable (says 32 2 own m) (says_sayable 32 2 own m (λ _. first_vote 2 (lit< tt) (lit< tt)) all),
        (
          λ m h all. says_sayable 33 1 own m (λ _. second_vote 1 (lit< tt) (lit< tt)) all,
          (
            λ m h all. says_sayable 33 2 own m (λ _. second_vote 2 (lit< tt) (lit< tt)) all,
            (λ m h all. all, tt),
          ),
        ),
      ),
    )

    pub opening_sayable : (n : ℕ) (d : Bool) (m : Round) → Opened n own d m → AllSayable m
    opening_sayable n d m unopened = λ t v h. absurd (false≢true h)
    opening_sayable n d m (proposing {m = m'} o e) = proposed_sayable d m' (opening_sayable n d m' o)
    opening_sayable n d m (saying_again {m = m'} o e) = cond_both ((again own).applies m') ((again own).leaves m') m' AllSayable (λ _. says_sayable 32 2 own m' (λ _. first_vote 2 (lit< tt) (lit< tt)) (opening_sayable n d m' o)) (λ _. opening_sayable n d m' o)
    opening_sayable n d m (hearing_first {m = m'} o w au) = hears_sayable w m' au.other (opening_sayable n d m' o)
    opening_sayable n d m (stepping_first {m = m'} o) = settled_sayable (opening_steps n own) (opening_keep n) 5 m' (opening_sayable n d m' o)
    opening_sayable n d m (delivering {d = d'} o) = opening_sayable n d' m o

    -- the rules of phases
    second_keeps : (n : ℕ) (m : Round) → (second n own).applies m ≡ true → AllSayable m → AllSayable ((second n own).leaves m)
    second_keeps n m h all = says_sayable 33 (lowest_admitted n m) own m
        (λ _. cond_both (admitted n m 1) 1 2 (Sayable used 33) (λ _. second_vote 1 (lit< tt) (lit< tt)) (λ _. second_vote 2 (lit< tt) (lit< tt))) all

    two_keep : (n : ℕ) → KeepSayable (two_steps n own)
    two_keep n = (
      λ m h all. says_sayable 32 1 own m (λ _. first_vote 1 (lit< tt) (lit< tt)) all,
      (
        λ m h all. says_sayable 32 2 own m (λ _. first_vote 2 (lit< tt) (lit< tt)) all,
        (
          second_keeps n,
          (λ m h all. all, tt),
        ),
      ),
    )

    three_keep : (n : ℕ) → used 34 ≡ true → KeepSayable (three_steps n own)
    three_keep n last = (
      λ m h all. says_sayable 32 1 own m (λ _. first_vote 1 (lit< tt) (lit< tt)) all,
      (
        λ m h all. says_sayable 32 2 own m (λ _. first_vote 2 (lit< tt) (lit< tt)) all,
        (
          second_keeps n,
          (
            λ m h all. says_sayable 34 (union n m 33) own m
                (λ _. (last, union_some n m 33 (and_parts _ _ (and_parts (is_entered_lem m) _ h).1).0, union_small n m 33, λ lt. absurd (omega arith))) all,
            (λ m h all. all, tt),
          ),
        ),
      ),
    )

entered_sayable : (used : ℕ → Bool) (own x : ℕ) → used 32 ≡ true → (m : Round) → Single x → AllSayable used own m → AllSayable used own (enters own x m)
entered_sayable used own x first m s all = cond_both (is_entered_lem m) m (says 32 x own (begun x m)) (AllSayable used own) (λ _. all)
    (λ _. says_sayable used own 32 x own (begun x m) (λ _. (first, s.0, let q = s.1 in omega arith, λ _. s.1)) all)

-- what may be heard under the basic tags may be heard under any, and is no set
pub basic_used : (tags : VoteTags) (t v : ℕ) {P : Type 0} → Sayable (uses basic_tags) t v → Sayable (uses tags) t v × (34 ≤ t → P)
basic_used tags t v x = let low = basic_low t x.0 in ((or_left (eqb t 32 || eqb t 33) _ low, x.1, x.2, x.3), λ high. absurd (by (or_cases (eqb t 32) (eqb t 33) low) high))
  where
    by : (eqb t 32 ≡ true) ⊎ (eqb t 33 ≡ true) → 34 ≤ t → ⊥
    by (inl e) high = let z = eqb-true t 32 e in omega arith
    by (inr e) high = let z = eqb-true t 33 e in omega arith

    basic_low : (t : ℕ) → uses basic_tags t ≡ true → (eqb t 32 || eqb t 33) ≡ true
    basic_low t h = sym (none_named t) ∙ h

abbrev tags_of : Bool → VoteTags
tags_of third = (acts_of third).tags

used_first : (third : Bool) → uses (tags_of third) 32 ≡ true
used_first true = refl
used_first false = refl

used_then : (third : Bool) → uses (tags_of third) 33 ≡ true
used_then true = refl
used_then false = refl

kept_steps : (third : Bool) (n own : ℕ) → KeepSayable (uses (acts_of third).tags) own (steps_of third n own)
unfolding has
kept_steps true n own = three_keep (uses (tags_of true)) own refl refl n refl
kept_steps false n own = two_keep (uses (tags_of false)) own refl refl n

pub phases_sayable : (is_third : Bool) → SaysSayable (acts_of is_third)
phases_sayable is_third n own m l lo clear t v h = absurd (false≢true h)
phases_sayable is_third n own m l lo (did {m = m'} r (entering x) d) t v h = entered_sayable (uses (acts_of is_third).tags) own x (used_first is_third) m' d.0 (λ t v e. phases_sayable is_third n own m' l lo r t v e) t v h
phases_sayable is_third n own m l lo (did {m = m'} r (hearing w) d) t v h = hears_sayable (uses (acts_of is_third).tags) own w m' d.other (λ t v e. phases_sayable is_third n own m' l lo r t v e) t v h
phases_sayable is_third n own m l lo (did {m = m'} r stepping d) t v h = settled_sayable (uses (acts_of is_third).tags) own (steps_of is_third n own) (kept_steps is_third n own) 5 m' (λ t v e. phases_sayable is_third n own m' l lo r t v e) t v h

pub two_sayable : SaysSayable two_phase
two_sayable = phases_sayable false

pub three_sayable : SaysSayable three_phase
three_sayable = phases_sayable true
