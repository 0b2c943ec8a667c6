-- What holds of the opening round, whatever it comes to. Assumes nothing.
use Rattle.std.proofs.Common.{◌≡◌, ℕ, Bool, true, false, ◌≢◌, sym, refl, subst, inl, inr, ⊎_elim, arith, lit<}
use Rattle.std.proofs.lemmas.Bool.{and_parts, or_left, false≢true}
use Rattle.basis.specs.Steps.{taking}
use Rattle.messages.specs.Tags.{basic_tags}
use Rattle.rules.specs.Rounds.{Round, Vote, cleared, bit_set}
use Rattle.rules.specs.Laws.{Single, Audible}
use Rattle.phases.specs.Steps.{says, begun, is_entered_lem, hears}
use Rattle.phases.specs.Turns.{says_has}
use Rattle.phases.specs.Adding.{says_only, base_cleared, base_says, hears_cases}
use Rattle.openings.specs.Openings.{proposed, again}
use Rattle.ballot_runs.proofs.Opens.{Opened, unopened, proposing, saying_again, hearing, stepping, delivering, Sound, entered_now, proposed_cases, sound_next, Mine, by_step, says_first, says_second}
use Rattle.ballot_runs.proofs.OpeningSteps.{steps_own}

module _ (n own : ℕ) (d : Bool) where
  pub again_own : d ≡ true → (m : Round) → Mine n own d m (taking (again own) m)
  again_own t m = by_step n own d (again own) m (λ go. says_first n own d 2 m (omega arith, omega arith) (entered_now m (and_parts (is_entered_lem m) _ go).0) (λ _ _. inl t))

  -- a proposal, in a round with no vote of one's own
  started : (x : ℕ) (m : Round) → Single x → (x ≡ 2 → d ≡ true) → m.entered ≡ 0 → Sound n own d m → Sound n own d (says 32 x own (begun x m))
  started x m s two z h = record {
    base = base_says 32 x own (begun x m) s.0 (omega (arith, s.1)) (λ lt. absurd (omega arith)) (λ _. s.0) (record { single = h.base.single; sets = h.base.sets; silent = λ t v y. s.0 });
    bit = s.1;
    first = λ y l q. subst (λ (w : ℕ). (says 32 x own (begun x m)).votes 32 w own ≡ true) q (says_has 32 x own (begun x m));
    second = λ v q. ⊎_elim (λ old. absurd (none 33 v old)) (λ new. absurd (let w : ◌≡◌ {A = ℕ} 33 32 = new.0 in omega arith)) (says_only 32 x own (begun x m) 33 v own q);
    early = λ w. absurd (omega (arith, s.0));
    small = h.small;
    backed = λ y l q. absurd (let w = h.early z in omega (arith, l.0));
    ones = λ q. absurd (let w = h.early z in ⊎_elim (λ v. omega arith) (λ v. omega arith) q);
    delivered = two;
    said = λ q. ⊎_elim (λ old. absurd (none 32 2 old)) (λ new. inl (two (sym new.1))) (says_only 32 x own (begun x m) 32 2 own q);
  }
    where
      none : (t v : ℕ) → m.votes t v own ≢ true
      none t v y = let w = h.base.silent t v y in omega arith

  pub proposed_sound : (x : ℕ) (m : Round) → Single x → (x ≡ 2 → d ≡ true) → m.entered ≡ 0 → Sound n own d m → Sound n own d (proposed own x m)
  proposed_sound x m s two z h = let plain = started x m s two z h in proposed_cases own x m (Sound n own d) plain
      (λ e none. (says_second n own d 2 (says 32 x own (begun x m)) (omega arith, omega arith) s.0 none (inr (refl, inl e))).inv plain)

  pub heard_sound : (w : Vote) (m : Round) → Audible basic_tags n own w → Sound n own d m → Sound n own d (hears w m)
  heard_sound w m au h = hears_cases w m (Sound n own d) h (λ free.
      sound_next n own d m (says w.tag w.set w.sender m) (base_says w.tag w.set w.sender m au.some au.few free (λ e. absurd (au.other e)) h.base) (λ t v j y. or_left _ _ y) refl refl
      (λ q. ⊎_elim inl (λ new. absurd (au.other (sym new.2))) (says_only w.tag w.set w.sender m 32 2 own q))
      (λ v q. ⊎_elim inl (λ new. absurd (au.other (sym new.2))) (says_only w.tag w.set w.sender m 33 v own q)) h)

  cleared_sound : Sound n own d cleared
  cleared_sound = record {
    base = base_cleared own;
    bit = lit< tt;
    first = λ x lo q. absurd (omega arith);
    second = λ v q. absurd (false≢true q);
    early = λ _. refl;
    small = lit< tt;
    backed = λ x s q. absurd (omega (arith, s.0));
    ones = λ q. absurd (⊎_elim (λ z. omega arith) (λ z. omega arith) q);
    delivered = λ q. absurd (omega arith);
    said = λ q. absurd (false≢true q);
  }

-- a delivery takes nothing away
delivered_sound : (n own : ℕ) (d : Bool) (m : Round) → Sound n own d m → Sound n own true m
delivered_sound n own d m h = record {
  base = h.base;
  bit = h.bit;
  first = h.first;
  second = h.second;
  early = h.early;
  small = h.small;
  backed = h.backed;
  ones = h.ones;
  delivered = λ _. refl;
  said = λ _. inl refl;
}

-- what is proposed is one bit, and 1 for a delivered slot only
pub bit_single : (d : Bool) → Single (bit_set d)
bit_single true = (omega arith, omega arith)
bit_single false = (omega arith, omega arith)

pub bit_delivered : (d : Bool) → bit_set d ≡ 2 → d ≡ true
bit_delivered true q = refl
bit_delivered false q = absurd (omega arith)

pub sound : (n own : ℕ) {d : Bool} {m : Round} → Opened n own d m → Sound n own d m
sound n own (unopened {d}) = cleared_sound n own d
sound n own (proposing {d} {m} h z) = proposed_sound n own d (bit_set d) m (bit_single d) (bit_delivered d) z (sound n own h)
sound n own (saying_again {d} {m} h t) = (again_own n own d t m).inv (sound n own h)
sound n own (hearing {d} {m} h w au) = heard_sound n own d w m au (sound n own h)
sound n own (stepping {d} {m} h) = (steps_own n own d m).inv (sound n own h)
sound n own (delivering {d} {m} h) = delivered_sound n own d m (sound n own h)
