-- The two supplied rules keep the laws. Assumes nothing.
use Rattle.std.specs.Prelude.{◌≡◌, ℕ, ◌<◌, ◌≤◌, Bool, true, false, cond, not, ◌&&◌, ◌||◌, ◌⊎◌, List, ◌==◌, ◌≢◌, refl}
use Rattle.std.proofs.Common.{sym, ap, ◌∙◌, subst, inl, inr, ⊎_elim, arith, lit<}
use Rattle.std.proofs.lemmas.Bool.{eqb-true, eqb-false, ne_eqb, leb-true, cond_both, cond-true, cond-false, and_parts, and_from, or_left, or_right, or_cases, not-true, not_from_false, both_ways, false≢true}
use Rattle.basis.specs.Counts.{count}
use Rattle.basis.specs.Halls.{quorum, beyond_faults}
use Rattle.basis.specs.Steps.{Step, taking, settled}
use Rattle.basis.proofs.Counts.{count_mono}
use Rattle.messages.specs.declared.tags.VoteTags.{VoteTags}
use Rattle.messages.specs.Tags.{uses, is_set_tag, basic_tags, with_tag}
use Rattle.messages.proofs.OfTags.{none_named, one_more}
use Rattle.rules.specs.Rounds.{Round, Vote, voted, is_new}
use Rattle.rules.specs.Laws.{Acts, Single, Audible, Deed, entering, hearing, stepping, act, Lawful, Reached, clear, did, OwnDeed, first_of_others, Laws, Keeps}
use Rattle.phases.specs.Steps.{says, begun, is_entered_lem, many, admitted, enough, union, join, second, third, conclude, two_steps, three_steps, hears, phased, two_phase, three_phase, acts_of}
use Rattle.phases.specs.Unions.{Full, Within, admitted_full, union_within, union_small, union_some, union_backed}
use Rattle.phases.specs.Turns.{says_has, two_pass, three_pass}
use Rattle.phases.specs.Adding.{says_only, Base, base_cleared, base_says, Own, own_none, own_then, own_says, own_ends, hears_cases}

abbrev pub Others : ℕ → ℕ → Round → ℕ → Type 0
Others n own m x = beyond_faults n ≤ count n (first_of_others own m x)

-- what holds of a round under a rule of phases with the final tag t
pub record Sound (t n own : ℕ) (m : Round) : Type 0 where
  pub base : Base own m
  pub bit : m.entered < 3
  -- the first vote of the entered bit is said, and every first vote has a ground
  pub first : (x : ℕ) → 0 < x → m.entered ≡ x → m.votes 32 x own ≡ true
  pub said : (x : ℕ) → m.votes 32 x own ≡ true → (m.entered ≡ x) ⊎ Others n own m x
  -- a later vote of one's own names admitted bits
  pub lies : (t' v : ℕ) → 32 < t' → m.votes t' v own ≡ true → Within n m v
  pub small : m.verdict < 4
  pub full : Within n m m.verdict
  pub backed : (x : ℕ) → Single x → m.verdict ≡ x → quorum n ≤ count n (m.votes t x)

entered_now : (m : Round) → is_entered_lem m ≡ true → 0 < m.entered
entered_now m h = let ne = eqb-false m.entered 0 (not-true _ h) in omega arith

entered_so : (m : Round) → 0 < m.entered → is_entered_lem m ≡ true
entered_so m lo = not_from_false (m.entered == 0) (ne_eqb m.entered 0 (λ z. omega arith))

module _ (t n own : ℕ) where
  more : (m m' : Round) → ((t v j : ℕ) → m.votes t v j ≡ true → m'.votes t v j ≡ true) → (t' x : ℕ) → quorum n ≤ count n (m.votes t' x) → quorum n ≤ count n (m'.votes t' x)
  more m m' g t' x h = let c = count_mono n (m.votes t' x) (m'.votes t' x) (g t' x) in omega arith

  -- votes are added, each of one's own for its cause
  sound_next : (m m' : Round) → Base own m' → ((t v j : ℕ) → m.votes t v j ≡ true → m'.votes t v j ≡ true) → m'.entered ≡ m.entered → m'.verdict ≡ m.verdict →
      ((x : ℕ) → m'.votes 32 x own ≡ true → (m.votes 32 x own ≡ true) ⊎ Others n own m x) →
      ((t' v : ℕ) → 32 < t' → m'.votes t' v own ≡ true → (m.votes t' v own ≡ true) ⊎ Within n m v) → Sound t n own m → Sound t n own m'
  sound_next m m' b g be ve firsts laters h = record {
    base = b;
    bit = (let q = h.bit in omega arith);
    first = λ x lo q. g 32 x own (h.first x lo (sym be ∙ q));
    said = λ x q. ⊎_elim (λ z. inl (be ∙ z)) (λ o. inr (let c = count_mono n (first_of_others own m x) (first_of_others own m' x) (λ j y. let p = and_parts _ _ y in and_from _ _ (g 32 x j p.0) p.1) in omega arith))
        (⊎_elim (h.said x) inr (firsts x q));
    lies = λ t' v lt q x s k. more m m' g 32 x (⊎_elim (λ old. h.lies t' v lt old x s k) (λ w. w x s k) (laters t' v lt q));
    small = (let q = h.small in omega arith);
    full = λ x s k. more m m' g 32 x (h.full x s (⊎_elim (λ z. inl (sym ve ∙ z)) (λ z. inr (sym ve ∙ z)) k));
    backed = λ x s q. more m m' g t x (h.backed x s (sym ve ∙ q));
  }

  -- a step that applies changes the round by one's own votes, and so does one that does not
  by_step : (s : Step Round) (m : Round) → (s.applies m ≡ true → Own (Sound t n own) own m (s.leaves m)) → Own (Sound t n own) own m (taking s m)
  by_step s m h = cond_both (s.applies m) (s.leaves m) m (Own (Sound t n own) own m) h (λ _. own_none m)

  joined : (x : ℕ) (m : Round) → 0 < x → x < 4 → Own (Sound t n own) own m (taking (join n own x) m)
  joined x m lo hi = by_step (join n own x) m (λ go.
      let p = and_parts (is_entered_lem m) _ go in let q = and_parts (many n (beyond_faults n) 32 x m) _ p.1 in
      own_says 32 x m (λ h. sound_next m (says 32 x own m) (base_says 32 x own m lo hi (λ lt. absurd (omega arith)) (λ _. entered_now m p.0) h.base) (λ t' v j y. or_left _ _ y) refl refl
      (λ y r. ⊎_elim inl (λ new. inr (rw new.1 (others q.0 (not-true _ q.1)))) (says_only 32 x own m 32 y own r))
      (λ t' v lt r. ⊎_elim inl (λ new. absurd (let z = new.0 in omega arith)) (says_only 32 x own m t' v own r)) h))
    where
      others : many n (beyond_faults n) 32 x m ≡ true → m.votes 32 x own ≡ false → Others n own m x
      others go none = let c = count_mono n (m.votes 32 x) (first_of_others own m x)
          (λ j y. and_from _ _ y (not_from_false _ (ne_eqb j own (λ q. both_ways _ none (ap (m.votes 32 x) (sym q) ∙ y))))) in omega (arith, leb-true _ _ go)

  -- a later vote of one's own, where none was said under its tag, for admitted bits
  says_later : (t' v : ℕ) (m : Round) → 32 < t' → 0 < v → v < 4 → is_entered_lem m ≡ true → voted t' own m ≡ false → Within n m v → Own (Sound t n own) own m (says t' v own m)
  says_later t' v m lt lo hi in' none w = own_says t' v m (λ h.
      sound_next m (says t' v own m) (base_says t' v own m lo hi (λ _. none) (λ _. entered_now m in') h.base) (λ t' v j y. or_left _ _ y) refl refl
      (λ y q. ⊎_elim inl (λ new. absurd (let z = new.0 in omega arith)) (says_only t' v own m 32 y own q))
      (λ u v' l q. ⊎_elim inl (λ new. inr (rw new.1 w)) (says_only t' v own m u v' own q)) h)

  one_bit : (m : Round) (x : ℕ) → x < 3 → admitted n m x ≡ true → Within n m x
  one_bit m x hx ad y s k = let q : x ≡ y = omega arith in subst (Full n m) q (admitted_full n m x ad)

  seconded : (m : Round) → Own (Sound t n own) own m (taking (second n own) m)
  seconded m = by_step (second n own) m (λ go.
      let p = and_parts (is_entered_lem m) _ go in let q = and_parts (admitted n m 1 || admitted n m 2) _ p.1 in
      cond_both (admitted n m 1) 1 2 (λ (v : ℕ). Own (Sound t n own) own m (says 33 v own m))
      (λ ad. says_later 33 1 m (omega arith) (omega arith) (omega arith) p.0 (not-true _ q.1) (one_bit m 1 (omega arith) ad))
      (λ na. says_later 33 2 m (omega arith) (omega arith) (omega arith) p.0 (not-true _ q.1)
      (one_bit m 2 (omega arith) (⊎_elim (λ a. absurd (both_ways _ na a)) (λ b. b) (or_cases _ _ q.0)))))

  thirded : (m : Round) → Own (Sound t n own) own m (taking (third n own) m)
  thirded m = by_step (third n own) m (λ go.
      let p = and_parts (is_entered_lem m) _ go in let q = and_parts (enough n m 33) _ p.1 in
      says_later 34 (union n m 33) m (omega arith) (union_some n m 33 q.0) (union_small n m 33) p.0 (not-true _ q.1) (union_within n m 33))

  concluded : (m : Round) → Own (Sound t n own) own m (taking (conclude n own t) m)
  concluded m = by_step (conclude n own t) m (λ go.
      let p = and_parts (is_entered_lem m) _ go in let q = and_parts (enough n m t) _ p.1 in
      own_ends (union n m t) m (eqb-true _ _ q.1) (λ h. record {
        base = record { single = h.base.single; sets = h.base.sets; silent = h.base.silent };
        bit = h.bit;
        first = h.first;
        said = h.said;
        lies = h.lies;
        small = union_small n m t;
        full = union_within n m t;
        backed = union_backed n m t q.0;
      }))

  started : (x : ℕ) (m : Round) → Single x → m.entered ≡ 0 → Sound t n own m → Sound t n own (says 32 x own (begun x m))
  started x m s z h = record {
    base = base_says 32 x own (begun x m) s.0 (omega arith) (λ lt. absurd (omega arith)) (λ _. s.0) (record { single = h.base.single; sets = h.base.sets; silent = λ t v y. s.0 });
    bit = s.1;
    first = λ y l q. subst (λ (w : ℕ). (says 32 x own (begun x m)).votes 32 w own ≡ true) q (says_has 32 x own (begun x m));
    said = λ y q. ⊎_elim (λ old. absurd (none 32 y old)) (λ new. inl (sym new.1)) (says_only 32 x own (begun x m) 32 y own q);
    lies = λ t' v lt q. ⊎_elim (λ old. absurd (none t' v old)) (λ new. absurd (let w = new.0 in omega arith)) (says_only 32 x own (begun x m) t' v own q);
    small = h.small;
    full = λ y l k. more m (says 32 x own (begun x m)) (λ t' v j w. or_left _ _ w) 32 y (h.full y l k);
    backed = λ y l k. more m (says 32 x own (begun x m)) (λ t' v j w. or_left _ _ w) t y (h.backed y l k);
  }
    where
      none : (t' v : ℕ) → m.votes t' v own ≢ true
      none t' v y = let w = h.base.silent t' v y in omega arith

  heard : (tags : VoteTags) (w : Vote) (m : Round) → Audible tags n own w → Sound t n own m → Sound t n own (hears w m)
  heard tags w m au h = hears_cases w m (Sound t n own) h (λ free.
      sound_next m (says w.tag w.set w.sender m) (base_says w.tag w.set w.sender m au.some au.few free (λ e. absurd (au.other e)) h.base) (λ t' v j y. or_left _ _ y) refl refl
      (λ x q. ⊎_elim inl (λ new. absurd (au.other (sym new.2))) (says_only w.tag w.set w.sender m 32 x own q))
      (λ t' v lt q. ⊎_elim inl (λ new. absurd (au.other (sym new.2))) (says_only w.tag w.set w.sender m t' v own q)) h)

-- both rules: their turns come to one pass, each step of which is one's own
module _ (tags : VoteTags) (t n own : ℕ) (tag : 32 < t) (steps : ℕ → ℕ → List (Step Round))
    (three : (x : ℕ) → uses tags x ≡ true → (x == 32 || (x == 33 || x == 34)) ≡ true)
    (own-steps : (m : Round) → Own (Sound t n own) own m (settled (steps n own) 5 m)) where
  abbrev rule : Acts
  rule = phased tags t steps

  pub sound : {m : Round} → Reached rule n own m → Sound t n own m
  sound clear = record {
    base = base_cleared own;
    bit = lit< tt;
    first = λ x lo q. absurd (omega arith);
    said = λ x q. absurd (false≢true q);
    lies = λ t' v lt q. absurd (false≢true q);
    small = lit< tt;
    full = λ x s k. absurd (⊎_elim (λ z. omega arith) (λ z. omega arith) k);
    backed = λ x s q. absurd (omega arith);
  }
  sound (did {m} h (entering x) l) = cond_both (is_entered_lem m) m (says 32 x own (begun x m)) (Sound t n own) (λ _. sound h) (λ _. started t n own x m l.0 l.1 (sound h))
  sound (did {m} h (hearing w) l) = heard t n own tags w m l (sound h)
  sound (did {m} h stepping l) = (own-steps m).inv (sound h)

  -- entering and taking steps, by what holds of the two ways of each
  own_deed : (P : Round → Type 0) (m : Round) (d : Deed) → OwnDeed d → Lawful rule n own m d → P m → ((x : ℕ) → P (says 32 x own (begun x m))) → P (settled (steps n own) 5 m) → P (act rule n own d m)
  own_deed P m (entering x) o l same enter step = cond_both (is_entered_lem m) m (says 32 x own (begun x m)) P (λ _. same) (λ _. enter x)
  own_deed P m (hearing w) o l same enter step = absurd o
  own_deed P m stepping o l same enter step = step

  pub laws : Laws rule n own
  laws = record {
    final_above_first = tag;
    says_one_a_tag = λ m h t' v w lt x y. (sound h).base.single t' v w own lt x y;
    hearing_adds_the_vote = λ m h w au new t' v j. ap (λ (y : Round). y.votes t' v j) (cond-true (is_new w m) _ _ new ∙ cond-true (w.tag == 32 || (w.tag == 33 || w.tag == 34)) _ _ (three w.tag au.used));
    others_change_nothing = λ m h w au old. cond-false (is_new w m) _ _ old;
    votes_stay = λ m h d o l t' v j x. own_deed (λ y. y.votes t' v j ≡ true) m d o l x (λ y. or_left _ _ x) ((own-steps m).grows t' v j x);
    only_own_votes = λ m h d o l t' v j. own_deed (λ y. y.votes t' v j ≡ true → (m.votes t' v j ≡ true) ⊎ (j ≡ own)) m d o l inl
        (λ y x. ⊎_elim inl (λ new. inr new.2) (says_only 32 y own (begun y m) t' v j x)) ((own-steps m).only t' v j);
    none_before_entering = λ m h. (sound h).base.silent;
    entering_sets_the_bit = λ m h x s. bits m x (m.entered == 0) refl;
    entering_again = λ m h x s lo. cond-true (is_entered_lem m) m (says 32 x own (begun x m)) (entered_so m lo);
    hearing_keeps_the_bit = λ m h w au. hears_cases w m (λ y. y.entered ≡ m.entered) refl (λ _. refl);
    steps_keep_the_bit = λ m h. (own-steps m).bit;
    first_vote_has_a_ground = λ m h x s. (sound h).said x;
    verdict_is_a_set = λ m h. (sound h).small;
    verdict_stays = λ m h d l lo. keeps_verdict m d l lo;
    verdict_has_first_votes = λ m h. (sound h).full;
    one_bit_has_final_votes = λ m h. (sound h).backed;
  }
    where
      bits : (m : Round) (x : ℕ) (b : Bool) → (m.entered == 0) ≡ b → (cond (not b) m (says 32 x own (begun x m))).entered ≡ cond b x m.entered
      bits m x true e = refl
      bits m x false e = refl

      keeps_verdict : (m : Round) (d : Deed) → Lawful rule n own m d → 0 < m.verdict → (act rule n own d m).verdict ≡ m.verdict
      keeps_verdict m (entering x) l lo = cond_both (is_entered_lem m) m (says 32 x own (begun x m)) (λ (y : Round). y.verdict ≡ m.verdict) (λ _. refl) (λ _. refl)
      keeps_verdict m (hearing w) l lo = hears_cases w m (λ y. y.verdict ≡ m.verdict) refl (λ _. refl)
      keeps_verdict m stepping l lo = (own-steps m).stays lo

pub two_own : (n own : ℕ) (m : Round) → Own (Sound 33 n own) own m (settled (two_steps n own) 5 m)
two_own n own m = rw (two_pass n own m) (own_then (joined 33 n own 1 m (omega arith) (omega arith)) (own_then (joined 33 n own 2 _ (omega arith) (omega arith)) (own_then (seconded 33 n own _) (concluded 33 n own _))))

pub three_own : (n own : ℕ) (m : Round) → Own (Sound 34 n own) own m (settled (three_steps n own) 5 m)
three_own n own m = rw (three_pass n own m) (own_then (joined 34 n own 1 m (omega arith) (omega arith)) (own_then (joined 34 n own 2 _ (omega arith) (omega arith)) (own_then (seconded 34 n own _) (own_then (thirded 34 n own _) (concluded 34 n own _)))))

-- the tags of the two rules are among the three
two_tags : (x : ℕ) → uses basic_tags x ≡ true → (x == 32 || (x == 33 || x == 34)) ≡ true
two_tags x h = ⊎_elim (λ a. or_left (x == 32) (x == 33 || x == 34) a) (λ b. or_right (x == 32) (x == 33 || x == 34) (or_left (x == 33) (x == 34) b)) (or_cases (x == 32) (x == 33) (sym (none_named x) ∙ h))

three_tags : (x : ℕ) → uses (with_tag basic_tags 34) x ≡ true → (x == 32 || (x == 33 || x == 34)) ≡ true
three_tags x h = ⊎_elim (two_tags x) (λ b. or_right (x == 32) (x == 33 || x == 34) (or_right (x == 33) (x == 34) (and_parts (is_set_tag x) (x == 34) b).1)) (or_cases (uses basic_tags x) (is_set_tag x && x == 34) (sym (one_more 0 34 x (omega arith)) ∙ h))

pub two_sound : (n own : ℕ) {m : Round} → Reached two_phase n own m → Sound 33 n own m
two_sound n own = sound basic_tags 33 n own (lit< tt) two_steps two_tags (two_own n own)

pub three_sound : (n own : ℕ) {m : Round} → Reached three_phase n own m → Sound 34 n own m
three_sound n own = sound (with_tag basic_tags 34) 34 n own (lit< tt) three_steps three_tags (three_own n own)

pub two_keeps : Keeps two_phase
two_keeps n own li low = laws basic_tags 33 n own (lit< tt) two_steps two_tags (two_own n own)

pub three_keeps : Keeps three_phase
three_keeps n own li low = laws (with_tag basic_tags 34) 34 n own (lit< tt) three_steps three_tags (three_own n own)

pub either_keeps : (third : Bool) → Keeps (acts_of third)
either_keeps true = three_keeps
either_keeps false = two_keeps
