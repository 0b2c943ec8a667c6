-- The one-shot rule keeps what every rule keeps. Assumes nothing.
use Rattle.std.specs.Prelude.{◌≡◌, ℕ, ◌<◌, ◌≤◌, Bool, true, false, cond, ◌&&◌, ◌⊎◌, ◌==◌, nat_le, refl}
use Rattle.std.proofs.Common.{sym, ap, ◌∙◌, subst, inl, inr, ⊎_elim, arith, lit<}
use Rattle.std.proofs.lemmas.Bool.{eqb-true, ne_eqb, leb-true, cond_both, cond-true, cond-false, and_parts, or_left, or_cases, false≢true}
use Rattle.basis.specs.Counts.{count}
use Rattle.basis.specs.Halls.{quorum}
use Rattle.basis.proofs.Counts.{count_mono}
use Rattle.rules.specs.Rounds.{Round, Vote, is_new}
use Rattle.rules.specs.Laws.{Single, Deed, entering, hearing, stepping, act, Lawful, Reached, clear, did, OwnDeed, Laws, Keeps}
use Rattle.rule_tests.specs.OneShot.{last, with_vote, with_bit, with_verdict, started, settled_on, found_lem, one_shot}

-- a vote of the round with one more is an old one, or that one
added : (t v j : ℕ) (m : Round) (t' v' j' : ℕ) → (with_vote t v j m).votes t' v' j' ≡ true → (m.votes t' v' j' ≡ true) ⊎ ((t' ≡ t) × (v' ≡ v) × (j' ≡ j))
added t v j m t' v' j' h = ⊎_elim inl (λ new.
    let a = and_parts (t' == t) (v' == v && j' == j) new in
    let b = and_parts (v' == v) (j' == j) a.1 in
    inr (eqb-true t' t a.0, eqb-true v' v b.0, eqb-true j' j b.1)) (or_cases _ _ h)

-- what holds of every round: one's own votes name the entered bit, and a verdict has its quorums
pub record Sound (n own : ℕ) (m : Round) : Type 0 where
  pub mine : (t v : ℕ) → m.votes t v own ≡ true → (m.entered ≡ v) × (0 < m.entered)
  pub small : m.verdict < 3
  pub firsts : (x : ℕ) → 0 < x → m.verdict ≡ x → quorum n ≤ count n (m.votes 32 x)
  pub finals : (x : ℕ) → 0 < x → m.verdict ≡ x → quorum n ≤ count n (m.votes last x)

module _ (n own : ℕ) where
  more : (m m' : Round) → ((t v j : ℕ) → m.votes t v j ≡ true → m'.votes t v j ≡ true) → (t x : ℕ) → quorum n ≤ count n (m.votes t x) → quorum n ≤ count n (m'.votes t x)
  more m m' g t x h = let c = count_mono n (m.votes t x) (m'.votes t x) (g t x) in omega arith

  grown : (m m' : Round) → ((t v j : ℕ) → m.votes t v j ≡ true → m'.votes t v j ≡ true) → m'.verdict ≡ m.verdict → ((t v : ℕ) → m'.votes t v own ≡ true → (m'.entered ≡ v) × (0 < m'.entered)) → Sound n own m → Sound n own m'
  grown m m' g e k h = record {
    mine = k;
    small = (let q = h.small in omega arith);
    firsts = λ x lo q. more m m' g 32 x (h.firsts x lo (sym e ∙ q));
    finals = λ x lo q. more m m' g last x (h.finals x lo (sym e ∙ q));
  }

  stays : (own x : ℕ) (m : Round) (t v j : ℕ) → m.votes t v j ≡ true → (started own x m).votes t v j ≡ true
  stays own x m t v j h = or_left _ _ (or_left _ _ h)

  entered_sound : (x : ℕ) (m : Round) → Single x → m.entered ≡ 0 → Sound n own m → Sound n own (started own x m)
  entered_sound x m s z h = grown m (started own x m) (stays own x m) refl
      (λ t v y. ⊎_elim (λ o. ⊎_elim (λ old. absurd (let w = (h.mine t v old).1 in omega arith)) (λ new. (sym new.1, s.0)) (added 32 x own (with_bit x m) t v own o)) (λ new. (sym new.1, s.0)) (added last x own (with_vote 32 x own (with_bit x m)) t v own y)) h

  heard_sound : (w : Vote) (m : Round) → (w.sender ≡ own → ⊥) → Sound n own m → Sound n own (with_vote w.tag w.set w.sender m)
  heard_sound w m other h = grown m (with_vote w.tag w.set w.sender m) (λ t v j y. or_left _ _ y) refl
      (λ t v y. ⊎_elim (h.mine t v) (λ new. absurd (other (sym new.2))) (added w.tag w.set w.sender m t v own y)) h

  counted : (m : Round) (x : ℕ) → settled_on n m x ≡ true → (quorum n ≤ count n (m.votes 32 x)) × (quorum n ≤ count n (m.votes last x))
  counted m x h = let p = and_parts (nat_le (quorum n) (count n (m.votes 32 x))) _ h in (leb-true _ _ p.0, leb-true _ _ p.1)

  found_sound : (m : Round) → Sound n own m → Sound n own (with_verdict (found_lem n m) m)
  found_sound m h = go (settled_on n m 1) (settled_on n m 2) refl refl
    where
      ended : (v : ℕ) → v < 3 → (0 < v → (quorum n ≤ count n (m.votes 32 v)) × (quorum n ≤ count n (m.votes last v))) → Sound n own (with_verdict v m)
      ended v l k = record { mine = h.mine; small = l; firsts = λ x lo q. subst (λ (y : ℕ). quorum n ≤ count n (m.votes 32 y)) q (k (omega arith)).0; finals = λ x lo q. subst (λ (y : ℕ). quorum n ≤ count n (m.votes last y)) q (k (omega arith)).1 }

      go : (a b : Bool) → settled_on n m 1 ≡ a → settled_on n m 2 ≡ b → Sound n own (with_verdict (cond a 1 (cond b 2 0)) m)
      go true b e f = ended 1 (omega arith) (λ _. counted m 1 e)
      go false true e f = ended 2 (omega arith) (λ _. counted m 2 f)
      go false false e f = ended 0 (omega arith) (λ lo. absurd (omega arith))

  pub sound : {m : Round} → Reached one_shot n own m → Sound n own m
  sound clear = record { mine = λ t v y. absurd (false≢true y); small = lit< tt; firsts = λ x lo q. absurd (omega arith); finals = λ x lo q. absurd (omega arith) }
  sound (did {m} h (entering x) l) = cond_both (m.entered == 0) (started own x m) m (Sound n own) (λ _. entered_sound x m l.0 l.1 (sound h)) (λ _. sound h)
  sound (did {m} h (hearing w) l) = cond_both (is_new w m) (with_vote w.tag w.set w.sender m) m (Sound n own) (λ _. heard_sound w m l.other (sound h)) (λ _. sound h)
  sound (did {m} h stepping l) = cond_both (m.verdict == 0) (with_verdict (found_lem n m) m) m (Sound n own) (λ _. found_sound m (sound h)) (λ _. sound h)

  own_deed : (P : Round → Type 0) (m : Round) (d : Deed) → OwnDeed d → P m → ((x : ℕ) → P (started own x m)) → P (with_verdict (found_lem n m) m) → P (act one_shot n own d m)
  own_deed P m (entering x) o same enter step = cond_both (m.entered == 0) (started own x m) m P (λ _. enter x) (λ _. same)
  own_deed P m (hearing w) o same enter step = absurd o
  own_deed P m stepping o same enter step = cond_both (m.verdict == 0) (with_verdict (found_lem n m) m) m P (λ _. step) (λ _. same)

  pub laws : Laws one_shot n own
  laws = record {
    final_above_first = lit< tt;
    says_one_a_tag = λ m h t v w lt x y. sym ((sound h).mine t v x).0 ∙ ((sound h).mine t w y).0;
    hearing_adds_the_vote = λ m h w au new t v j. ap (λ (y : Round). y.votes t v j) (cond-true (is_new w m) _ _ new);
    others_change_nothing = λ m h w au old. cond-false (is_new w m) _ _ old;
    votes_stay = λ m h d o l t v j x. own_deed (λ y. y.votes t v j ≡ true) m d o x (λ y. stays own y m t v j x) x;
    only_own_votes = λ m h d o l t v j. own_deed (λ y. y.votes t v j ≡ true → (m.votes t v j ≡ true) ⊎ (j ≡ own)) m d o inl
        (λ x y. ⊎_elim (λ o'. ⊎_elim inl (λ new. inr new.2) (added 32 x own (with_bit x m) t v j o')) (λ new. inr new.2) (added last x own (with_vote 32 x own (with_bit x m)) t v j y)) inl;
    none_before_entering = λ m h t v x. ((sound h).mine t v x).1;
    entering_sets_the_bit = λ m h x s. bits m x (m.entered == 0);
    entering_again = λ m h x s lo. cond-false (m.entered == 0) (started own x m) m (ne_eqb m.entered 0 (λ z. omega arith));
    hearing_keeps_the_bit = λ m h w au. cond_both (is_new w m) (with_vote w.tag w.set w.sender m) m (λ (y : Round). y.entered ≡ m.entered) (λ _. refl) (λ _. refl);
    steps_keep_the_bit = λ m h. cond_both (m.verdict == 0) (with_verdict (found_lem n m) m) m (λ (y : Round). y.entered ≡ m.entered) (λ _. refl) (λ _. refl);
    first_vote_has_a_ground = λ m h x s y. inl ((sound h).mine 32 x y).0;
    verdict_is_a_set = λ m h. let q = (sound h).small in omega arith;
    verdict_stays = λ m h d l lo. keeps m d l lo;
    verdict_has_first_votes = λ m h x s k. ⊎_elim (λ q. (sound h).firsts x s.0 q) (λ q. absurd (let z = (sound h).small in omega arith)) k;
    one_bit_has_final_votes = λ m h x s q. (sound h).finals x s.0 q;
  }
    where
      bits : (m : Round) (x : ℕ) (b : Bool) → (cond b (started own x m) m).entered ≡ cond b x m.entered
      bits m x true = refl
      bits m x false = refl

      keeps : (m : Round) (d : Deed) → Lawful one_shot n own m d → 0 < m.verdict → (act one_shot n own d m).verdict ≡ m.verdict
      keeps m (entering x) l lo = cond_both (m.entered == 0) (started own x m) m (λ (y : Round). y.verdict ≡ m.verdict) (λ _. refl) (λ _. refl)
      keeps m (hearing w) l lo = cond_both (is_new w m) (with_vote w.tag w.set w.sender m) m (λ (y : Round). y.verdict ≡ m.verdict) (λ _. refl) (λ _. refl)
      keeps m stepping l lo = cond_both (m.verdict == 0) (with_verdict (found_lem n m) m) m (λ (y : Round). y.verdict ≡ m.verdict) (λ z. absurd (let q = eqb-true m.verdict 0 z in omega arith)) (λ _. refl)

pub one_shot_keeps : Keeps one_shot
one_shot_keeps n own li low = laws n own
