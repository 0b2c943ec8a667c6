-- How one round at one replica changes, by the rule's laws and by the opening round. Assumes nothing.
use Rattle.std.proofs.Common.{◌≡◌, ℕ, zero, suc, ◌<◌, ◌≤◌, Bool, true, false, ◌⊎◌, sym, refl, ap, ◌∙◌, subst, inl, inr, ⊎_elim, arith, lit<}
use Rattle.std.proofs.lemmas.Bool.{cases_Bool, or_left}
use Rattle.basis.specs.Counts.{count}
use Rattle.basis.specs.Halls.{quorum}
use Rattle.rules.specs.Rounds.{Round, Vote, is_new}
use Rattle.rules.specs.Laws.{Acts, Single, Audible, Deed, entering, hearing, stepping, act, Lawful, Reached, OwnDeed, Laws}
use Rattle.phases.specs.Steps.{says, hears}
use Rattle.phases.specs.Adding.{says_only, Own, hears_cases}
use Rattle.openings.specs.Openings.{proposed}
use Rattle.ballot_runs.specs.Views.{rule_at}
use Rattle.ballot_runs.specs.Claims.{RoundStays}
use Rattle.ballot_runs.proofs.Opens.{Opened, proposed_cases}
use Rattle.ballot_runs.proofs.Opened.{sound}

abbrev pub vote : ℕ → ℕ → ℕ → Vote
vote t v j = record { tag = t; set = v; sender = j }

-- ok w: this vote may be heard
pub record RoundMoves (own : ℕ) (ok : Vote → Type 0) (m m' : Round) : Type 0 where
  pub stays : RoundStays m m'
  pub only : (t v j : ℕ) → m'.votes t v j ≡ true → (m.votes t v j ≡ true) ⊎ ((j ≡ own) ⊎ ok (vote t v j))

pub moves_none : (own : ℕ) (ok : Vote → Type 0) (m : Round) → RoundMoves own ok m m
moves_none own ok m = record { stays = record { entered = λ _. refl; votes = λ t v j h. h; verdict = λ _. refl }; only = λ t v j h. inl h }

-- a vote that is heard is the only one that is new
heard_only : (own : ℕ) (ok : Vote → Type 0) (w : Vote) (m : Round) → ok w → (t v j : ℕ) → (says w.tag w.set w.sender m).votes t v j ≡ true → (m.votes t v j ≡ true) ⊎ ((j ≡ own) ⊎ ok (vote t v j))
heard_only own ok w m q t v j h = ⊎_elim inl
    (λ new. inr (inr (subst ok (ap (λ (x : ℕ). vote x w.set w.sender) (sym new.0) ∙ ap (λ (x : ℕ). vote t x w.sender) (sym new.1) ∙ ap (λ (x : ℕ). vote t v x) (sym new.2)) q)))
    (says_only w.tag w.set w.sender m t v j h)

-- by the laws of a rule
module _ (a : Acts) (n own : ℕ) (laws : Laws a n own) (ok : Vote → Type 0) (m : Round) (h : Reached a n own m) where
  own_deed_moves : (d : Deed) → OwnDeed d → Lawful a n own m d → (0 < m.entered → (act a n own d m).entered ≡ m.entered) → RoundMoves own ok m (act a n own d m)
  own_deed_moves d o l bit = record {
    stays = record { entered = bit; votes = laws.votes_stay m h d o l; verdict = laws.verdict_stays m h d l };
    only = λ t v j q. ⊎_elim inl (λ mine. inr (inl mine)) (laws.only_own_votes m h d o l t v j q);
  }

  pub enter_moves : (x : ℕ) → Single x → m.entered ≡ 0 → RoundMoves own ok m (a.enter n own x m)
  enter_moves x s z = own_deed_moves (entering x) tt (s, z) (λ lo. absurd (omega arith))

  pub step_moves : RoundMoves own ok m (a.steps n own m)
  step_moves = own_deed_moves stepping tt tt (λ _. laws.steps_keep_the_bit m h)

  pub hear_moves : (w : Vote) → Audible a.tags n own w → ok w → RoundMoves own ok m (a.hear n own w m)
  hear_moves w au q = ⊎_elim new old (cases_Bool (is_new w m))
    where
      old : is_new w m ≡ false → RoundMoves own ok m (a.hear n own w m)
      old off = subst (RoundMoves own ok m) (sym (laws.others_change_nothing m h w au off)) (moves_none own ok m)

      new : is_new w m ≡ true → RoundMoves own ok m (a.hear n own w m)
      new on = record {
        stays = record {
          entered = λ _. laws.hearing_keeps_the_bit m h w au;
          votes = λ t v j y. laws.hearing_adds_the_vote m h w au on t v j ∙ or_left _ _ y;
          verdict = laws.verdict_stays m h (hearing w) au;
        };
        only = λ t v j y. heard_only own ok w m q t v j (sym (laws.hearing_adds_the_vote m h w au on t v j) ∙ y);
      }

-- in the opening round
module _ (own : ℕ) (ok : Vote → Type 0) (m : Round) where
  pub own_moves : {Inv : Round → Type 0} {m' : Round} → Own Inv own m m' → RoundMoves own ok m m'
  own_moves o = record {
    stays = record { entered = λ _. o.bit; votes = o.grows; verdict = o.stays };
    only = λ t v j q. ⊎_elim inl (λ mine. inr (inl mine)) (o.only t v j q);
  }

  pub propose_moves : (x : ℕ) → m.entered ≡ 0 → RoundMoves own ok m (proposed own x m)
  propose_moves x z = proposed_cases own x m (RoundMoves own ok m)
      (record {
        stays = record { entered = λ lo. absurd (omega arith); votes = λ t v j y. or_left _ _ y; verdict = λ _. refl };
        only = λ t v j q. ⊎_elim inl (λ new. inr (inl new.2)) (says_only 32 x own m t v j q);
      })
      (λ _ _. record {
        stays = record { entered = λ lo. absurd (omega arith); votes = λ t v j y. or_left _ _ (or_left _ _ y); verdict = λ _. refl };
        only = λ t v j q. ⊎_elim (λ old. ⊎_elim inl (λ new. inr (inl new.2)) (says_only 32 x own m t v j old)) (λ new. inr (inl new.2)) (says_only 33 2 own (says 32 x own m) t v j q);
      })

  pub hears_moves : (w : Vote) → ok w → RoundMoves own ok m (hears w m)
  hears_moves w q = hears_cases w m (RoundMoves own ok m) (moves_none own ok m)
      (λ _. record { stays = record { entered = λ _. refl; votes = λ t v j y. or_left _ _ y; verdict = λ _. refl }; only = heard_only own ok w m q })

-- the meanings that round r of a ballot can come to; d: whether the slot is delivered
abbrev pub ReachedAt : Acts → ℕ → ℕ → Bool → ℕ → Round → Type 0
ReachedAt a n own d zero m = Opened n own d m
ReachedAt a n own d (suc r) m = Reached a n own m

-- what holds in every round
pub record Facts (final n own : ℕ) (m : Round) : Type 0 where
  pub above : 32 < final
  pub single : (t v w : ℕ) → 32 < t → m.votes t v own ≡ true → m.votes t w own ≡ true → v ≡ w
  pub silent : (t v : ℕ) → m.votes t v own ≡ true → 0 < m.entered
  pub small : m.verdict < 4
  pub backed : (x : ℕ) → Single x → m.verdict ≡ x → quorum n ≤ count n (m.votes final x)

pub facts : (a : Acts) (n own : ℕ) → Laws a n own → (d : Bool) (r : ℕ) (m : Round) → ReachedAt a n own d r m → Facts (rule_at a r).final n own m
facts a n own laws d zero m h = let s = sound n own h in record { above = lit< tt; single = λ t v w. s.base.single t v w own; silent = s.base.silent; small = s.small; backed = s.backed }
facts a n own laws d (suc r) m h = record { above = laws.final_above_first; single = laws.says_one_a_tag m h; silent = laws.none_before_entering m h; small = laws.verdict_is_a_set m h; backed = laws.one_bit_has_final_votes m h }
