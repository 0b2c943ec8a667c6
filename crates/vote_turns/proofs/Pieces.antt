-- The steps of a ballot, each as small steps of its view, and what each leaves alone. Assumes nothing.
use Rattle.std.proofs.Common.{◌≡◌, ℕ, suc, ◌<◌, true, cond, ◌&&◌, ◌⊎◌, ◌≢◌, Some, None, Option, is_some, eqb, refl, sym, ap, ◌∙◌, subst, inl, inr, ⊎_elim, arith}
use Rattle.std.proofs.lemmas.Bool.{cond_both, cases_eq, eqb-true, and_parts, false≢true}
use Rattle.coins.specs.Coins.{Acts as Coin-acts, Keeps as CoinKeeps, Takes, is_for}
use Rattle.coins.specs.declared.share.Share.{Share}
use Rattle.coins.proofs.Showing.{bits_stay}
use Rattle.rules.specs.Rounds.{Round, Vote}
use Rattle.rules.specs.Laws.{Acts, Laws}
use Rattle.ballot_runs.specs.Views.{View, with_round}
use Rattle.ballot_runs.specs.Claims.{Stays}
use Rattle.ballot_runs.proofs.Moves.{Grounded, moves_step}
use Rattle.ballot_runs.proofs.Several.{Steps, no_step, then_step}
use Rattle.vote_turns.proofs.Known.{Well, CoinMoves, stays_none, stays_then}

pub none_some : {X : Type 0} {o : Option X} (x : X) → o ≡ None → o ≢ Some x
none_some x e h = false≢true (ap is_some (sym e ∙ h))

-- what several small steps keep
pub steps_kept : (a : Acts) (n own : ℕ) (ok : ℕ → Vote → Type 0) → Laws a n own → (v v' : View) → Grounded a n own v → Steps a n own ok v v' → Grounded a n own v' × Stays v v'
steps_kept a n own ok laws v w g no_step = (g, stays_none v)
steps_kept a n own ok laws v w g (then_step {v' = u} st rest) =
    let m = moves_step a n own ok v g laws u st in
    let x = steps_kept a n own ok laws u w m.grounded rest in
    (x.0, stays_then v u w m.stays x.1)

-- a change that keeps what stays, and the bits of the later rounds, keeps what is known
pub well_stays : (a : Acts) (n own : ℕ) (v v' : View) (stage : ℕ) → Well a n own v stage → Grounded a n own v' → Stays v v' → ((r : ℕ) → (v'.rounds (suc r)).entered ≡ (v.rounds (suc r)).entered) → Well a n own v' stage
well_stays a n own v v' stage w g y same = record {
  grounded = g;
  low = w.low;
  entered = λ r lt le. let e = same r in let o = w.entered r lt le in omega arith;
  unentered = λ r lt le. same r ∙ w.unentered r lt le;
  verdicts = λ r lt le. let o = w.verdicts r lt le in let e = (y.rounds r).verdict o in omega arith;
}

pub well_kept : (a : Acts) (n own : ℕ) (ok : ℕ → Vote → Type 0) → Laws a n own → (v v' : View) (stage : ℕ) → Well a n own v stage → Steps a n own ok v v' →
    ((r : ℕ) → (v'.rounds (suc r)).entered ≡ (v.rounds (suc r)).entered) → Well a n own v' stage
well_kept a n own ok laws v v' stage w x same = let y = steps_kept a n own ok laws v v' w.grounded x in well_stays a n own v v' stage w y.0 y.1 same

-- and going on from the round that the ballot is in
pub well_gone : (a : Acts) (n own : ℕ) (ok : ℕ → Vote → Type 0) → Laws a n own → (v v' : View) (r : ℕ) → r < 16 → Well a n own v r → Steps a n own ok v v' →
    0 < (v.rounds r).verdict → (suc r < 16 → 0 < (v'.rounds (suc r)).entered) → ((q : ℕ) → (q ≢ r) → (v'.rounds (suc q)).entered ≡ (v.rounds (suc q)).entered) → Well a n own v' (suc r)
well_gone a n own ok laws v v' r lt w x lo new same =
    let y = steps_kept a n own ok laws v v' w.grounded x in
    record {
      grounded = y.0;
      low = lt;
      entered = λ q sm le. ⊎_elim (λ e. subst (λ (z : ℕ). 0 < (v'.rounds (suc z)).entered) (sym e) (new (omega arith))) (λ ne. let e = same q ne in let o = w.entered q sm (omega arith) in omega arith) (cases_eq q r);
      unentered = λ q sm le. same q (λ e. omega arith) ∙ w.unentered q sm (omega arith);
      verdicts = λ q sm le. ⊎_elim
          (λ e. subst (λ (z : ℕ). 0 < (v'.rounds z).verdict) (sym e) (let h = (y.1.rounds r).verdict lo in omega arith))
          (λ ne. let o = w.verdicts q sm (omega arith) in let e = (y.1.rounds q).verdict o in omega arith) (cases_eq q r);
    }

-- the bits where one round has changed and kept its own
pub round_bits : (v : View) (r : ℕ) (m : Round) → m.entered ≡ (v.rounds r).entered → (q : ℕ) → ((with_round v r m).rounds q).entered ≡ (v.rounds q).entered
round_bits v r m e q = cond_both (eqb q r) m (v.rounds q) (λ (x : Round). x.entered ≡ (v.rounds q).entered) (λ t. e ∙ ap (λ (z : ℕ). (v.rounds z).entered) (sym (eqb-true q r t))) (λ _. refl)

-- a coin that takes one share more
pub coin_takes : {C : Type 0} (b : Coin-acts C) (own : ℕ) (ok : ℕ → ℕ → ℕ → ℕ → Type 0) → CoinKeeps b → (c : C) (s : Share) → Takes b c s → (((s.sender ≡ own) × (b.own c s.ballot s.round ≡ Some s.value)) ⊎ ok s.ballot s.round s.sender s.value) → CoinMoves b own ok c (b.taken c s)
coin_takes b own ok keeps c s t why = record {
  sound = keeps.stays_sound c s t;
  shown = bits_stay b keeps c s t;
  taken = λ k r j to l v e. keeps.adds_one c s t k r j to l ∙ old k r j v e;
  only = λ k r j to l v e. new k r j v (sym (keeps.adds_one c s t k r j to l) ∙ e);
  fixed = λ k r to. keeps.own_fixed c s t k r to;
}
  where
    it : (k r j : ℕ) → (is_for s k r && eqb s.sender j) ≡ true → (s.ballot ≡ k) × (s.round ≡ r) × (s.sender ≡ j)
    it k r j h = let p = and_parts (is_for s k r) (eqb s.sender j) h in let q = and_parts (eqb s.ballot k) (eqb s.round r) p.0 in (eqb-true _ _ q.0, eqb-true _ _ q.1, eqb-true _ _ p.1)

    old : (k r j v : ℕ) → b.taken_of c k r j ≡ Some v → cond (is_for s k r && eqb s.sender j) (Some s.value) (b.taken_of c k r j) ≡ Some v
    old k r j v e = cond_both (is_for s k r && eqb s.sender j) (Some s.value) (b.taken_of c k r j) (λ (o : Option ℕ). o ≡ Some v)
        (λ h. let p = it k r j h in absurd (none_some v (t.new)
        (ap (λ (z : ℕ). b.taken_of c z s.round s.sender) p.0 ∙ ap (λ (z : ℕ). b.taken_of c k z s.sender) p.1 ∙ ap (λ (z : ℕ). b.taken_of c k r z) p.2 ∙ e)))
        (λ _. e)

    value_is : (v : ℕ) → Some s.value ≡ Some v → s.value ≡ v
    value_is v e = cc

    new : (k r j v : ℕ) → cond (is_for s k r && eqb s.sender j) (Some s.value) (b.taken_of c k r j) ≡ Some v → (b.taken_of c k r j ≡ Some v) ⊎ (((j ≡ own) × (b.own c k r ≡ Some v)) ⊎ ok k r j v)
    new k r j v = cond_both (is_for s k r && eqb s.sender j) (Some s.value) (b.taken_of c k r j) (λ (o : Option ℕ). o ≡ Some v → (b.taken_of c k r j ≡ Some v) ⊎ (((j ≡ own) × (b.own c k r ≡ Some v)) ⊎ ok k r j v))
        (λ h e. let p = it k r j h in inr (⊎_elim
        (λ mine. inl (sym p.2 ∙ mine.0, ap (λ (z : ℕ). b.own c z r) (sym p.0) ∙ ap (λ (z : ℕ). b.own c s.ballot z) (sym p.1) ∙ mine.1 ∙ e))
        (λ w. inr (subst (ok k r j) (value_is v e) (subst (λ (z : ℕ). ok k r z s.value) p.2 (subst (λ (z : ℕ). ok k z s.sender s.value) p.1 (subst (λ (z : ℕ). ok z s.round s.sender s.value) p.0 w))))) why))
        (λ _ e. inl e)
