-- A ballot that no step applies to stays so where it is told the same of. Assumes nothing.
use Rattle.std.proofs.Common.{◌≡◌, ℕ, zero, suc, ◌+◌, ◌<◌, ◌≤◌, ⊎_elim, Bool, false, nat_le, nat_lt, List, [], ◌∷◌, get_or, Option, sym, ap, ap₂, ◌∙◌, subst, arith}
use Rattle.std.proofs.lemmas.Bool.{and_left, lt-leb, cases_eq}
use Rattle.basis.specs.Steps.{Step, Idle}
use Rattle.ballots.specs.Ballots.{may_go, face, verdict_at}
use Rattle.ballots.specs.Listed.{Taking, each, openers, repropose, ruling, sharing, going, later_steps, listed_steps}
use Rattle.ballots.proofs.Listing.{each_idle}
use Rattle.ballots.specs.States.{Opened, BallotState, place}
use Rattle.coins.specs.Coins.{Acts as Coin-acts}
use Rattle.openings.specs.Openings.{opening_steps}
use Rattle.rules.specs.Laws.{Acts}
use Rattle.rules.specs.Rounds.{Round, cleared, bit_if_any}

module _ {M : Type 0} where
  each_parts : (f : ℕ → Step M) (u r : ℕ) (rest : List (Step M)) (x : M) → Idle (each f u r rest) x → ((i : ℕ) → r ≤ i → i < r + u → (f i).applies x ≡ false) × Idle rest x
  each_parts f zero r rest x idle = (λ i lo hi. absurd (omega arith), idle)
  each_parts f (suc u) r rest x idle =
      let p = each_parts f u (suc r) rest x idle.1 in
      (λ i lo hi. ⊎_elim (λ here. subst (λ (j : ℕ). (f j).applies x ≡ false) (sym here) idle.0) (λ ne. p.0 i (omega arith) (omega arith)) (cases_eq i r), p.1)

module _ {C : Type 0} where
  openers_parts : (ts : List (Step Round)) (rest : List (Step (Taking C))) (x : Taking C) → Idle (openers ts rest) x → Idle ts x.state.ballot.opening × Idle rest x
  openers_parts [] rest x idle = (tt, idle)
  openers_parts (t ∷ ts) rest x idle = let p = openers_parts ts rest x idle.1 in ((idle.0, p.0), p.1)

  openers_whole : (ts : List (Step Round)) (rest : List (Step (Taking C))) (x : Taking C) → Idle ts x.state.ballot.opening → Idle rest x → Idle (openers ts rest) x
  openers_whole [] rest x i idle = idle
  openers_whole (t ∷ ts) rest x i idle = (i.0, openers_whole ts rest x i.1 idle)

module _ {C : Type 0} (a : Acts) (b : Coin-acts C) (n own k : ℕ) where
  -- a ballot that is told the same of stays without a step, with both markers at the last round
  module _ (d : Bool) (x : Taking C) (s : BallotState C) (ballot : s.ballot ≡ x.state.ballot)
      (rounds : (r : ℕ) → r < 15 → get_or s.rounds (place k r) cleared ≡ get_or x.state.rounds (place k r) cleared)
      (shown : (r : ℕ) → r < 15 → b.shown s.coin k (suc r) ≡ b.shown x.state.coin k (suc r)) where
    abbrev ended : Taking C
    ended = record { state = s; called = 15; passed = 15 }

    goes_same : (i : ℕ) → i < 16 → (going a b n own k i).applies ended ≡ (going a b n own k i).applies x
    goes_same zero lt = ap (λ (o : Opened). may_go 0 o.opening.verdict 2 o) ballot
    goes_same (suc r) lt =
        ap (λ (o : Opened). may_go (suc r) (verdict_at a b n own k (suc r) s) (face a b n own k (suc r) s) o) ballot
        ∙ ap₂ (λ (m : Round) (c : Option Bool). may_go (suc r) m.verdict (bit_if_any c) x.state.ballot) (rounds r (omega arith)) (shown r (omega arith))

    pub idle_stays : Idle (listed_steps a b n own k d) x → Idle (listed_steps a b n own k d) ended
    unfolding listed_steps
    idle_stays idle =
        let goes = each (going a b n own k) 16 0 [] in
        let shares = each (sharing a b n own k) 15 0 goes in
        let p = openers_parts (repropose own d ∷ opening_steps n own) (later_steps a b n own k) x idle in
        let q = each_parts (ruling a b n own k) 15 0 shares x p.1 in
        let r = each_parts (sharing a b n own k) 15 0 goes x q.1 in
        let o = each_parts (going a b n own k) 16 0 [] x r.1 in
        openers_whole (repropose own d ∷ opening_steps n own) (later_steps a b n own k) ended (subst (λ (y : Opened). Idle (repropose own d ∷ opening_steps n own) y.opening) (sym ballot) p.0)
        (each_idle (ruling a b n own k) 15 0 shares ended (λ i lo hi. and_left (nat_le 15 i) (nat_lt i s.ballot.stage) (lt-leb 15 i (omega arith)))
        (each_idle (sharing a b n own k) 15 0 goes ended (λ i lo hi. and_left (nat_le 15 i) _ (lt-leb 15 i (omega arith)))
        (each_idle (going a b n own k) 16 0 [] ended (λ i lo hi. goes_same i (omega arith) ∙ o.0 i lo hi) tt)))
