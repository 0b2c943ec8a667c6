-- What the listed steps of a ballot keep: its proposal, and the rounds and shown bits of other ballots. Assumes nothing.
use Rattle.std.proofs.Common.{◌≡◌, ℕ, zero, suc, ◌+◌, ◌<◌, ◌≤◌, Bool, true, false, cond, List, [], ◌∷◌, get_or, set, Some, None, Option, nat_lt, nat_le, eqb, refl, sym, ◌∙◌, arith, get_or-set_other}
use Rattle.std.proofs.lemmas.Bool.{cond_both, and_left, ne_eqb, leb-true, ltb-true}
use Rattle.basis.specs.Halls.{largest}
use Rattle.basis.specs.Steps.{Step, stepped, settled}
use Rattle.coins.specs.Coins.{Acts as Coin-acts, Keeps as CoinKeeps, Takes}
use Rattle.coins.specs.declared.share.Share.{Share}
use Rattle.openings.specs.Openings.{opening_steps}
use Rattle.phases.specs.Steps.{says}
use Rattle.rules.specs.Laws.{Acts}
use Rattle.rules.specs.Rounds.{Round, cleared, voted}
use Rattle.ballots.specs.States.{Opened, place}
use Rattle.ballots.specs.Ballots.{went_on, share_due, said_share, due_by, face, verdict_at, next_bit, entered_later, may_go, may_share}
use Rattle.ballots.specs.Listed.{Taking, each, reopened, with_state, openers, repropose, ruling, sharing, going, later_steps, listed_steps}

module _ {M : Type 0} (P : M → Type 0) where
  -- what holds of a state holds after each step
  abbrev pub Keep : List (Step M) → Type 0
  Keep [] = Unit {0}
  Keep (s ∷ ss) = ((x : M) → P x → P (s.leaves x)) × Keep ss

  pub kept_stepped : (ss : List (Step M)) (x : M) → Keep ss → P x → P (stepped ss x)
  kept_stepped [] x k p = p
  kept_stepped (s ∷ ss) x k p = cond_both (s.applies x) (s.leaves x) (stepped ss x) P (λ _. k.0 x p) (λ _. kept_stepped ss x k.1 p)

  pub kept_settled : (ss : List (Step M)) (fuel : ℕ) (x : M) → Keep ss → P x → P (settled ss fuel x)
  unfolding settled
  kept_settled ss zero x k p = p
  kept_settled ss (suc fuel) x k p = kept_settled ss fuel (stepped ss x) k (kept_stepped ss x k p)

  pub keep_each : (f : ℕ → Step M) (u r : ℕ) (rest : List (Step M)) → ((i : ℕ) → i < r + u → (x : M) → P x → P ((f i).leaves x)) → Keep rest → Keep (each f u r rest)
  keep_each f zero r rest h k = k
  keep_each f (suc u) r rest h k = (h r (omega arith), keep_each f u (suc r) rest (λ i lt. h i (omega arith)) k)

module _ {C : Type 0} (P : Taking C → Type 0) where
  -- what holds of a ballot holds after each step of its opening round
  abbrev pub OpeningsKeep : List (Step Round) → Type 0
  OpeningsKeep [] = Unit {0}
  OpeningsKeep (t ∷ ts) = ((x : Taking C) → P x → P (with_state (reopened (t.leaves x.state.ballot.opening) x.state) x)) × OpeningsKeep ts

  pub keep_openers : (ts : List (Step Round)) (rest : List (Step (Taking C))) → OpeningsKeep ts → Keep P rest → Keep P (openers ts rest)
  keep_openers [] rest o k = k
  keep_openers (t ∷ ts) rest o k = (o.0, keep_openers ts rest o.1 k)

module _ {C : Type 0} (a : Acts) (b : Coin-acts C) (n own k : ℕ) where
  -- the proposal of the ballot stays
  module _ (e : ℕ) where
    abbrev pub Proposes : Taking C → Type 0
    Proposes x = x.state.ballot.opening.entered ≡ e

    pub proposal_kept : (d : Bool) → Keep Proposes (listed_steps a b n own k d)
    unfolding listed_steps
    proposal_kept d = keep_openers Proposes (repropose own d ∷ opening_steps n own) (later_steps a b n own k) (
      (λ x p. p),
      (
        (λ x p. p),
        (
          (λ x p. let m : Round = says 32 2 own x.state.ballot.opening in cond_both (voted 33 own m) m (says 33 2 own m) (λ (y : Round). y.entered ≡ e) (λ _. p) (λ _. p)),
          ((λ x p. p), ((λ x p. p), ((λ x p. p), tt))),
        ),
      ),
    )
        (keep_each Proposes (ruling a b n own k) 15 0 (each (sharing a b n own k) 15 0 (each (going a b n own k) 16 0 [])) (λ i lt x p. p)
        (keep_each Proposes (sharing a b n own k) 15 0 (each (going a b n own k) 16 0 []) (λ i lt x p. p)
        (keep_each Proposes (going a b n own k) 16 0 []
        (λ i lt x p. let s = x.state in
        cond_both (may_go i (verdict_at a b n own k i s) (face a b n own k i s) s.ballot) (went_on (verdict_at a b n own k i s) (face a b n own k i s) s.ballot) s.ballot (λ (o : Opened). o.opening.entered ≡ e) (λ _. p) (λ _. p))
        tt)))

-- when a share is due
due_facts : (u : Bool) (t w : Option ℕ) (v : ℕ) → cond u (due_by t w) None ≡ Some v → (u ≡ true) × (t ≡ None) × (v ≤ 250)
due_facts false t w v e = cc
due_facts true None None v e = cc
due_facts true None (Some x) v e = cond_both (nat_le x 250) (Some x) None (λ (o : Option ℕ). o ≡ Some v → (◌≡◌ {A = Bool} true true) × (◌≡◌ {A = Option ℕ} None None) × (v ≤ 250))
    (λ h q. let z : x ≡ v = cc in let le = leb-true x 250 h in (refl, refl, omega arith)) (λ _ q. cc) e
due_facts true (Some x) w v e = cc

module _ {C : Type 0} (a : Acts) (b : Coin-acts C) (n own m : ℕ) where
  -- what the steps of ballot m keep: the coin is sound, and the rounds and the shown bits of the other ballots are as they were
  pub record Others (ms : List Round) (c : C) (ms' : List Round) (c' : C) : Type 0 where
    pub sound : b.sound c'
    pub rounds : (l r : ℕ) → (l ≡ m → ⊥) → r < 15 → get_or ms' (place l r) cleared ≡ get_or ms (place l r) cleared
    pub shown : (l r : ℕ) → (l ≡ m → ⊥) → l < largest → r < 15 → b.shown c' l (suc r) ≡ b.shown c l (suc r)

  module _ (keeps : CoinKeeps b) (own_small : own < largest) (small : m < largest) (ms : List Round) (c : C) where
    abbrev pub OthersKept : Taking C → Type 0
    OthersKept x = Others ms c x.state.rounds x.state.coin

    -- one round of ballot m is written
    writes : (xs : List Round) (y : Round) (d : C) (r : ℕ) → r < 15 → Others ms c xs d → Others ms c (set xs (place m r) y) d
    writes xs y d r lt p = record {
      sound = p.sound;
      rounds = λ l q ne lq. get_or-set_other xs (place m r) (place l q) y cleared (λ e. ne (omega arith)) ∙ p.rounds l q ne lq;
      shown = p.shown;
    }

    -- a share of ballot m is said
    says_share : (xs : List Round) (d : C) (r : ℕ) (o : Option ℕ) → r < 15 → share_due b own m r d ≡ o → Others ms c xs d → Others ms c xs (said_share b own m r o d)
    says_share xs d r None lt e p = p
    says_share xs d r (Some v) lt e p =
        let f = due_facts b.uses (b.taken_of d m (suc r) own) (b.own d m (suc r)) v e in
        let s : Share = record { ballot = m; round = suc r; sender = own; value = v } in
        let takes : Takes b d s = record { used = f.0; sound = p.sound; lawful = record { tossed = record { ballot_below = small; round_from = omega arith; round_to = omega arith }; sender_below = own_small; value_to = f.2 }; new = f.1 } in
        record {
          sound = keeps.stays_sound d s takes;
          rounds = p.rounds;
          shown = λ l q ne low lq. keeps.shown_elsewhere d s takes l (suc q) (record { ballot_below = low; round_from = omega arith; round_to = omega arith }) (and_left (eqb m l) (eqb (suc r) (suc q)) (ne_eqb m l (λ z. ne (sym z)))) ∙ p.shown l q ne low lq;
        }

    pub others_kept : (d : Bool) → Keep OthersKept (listed_steps a b n own m d)
    unfolding listed_steps
    others_kept d = keep_openers OthersKept (repropose own d ∷ opening_steps n own) (later_steps a b n own m)
        ((λ x p. p), ((λ x p. p), ((λ x p. p), ((λ x p. p), ((λ x p. p), ((λ x p. p), tt))))))
        (keep_each OthersKept (ruling a b n own m) 15 0 (each (sharing a b n own m) 15 0 (each (going a b n own m) 16 0 []))
        (λ i lt x p. let s = x.state in let y = a.steps n own (get_or s.rounds (place m i) cleared) in
        cond_both (nat_lt i s.ballot.stage) (set s.rounds (place m i) y) s.rounds (λ (xs : List Round). Others ms c xs s.coin) (λ _. writes s.rounds y s.coin i (omega arith) p) (λ _. p))
        (keep_each OthersKept (sharing a b n own m) 15 0 (each (going a b n own m) 16 0 [])
        (λ i lt x p. let s = x.state in
        cond_both (may_share b own m i s.ballot.stage (verdict_at a b n own m (suc i) s)) (said_share b own m i (share_due b own m i s.coin) s.coin) s.coin (λ (z : C). Others ms c s.rounds z)
        (λ _. says_share s.rounds s.coin i (share_due b own m i s.coin) (omega arith) refl p) (λ _. p))
        (keep_each OthersKept (going a b n own m) 16 0 []
        (λ i lt x p.
        let s = x.state in
        let v = verdict_at a b n own m i s in
        let f = face a b n own m i s in
        let y = a.enter n own (next_bit v f) (get_or s.rounds (place m i) cleared) in
        cond_both (may_go i v f s.ballot) (entered_later a n own m i (next_bit v f) s.rounds) s.rounds (λ (xs : List Round). Others ms c xs s.coin)
        (λ _. cond_both (nat_lt i 15) (set s.rounds (place m i) y) s.rounds (λ (xs : List Round). Others ms c xs s.coin) (λ h. writes s.rounds y s.coin i (ltb-true i 15 h) p) (λ _. p)) (λ _. p))
        tt)))
