-- The steps of a ballot in their listed order come to the same as going through its rounds. Assumes nothing.
use Rattle.std.proofs.Common.{◌≡◌, ℕ, zero, suc, ◌+◌, ◌<◌, ◌≤◌, ◌*◌, ◌-◌, ⊎_elim, Bool, true, false, ◌&&◌, List, [], ◌∷◌, nat_le, nat_lt, is_some, refl, sym, ap, ap₂, ◌∙◌, subst, arith}
use Rattle.std.proofs.lemmas.Bool.{cond-true, cases_Bool, cases_lt, cases_eq, cond_both, and_left, and_right, and_from, lt-leb, le-leb, le-ltb, lt-ltb}
use Rattle.basis.specs.Steps.{Step, stepped, taking, Idle}
use Rattle.rules.specs.Rounds.{Round}
use Rattle.rules.specs.Laws.{Acts}
use Rattle.coins.specs.Coins.{Acts as Coin-acts}
use Rattle.openings.specs.Openings.{opening_steps, opening_settled}
use Rattle.ballots.specs.States.{Opened, BallotState}
use Rattle.ballots.specs.Ballots.{may_share, share_due, went_on, face, verdict_at, ruled, shared, gone_on, later_settled}
use Rattle.ballots.specs.Listed.{Taking, each, reopened, ruling, sharing, going, later_steps, listed_steps, all_taken, repropose, ListedOrder}
use Rattle.ballots.proofs.Listing.{each_skipped, each_idle, each_first, Ends, ends_idle, ends_turn, ends_within, Keep, keep_each, ends_opened}
use Rattle.ballots.proofs.Sweeps.{due_in, goes_from, shared_still, gone_still, gone_elsewhere, not_due, ruled_elsewhere, entered_elsewhere, ruled_from, shared_from, couples, ruled_ballot, shared_ballot, coupled, swept, swept_still}
use Rattle.ballots.proofs.Reproposing.{opening_all, all_idle}

module _ {C : Type 0} (a : Acts) (b : Coin-acts C) (n own k : ℕ) where
  abbrev at : BallotState C → ℕ → ℕ → Taking C
  at s c p = record { state = s; called = c; passed = p }

  abbrev listed : List (Step (Taking C))
  listed = later_steps a b n own k

  abbrev goes : List (Step (Taking C))
  goes = each (going a b n own k) 16 0 []

  abbrev shares : List (Step (Taking C))
  shares = each (sharing a b n own k) 15 0 goes

  -- whether a share is to be said, by the stage, the verdict and the coin
  abbrev due_of : ℕ → ℕ → ℕ → C → Bool
  due_of r stage v c = may_share b own k r stage v && is_some (share_due b own k r c)

  -- no round from suc c on is entered
  abbrev Full : ℕ → BallotState C → Type 0
  Full c s = (i : ℕ) → c ≤ i → i < 15 → s.ballot.stage ≤ i

  -- no share of the rounds from suc p to c is to be said
  abbrev Quiet : ℕ → ℕ → BallotState C → Type 0
  Quiet p c s = (i : ℕ) → p ≤ i → i < c → due_in a b n own k i s ≡ false

  -- where the rule has been called in all entered rounds, it is not called
  ruling_off : (s : BallotState C) (c p i : ℕ) → Full c s → i < 15 → (ruling a b n own k i).applies (at s c p) ≡ false
  ruling_off s c p i full lt = ⊎_elim
      (λ below. and_left (nat_le c i) (nat_lt i s.ballot.stage) (lt-leb c i below))
      (λ above. and_right (nat_le c i) (nat_lt i s.ballot.stage) (le-ltb i s.ballot.stage (full i above lt)))
      (cases_lt i c)

  sharing_off : (s : BallotState C) (c p i : ℕ) → Full c s → Quiet p c s → i < 15 → (sharing a b n own k i).applies (at s c p) ≡ false
  sharing_off s c p i full quiet lt = ⊎_elim
      (λ below. and_left (nat_le p i) (due_in a b n own k i s) (lt-leb p i below))
      (λ above. and_right (nat_le p i) (due_in a b n own k i s) (⊎_elim (λ l. quiet i above l) (λ h. not_due a b n own k i s (full i h lt)) (cases_lt i c)))
      (cases_lt i p)

  -- the rule is called in the lowest round that it was not called in
  ruling_turn : (s : BallotState C) (c p : ℕ) → c < s.ballot.stage → c < 15 → stepped listed (at s c p) ≡ at (ruled a b n own k c s) (suc c) p
  ruling_turn s c p lt lo = each_first (ruling a b n own k) 15 0 c shares (at s c p) (omega arith) (omega arith)
      (λ j l h. and_left (nat_le c j) (nat_lt j s.ballot.stage) (lt-leb c j h))
      (and_from (nat_le c c) (nat_lt c s.ballot.stage) (le-leb c c (omega arith)) (lt-ltb c s.ballot.stage lt))

  sharing_turn : (s : BallotState C) (c p r : ℕ) → Full c s → r < 15 → p ≤ r → Quiet p r s → due_in a b n own k r s ≡ true → stepped listed (at s c p) ≡ at (shared a b n own k r s) c (suc r)
  sharing_turn s c p r full lt le quiet due =
      each_skipped (ruling a b n own k) 15 0 shares (at s c p) (λ i l h. ruling_off s c p i full (omega arith))
      ∙ each_first (sharing a b n own k) 15 0 r goes (at s c p) (omega arith) (omega arith)
      (λ j l h. ⊎_elim (λ below. and_left (nat_le p j) (due_in a b n own k j s) (lt-leb p j below)) (λ above. and_right (nat_le p j) (due_in a b n own k j s) (quiet j above h)) (cases_lt j p))
      (and_from (nat_le p r) (due_in a b n own k r s) (le-leb p r le) due)

  going_turn : (s : BallotState C) (c p q : ℕ) → Full c s → Quiet p c s → q < 16 → s.ballot.stage ≡ q → goes_from a b n own k q s ≡ true → stepped listed (at s c p) ≡ at (gone_on a b n own k q s) c p
  going_turn s c p q full quiet lt e on =
      each_skipped (ruling a b n own k) 15 0 shares (at s c p) (λ i l h. ruling_off s c p i full (omega arith))
      ∙ each_skipped (sharing a b n own k) 15 0 goes (at s c p) (λ i l h. sharing_off s c p i full quiet (omega arith))
      ∙ each_first (going a b n own k) 16 0 q [] (at s c p) (omega arith) (omega arith) (λ j l h. gone_elsewhere a b n own k j s (λ z. omega arith)) on

  none_left : (s : BallotState C) (c p : ℕ) → Full c s → Quiet p c s → ((i : ℕ) → i < 16 → goes_from a b n own k i s ≡ false) → Idle listed (at s c p)
  none_left s c p full quiet off =
      each_idle (ruling a b n own k) 15 0 shares (at s c p) (λ i l h. ruling_off s c p i full (omega arith))
      (each_idle (sharing a b n own k) 15 0 goes (at s c p) (λ i l h. sharing_off s c p i full quiet (omega arith))
      (each_idle (going a b n own k) 16 0 [] (at s c p) (λ i l h. off i (omega arith)) tt))

  -- the rule in all entered rounds
  rules_taken : (u c e p w v : ℕ) (s y : BallotState C) → e ≡ c + u → e ≤ s.ballot.stage → e ≤ 15 → u + w ≤ v → Ends listed w (at (ruled_from a b n own k u c s) e p) y → Ends listed v (at s c p) y
  rules_taken zero c e p w v s y q le lo t h = ends_within listed w v (at s c p) y (omega arith) (subst (λ (i : ℕ). Ends listed w (at s i p) y) (let z : e ≡ c = omega arith in z) h)
  rules_taken (suc u) c e p w v s y q le lo t h =
      ends_turn listed (u + w) v (at s c p) (at (ruled a b n own k c s) (suc c) p) y (omega arith) (ruling_turn s c p (omega arith) (omega arith))
      (rules_taken u (suc c) e p w (u + w) (ruled a b n own k c s) y (omega arith) le lo (omega arith) h)

  -- then the shares in all of them
  shares_taken : (u r c p w v : ℕ) (s y : BallotState C) → c ≡ r + u → c ≤ 15 → p ≤ r → Full c s → Quiet p r s → u + w ≤ v →
      ((p' : ℕ) → p' ≤ c → Quiet p' c (shared_from a b n own k u r s) → Ends listed w (at (shared_from a b n own k u r s) c p') y) → Ends listed v (at s c p) y
  shares_taken zero r c p w v s y q lo le full quiet t h =
      ends_within listed w v (at s c p) y (omega arith) (h p (omega arith) (λ i l m. quiet i l (omega arith)))
  shares_taken (suc u) r c p w v s y q lo le full quiet t h = ⊎_elim
      (λ due. ends_turn listed (u + w) v (at s c p) (at (shared a b n own k r s) c (suc r)) y (omega arith) (sharing_turn s c p r full (omega arith) le quiet due)
      (shares_taken u (suc r) c (suc r) w (u + w) (shared a b n own k r s) y (omega arith) lo (omega arith) full (λ i l m. absurd (omega arith)) (omega arith) h))
      (λ off. shares_taken u (suc r) c p w v s y (omega arith) lo (omega arith) full
      (λ i l m. ⊎_elim (λ below. quiet i l below) (λ above. subst (λ (j : ℕ). due_in a b n own k j s ≡ false) (let z : r ≡ i = omega arith in z) off) (cases_lt i r))
      (omega arith)
      (subst (λ (t : BallotState C). (p' : ℕ) → p' ≤ c → Quiet p' c (shared_from a b n own k u (suc r) t) → Ends listed w (at (shared_from a b n own k u (suc r) t) c p') y) (shared_still a b n own k r s off) h))
      (cases_Bool (due_in a b n own k r s))

  -- what is quiet stays so by the rule's steps in other rounds, and by going on
  quiet_ruled : (u q r p : ℕ) (s : BallotState C) → r ≤ q → Quiet p r s → Quiet p r (ruled_from a b n own k u q s)
  quiet_ruled zero q r p s le quiet = quiet
  quiet_ruled (suc u) q r p s le quiet = quiet_ruled u (suc q) r p (ruled a b n own k q s) (omega arith)
      (λ i l m. ap (λ (x : Round). due_of i s.ballot.stage x.verdict s.coin) (ruled_elsewhere a b n own k q i s (λ e. omega arith)) ∙ quiet i l m)

  quiet_gone : (q p : ℕ) (s : BallotState C) → s.ballot.stage ≡ q → Quiet p q s → Quiet p q (gone_on a b n own k q s)
  quiet_gone q p s e quiet i l m =
      let v = verdict_at a b n own k q s in
      let c = face a b n own k q s in
      let further : i < (gone_on a b n own k q s).ballot.stage = cond_both (goes_from a b n own k q s) (went_on v c s.ballot) s.ballot (λ (o : Opened). i < o.stage) (λ _. omega arith) (λ _. omega arith) in
      ap₂ (λ (t : Bool) (x : Round). (t && nat_lt 0 x.verdict) && is_some (share_due b own k i s.coin))
      (lt-ltb i (gone_on a b n own k q s).ballot.stage further ∙ sym (lt-ltb i s.ballot.stage (omega arith)))
      (entered_elsewhere a b n own k q i s (λ z. omega arith))
      ∙ quiet i l m

  gone_stage : (q : ℕ) (s : BallotState C) → s.ballot.stage ≡ q → goes_from a b n own k q s ≡ true → (gone_on a b n own k q s).ballot.stage ≡ suc q
  gone_stage q s e on = ap (λ (o : Opened). o.stage) (cond-true (goes_from a b n own k q s) (went_on (verdict_at a b n own k q s) (face a b n own k q s) s.ballot) s.ballot on) ∙ ap suc e

  -- Go on, from the round that the ballot is in, where that applies; and what comes after it
  going_taken : (d q p w : ℕ) (s : BallotState C) → q < 16 → s.ballot.stage ≡ q → p ≤ q → Quiet p q s →
      ((t : BallotState C) → t.ballot.stage ≡ suc q → Quiet p q t → Ends listed w (at t q p) (later_settled a b n own k d q t)) →
      Ends listed (suc w) (at s q p) (later_settled a b n own k d q (gone_on a b n own k q s))
  going_taken d q p w s lt e le quiet next = ⊎_elim
      (λ on. ends_turn listed w (suc w) (at s q p) (at t q p) (later_settled a b n own k d q t) (omega arith) (going_turn s q p q full quiet lt e on) (next t (gone_stage q s e on) (quiet_gone q p s e quiet)))
      (λ off. subst (λ (y : BallotState C). Ends listed (suc w) (at s q p) y)
      (sym (ap (λ (x : BallotState C). later_settled a b n own k d q x) (gone_still a b n own k q s off) ∙ swept_still a b n own k d q s (omega arith)))
      (ends_idle listed (suc w) (at s q p) (none_left s q p full quiet (λ i h. none off i))))
      (cases_Bool (goes_from a b n own k q s))
    where
      t : BallotState C
      t = gone_on a b n own k q s

      full : Full q s
      full i l h = omega arith

      none : goes_from a b n own k q s ≡ false → (i : ℕ) → goes_from a b n own k i s ≡ false
      none off i = ⊎_elim (λ z. subst (λ (j : ℕ). goes_from a b n own k j s ≡ false) (sym z) off) (λ z. gone_elsewhere a b n own k i s (λ y. z (omega arith))) (cases_eq i q)

  -- the rule in all entered rounds, the shares in them, going on, and what comes after that
  round_taken : (d u c p q w v : ℕ) (s : BallotState C) → q < 16 → s.ballot.stage ≡ q → c + u ≡ q → p ≤ c → Quiet p c s → suc (u + (u + w)) ≤ v →
      ((p' : ℕ) (t : BallotState C) → t.ballot.stage ≡ suc q → p' ≤ q → Quiet p' q t → Ends listed w (at t q p') (later_settled a b n own k d q t)) →
      Ends listed v (at s c p) (later_settled a b n own k d q (gone_on a b n own k q (couples a b n own k u c s)))
  round_taken d u c p q w v s lt e up le quiet fits next =
      let y = later_settled a b n own k d q (gone_on a b n own k q (couples a b n own k u c s)) in
      let r = ruled_from a b n own k u c s in
      let z = shared_from a b n own k u c r in
      let in_r : r.ballot.stage ≡ q = ap (λ (o : Opened). o.stage) (ruled_ballot a b n own k u c s) ∙ e in
      let in_z : z.ballot.stage ≡ q = ap (λ (o : Opened). o.stage) (shared_ballot a b n own k u c r) ∙ in_r in
      rules_taken u c q p (u + suc w) v s y (omega arith) (omega arith) (omega arith) (omega arith)
      (shares_taken u c q p (suc w) (u + suc w) r y (omega arith) (omega arith) le (λ i l h. omega arith) (quiet_ruled u c c p s (omega arith) quiet) (omega arith)
      (λ p' l quiet'. subst (λ (x : BallotState C). Ends listed (suc w) (at z q p') (later_settled a b n own k d q (gone_on a b n own k q x))) (coupled a b n own k u c s)
      (going_taken d q p' w z lt in_z l quiet' (λ t st qt. next p' t st l qt))))

  -- so round by round, d of them being left
  rounds_taken : (d u c p q v : ℕ) (s : BallotState C) → q + d ≡ 15 → s.ballot.stage ≡ q → c + u ≡ q → p ≤ c → Quiet p c s → u + u + 2 * d + suc d ≤ v →
      Ends listed v (at s c p) (later_settled a b n own k d q (gone_on a b n own k q (couples a b n own k u c s)))
  unfolding later_settled
  rounds_taken zero u c p q v s left e up le quiet fits = round_taken 0 u c p q 0 v s (omega arith) e up le quiet (omega arith)
      (λ p' t st l qt. ends_idle listed 0 (at t q p') (none_left t q p' (λ i m h. omega arith) qt (λ i h. gone_elsewhere a b n own k i t (λ z. omega arith))))
  rounds_taken (suc d) u c p q v s left e up le quiet fits = round_taken (suc d) u c p q (1 + 1 + 2 * d + suc d) v s (omega arith) e up le quiet (omega arith)
      (λ p' t st l qt. rounds_taken d 1 q p' (suc q) (1 + 1 + 2 * d + suc d) t (omega arith) st (omega arith) l qt (omega arith))

  -- a ballot that has gone on from all rounds: u and one more are all of them
  finished_taken : (u : ℕ) (s : BallotState C) → u ≡ 14 → 16 ≤ s.ballot.stage → Ends listed 46 (at s 0 0) (later_settled a b n own k 15 0 (gone_on a b n own k 0 s))
  unfolding later_settled
  finished_taken u s e past =
      let r = ruled_from a b n own k (suc u) 0 s in
      let z = shared_from a b n own k (suc u) 0 r in
      let y = couples a b n own k (suc u) 0 s in
      let in_r : r.ballot.stage ≡ s.ballot.stage = ap (λ (o : Opened). o.stage) (ruled_ballot a b n own k (suc u) 0 s) in
      let in_z : z.ballot.stage ≡ s.ballot.stage = ap (λ (o : Opened). o.stage) (shared_ballot a b n own k (suc u) 0 r) ∙ in_r in
      let same : z ≡ y = coupled a b n own k (suc u) 0 s in
      let in_y : y.ballot.stage ≡ s.ballot.stage = ap (λ (x : BallotState C). x.ballot.stage) (sym same) ∙ in_z in
      let seen : z ≡ later_settled a b n own k 15 0 (gone_on a b n own k 0 s) = same ∙ sym (
      ap (λ (x : BallotState C). later_settled a b n own k 15 0 x) (gone_still a b n own k 0 s (gone_elsewhere a b n own k 0 s (λ h. omega arith)))
      ∙ swept a b n own k u 15 0 0 15 s (omega arith) (omega arith) (omega arith)
      ∙ gone_still a b n own k 15 y (gone_elsewhere a b n own k 15 y (λ h. omega arith))) in
      subst (λ (x : BallotState C). Ends listed 46 (at s 0 0) x) seen
      (rules_taken (suc u) 0 15 0 15 46 s z (omega arith) (omega arith) (omega arith) (omega arith)
      (shares_taken (suc u) 0 15 0 0 15 r z (omega arith) (omega arith) (omega arith) (λ i l h. absurd (omega arith)) (λ i l h. absurd (omega arith)) (omega arith)
      (λ p' l quiet. ends_idle listed 0 (at z 15 p') (none_left z 15 p' (λ i m h. absurd (omega arith)) quiet (λ i h. gone_elsewhere a b n own k i z (λ x. omega arith))))))

  -- all steps but those of the opening round
  later_taken : (q : ℕ) (s : BallotState C) → s.ballot.stage ≡ q → Ends listed 46 (at s 0 0) (later_settled a b n own k 15 0 (gone_on a b n own k 0 s))
  later_taken zero s e = rounds_taken 15 0 0 0 0 46 s (omega arith) e (omega arith) (omega arith) (λ i l h. absurd (omega arith)) (omega arith)
  later_taken (suc q) s e = ⊎_elim
      (λ h. let d = 14 - q in
      let seen : later_settled a b n own k d (suc q) (gone_on a b n own k (suc q) (couples a b n own k (suc q) 0 s)) ≡ later_settled a b n own k 15 0 (gone_on a b n own k 0 s) = sym (
      ap (λ (x : BallotState C). later_settled a b n own k 15 0 x) (gone_still a b n own k 0 s (gone_elsewhere a b n own k 0 s (λ z. omega arith)))
      ∙ swept a b n own k q 15 d 0 (suc q) s (omega arith) (omega arith) (omega arith)) in
      subst (λ (x : BallotState C). Ends listed 46 (at s 0 0) x) seen
      (rounds_taken d (suc q) 0 0 (suc q) 46 s (omega arith) e (omega arith) (omega arith) (λ i l m. absurd (omega arith)) (omega arith)))
      (λ h. finished_taken 14 s refl (omega arith))
      (cases_lt q 15)

  -- none of them changes the opening round
  later_keep : Keep listed
  later_keep = keep_each (ruling a b n own k) 15 0 shares (λ i x. refl)
      (keep_each (sharing a b n own k) 15 0 goes (λ i x. refl)
      (keep_each (going a b n own k) 16 0 []
      (λ i x. let s = x.state in
      cond_both (goes_from a b n own k i s) (went_on (verdict_at a b n own k i s) (face a b n own k i s) s.ballot) s.ballot (λ (o : Opened). o.opening ≡ s.ballot.opening) (λ _. refl) (λ _. refl))
      tt))

pub listed_order : {C : Type 0} (a : Acts) (b : Coin-acts C) → ListedOrder a b
unfolding listed_steps all_taken
listed_order {C = C} a b n own k delivered s =
    let m : Round = opening_settled n own (taking (repropose own delivered) s.ballot.opening) in
    let y : BallotState C = later_settled a b n own k 15 0 (gone_on a b n own k 0 (reopened m s)) in
    ends_opened (repropose own delivered ∷ opening_steps n own) (later_steps a b n own k) 6 46 52 (record { state = s; called = 0; passed = 0 }) y refl (later_keep a b n own k)
    (all_idle n own delivered s.ballot.opening)
    (subst (λ (o : Round). Ends (later_steps a b n own k) 46 (record { state = reopened o s; called = 0; passed = 0 }) y) (sym (opening_all n own delivered s.ballot.opening))
    (later_taken a b n own k s.ballot.stage (reopened m s) refl))
    52 (omega arith)
