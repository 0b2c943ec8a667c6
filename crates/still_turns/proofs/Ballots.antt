-- Ballots that no step changes any more: after their steps they are so, and their steps then change nothing. Assumes nothing.
use Rattle.std.proofs.Common.{◌≡◌, ℕ, zero, suc, ◌+◌, ◌<◌, ◌≤◌, Bool, true, false, cond, ◌&&◌, List, [], ◌∷◌, get_or, set, Some, None, Option, is_some, nat_lt, nat_le, eqb, refl, sym, ap, ap₂, ◌∙◌, subst, ⊎_elim, arith, get_or-set_same}
use Rattle.std.proofs.lemmas.Bool.{cond-true, cond-false, cond_both, cases_Bool, cases_eq, lt-ltb, ltb-true, leb-true, eqb-true, eq-eqb, and_parts, and_from, and_right, false≢true}
use Rattle.std.proofs.lemmas.List.{set-get_or}
use Rattle.basis.specs.Halls.{largest}
use Rattle.basis.specs.Steps.{Step, Idle}
use Rattle.coins.specs.Coins.{Acts as Coin-acts, Keeps as CoinKeeps, Takes, Tossed, is_for}
use Rattle.coins.specs.declared.share.Share.{Share}
use Rattle.rules.specs.Rounds.{Round, Vote, cleared, bit_if_any}
use Rattle.rules.specs.Laws.{Acts, Reached, Laws}
use Rattle.openings.specs.Openings.{opening_steps}
use Rattle.ballots.specs.States.{Opened, BallotState, place, round_at}
use Rattle.ballots.specs.Ballots.{due_by, share_due, said_share, may_share, may_go, went_on, face, verdict_at, ruled, shared, gone_on, round_settled, later_settled, ballot_settled}
use Rattle.ballots.specs.Listed.{Taking, each, reopened, openers, repropose, reproposed, ruling, sharing, going, later_steps, listed_steps, all_taken, ballot_taken}
use Rattle.ballots.proofs.Listing.{idle_settled}
use Rattle.ballots.proofs.Order.{listed_order}
use Rattle.ballots.proofs.Sweeps.{due_in, goes_from, shared_still, gone_still, ruled_elsewhere, entered_elsewhere}
use Rattle.vote_turns.proofs.Known.{CoinMoves}
use Rattle.vote_turns.proofs.Pieces.{none_some}
use Rattle.vote_turns.proofs.Parts.{Ready, ready_after, round_read, reproposing, opening_stepped, opening_part_steps, ruled_part, shared_part, gone_part}

-- what is idle of steps by rounds, and of steps of the opening round before others
each_idle : {M : Type 0} (f : ℕ → Step M) (u r : ℕ) (rest : List (Step M)) (x : M) → Idle (each f u r rest) x → ((i : ℕ) → r ≤ i → i < r + u → (f i).applies x ≡ false) × Idle rest x
each_idle f zero r rest x idle = (λ i lo hi. absurd (omega arith), idle)
each_idle f (suc u) r rest x idle =
    let p = each_idle f u (suc r) rest x idle.1 in
    (λ i lo hi. ⊎_elim (λ here. subst (λ (j : ℕ). (f j).applies x ≡ false) (sym here) idle.0) (λ ne. p.0 i (omega arith) (omega arith)) (cases_eq i r), p.1)

openers_idle : {C : Type 0} (ts : List (Step Round)) (rest : List (Step (Taking C))) (x : Taking C) → Idle (openers ts rest) x → Idle ts x.state.ballot.opening × Idle rest x
openers_idle [] rest x idle = (tt, idle)
openers_idle (t ∷ ts) rest x idle = let p = openers_idle ts rest x idle.1 in ((idle.0, p.0), p.1)

-- of a share that is taken none is due any more
none_due : (u : Bool) (v : ℕ) (w : Option ℕ) → is_some (cond u (due_by (Some v) w) None) ≡ false
none_due true v w = refl
none_due false v w = refl

-- when a share is due
due_facts : (u : Bool) (t w : Option ℕ) (v : ℕ) → cond u (due_by t w) None ≡ Some v → (u ≡ true) × (t ≡ None) × (v ≤ 250)
due_facts false t w v e = absurd (none_some v refl e)
due_facts true None None v e = absurd (none_some v refl e)
due_facts true None (Some x) v e = cond_both (nat_le x 250) (Some x) None (λ (o : Option ℕ). o ≡ Some v → (◌≡◌ {A = Bool} true true) × (◌≡◌ {A = Option ℕ} None None) × (v ≤ 250))
    (λ h q. let z : x ≡ v = cc in let le = leb-true x 250 h in (refl, refl, omega arith)) (λ _ q. absurd (none_some v refl q)) e
due_facts true (Some x) w v e = absurd (none_some v refl e)

-- a share that is due where more may be taken was due before
due_before : (u : Bool) (t t' w w' : Option ℕ) → ((v : ℕ) → t ≡ Some v → t' ≡ Some v) → w' ≡ w → is_some (cond u (due_by t' w') None) ≡ true → is_some (cond u (due_by t w) None) ≡ true
due_before u None None w w' more same h = subst (λ (z : Option ℕ). is_some (cond u (due_by None z) None) ≡ true) same h
due_before u None (Some x) w w' more same h = absurd (false≢true (sym (none_due u x w') ∙ h))
due_before u (Some x) t' w w' more same h = absurd (false≢true (sym (none_due u x w') ∙ subst (λ (z : Option ℕ). is_some (cond u (due_by z w') None) ≡ true) (more x refl) h))

module _ {C : Type 0} (a : Acts) (b : Coin-acts C) (n own k : ℕ) where
  -- a later round that its steps do not change, and in which no share is due
  pub record RoundDone (q : ℕ) (s : BallotState C) : Type 0 where
    pub ruled : q < s.ballot.stage → a.steps n own (get_or s.rounds (place k q) cleared) ≡ get_or s.rounds (place k q) cleared
    pub due : due_in a b n own k q s ≡ false

  -- a ballot in which no step is left
  pub record BallotDone (d : Bool) (s : BallotState C) : Type 0 where
    pub opening : Idle (repropose own d ∷ opening_steps n own) s.ballot.opening
    pub rounds : (q : ℕ) → q < 15 → RoundDone q s
    pub gone : (r : ℕ) → r < 16 → goes_from a b n own k r s ≡ false

  -- its steps change nothing
  module _ (d : Bool) (s : BallotState C) (x : BallotDone d s) where
    ruled_same : (r : ℕ) → r < 15 → ruled a b n own k r s ≡ s
    ruled_same r lt = ap (λ (ms : List Round). record { ballot = s.ballot; rounds = ms; coin = s.coin })
        (cond_both (nat_lt r s.ballot.stage) (set s.rounds (place k r) (a.steps n own (get_or s.rounds (place k r) cleared))) s.rounds (λ (ms : List Round). ms ≡ s.rounds)
        (λ h. ap (set s.rounds (place k r)) ((x.rounds r lt).ruled (ltb-true r s.ballot.stage h)) ∙ set-get_or s.rounds (place k r) cleared) (λ _. refl))

    round_same : (r : ℕ) → r < 15 → round_settled a b n own k r s ≡ s
    round_same r lt =
        ap (λ (t : BallotState C). gone_on a b n own k (suc r) (shared a b n own k r t)) (ruled_same r lt)
        ∙ ap (λ (t : BallotState C). gone_on a b n own k (suc r) t) (shared_still a b n own k r s (x.rounds r lt).due)
        ∙ gone_still a b n own k (suc r) s (x.gone (suc r) (omega arith))

    later_same : (u r : ℕ) → r + u ≤ 15 → later_settled a b n own k u r s ≡ s
    unfolding later_settled
    later_same zero r le = refl
    later_same (suc u) r le = ap (λ (t : BallotState C). later_settled a b n own k u (suc r) t) (round_same r (omega arith)) ∙ later_same u (suc r) (omega arith)

    settled_same : ballot_settled a b n own k s ≡ s
    settled_same =
        ap (λ (m : Round). later_settled a b n own k 15 0 (gone_on a b n own k 0 (reopened m s))) (idle_settled (opening_steps n own) 5 s.ballot.opening x.opening.1)
        ∙ ap (λ (t : BallotState C). later_settled a b n own k 15 0 t) (gone_still a b n own k 0 s (x.gone 0 (omega arith)))
        ∙ later_same 15 0 (omega arith)

    pub taken_same : ballot_taken a b n own k d s ≡ s
    taken_same = (listed_order a b n own k d s).0
        ∙ ap (λ (m : Round). ballot_settled a b n own k (reopened m s)) (cond-false ((repropose own d).applies s.ballot.opening) ((repropose own d).leaves s.ballot.opening) s.ballot.opening x.opening.0)
        ∙ settled_same

  module _ (laws : Laws a n own) (keeps : CoinKeeps b) (own_small : own < largest) (small : k < largest) (ok : ℕ → Vote → Type 0) (okc : ℕ → ℕ → ℕ → ℕ → Type 0) where
    tossed : (r : ℕ) → r < 15 → Tossed k (suc r)
    tossed r lt = record { ballot_below = small; round_from = omega arith; round_to = omega arith }

    -- a round that is done stays so while it stays as it is and the coin takes more in
    pub done_kept : (q : ℕ) → q < 15 → (s t : BallotState C) → round_at k (suc q) t ≡ round_at k (suc q) s → (q < t.ballot.stage → q < s.ballot.stage) → CoinMoves b own okc s.coin t.coin → RoundDone q s → RoundDone q t
    done_kept q lt s t same le moves x = record {
      ruled = λ l. subst (λ (m : Round). a.steps n own m ≡ m) (sym same) (x.ruled (le l));
      due = ⊎_elim (λ on. absurd (false≢true (sym x.due ∙ due_back on))) (λ off. off) (cases_Bool (due_in a b n own k q t));
    }
      where
        due_back : due_in a b n own k q t ≡ true → due_in a b n own k q s ≡ true
        due_back on =
            let p = and_parts (may_share b own k q t.ballot.stage (verdict_at a b n own k (suc q) t)) (is_some (share_due b own k q t.coin)) on in
            let r = and_parts (nat_lt q t.ballot.stage) (nat_lt 0 (verdict_at a b n own k (suc q) t)) p.0 in
            and_from (may_share b own k q s.ballot.stage (verdict_at a b n own k (suc q) s)) (is_some (share_due b own k q s.coin))
            (and_from (nat_lt q s.ballot.stage) (nat_lt 0 (verdict_at a b n own k (suc q) s)) (lt-ltb q s.ballot.stage (le (ltb-true q t.ballot.stage r.0))) (subst (λ (m : Round). nat_lt 0 m.verdict ≡ true) same r.1))
            (due_before b.uses (b.taken_of s.coin k (suc q) own) (b.taken_of t.coin k (suc q) own) (b.own s.coin k (suc q)) (b.own t.coin k (suc q))
            (λ v e. moves.taken k (suc q) own (tossed q lt) own_small v e) (moves.fixed k (suc q) (tossed q lt)) p.1)

    -- so does a ballot of which the same is told
    pub ballot_kept : (d d' : Bool) (s t : BallotState C) → d' ≡ d → t.ballot ≡ s.ballot →
        ((r : ℕ) → r < 15 → get_or t.rounds (place k r) cleared ≡ get_or s.rounds (place k r) cleared) →
        ((r : ℕ) → r < 15 → b.shown t.coin k (suc r) ≡ b.shown s.coin k (suc r)) → CoinMoves b own okc s.coin t.coin → BallotDone d s → BallotDone d' t
    ballot_kept d d' s t same ballot rounds shown moves x = record {
      opening = subst (λ (z : Bool). Idle (repropose own z ∷ opening_steps n own) t.ballot.opening) (sym same) (subst (λ (o : Opened). Idle (repropose own d ∷ opening_steps n own) o.opening) (sym ballot) x.opening);
      rounds = λ q lt. done_kept q lt s t (rounds q lt) (λ l. subst (λ (o : Opened). q < o.stage) ballot l) moves (x.rounds q lt);
      gone = gone;
    }
      where
        gone : (r : ℕ) → r < 16 → goes_from a b n own k r t ≡ false
        gone zero lt = ap (λ (o : Opened). may_go 0 o.opening.verdict 2 o) ballot ∙ x.gone 0 lt
        gone (suc r) lt =
            ap (λ (o : Opened). may_go (suc r) (verdict_at a b n own k (suc r) t) (face a b n own k (suc r) t) o) ballot
            ∙ ap₂ (λ (m : Round) (c : Option Bool). may_go (suc r) m.verdict (bit_if_any c) s.ballot) (rounds r (omega arith)) (shown r (omega arith))
            ∙ x.gone (suc r) lt

    module _ (d : Bool) where
      abbrev ReadyIn : BallotState C → Type 0
      ReadyIn s = Ready a b n own k laws keeps own_small small ok okc d s

      -- once the own share of a round is said, if it is due, it is done
      shared_done : (r : ℕ) → r < 15 → (s : BallotState C) → ReadyIn s → (r < s.ballot.stage → a.steps n own (get_or s.rounds (place k r) cleared) ≡ get_or s.rounds (place k r) cleared) → RoundDone r (shared a b n own k r s)
      shared_done r lt s rd fixed = record {
        ruled = fixed;
        due = ⊎_elim (λ on. said on) (λ off. subst (λ (t : BallotState C). due_in a b n own k r t ≡ false) (sym (shared_still a b n own k r s off)) off) (cases_Bool (due_in a b n own k r s));
      }
        where
          may : Bool
          may = may_share b own k r s.ballot.stage (verdict_at a b n own k (suc r) s)

          said : due_in a b n own k r s ≡ true → due_in a b n own k r (shared a b n own k r s) ≡ false
          said on = go (share_due b own k r s.coin) refl p.1
            where
              p : (may ≡ true) × (is_some (share_due b own k r s.coin) ≡ true)
              p = and_parts may (is_some (share_due b own k r s.coin)) on

              go : (o : Option ℕ) → share_due b own k r s.coin ≡ o → is_some o ≡ true → due_in a b n own k r (shared a b n own k r s) ≡ false
              go None e h = absurd (false≢true h)
              go (Some v) e h =
                  let f = due_facts b.uses (b.taken_of s.coin k (suc r) own) (b.own s.coin k (suc r)) v e in
                  let sh : Share = record { ballot = k; round = suc r; sender = own; value = v } in
                  let takes : Takes b s.coin sh = record { used = f.0; sound = rd.coin; lawful = record { tossed = tossed r lt; sender_below = own_small; value_to = f.2 }; new = f.1 } in
                  let c : C = (shared a b n own k r s).coin in
                  let coin_is : c ≡ b.taken s.coin sh = cond-true may (said_share b own k r (share_due b own k r s.coin) s.coin) s.coin p.0 ∙ ap (λ (o : Option ℕ). said_share b own k r o s.coin) e in
                  let here : (is_for sh k (suc r) && eqb own own) ≡ true = and_from (is_for sh k (suc r)) (eqb own own) (and_from (eqb k k) (eqb (suc r) (suc r)) (eq-eqb k k refl) (eq-eqb (suc r) (suc r) refl)) (eq-eqb own own refl) in
                  let there : b.taken_of c k (suc r) own ≡ Some v = ap (λ (z : C). b.taken_of z k (suc r) own) coin_is ∙ keeps.adds_one s.coin sh takes k (suc r) own (tossed r lt) own_small ∙ cond-true (is_for sh k (suc r) && eqb own own) (Some v) (b.taken_of s.coin k (suc r) own) here in
                  and_right may (is_some (share_due b own k r c)) (ap (λ (o : Option ℕ). is_some (cond b.uses (due_by o (b.own c k (suc r))) None)) there ∙ none_due b.uses v (b.own c k (suc r)))

      module _ (settle : (m : Round) → Reached a n own m → a.steps n own (a.steps n own m) ≡ a.steps n own m) where
        -- after the rule's steps its steps change nothing
        ruled_fixed : (r : ℕ) → r < 15 → (s : BallotState C) → ReadyIn s → r < s.ballot.stage →
            a.steps n own (get_or (ruled a b n own k r s).rounds (place k r) cleared) ≡ get_or (ruled a b n own k r s).rounds (place k r) cleared
        ruled_fixed r lt s rd entered =
            let m : Round = get_or s.rounds (place k r) cleared in
            let reached : Reached a n own m = subst (Reached a n own) (round_read a b n own k laws keeps own_small small ok okc d s (suc r) (omega arith)) (rd.well.grounded.reached (suc r)) in
            let here : get_or (ruled a b n own k r s).rounds (place k r) cleared ≡ a.steps n own m =
            ap (λ (ms : List Round). get_or ms (place k r) cleared) (cond-true (nat_lt r s.ballot.stage) (set s.rounds (place k r) (a.steps n own m)) s.rounds (lt-ltb r s.ballot.stage entered))
            ∙ get_or-set_same s.rounds (place k r) (a.steps n own m) cleared (let h = rd.room in omega arith) in
            ap (a.steps n own) here ∙ settle m reached ∙ sym here

        -- going through the rounds from suc r on, with those before it done, leaves all of them done
        later_done : (u r : ℕ) → r + u ≤ 15 → (s : BallotState C) → ReadyIn s → ((q : ℕ) → q < r → RoundDone q s) → (q : ℕ) → q < r + u → RoundDone q (later_settled a b n own k u r s)
        unfolding later_settled
        later_done zero r le s rd past q lt = past q (omega arith)
        later_done (suc u) r le s rd past q lt =
            let s1 = ruled a b n own k r s in
            let x1 = ruled_part a b n own k laws keeps own_small small ok okc d r (omega arith) s rd in
            let rd1 = ready_after a b n own k laws keeps own_small small ok okc d s s1 rd x1 in
            let s2 = shared a b n own k r s1 in
            let x2 = shared_part a b n own k laws keeps own_small small ok okc d r (omega arith) s1 rd1 in
            let rd2 = ready_after a b n own k laws keeps own_small small ok okc d s1 s2 rd1 x2 in
            let s3 = gone_on a b n own k (suc r) s2 in
            let x3 = gone_part a b n own k laws keeps own_small small ok okc d (suc r) (omega arith) s2 rd2 in
            let rd3 = ready_after a b n own k laws keeps own_small small ok okc d s2 s3 rd2 x3 in
            let v = verdict_at a b n own k (suc r) s2 in
            let c = face a b n own k (suc r) s2 in
            let stage : (i : ℕ) → i ≤ r → i < s3.ballot.stage → i < s2.ballot.stage = λ i li. cond_both (goes_from a b n own k (suc r) s2) (went_on v c s2.ballot) s2.ballot (λ (o : Opened). i < o.stage → i < s2.ballot.stage)
            (λ on l. let at = eqb-true s2.ballot.stage (suc r) (and_parts (eqb s2.ballot.stage (suc r)) (nat_lt 0 v && nat_lt 0 c) on).0 in omega arith) (λ _ l. l) in
            let last : (i : ℕ) → i ≤ r → RoundDone i s2 → RoundDone i s3 = λ i li y. done_kept i (omega arith) s2 s3 (entered_elsewhere a b n own k (suc r) i s2 (λ e. omega arith)) (stage i li) x3.coin y in
            let now : RoundDone r s2 = shared_done r (omega arith) s1 rd1 (λ l. ruled_fixed r (omega arith) s rd l) in
            let before : (i : ℕ) → i < r → RoundDone i s2 = λ i li. done_kept i (omega arith) s1 s2 refl (λ l. l) x2.coin
            (done_kept i (omega arith) s s1 (ruled_elsewhere a b n own k r i s (λ e. omega arith)) (λ l. l) x1.coin (past i li)) in
            later_done u (suc r) (omega arith) s3 rd3
            (λ i li. ⊎_elim (λ e. subst (λ (z : ℕ). RoundDone z s3) (sym e) (last r (omega arith) now)) (λ ne. last i (omega arith) (before i (omega arith))) (cases_eq i r)) q (omega arith)

        settled_done : (s : BallotState C) → ReadyIn s → (q : ℕ) → q < 15 → RoundDone q (ballot_settled a b n own k (reproposed own d s))
        settled_done s rd q lt =
            let s0 = reproposed own d s in
            let rd0 = ready_after a b n own k laws keeps own_small small ok okc d s s0 rd (reproposing a b n own k laws keeps own_small small ok okc d s rd) in
            let s1 = opening_stepped a b n own k laws keeps own_small small ok okc d s0 in
            let rd1 = ready_after a b n own k laws keeps own_small small ok okc d s0 s1 rd0 (opening_part_steps a b n own k laws keeps own_small small ok okc d s0 rd0) in
            let s2 = gone_on a b n own k 0 s1 in
            let rd2 = ready_after a b n own k laws keeps own_small small ok okc d s1 s2 rd1 (gone_part a b n own k laws keeps own_small small ok okc d 0 (omega arith) s1 rd1) in
            later_done 15 0 (omega arith) s2 rd2 (λ i li. absurd (omega arith)) q (omega arith)

        -- after its steps no step of a ballot is left
        pub taken_done : (s : BallotState C) → ReadyIn s → BallotDone d (ballot_taken a b n own k d s)
        unfolding listed_steps
        taken_done s rd =
            let x : Taking C = all_taken a b n own k d s in
            let order = listed_order a b n own k d s in
            let goes = each (going a b n own k) 16 0 [] in
            let shares = each (sharing a b n own k) 15 0 goes in
            let p = openers_idle (repropose own d ∷ opening_steps n own) (later_steps a b n own k) x order.1 in
            let q = each_idle (ruling a b n own k) 15 0 shares x p.1 in
            let r = each_idle (sharing a b n own k) 15 0 goes x q.1 in
            let o = each_idle (going a b n own k) 16 0 [] x r.1 in
            record {
              opening = p.0;
              rounds = λ i lt. subst (RoundDone i) (sym order.0) (settled_done s rd i lt);
              gone = λ i lt. o.0 i (omega arith) (omega arith);
            }
