-- Where all the steps of a ballot change nothing, none of them does. Assumes nothing.
use Rattle.std.proofs.Common.{◌≡◌, ℕ, zero, suc, ◌+◌, ◌<◌, ◌≤◌, Bool, true, false, ◌&&◌, List, set, get_or, Some, None, Option, is_some, nat_lt, nat_le, eqb, refl, sym, ap, ap₂, ◌∙◌, subst, ⊎_elim, arith, get_or-set_same}
use Rattle.std.proofs.lemmas.Bool.{cond-true, cases_eq, cases_lt, lt-ltb, le-leb, eq-eqb, and_from}
use Rattle.basis.specs.Halls.{largest}
use Rattle.basis.specs.Steps.{taking}
use Rattle.coins.specs.Coins.{Acts as Coin-acts, Keeps as CoinKeeps, Takes, Tossed, is_for}
use Rattle.coins.specs.declared.share.Share.{Share}
use Rattle.rules.specs.Rounds.{Round, Vote, cleared}
use Rattle.rules.specs.Laws.{Acts, Laws}
use Rattle.openings.specs.Openings.{opening_settled}
use Rattle.ballots.specs.States.{Opened, BallotState, place}
use Rattle.ballots.specs.Ballots.{due_by, share_due, said_share, may_share, went_on, verdict_at, face as coin_face, ruled, shared, gone_on, later_settled, ballot_settled}
use Rattle.ballots.specs.Listed.{repropose, reproposed, ballot_taken}
use Rattle.ballots.proofs.Sweeps.{goes_from}
use Rattle.ballots.proofs.Order.{listed_order}
use Rattle.ballot_runs.specs.Views.{View, face}
use Rattle.ballot_runs.specs.Claims.{RoundStays, Stays}
use Rattle.vote_turns.proofs.Known.{view_at, CoinMoves, stays_then}
use Rattle.vote_turns.proofs.Pieces.{steps_kept}
use Rattle.vote_turns.proofs.Parts.{Ready, Piece, piece_then, ready_after, round_read, face_read, reproposing, opening_stepped, opening_part_steps, ruled_part, shared_part, gone_part, later_part}

-- two views with the same rounds, coin's bits, decision and delivery
pub record Same (v v' : View) : Type 0 where
  pub rounds : (r : ℕ) → v'.rounds r ≡ v.rounds r
  pub faces : (r : ℕ) → face v' r ≡ face v r
  pub decided : v'.decided ≡ v.decided
  pub delivered : v'.delivered ≡ v.delivered

-- a number that only leaves 0, both ways, and a test that stays true, both ways, are the same
level : (x y : ℕ) → (0 < x → y ≡ x) → (0 < y → x ≡ y) → y ≡ x
level x y to from = ⊎_elim (λ lo. to lo) (λ z. ⊎_elim (λ lo. sym (from lo)) (λ z'. omega arith) (cases_lt 0 y)) (cases_lt 0 x)

same_test : (x y : Bool) → (x ≡ true → y ≡ true) → (y ≡ true → x ≡ true) → y ≡ x
same_test true y to from = to refl
same_test false true to from = sym (from refl)
same_test false false to from = refl

-- what stays both ways is the same
pub same_both : (v v' : View) → Stays v v' → Stays v' v → Same v v'
same_both v v' to from = record {
  rounds = λ r. round_same (v.rounds r) (v'.rounds r) (to.rounds r) (from.rounds r);
  faces = λ r. level (face v r) (face v' r) (to.shown r) (from.shown r);
  decided = level v.decided v'.decided to.decided from.decided;
  delivered = same_test v.delivered v'.delivered to.delivered from.delivered;
}
  where
    round_same : (m m' : Round) → RoundStays m m' → RoundStays m' m → m' ≡ m
    round_same m m' x y = λ i. record {
      entered = level m.entered m'.entered x.entered y.entered i;
      votes = λ t u j. same_test (m.votes t u j) (m'.votes t u j) (x.votes t u j) (y.votes t u j) i;
      verdict = level m.verdict m'.verdict x.verdict y.verdict i;
    }

-- an option in which there is something
pub some_there : {X : Type 0} (o : Option X) → is_some o ≡ true → (x : X) × (o ≡ Some x)
some_there None h = absurd (let z : ◌≡◌ {A = ℕ} 0 1 = cc in omega arith)
some_there (Some x) h = (x, refl)

module _ {C : Type 0} (a : Acts) (b : Coin-acts C) (n own k : ℕ) (laws : Laws a n own) (keeps : CoinKeeps b) (own_small : own < largest) (small : k < largest)
    (ok : ℕ → Vote → Type 0) (okc : ℕ → ℕ → ℕ → ℕ → Type 0) (d : Bool) where
  abbrev view : BallotState C → View
  view s = view_at b k d s

  abbrev ReadyIn : BallotState C → Type 0
  ReadyIn s = Ready a b n own k laws keeps own_small small ok okc d s

  abbrev PieceIn : BallotState C → BallotState C → Type 0
  PieceIn s t = Piece a b n own k laws keeps own_small small ok okc d s t

  ready_then : (s t : BallotState C) → ReadyIn s → PieceIn s t → ReadyIn t
  ready_then s t rd x = ready_after a b n own k laws keeps own_small small ok okc d s t rd x

  piece_stays : (s t : BallotState C) → ReadyIn s → PieceIn s t → Stays (view s) (view t)
  piece_stays s t rd x = (steps_kept a n own ok laws (view s) (view t) rd.well.grounded x.steps).1

  -- what follows a state leads back to it
  pub record Back (s t : BallotState C) : Type 0 where
    pub stays : Stays (view t) (view s)
    pub stage : t.ballot.stage ≤ s.ballot.stage

  -- so it does from all between
  back_first : (s x t : BallotState C) → ReadyIn x → PieceIn x t → Back s t → Back s x
  back_first s x t rd p q = record { stays = stays_then (view x) (view t) (view s) (piece_stays x t rd p) q.stays; stage = (let l = p.later in let m = q.stage in omega arith) }

  back_last : (s x t : BallotState C) → ReadyIn s → PieceIn s x → Back s t → Back x t
  back_last s x t rd p q = record { stays = stays_then (view t) (view s) (view x) q.stays (piece_stays s x rd p); stage = (let l = p.later in let m = q.stage in omega arith) }

  same_back : (s x : BallotState C) → ReadyIn s → PieceIn s x → Back s x → Same (view s) (view x)
  same_back s x rd p q = same_both (view s) (view x) (piece_stays s x rd p) q.stays

  stage_back : (s x : BallotState C) → PieceIn s x → Back s x → x.ballot.stage ≡ s.ballot.stage
  stage_back s x p q = let l = p.later in let m = q.stage in omega arith

  -- the share of round suc q under the own number is there, and stays
  abbrev pub SharedAt : C → ℕ → Type 0
  SharedAt c q = is_some (b.taken_of c k (suc q) own) ≡ true

  tossed : (q : ℕ) → q < 15 → Tossed k (suc q)
  tossed q lt = record { ballot_below = small; round_from = omega arith; round_to = omega arith }

  shared_stays : (c c' : C) → CoinMoves b own okc c c' → (q : ℕ) → q < 15 → SharedAt c q → SharedAt c' q
  shared_stays c c' m q lt h = let x = some_there (b.taken_of c k (suc q) own) h in ap is_some (m.taken k (suc q) own (tossed q lt) own_small x.0 x.1)

  -- so it is once its step is taken, in an entered round with its verdict
  share_there : (r : ℕ) → r < 15 → (s : BallotState C) → ReadyIn s → r < s.ballot.stage → 0 < ((view s).rounds (suc r)).verdict → b.uses ≡ true → (v : ℕ) → b.own s.coin k (suc r) ≡ Some v → SharedAt (shared a b n own k r s).coin r
  share_there r lt s rd en lo u v o =
      subst (λ (c : C). SharedAt c r) (sym (cond-true (may_share b own k r s.ballot.stage (verdict_at a b n own k (suc r) s)) (said_share b own k r (share_due b own k r s.coin) s.coin) s.coin may))
      (go (b.taken_of s.coin k (suc r) own) refl)
    where
      may : may_share b own k r s.ballot.stage (verdict_at a b n own k (suc r) s) ≡ true
      may = and_from (nat_lt r s.ballot.stage) (nat_lt 0 (verdict_at a b n own k (suc r) s)) (lt-ltb r s.ballot.stage en)
          (lt-ltb 0 (verdict_at a b n own k (suc r) s) (subst (λ (m : Round). 0 < m.verdict) (round_read a b n own k laws keeps own_small small ok okc d s (suc r) (omega arith)) lo))

      sh : Share
      sh = record { ballot = k; round = suc r; sender = own; value = v }

      small_value : v ≤ 250
      small_value = keeps.own_lawful s.coin rd.coin k (suc r) (tossed r lt) v o

      go : (t : Option ℕ) → b.taken_of s.coin k (suc r) own ≡ t → SharedAt (said_share b own k r (share_due b own k r s.coin) s.coin) r
      go (Some w) e =
          let due : share_due b own k r s.coin ≡ None = cond-true b.uses (due_by (b.taken_of s.coin k (suc r) own) (b.own s.coin k (suc r))) None u ∙ ap (λ (t : Option ℕ). due_by t (b.own s.coin k (suc r))) e in
          subst (λ (x : Option ℕ). SharedAt (said_share b own k r x s.coin) r) (sym due) (ap is_some e)
      go None e =
          let due : share_due b own k r s.coin ≡ Some v = cond-true b.uses (due_by (b.taken_of s.coin k (suc r) own) (b.own s.coin k (suc r))) None u ∙ ap₂ due_by e o ∙ cond-true (nat_le v 250) (Some v) None (le-leb v 250 small_value) in
          let takes : Takes b s.coin sh = record { used = u; sound = rd.coin; lawful = record { tossed = tossed r lt; sender_below = own_small; value_to = small_value }; new = e } in
          let its : (is_for sh k (suc r) && eqb own own) ≡ true = and_from (is_for sh k (suc r)) (eqb own own) (and_from (eqb k k) (eqb (suc r) (suc r)) (eq-eqb k k refl) (eq-eqb (suc r) (suc r) refl)) (eq-eqb own own refl) in
          subst (λ (x : Option ℕ). SharedAt (said_share b own k r x s.coin) r) (sym due)
          (ap is_some (keeps.adds_one s.coin sh takes k (suc r) own (tossed r lt) own_small ∙ cond-true (is_for sh k (suc r) && eqb own own) (Some v) (b.taken_of s.coin k (suc r) own) its))

  -- a round whose steps change nothing, and that is not to be gone on from; c is the coin after all steps
  pub record RoundRests (s : BallotState C) (c : C) (q : ℕ) : Type 0 where
    pub ruled : q < s.ballot.stage → a.steps n own ((view s).rounds (suc q)) ≡ (view s).rounds (suc q)
    pub gone : s.ballot.stage ≡ suc q → 0 < ((view s).rounds (suc q)).verdict → 0 < face (view s) (suc q) → ⊥
    pub said : q < s.ballot.stage → 0 < ((view s).rounds (suc q)).verdict → b.uses ≡ true → (v : ℕ) → b.own s.coin k (suc q) ≡ Some v → SharedAt c q

  rests_same : (s x : BallotState C) (c : C) → Same (view s) (view x) → x.ballot.stage ≡ s.ballot.stage → (q : ℕ) → b.own x.coin k (suc q) ≡ b.own s.coin k (suc q) → RoundRests x c q → RoundRests s c q
  rests_same s x c e st q f y = record {
    said = λ lt lo u v o. y.said (omega arith) (subst (λ (m : Round). 0 < m.verdict) (sym (e.rounds (suc q))) lo) u v (f ∙ o);
    ruled = λ lt. subst (λ (m : Round). a.steps n own m ≡ m) (e.rounds (suc q)) (y.ruled (omega arith));
    gone = λ z lo sh. y.gone (st ∙ z) (subst (λ (m : Round). 0 < m.verdict) (sym (e.rounds (suc q))) lo) (subst (λ (f : ℕ). 0 < f) (sym (e.faces (suc q))) sh);
  }

  -- going on would lead on
  not_gone : (r : ℕ) → r < 16 → (s : BallotState C) → Back s (gone_on a b n own k r s) → s.ballot.stage ≡ r → 0 < ((view s).rounds r).verdict → 0 < face (view s) r → ⊥
  not_gone r lt s q z lo sh =
      let v = verdict_at a b n own k r s in
      let c = coin_face a b n own k r s in
      let lv : 0 < v = subst (λ (m : Round). 0 < m.verdict) (round_read a b n own k laws keeps own_small small ok okc d s r lt) lo in
      let lc : 0 < c = subst (λ (f : ℕ). 0 < f) (face_read a b n own k laws keeps own_small small ok okc d s r lt) sh in
      let on : goes_from a b n own k r s ≡ true = and_from (eqb s.ballot.stage r) (nat_lt 0 v && nat_lt 0 c) (eq-eqb s.ballot.stage r z) (and_from (nat_lt 0 v) (nat_lt 0 c) (lt-ltb 0 v lv) (lt-ltb 0 c lc)) in
      let e : (gone_on a b n own k r s).ballot.stage ≡ suc s.ballot.stage = ap (λ (o : Opened). o.stage) (cond-true (goes_from a b n own k r s) (went_on v c s.ballot) s.ballot on) in
      let m = q.stage in
      omega arith

  -- the rule's steps in a round
  ruled_same : (r : ℕ) → r < 15 → (s : BallotState C) → ReadyIn s → Same (view s) (view (ruled a b n own k r s)) → r < s.ballot.stage → a.steps n own ((view s).rounds (suc r)) ≡ (view s).rounds (suc r)
  ruled_same r lt s rd e entered =
      let m = a.steps n own (get_or s.rounds (place k r) cleared) in
      let t = ruled a b n own k r s in
      let read : (view s).rounds (suc r) ≡ get_or s.rounds (place k r) cleared = round_read a b n own k laws keeps own_small small ok okc d s (suc r) (omega arith) in
      let new : (view t).rounds (suc r) ≡ m = round_read a b n own k laws keeps own_small small ok okc d t (suc r) (omega arith)
      ∙ ap (λ (ms : List Round). get_or ms (place k r) cleared) (cond-true (nat_lt r s.ballot.stage) (set s.rounds (place k r) m) s.rounds (lt-ltb r s.ballot.stage entered))
      ∙ get_or-set_same s.rounds (place k r) m cleared (let h = rd.room in omega arith) in
      ap (a.steps n own) read ∙ sym new ∙ e.rounds (suc r)

  later_rests : (u r : ℕ) → r + u ≤ 15 → (s : BallotState C) → ReadyIn s → Back s (later_settled a b n own k u r s) → (q : ℕ) → r ≤ q → q < r + u → RoundRests s (later_settled a b n own k u r s).coin q
  unfolding later_settled
  later_rests zero r le s rd back q lo hi = absurd (omega arith)
  later_rests (suc u) r le s rd back q lo hi =
      let s1 = ruled a b n own k r s in
      let x1 = ruled_part a b n own k laws keeps own_small small ok okc d r (omega arith) s rd in
      let rd1 = ready_then s s1 rd x1 in
      let s2 = shared a b n own k r s1 in
      let x2 = shared_part a b n own k laws keeps own_small small ok okc d r (omega arith) s1 rd1 in
      let rd2 = ready_then s1 s2 rd1 x2 in
      let s3 = gone_on a b n own k (suc r) s2 in
      let x3 = gone_part a b n own k laws keeps own_small small ok okc d (suc r) (omega arith) s2 rd2 in
      let rd3 = ready_then s2 s3 rd2 x3 in
      let t = later_settled a b n own k u (suc r) s3 in
      let x4 = later_part a b n own k laws keeps own_small small ok okc d u (suc r) (omega arith) s3 rd3 in
      let y34 = piece_then a b n own k laws keeps own_small small ok okc d s2 s3 t x3 x4 in
      let y24 = piece_then a b n own k laws keeps own_small small ok okc d s1 s2 t x2 y34 in
      let x12 = piece_then a b n own k laws keeps own_small small ok okc d s s1 s2 x1 x2 in
      let x13 = piece_then a b n own k laws keeps own_small small ok okc d s s2 s3 x12 x3 in
      let b1 = back_first s s1 t rd1 y24 back in
      let b2 = back_first s s2 t rd2 y34 back in
      let b3 = back_first s s3 t rd3 x4 back in
      let c2 = back_last s s2 t rd x12 back in
      let c23 = back_first s2 s3 t rd3 x4 c2 in
      let c3 = back_last s s3 t rd x13 back in
      let e2 = same_back s s2 rd x12 b2 in
      let z2 = stage_back s s2 x12 b2 in
      ⊎_elim
      (λ at. subst (RoundRests s t.coin) (sym at) (record {
        ruled = λ lt. ruled_same r (omega arith) s rd (same_back s s1 rd x1 b1) lt;
        said = λ lt lo us v o. shared_stays s2.coin t.coin y34.coin r (omega arith)
            (share_there r (omega arith) s1 rd1 lt (subst (λ (m : Round). 0 < m.verdict) (sym ((same_back s s1 rd x1 b1).rounds (suc r))) lo) us v o);
        gone = λ z v f. not_gone (suc r) (omega arith) s2 c23 (z2 ∙ z) (subst (λ (m : Round). 0 < m.verdict) (sym (e2.rounds (suc r))) v) (subst (λ (f : ℕ). 0 < f) (sym (e2.faces (suc r))) f);
      }))
      (λ ne. rests_same s s3 t.coin (same_back s s3 rd x13 b3) (stage_back s s3 x13 b3) q (x13.coin.fixed k (suc q) (tossed q (omega arith))) (later_rests u (suc r) (omega arith) s3 rd3 c3 q (omega arith) (omega arith)))
      (cases_eq q r)

  -- a ballot at rest, with the coin after all steps
  pub record Rests (s : BallotState C) (c : C) : Type 0 where
    pub again_still : taking (repropose own d) ((view s).rounds 0) ≡ (view s).rounds 0
    pub opening_still : opening_settled n own ((view s).rounds 0) ≡ (view s).rounds 0
    pub opening_gone : s.ballot.stage ≡ 0 → 0 < ((view s).rounds 0).verdict → ⊥
    pub later : (q : ℕ) → q < 15 → RoundRests s c q

  settled_rests : (s : BallotState C) → ReadyIn s → Back s (ballot_settled a b n own k (reproposed own d s)) → Rests s (ballot_settled a b n own k (reproposed own d s)).coin
  settled_rests s rd back =
      let s0 = reproposed own d s in
      let x0 = reproposing a b n own k laws keeps own_small small ok okc d s rd in
      let rd0 = ready_then s s0 rd x0 in
      let s1 = opening_stepped a b n own k laws keeps own_small small ok okc d s0 in
      let x1 = opening_part_steps a b n own k laws keeps own_small small ok okc d s0 rd0 in
      let rd1 = ready_then s0 s1 rd0 x1 in
      let s2 = gone_on a b n own k 0 s1 in
      let x2 = gone_part a b n own k laws keeps own_small small ok okc d 0 (omega arith) s1 rd1 in
      let rd2 = ready_then s1 s2 rd1 x2 in
      let t = later_settled a b n own k 15 0 s2 in
      let x3 = later_part a b n own k laws keeps own_small small ok okc d 15 0 (omega arith) s2 rd2 in
      let y13 = piece_then a b n own k laws keeps own_small small ok okc d s1 s2 t x2 x3 in
      let y03 = piece_then a b n own k laws keeps own_small small ok okc d s0 s1 t x1 y13 in
      let x01 = piece_then a b n own k laws keeps own_small small ok okc d s s0 s1 x0 x1 in
      let x02 = piece_then a b n own k laws keeps own_small small ok okc d s s1 s2 x01 x2 in
      let b0 = back_first s s0 t rd0 y03 back in
      let b1 = back_first s s1 t rd1 y13 back in
      let b2 = back_first s s2 t rd2 x3 back in
      let c1 = back_last s s1 t rd x01 back in
      let c12 = back_first s1 s2 t rd2 x3 c1 in
      let c2 = back_last s s2 t rd x02 back in
      let e0 = same_back s s0 rd x0 b0 in
      let e1 = same_back s s1 rd x01 b1 in
      let e2 = same_back s s2 rd x02 b2 in
      let read = λ (y : BallotState C). round_read a b n own k laws keeps own_small small ok okc d y 0 (omega arith) in
      record {
        again_still = ap (taking (repropose own d)) (read s) ∙ sym (read s0) ∙ e0.rounds 0;
        opening_still = ap (opening_settled n own) (sym (e0.rounds 0) ∙ read s0) ∙ sym (read s1) ∙ e1.rounds 0;
        opening_gone = λ z v. not_gone 0 (omega arith) s1 c12 (stage_back s s1 x01 b1 ∙ z) (subst (λ (m : Round). 0 < m.verdict) (sym (e1.rounds 0)) v) (omega arith);
        later = λ q lt. rests_same s s2 t.coin e2 (stage_back s s2 x02 b2) q (x02.coin.fixed k (suc q) (tossed q lt)) (later_rests 15 0 (omega arith) s2 rd2 c2 q (omega arith) (omega arith));
      }

  pub taken_rests : (s : BallotState C) → ReadyIn s → Back s (ballot_taken a b n own k d s) → Rests s (ballot_taken a b n own k d s).coin
  taken_rests s rd back =
      let e = (listed_order a b n own k d s).0 in
      subst (λ (x : BallotState C). Rests s x.coin) (sym e) (settled_rests s rd (subst (Back s) e back))
