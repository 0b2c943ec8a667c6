-- Each part of taking a ballot's steps, as small steps of its view. Assumes nothing.
use Rattle.std.proofs.Common.{◌≡◌, ℕ, zero, suc, ◌+◌, ◌*◌, ◌<◌, ◌≤◌, Bool, true, false, cond, ◌&&◌, ◌⊎◌, ◌≢◌, List, length, get_or, set, Some, None, Option, nat_lt, nat_le, eqb, refl, sym, ap, ◌∙◌, subst, inl, inr, ⊎_elim, arith, length-set, get_or-set_other, get_or-set_same}
use Rattle.std.proofs.lemmas.Bool.{cond-true, cond_both, cases_Bool, cases_eq, lt-ltb, ltb-true, ltb-false, eqb-true, eq-eqb, ne_eqb, leb-true, and_parts, and_from, and_left, false≢true}
use Rattle.basis.specs.Halls.{largest}
use Rattle.basis.specs.Steps.{taking}
use Rattle.coins.specs.Coins.{Acts as Coin-acts, Keeps as CoinKeeps, Takes, Tossed}
use Rattle.coins.specs.declared.share.Share.{Share}
use Rattle.coins.proofs.Showing.{bits_stay}
use Rattle.rules.specs.Rounds.{Round, Vote, cleared, is_new, bit_if_any}
use Rattle.rules.specs.Laws.{Acts, Single, Audible, Laws}
use Rattle.phases.specs.Steps.{hears, records, says}
use Rattle.openings.specs.Openings.{again, opening_settled}
use Rattle.ballots.specs.States.{Opened, BallotState, place, round_at}
use Rattle.ballots.specs.Ballots.{due_by, share_due, said_share, next_bit, decision, went_on, entered_later, may_share, face as coin_face, verdict_at, ruled, shared, gone_on, later_settled, ballot_settled}
use Rattle.ballots.specs.Listed.{reopened, reproposed, ballot_taken}
use Rattle.ballots.proofs.Sweeps.{goes_from, gone_still}
use Rattle.ballots.proofs.Order.{listed_order}
use Rattle.ballot_runs.specs.Views.{View, face, with_round, OnlyAt, GoesOn, rule_at}
use Rattle.ballot_runs.specs.Runs.{Step, goes_on, says_again, hears_vote, takes_steps, decides, shows}
use Rattle.ballot_runs.proofs.OpeningSteps.{steps_own}
use Rattle.ballot_runs.proofs.Opened.{again_own}
use Rattle.ballot_runs.proofs.Rounds.{facts}
use Rattle.ballot_runs.proofs.Several.{Steps, no_step, then_step, steps_join, view_same, round_changed}
use Rattle.vote_turns.proofs.Known.{view_at, shown_in, Well, CoinMoves, coin_none, coin_then}
use Rattle.vote_turns.proofs.Pieces.{none_some, well_kept, well_gone, coin_takes}

pub bit_small : (o : Option Bool) → bit_if_any o < 3
bit_small None = omega arith
bit_small (Some true) = omega arith
bit_small (Some false) = omega arith

module _ {C : Type 0} (a : Acts) (b : Coin-acts C) (n own k : ℕ) (laws : Laws a n own) (keeps : CoinKeeps b) (own_small : own < largest) (small : k < largest)
    (ok : ℕ → Vote → Type 0) (okc : ℕ → ℕ → ℕ → ℕ → Type 0) (d : Bool) where
  abbrev pub view : BallotState C → View
  view s = view_at b k d s

  -- what is known before a part, and what it then does
  pub record Ready (s : BallotState C) : Type 0 where
    pub well : Well a n own (view s) s.ballot.stage
    pub coin : b.sound s.coin
    pub room : 15 * k + 15 ≤ length s.rounds

  pub record Piece (s s' : BallotState C) : Type 0 where
    pub steps : Steps a n own ok (view s) (view s')
    pub well : Well a n own (view s') s'.ballot.stage
    pub later : s.ballot.stage ≤ s'.ballot.stage
    pub size : length s'.rounds ≡ length s.rounds
    pub apart : (l r : ℕ) → (l ≢ k) → r < 15 → get_or s'.rounds (place l r) cleared ≡ get_or s.rounds (place l r) cleared
    pub proposal : s'.ballot.opening.entered ≡ s.ballot.opening.entered
    pub coin : CoinMoves b own okc s.coin s'.coin
    pub elsewhere : (l r : ℕ) → Tossed l r → (l ≢ k) → b.shown s'.coin l r ≡ b.shown s.coin l r

  abbrev pub Part : (BallotState C → BallotState C) → Type 0
  Part f = (s : BallotState C) → Ready s → Piece s (f s)

  pub piece_none : (s : BallotState C) → Ready s → Piece s s
  piece_none s rd = record { steps = no_step; well = rd.well; later = omega arith; size = refl; apart = λ l r ne lt. refl; proposal = refl; coin = coin_none b own okc s.coin rd.coin; elsewhere = λ l r t ne. refl }

  pub piece_then : (s t u : BallotState C) → Piece s t → Piece t u → Piece s u
  piece_then s t u x y = record {
    steps = steps_join a n own x.steps y.steps;
    well = y.well;
    later = (let p = x.later in let q = y.later in omega arith);
    size = y.size ∙ x.size;
    apart = λ l r ne lt. y.apart l r ne lt ∙ x.apart l r ne lt;
    proposal = y.proposal ∙ x.proposal;
    coin = coin_then b own okc s.coin t.coin u.coin x.coin y.coin;
    elsewhere = λ l r to ne. y.elsewhere l r to ne ∙ x.elsewhere l r to ne;
  }

  pub ready_after : (s t : BallotState C) → Ready s → Piece s t → Ready t
  ready_after s t rd x = record { well = x.well; coin = x.coin.sound; room = (let e = x.size in let h = rd.room in omega arith) }

  pub part_then : (f f' : BallotState C → BallotState C) → Part f → Part f' → Part (λ s. f' (f s))
  part_then f f' p q s rd = let x = p s rd in piece_then s (f s) (f' (f s)) x (q (f s) (ready_after s (f s) rd x))

  -- reading a view
  pub round_read : (s : BallotState C) (r : ℕ) → r < 16 → (view s).rounds r ≡ round_at k r s
  round_read s r lt = cond-true (nat_lt r 16) (round_at k r s) cleared (lt-ltb r 16 lt)

  pub face_read : (s : BallotState C) (r : ℕ) → r < 16 → face (view s) r ≡ coin_face a b n own k r s
  face_read s zero lt = refl
  face_read s (suc r) lt = cond-true _ _ 0 (and_from (nat_lt 0 (suc r)) (nat_lt (suc r) 16) (lt-ltb 0 (suc r) (omega arith)) (lt-ltb (suc r) 16 lt))

  same_rounds : (s t : BallotState C) → t.ballot.opening ≡ s.ballot.opening → t.rounds ≡ s.rounds → (r : ℕ) → (view t).rounds r ≡ (view s).rounds r
  same_rounds s t o e zero = ap (λ (m : Round). cond (nat_lt 0 16) m cleared) o
  same_rounds s t o e (suc r) = ap (λ (ms : List Round). cond (nat_lt (suc r) 16) (get_or ms (place k r) cleared) cleared) e

  -- one round of the ballot written
  written : (o : Opened) (ms : List Round) (c : C) (r : ℕ) (m : Round) → r < 15 → 15 * k + 15 ≤ length ms →
      view (record { ballot = o; rounds = set ms (place k r) m; coin = c }) ≡ with_round (view (record { ballot = o; rounds = ms; coin = c })) (suc r) m
  written o ms c r m lt room = round_changed v v' (suc r) only (λ q. refl) refl refl ∙ ap (with_round v (suc r)) here
    where
      v : View
      v = view (record { ballot = o; rounds = ms; coin = c })

      v' : View
      v' = view (record { ballot = o; rounds = set ms (place k r) m; coin = c })

      only : OnlyAt (suc r) v.rounds v'.rounds
      only zero ne = refl
      only (suc q) ne = ap (λ (x : Round). cond (nat_lt (suc q) 16) x cleared) (get_or-set_other ms (place k r) (place k q) m cleared (λ e. ne (omega arith)))

      here : v'.rounds (suc r) ≡ m
      here = cond-true (nat_lt (suc r) 16) _ cleared (lt-ltb (suc r) 16 (omega arith)) ∙ get_or-set_same ms (place k r) m cleared (omega arith)

  -- the same for the opening round
  pub reopened_view : (m : Round) (s : BallotState C) → view (reopened m s) ≡ with_round (view s) 0 m
  reopened_view m s = round_changed (view s) (view (reopened m s)) 0 only (λ q. refl) refl refl ∙ ap (with_round (view s) 0) (round_read (reopened m s) 0 (omega arith))
    where
      only : OnlyAt 0 (view s).rounds (view (reopened m s)).rounds
      only zero ne = absurd (ne refl)
      only (suc q) ne = refl

  -- a small step that writes a round and keeps its bit
  writes : (s t : BallotState C) (r : ℕ) (m : Round) → view t ≡ with_round (view s) r m → Step a n own ok (view s) (with_round (view s) r m) → ((q : ℕ) → suc q ≡ r → m.entered ≡ ((view s).rounds (suc q)).entered) →
      Ready s → t.ballot.stage ≡ s.ballot.stage → length t.rounds ≡ length s.rounds →
      ((l q : ℕ) → (l ≢ k) → q < 15 → get_or t.rounds (place l q) cleared ≡ get_or s.rounds (place l q) cleared) → t.ballot.opening.entered ≡ s.ballot.opening.entered → t.coin ≡ s.coin → Piece s t
  writes s t r m e st bit rd stage size apart proposal coin = record {
    steps = x;
    well = subst (λ (z : ℕ). Well a n own (view t) z) (sym stage) (well_kept a n own ok laws (view s) (view t) s.ballot.stage rd.well x bits);
    later = omega arith;
    size = size;
    apart = apart;
    proposal = proposal;
    coin = subst (λ (z : C). CoinMoves b own okc s.coin z) (sym coin) (coin_none b own okc s.coin rd.coin);
    elsewhere = λ l q to ne. ap (λ (z : C). b.shown z l q) coin;
  }
    where
      x : Steps a n own ok (view s) (view t)
      x = then_step (subst (Step a n own ok (view s)) (sym e) st) no_step

      bits : (q : ℕ) → ((view t).rounds (suc q)).entered ≡ ((view s).rounds (suc q)).entered
      bits q = ap (λ (z : View). (z.rounds (suc q)).entered) e ∙ cond_both (eqb (suc q) r) m ((view s).rounds (suc q)) (λ (y : Round). y.entered ≡ ((view s).rounds (suc q)).entered) (λ h. bit q (eqb-true (suc q) r h)) (λ _. refl)

  -- the rule's steps in a later round
  pub ruled_part : (r : ℕ) → r < 15 → Part (ruled a b n own k r)
  ruled_part r lt s rd = cond_both (nat_lt r s.ballot.stage) (set s.rounds (place k r) m) s.rounds (λ (ms : List Round). Piece s (record { ballot = s.ballot; rounds = ms; coin = s.coin }))
      (λ _. writes s (record { ballot = s.ballot; rounds = set s.rounds (place k r) m; coin = s.coin }) (suc r) m (written s.ballot s.rounds s.coin r m lt rd.room)
      (subst (λ (y : Round). Step a n own ok (view s) (with_round (view s) (suc r) (a.steps n own y))) read (takes_steps (suc r) (omega arith)))
      (λ q e. subst (λ (z : ℕ). m.entered ≡ ((view s).rounds (suc z)).entered) (let z : r ≡ q = omega arith in z) (subst (λ (y : Round). (a.steps n own y).entered ≡ ((view s).rounds (suc r)).entered) read (laws.steps_keep_the_bit ((view s).rounds (suc r)) (rd.well.grounded.reached (suc r)))))
      rd refl (length-set s.rounds (place k r) m)
      (λ l q ne small. get_or-set_other s.rounds (place k r) (place l q) m cleared (λ e. ne (omega arith))) refl refl)
      (λ _. piece_none s rd)
    where
      m : Round
      m = a.steps n own (get_or s.rounds (place k r) cleared)

      read : (view s).rounds (suc r) ≡ get_or s.rounds (place k r) cleared
      read = round_read s (suc r) (omega arith)

  -- the opening round's steps
  abbrev pub opening_stepped : BallotState C → BallotState C
  opening_stepped s = reopened (opening_settled n own s.ballot.opening) s

  pub opening_part_steps : Part opening_stepped
  opening_part_steps s rd = writes s (opening_stepped s) 0 (opening_settled n own s.ballot.opening) (reopened_view (opening_settled n own s.ballot.opening) s)
      (subst (λ (y : Round). Step a n own ok (view s) (with_round (view s) 0 (opening_settled n own y))) (round_read s 0 (omega arith)) (takes_steps 0 (omega arith)))
      (λ q e. absurd (omega arith)) rd refl refl (λ l q ne lt. refl) (steps_own n own d s.ballot.opening).bit refl

  -- saying the first vote again
  pub reproposing : Part (reproposed own d)
  reproposing s rd = go d refl
    where
      go : (e : Bool) → e ≡ d → Piece s (reproposed own e s)
      go true e = writes s (reproposed own true s) 0 (taking (again own) s.ballot.opening) (reopened_view (taking (again own) s.ballot.opening) s)
          (subst (λ (y : Round). Step a n own ok (view s) (with_round (view s) 0 (taking (again own) y))) (round_read s 0 (omega arith)) (says_again (sym e)))
          (λ q z. absurd (omega arith)) rd refl refl (λ l q ne lt. refl) (again_own n own d (sym e) s.ballot.opening).bit refl
      go false e = piece_none s rd

  -- a vote is heard in the opening round
  pub heard_opening : (s : BallotState C) → Ready s → (w : Vote) → Audible (rule_at a 0).tags n own w → ok 0 w → Piece s (reopened (hears w s.ballot.opening) s)
  heard_opening s rd w au q = writes s (reopened (hears w s.ballot.opening) s) 0 (hears w s.ballot.opening) (reopened_view (hears w s.ballot.opening) s)
      (subst (λ (y : Round). Step a n own ok (view s) (with_round (view s) 0 (hears w y))) (round_read s 0 (omega arith)) (hears_vote 0 w (omega arith) au q))
      (λ p z. absurd (omega arith)) rd refl refl (λ l p ne lt. refl) bit refl
    where
      m : Round
      m = s.ballot.opening

      bit : (hears w m).entered ≡ m.entered
      bit = cond_both (is_new w m) (records w.tag w.set w.sender m) m (λ (y : Round). y.entered ≡ m.entered)
          (λ _. cond_both _ (says w.tag w.set w.sender m) m (λ (y : Round). y.entered ≡ m.entered) (λ _. refl) (λ _. refl)) (λ _. refl)

  -- and in a later round
  pub heard_later : (s : BallotState C) → Ready s → (r : ℕ) → r < 15 → (w : Vote) → Audible a.tags n own w → ok (suc r) w →
      Piece s (record { ballot = s.ballot; rounds = set s.rounds (place k r) (a.hear n own w (get_or s.rounds (place k r) cleared)); coin = s.coin })
  heard_later s rd r lt w au q = writes s (record { ballot = s.ballot; rounds = set s.rounds (place k r) m; coin = s.coin }) (suc r) m (written s.ballot s.rounds s.coin r m lt rd.room)
      (subst (λ (y : Round). Step a n own ok (view s) (with_round (view s) (suc r) (a.hear n own w y))) read (hears_vote (suc r) w (omega arith) au q))
      (λ p e. subst (λ (z : ℕ). m.entered ≡ ((view s).rounds (suc z)).entered) (let z : r ≡ p = omega arith in z)
      (subst (λ (y : Round). (a.hear n own w y).entered ≡ ((view s).rounds (suc r)).entered) read (laws.hearing_keeps_the_bit ((view s).rounds (suc r)) (rd.well.grounded.reached (suc r)) w au)))
      rd refl (length-set s.rounds (place k r) m)
      (λ l p ne small. get_or-set_other s.rounds (place k r) (place l p) m cleared (λ e. ne (omega arith))) refl refl
    where
      m : Round
      m = a.hear n own w (get_or s.rounds (place k r) cleared)

      read : (view s).rounds (suc r) ≡ get_or s.rounds (place k r) cleared
      read = round_read s (suc r) (omega arith)

  -- when the own share is due
  due_facts : (u : Bool) (t w : Option ℕ) (v : ℕ) → cond u (due_by t w) None ≡ Some v → (u ≡ true) × (t ≡ None) × (v ≤ 250) × (w ≡ Some v)
  due_facts false t w v e = absurd (none_some v refl e)
  due_facts true None None v e = absurd (none_some v refl e)
  due_facts true None (Some x) v e = cond_both (nat_le x 250) (Some x) None (λ (o : Option ℕ). o ≡ Some v → (◌≡◌ {A = Bool} true true) × (◌≡◌ {A = Option ℕ} None None) × (v ≤ 250) × (◌≡◌ {A = Option ℕ} (Some x) (Some v)))
      (λ h q. let z : x ≡ v = cc in let le = leb-true x 250 h in (refl, refl, omega arith, q)) (λ _ q. absurd (none_some v refl q)) e
  due_facts true (Some x) w v e = absurd (none_some v refl e)

  tossed : (r : ℕ) → r < 15 → Tossed k (suc r)
  tossed r lt = record { ballot_below = small; round_from = omega arith; round_to = omega arith }

  -- a new share of the ballot is taken
  pub share_part : (s : BallotState C) → Ready s → (r j v : ℕ) → let sh : Share = record { ballot = k; round = r; sender = j; value = v } in Takes b s.coin sh → (((j ≡ own) × (b.own s.coin k r ≡ Some v)) ⊎ okc k r j v) →
      Piece s (record { ballot = s.ballot; rounds = s.rounds; coin = b.taken s.coin sh })
  share_part s rd r j v takes why = record {
    steps = x;
    well = well_kept a n own ok laws (view s) (view t) s.ballot.stage rd.well x (λ q. ap (λ (m : Round). m.entered) (same_rounds s t refl refl (suc q)));
    later = omega arith;
    size = refl;
    apart = λ l q ne sm. refl;
    proposal = refl;
    coin = coin_takes b own okc keeps s.coin sh takes why;
    elsewhere = λ l q to ne. keeps.shown_elsewhere s.coin sh takes l q to (and_left _ _ (ne_eqb k l (λ e. ne (sym e))));
  }
    where
      sh : Share
      sh = record { ballot = k; round = r; sender = j; value = v }

      t : BallotState C
      t = record { ballot = s.ballot; rounds = s.rounds; coin = b.taken s.coin sh }

      stay : (q : ℕ) → 0 < shown_in b k s.coin q → shown_in b k t.coin q ≡ shown_in b k s.coin q
      stay q = cond_both (nat_lt 0 q && nat_lt q 16) (bit_if_any (b.shown s.coin k q)) 0 (λ (z : ℕ). 0 < z → shown_in b k t.coin q ≡ z)
          (λ h lo. let p = and_parts (nat_lt 0 q) (nat_lt q 16) h in
          cond-true (nat_lt 0 q && nat_lt q 16) (bit_if_any (b.shown t.coin k q)) 0 h ∙ kept q (record { ballot_below = small; round_from = (let z = ltb-true 0 q p.0 in omega arith); round_to = (let z = ltb-true q 16 p.1 in omega arith) }) (b.shown s.coin k q) refl lo)
          (λ _ lo. absurd (omega arith))
        where
          kept : (q : ℕ) → Tossed k q → (o : Option Bool) → b.shown s.coin k q ≡ o → 0 < bit_if_any o → bit_if_any (b.shown t.coin k q) ≡ bit_if_any o
          kept q to None e lo = absurd (omega arith)
          kept q to (Some y) e lo = ap bit_if_any (bits_stay b keeps s.coin sh takes k q to y e)

      x : Steps a n own ok (view s) (view t)
      x = then_step (subst (Step a n own ok (view s)) (sym (view_same (view t) (record { rounds = (view s).rounds; shown = shown_in b k t.coin; decided = s.ballot.decided; delivered = d }) (same_rounds s t refl refl) (λ q. refl) refl refl)) (shows (shown_in b k t.coin) stay)) no_step

  pub shared_part : (r : ℕ) → r < 15 → Part (shared a b n own k r)
  shared_part r lt s rd = cond_both (may_share b own k r s.ballot.stage (verdict_at a b n own k (suc r) s)) (said_share b own k r (share_due b own k r s.coin) s.coin) s.coin
      (λ (c : C). Piece s (record { ballot = s.ballot; rounds = s.rounds; coin = c }))
      (λ _. go (share_due b own k r s.coin) refl) (λ _. piece_none s rd)
    where
      go : (o : Option ℕ) → share_due b own k r s.coin ≡ o → Piece s (record { ballot = s.ballot; rounds = s.rounds; coin = said_share b own k r o s.coin })
      go None e = piece_none s rd
      go (Some v) e = let f = due_facts b.uses (b.taken_of s.coin k (suc r) own) (b.own s.coin k (suc r)) v e in
          share_part s rd (suc r) own v (record { used = f.0; sound = rd.coin; lawful = record { tossed = tossed r lt; sender_below = own_small; value_to = f.2 }; new = f.1 }) (inl (refl, f.3))

  verdict_read : (s : BallotState C) (r : ℕ) → r < 16 → ((view s).rounds r).verdict ≡ verdict_at a b n own k r s
  verdict_read s r lt = ap (λ (m : Round). m.verdict) (round_read s r lt)

  face_small : (s : BallotState C) (r : ℕ) → coin_face a b n own k r s < 3
  face_small s zero = omega arith
  face_small s (suc r) = bit_small (b.shown s.coin k (suc r))

  same_face : (s t : BallotState C) (r : ℕ) → t.coin ≡ s.coin → face (view t) r ≡ face (view s) r
  same_face s t zero e = refl
  same_face s t (suc r) e = ap (λ (c : C). shown_in b k c (suc r)) e

  -- what is decided where the ballot goes on
  decides_steps : (r : ℕ) → r < 16 → (s t : BallotState C) → 0 < verdict_at a b n own k r s → t.ballot.opening ≡ s.ballot.opening → t.rounds ≡ s.rounds → t.coin ≡ s.coin →
      t.ballot.decided ≡ decision s.ballot.decided (verdict_at a b n own k r s) (coin_face a b n own k r s) → Steps a n own ok (view s) (view t)
  decides_steps r lt s t lo o e ec de = subst (Steps a n own ok (view s)) (sym same) (cond_both (eqb s.ballot.decided 0 && eqb v c) v s.ballot.decided (λ (z : ℕ). Steps a n own ok (view s) (decides_as z)) now (λ _. no_step))
    where
      v : ℕ
      v = verdict_at a b n own k r s

      c : ℕ
      c = coin_face a b n own k r s

      decides_as : ℕ → View
      decides_as z = record { rounds = (view s).rounds; shown = (view s).shown; decided = z; delivered = d }

      same : view t ≡ decides_as (decision s.ballot.decided v c)
      same = view_same (view t) (decides_as (decision s.ballot.decided v c)) (same_rounds s t o e) (λ q. ap (λ (x : C). shown_in b k x q) ec) de refl

      now : (eqb s.ballot.decided 0 && eqb v c) ≡ true → Steps a n own ok (view s) (decides_as v)
      now h =
          let p = and_parts (eqb s.ballot.decided 0) (eqb v c) h in
          let vc : v ≡ c = eqb-true v c p.1 in
          let c3 : c < 3 = face_small s r in
          then_step (decides r v lt (lo, omega arith) (eqb-true s.ballot.decided 0 p.0) (verdict_read s r lt) (face_read s r lt ∙ sym vc)) no_step

  goes : (r : ℕ) → r < 16 → (s : BallotState C) → Ready s → goes_from a b n own k r s ≡ true →
      Piece s (record { ballot = went_on (verdict_at a b n own k r s) (coin_face a b n own k r s) s.ballot; rounds = entered_later a n own k r (next_bit (verdict_at a b n own k r s) (coin_face a b n own k r s)) s.rounds; coin = s.coin })
  goes r lt s rd on = cond_both (nat_lt r 15) (set s.rounds (place k r) m) s.rounds (λ (ms : List Round). Piece s (record { ballot = o; rounds = ms; coin = s.coin })) (λ h. further (ltb-true r 15 h)) (λ h. last (ltb-false r 15 h))
    where
      v : ℕ
      v = verdict_at a b n own k r s

      c : ℕ
      c = coin_face a b n own k r s

      x : ℕ
      x = next_bit v c

      o : Opened
      o = went_on v c s.ballot

      m : Round
      m = a.enter n own x (get_or s.rounds (place k r) cleared)

      mid : BallotState C
      mid = record { ballot = o; rounds = s.rounds; coin = s.coin }

      stage : s.ballot.stage ≡ r
      stage = eqb-true s.ballot.stage r (and_parts (eqb s.ballot.stage r) (nat_lt 0 v && nat_lt 0 c) on).0

      lo : 0 < v
      lo = ltb-true 0 v (and_parts (nat_lt 0 v) (nat_lt 0 c) (and_parts (eqb s.ballot.stage r) (nat_lt 0 v && nat_lt 0 c) on).1).0

      seen : 0 < c
      seen = ltb-true 0 c (and_parts (nat_lt 0 v) (nat_lt 0 c) (and_parts (eqb s.ballot.stage r) (nat_lt 0 v && nat_lt 0 c) on).1).1

      few : v < 4
      few = subst (λ (z : ℕ). z < 4) (verdict_read s r lt) (facts a n own laws d r ((view s).rounds r) (rd.well.grounded.reached r)).small

      decided : Steps a n own ok (view s) (view mid)
      decided = decides_steps r lt s mid lo refl refl refl refl

      single : Single x
      single = cond_both (eqb v 3) c v (λ (z : ℕ). Single z) (λ _. (seen, face_small s r)) (λ h. (lo, let ne = ne3 v h few in ne))
        where
          ne3 : (w : ℕ) → eqb w 3 ≡ false → w < 4 → w < 3
          ne3 w h l = ⊎_elim (λ e. absurd (false≢true (sym h ∙ eq-eqb w 3 e))) (λ ne. omega arith) (cases_eq w 3)

      onward : GoesOn (view mid) r x
      onward = cond_both (eqb v 3) c v (λ (z : ℕ). GoesOn (view mid) r z)
          (λ h. inr (verdict_mid ∙ eqb-true v 3 h, same_face s mid r refl ∙ face_read s r lt)) (λ _. inl verdict_mid)
        where
          verdict_mid : ((view mid).rounds r).verdict ≡ v
          verdict_mid = ap (λ (y : Round). y.verdict) (same_rounds s mid refl refl r) ∙ verdict_read s r lt

      well_as : (t : BallotState C) → t.ballot ≡ o → Steps a n own ok (view s) (view t) → (suc r < 16 → 0 < ((view t).rounds (suc r)).entered) →
          ((q : ℕ) → (q ≢ r) → ((view t).rounds (suc q)).entered ≡ ((view s).rounds (suc q)).entered) → Well a n own (view t) t.ballot.stage
      well_as t e st new same = subst (λ (z : ℕ). Well a n own (view t) z) (sym (ap (λ (y : Opened). y.stage) e ∙ ap suc stage))
          (well_gone a n own ok laws (view s) (view t) r lt (subst (λ (z : ℕ). Well a n own (view s) z) stage rd.well) st (subst (λ (z : ℕ). 0 < z) (sym (verdict_read s r lt)) lo) new same)

      last : 15 ≤ r → Piece s mid
      last ge = record {
        steps = decided;
        well = well_as mid refl decided (λ z. absurd (omega arith)) (λ q ne. ap (λ (y : Round). y.entered) (same_rounds s mid refl refl (suc q)));
        later = omega arith;
        size = refl;
        apart = λ l q ne z. refl;
        proposal = refl;
        coin = coin_none b own okc s.coin rd.coin;
        elsewhere = λ l q to ne. refl;
      }

      further : r < 15 → Piece s (record { ballot = o; rounds = set s.rounds (place k r) m; coin = s.coin })
      further lt15 = record {
        steps = st;
        well = well_as t refl st (λ _. entered) others;
        later = omega arith;
        size = length-set s.rounds (place k r) m;
        apart = λ l q ne z. get_or-set_other s.rounds (place k r) (place l q) m cleared (λ e. ne (omega arith));
        proposal = refl;
        coin = coin_none b own okc s.coin rd.coin;
        elsewhere = λ l q to ne. refl;
      }
        where
          t : BallotState C
          t = record { ballot = o; rounds = set s.rounds (place k r) m; coin = s.coin }

          mm : Round
          mm = get_or s.rounds (place k r) cleared

          read : (view s).rounds (suc r) ≡ mm
          read = round_read s (suc r) (omega arith)

          none : ((view s).rounds (suc r)).entered ≡ 0
          none = rd.well.unentered r (omega arith) (omega (arith, stage))

          st : Steps a n own ok (view s) (view t)
          st = steps_join a n own decided (then_step (subst (Step a n own ok (view mid)) (sym (written o s.rounds s.coin r m lt15 rd.room))
              (subst (λ (y : Round). Step a n own ok (view mid) (with_round (view mid) (suc r) (a.enter n own x y))) (round_read mid (suc r) (omega arith))
              (goes_on r x (omega arith) single (ap (λ (y : Round). y.entered) (same_rounds s mid refl refl (suc r)) ∙ none)
              (subst (λ (z : ℕ). 0 < z) (sym (same_face s mid r refl ∙ face_read s r lt)) seen) onward))) no_step)

          entered : 0 < ((view t).rounds (suc r)).entered
          entered =
              let e1 : ((view t).rounds (suc r)).entered ≡ m.entered = ap (λ (y : Round). y.entered) (round_read t (suc r) (omega arith) ∙ get_or-set_same s.rounds (place k r) m cleared (let h = rd.room in omega arith)) in
              let e2 : m.entered ≡ x = subst (λ (y : Round). y.entered ≡ 0 → (a.enter n own x y).entered ≡ x) read
              (λ z. laws.entering_sets_the_bit ((view s).rounds (suc r)) (rd.well.grounded.reached (suc r)) x single ∙ cond-true _ _ _ (eq-eqb _ _ z)) (ap (λ (y : Round). y.entered) (sym read) ∙ none) in
              omega (arith, single.0)

          others : (q : ℕ) → (q ≢ r) → ((view t).rounds (suc q)).entered ≡ ((view s).rounds (suc q)).entered
          others q ne = ap (λ (y : Round). (cond (nat_lt (suc q) 16) y cleared).entered) (get_or-set_other s.rounds (place k r) (place k q) m cleared (λ e. ne (omega arith)))

  pub gone_part : (r : ℕ) → r < 16 → Part (gone_on a b n own k r)
  gone_part r lt s rd = ⊎_elim
      (λ on. subst (Piece s) (sym (ap (λ (t : Bool). record { ballot = cond t (went_on v c s.ballot) s.ballot; rounds = cond t (entered_later a n own k r (next_bit v c) s.rounds) s.rounds; coin = s.coin }) on)) (goes r lt s rd on))
      (λ off. subst (Piece s) (sym (gone_still a b n own k r s off)) (piece_none s rd))
      (cases_Bool (goes_from a b n own k r s))
    where
      v : ℕ
      v = verdict_at a b n own k r s

      c : ℕ
      c = coin_face a b n own k r s

  -- the later rounds one after another
  pub later_part : (u r : ℕ) → r + u ≤ 15 → Part (later_settled a b n own k u r)
  unfolding later_settled
  later_part zero r le s rd = piece_none s rd
  later_part (suc u) r le s rd =
      let x = ruled_part r (omega arith) s rd in
      let s1 = ruled a b n own k r s in
      let rd1 = ready_after s s1 rd x in
      let y = shared_part r (omega arith) s1 rd1 in
      let s2 = shared a b n own k r s1 in
      let rd2 = ready_after s1 s2 rd1 y in
      let z = gone_part (suc r) (omega arith) s2 rd2 in
      let s3 = gone_on a b n own k (suc r) s2 in
      piece_then s s3 (later_settled a b n own k u (suc r) s3) (piece_then s s2 s3 (piece_then s s1 s2 x y) z) (later_part u (suc r) (omega arith) s3 (ready_after s2 s3 rd2 z))

  -- all the steps of a ballot
  pub settled_part : Part (ballot_settled a b n own k)
  settled_part s rd =
      let s1 = opening_stepped s in
      let x = opening_part_steps s rd in
      let rd1 = ready_after s s1 rd x in
      let s2 = gone_on a b n own k 0 s1 in
      let y = gone_part 0 (omega arith) s1 rd1 in
      piece_then s s2 (ballot_settled a b n own k s) (piece_then s s1 s2 x y) (later_part 15 0 (omega arith) s2 (ready_after s1 s2 rd1 y))

  pub taken_part : Part (ballot_taken a b n own k d)
  taken_part s rd = subst (Piece s) (sym (listed_order a b n own k d s).0) (part_then (reproposed own d) (ballot_settled a b n own k) reproposing settled_part s rd)
