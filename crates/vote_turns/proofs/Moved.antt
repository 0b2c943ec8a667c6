-- What one change of a ballot does to all ballots of its replica, as turns. Assumes nothing.
use Rattle.std.proofs.Common.{◌≡◌, ℕ, zero, suc, ◌<◌, ◌≤◌, Bool, true, false, cond, ◌&&◌, ◌≢◌, List, length, get_or, nat_lt, refl, sym, ap, ◌∙◌, subst, subst₂, ⊎_elim, arith, length-set, get_or-set_other, get_or-set_same}
use Rattle.std.proofs.lemmas.Bool.{cond-false, cases_eq, cases_lt, le-ltb, ltb-true, and_parts}
use Rattle.basis.specs.Halls.{largest}
use Rattle.coins.specs.Coins.{Keeps as CoinKeeps}
use Rattle.rules.specs.Rounds.{Round, Vote, cleared, bit_if_any}
use Rattle.rules.specs.Laws.{Acts, clear, Laws}
use Rattle.ballots.specs.States.{Opened, unopened, BallotState, place}
use Rattle.ballots.specs.Listed.{ballot_taken}
use Rattle.outcomes.specs.Holdings.{Setting, Holding, is_delivered, ballot_at, state_of, with_state}
use Rattle.outcomes.specs.Taking.{votes_taken}
use Rattle.ballot_runs.specs.Views.{View, OnlyAt}
use Rattle.ballot_runs.specs.Runs.{Ballots}
use Rattle.ballot_runs.specs.Claims.{Stays}
use Rattle.ballot_runs.proofs.Opens.{unopened as opening_cleared}
use Rattle.ballot_runs.proofs.Moves.{Grounded}
use Rattle.ballot_runs.proofs.Kept.{turn_moves}
use Rattle.ballot_runs.proofs.Several.{Turns, no_turn, then_turn, turns_join, steps_turns, view_same}
use Rattle.vote_turns.proofs.Known.{view_at, shown_in, no_ballot, view_of, stage_of, Well, CoinMoves, coin_none, coin_then, VotesWell, view_in, stays_none, stays_then}
use Rattle.vote_turns.proofs.Parts.{Ready, Piece, taken_part}

-- what does not exist knows nothing
none_grounded : (a : Acts) (n own : ℕ) → Grounded a n own no_ballot
none_grounded a n own = record { reached = reach; onward = λ r lo. absurd (omega arith); cause = λ lo. absurd (omega arith) }
  where
    reach : (r : ℕ) → Rattle.ballot_runs.proofs.Rounds.ReachedAt a n own false r cleared
    reach zero = opening_cleared
    reach (suc r) = clear

cond_cong : {X : Type 0} (t : Bool) (x y z : X) → (t ≡ true → x ≡ y) → cond t x z ≡ cond t y z
cond_cong true x y z h = h refl
cond_cong false x y z h = refl

-- all ballots of a replica, those that the hall does not have too
pub all_grounded : {R C : Type 0} (g : Setting R C) (n own : ℕ) (h : Holding R C) → VotesWell g n own h → (k : ℕ) → Grounded g.rule n own (view_of g n h k)
all_grounded g n own h w k = ⊎_elim (λ lt. (w.well k lt).grounded)
    (λ ge. subst (Grounded g.rule n own) (sym (cond-false (nat_lt k n) (view_at g.coins k (is_delivered k h) (state_of k h)) no_ballot (le-ltb k n ge))) (none_grounded g.rule n own)) (cases_lt k n)

-- what turns keep of each ballot
pub turns_stay : (a : Acts) (n own : ℕ) (ok : ℕ → ℕ → Vote → Type 0) → Laws a n own → (b b' : Ballots) → ((k : ℕ) → Grounded a n own (b k)) → Turns a n own ok b b' → (k : ℕ) → Grounded a n own (b' k) × Stays (b k) (b' k)
turns_stay a n own ok laws b c g no_turn k = (g k, stays_none (b k))
turns_stay a n own ok laws b c g (then_turn {b'} t rest) k =
    let m = turn_moves a n (λ _. true) ok own b b' laws g t in
    let x = turns_stay a n own ok laws b' c (λ l. (m l).grounded) rest k in
    (x.0, stays_then (b k) (b' k) (c k) (m k).stays x.1)

module _ {R C : Type 0} (g : Setting R C) (n own : ℕ) (ok : ℕ → ℕ → Vote → Type 0) (okc : ℕ → ℕ → ℕ → ℕ → Type 0) where
  -- what a call, or a part of one, does to the ballots of its replica
  pub record Moved (h h' : Holding R C) : Type 0 where
    pub turns : Turns g.rule n own ok (view_of g n h) (view_of g n h')
    pub well : VotesWell g n own h'
    pub later : (k : ℕ) → k < n → stage_of k h ≤ stage_of k h'
    pub coin : CoinMoves g.coins own okc h.coin h'.coin

  pub moved_none : (h : Holding R C) → VotesWell g n own h → Moved h h
  moved_none h w = record { turns = no_turn; well = w; later = λ k lk. omega arith; coin = coin_none g.coins own okc h.coin w.coin }

  pub moved_then : (h t u : Holding R C) → Moved h t → Moved t u → Moved h u
  moved_then h t u x y = record {
    turns = turns_join g.rule n own x.turns y.turns;
    well = y.well;
    later = λ k lk. let p = x.later k lk in let q = y.later k lk in omega arith;
    coin = coin_then g.coins own okc h.coin t.coin u.coin x.coin y.coin;
  }

  -- what stays of each ballot
  pub moved_stays : Laws g.rule n own → (h h' : Holding R C) → VotesWell g n own h → Moved h h' → (k : ℕ) → Stays (view_of g n h k) (view_of g n h' k)
  moved_stays laws h h' w x k = (turns_stay g.rule n own ok laws (view_of g n h) (view_of g n h') (all_grounded g n own h w) x.turns k).1

  module _ (laws : Laws g.rule n own) (keeps : CoinKeeps g.coins) (most : n ≤ largest) (own_low : own < n) where
    abbrev pub own_small : own < largest
    own_small = omega (arith, most, own_low)

    abbrev pub small : (k : ℕ) → k < n → k < largest
    small k lk = omega (arith, most, lk)

    -- the ballot that changes
    module _ (k : ℕ) (lk : k < n) where
      abbrev pub ReadyFor : Holding R C → Type 0
      ReadyFor h = Ready g.rule g.coins n own k laws keeps own_small (small k lk) (ok k) okc (is_delivered k h) (state_of k h)

      abbrev pub PieceOf : Holding R C → BallotState C → Type 0
      PieceOf h t = Piece g.rule g.coins n own k laws keeps own_small (small k lk) (ok k) okc (is_delivered k h) (state_of k h) t

      pub ready_for : (h : Holding R C) → VotesWell g n own h → ReadyFor h
      ready_for h w = record {
        well = subst (λ (v : View). Well g.rule n own v (stage_of k h)) (view_in g n h k lk) (w.well k lk);
        coin = w.coin;
        room = (let r = w.rounds_room in omega (arith, lk));
      }

      -- a replica where nothing but the state of ballot k has changed, to t
      pub record Becomes (h h' : Holding R C) (t : BallotState C) : Type 0 where
        pub slots : h'.slots ≡ h.slots
        pub here : ballot_at k h' ≡ t.ballot
        pub others : (l : ℕ) → (l ≢ k) → ballot_at l h' ≡ ballot_at l h
        pub size : length h'.ballots ≡ length h.ballots
        pub rounds : h'.rounds ≡ t.rounds
        pub coin : h'.coin ≡ t.coin

      pub state_becomes : (h : Holding R C) (t : BallotState C) → VotesWell g n own h → Becomes h (with_state k t h) t
      state_becomes h t w = record {
        slots = refl;
        here = get_or-set_same h.ballots k t.ballot unopened (let r = w.ballots_room in omega (arith, lk));
        others = λ l ne. get_or-set_other h.ballots k l t.ballot unopened ne;
        size = length-set h.ballots k t.ballot;
        rounds = refl;
        coin = refl;
      }

      module _ (h h' : Holding R C) (t : BallotState C) (w : VotesWell g n own h) (x : PieceOf h t) (c : Becomes h h' t) where
        same_delivered : (l : ℕ) → is_delivered l h' ≡ is_delivered l h
        same_delivered l = ap (λ (y : Holding R C). is_delivered l y) (λ i. record { life = h.life; slots = c.slots i; ballots = h.ballots; rounds = h.rounds; coin = h.coin })

        state_here : state_of k h' ≡ t
        state_here = λ i. record { ballot = c.here i; rounds = c.rounds i; coin = c.coin i }

        view_here : view_of g n h' k ≡ view_at g.coins k (is_delivered k h) t
        view_here = view_in g n h' k lk ∙ ap (λ (d : Bool). view_at g.coins k d (state_of k h')) (same_delivered k) ∙ ap (λ (s : BallotState C). view_at g.coins k (is_delivered k h) s) state_here

        view_there : (l : ℕ) → l < n → (l ≢ k) → view_at g.coins l (is_delivered l h') (state_of l h') ≡ view_at g.coins l (is_delivered l h) (state_of l h)
        view_there l ll ne = view_same (view_at g.coins l (is_delivered l h') (state_of l h')) (view_at g.coins l (is_delivered l h) (state_of l h)) rounds shown (ap (λ (o : Opened). o.decided) (c.others l ne)) (same_delivered l)
          where
            rounds : (r : ℕ) → (view_at g.coins l (is_delivered l h') (state_of l h')).rounds r ≡ (view_at g.coins l (is_delivered l h) (state_of l h)).rounds r
            rounds zero = ap (λ (o : Opened). cond (nat_lt 0 16) o.opening cleared) (c.others l ne)
            rounds (suc r) = cond_cong (nat_lt (suc r) 16) (get_or h'.rounds (place l r) cleared) (get_or h.rounds (place l r) cleared) cleared
                (λ e. ap (λ (ms : List Round). get_or ms (place l r) cleared) c.rounds ∙ x.apart l r ne (let z = ltb-true (suc r) 16 e in omega arith))

            shown : (r : ℕ) → shown_in g.coins l h'.coin r ≡ shown_in g.coins l h.coin r
            shown r = cond_cong (nat_lt 0 r && nat_lt r 16) (bit_if_any (g.coins.shown h'.coin l r)) (bit_if_any (g.coins.shown h.coin l r)) 0
                (λ e. let p = and_parts (nat_lt 0 r) (nat_lt r 16) e in
                ap (λ (y : C). bit_if_any (g.coins.shown y l r)) c.coin
                ∙ ap bit_if_any (x.elsewhere l r (record { ballot_below = small l ll; round_from = (let z = ltb-true 0 r p.0 in omega arith); round_to = (let z = ltb-true r 16 p.1 in omega arith) }) ne))

        only : OnlyAt k (view_of g n h) (view_of g n h')
        only l ne = cond_cong (nat_lt l n) (view_at g.coins l (is_delivered l h') (state_of l h')) (view_at g.coins l (is_delivered l h) (state_of l h)) no_ballot (λ e. view_there l (ltb-true l n e) ne)

        same_bit : (l : ℕ) → (ballot_at l h').opening.entered ≡ (ballot_at l h).opening.entered
        same_bit l = ⊎_elim
            (λ e. subst (λ (z : ℕ). (ballot_at z h').opening.entered ≡ (ballot_at z h).opening.entered) (sym e) (ap (λ (o : Opened). o.opening.entered) c.here ∙ x.proposal))
            (λ ne. ap (λ (o : Opened). o.opening.entered) (c.others l ne)) (cases_eq l k)

        stage_here : stage_of k h' ≡ t.ballot.stage
        stage_here = ap (λ (o : Opened). o.stage) c.here

        pub piece_moved : Moved h h'
        piece_moved = record {
          turns = steps_turns g.rule n own ok k (view_of g n h) (view_of g n h') (view_at g.coins k (is_delivered k h) (state_of k h)) (view_at g.coins k (is_delivered k h) t) (view_in g n h k lk) view_here only x.steps;
          well = record {
            rounds_room = (let e = ap (λ (ms : List Round). length ms) c.rounds in let f = x.size in let r = w.rounds_room in omega arith);
            ballots_room = (let e = c.size in let r = w.ballots_room in omega arith);
            coin = subst (λ (y : C). g.coins.sound y) (sym c.coin) x.coin.sound;
            well = λ l ll. ⊎_elim
                (λ e. subst (λ (z : ℕ). Well g.rule n own (view_of g n h' z) (stage_of z h')) (sym e) (subst₂ (Well g.rule n own) (sym view_here) (sym stage_here) x.well))
                (λ ne. subst₂ (Well g.rule n own) (sym (only l ne)) (sym (ap (λ (o : Opened). o.stage) (c.others l ne))) (w.well l ll)) (cases_eq l k);
            alike = λ l m ll lm z. same_bit m ∙ w.alike l m ll lm (sym (same_bit l) ∙ z);
          };
          later = λ l ll. ⊎_elim
              (λ e. subst (λ (z : ℕ). stage_of z h ≤ stage_of z h') (sym e) (let p = x.later in omega (arith, stage_here)))
              (λ ne. let e = ap (λ (o : Opened). o.stage) (c.others l ne) in omega arith) (cases_eq l k);
          coin = subst (λ (y : C). CoinMoves g.coins own okc h.coin y) (sym c.coin) x.coin;
        }

      -- the steps of its ballot
      pub votes_moved : (h : Holding R C) → VotesWell g n own h → Moved h (votes_taken g n own k h)
      votes_moved h w =
          let t = ballot_taken g.rule g.coins n own k (is_delivered k h) (state_of k h) in
          piece_moved h (with_state k t h) t w (taken_part g.rule g.coins n own k laws keeps own_small (small k lk) (ok k) okc (is_delivered k h) (state_of k h) (ready_for h w)) (state_becomes h t w)

      -- what they leave of it
      pub votes_view : (h : Holding R C) → VotesWell g n own h → view_of g n (votes_taken g n own k h) k ≡ view_at g.coins k (is_delivered k h) (ballot_taken g.rule g.coins n own k (is_delivered k h) (state_of k h))
      votes_view h w =
          let t = ballot_taken g.rule g.coins n own k (is_delivered k h) (state_of k h) in
          view_in g n (with_state k t h) k lk ∙ ap (λ (o : Opened). view_at g.coins k (is_delivered k h) (record { ballot = o; rounds = t.rounds; coin = t.coin })) (state_becomes h t w).here

      pub votes_stage : (h : Holding R C) → VotesWell g n own h → stage_of k (votes_taken g n own k h) ≡ (ballot_taken g.rule g.coins n own k (is_delivered k h) (state_of k h)).ballot.stage
      votes_stage h w = ap (λ (o : Opened). o.stage) (state_becomes h (ballot_taken g.rule g.coins n own k (is_delivered k h) (state_of k h)) w).here
