-- One replica's ballots as views, and what is known of them and of its coin. Assumes nothing.
use Rattle.std.proofs.Common.{◌≡◌, ℕ, suc, ◌*◌, ◌<◌, ◌≤◌, Bool, false, cond, ◌&&◌, ◌⊎◌, length, Some, nat_lt, refl, sym, ◌∙◌, inl, inr, ⊎_elim, arith}
use Rattle.std.proofs.lemmas.Bool.{cond-true, lt-ltb}
use Rattle.coins.specs.Coins.{Acts as Coin-acts, Tossed, Sender}
use Rattle.rules.specs.Rounds.{Round, cleared, bit_if_any}
use Rattle.rules.specs.Laws.{Acts}
use Rattle.ballots.specs.States.{BallotState, round_at}
use Rattle.outcomes.specs.Holdings.{Setting, Holding, is_delivered, ballot_at, state_of}
use Rattle.ballot_runs.specs.Views.{View}
use Rattle.ballot_runs.specs.Claims.{Stays}
use Rattle.ballot_runs.proofs.Moves.{Grounded}

-- round r of ballot k, cleared where there is none
abbrev pub round_in : {C : Type 0} → ℕ → BallotState C → ℕ → Round
round_in k s r = cond (nat_lt r 16) (round_at k r s) cleared

-- the set of the bit that a coin shows of a ballot in a round from 1 to 15
abbrev pub shown_in : {C : Type 0} → Coin-acts C → ℕ → C → ℕ → ℕ
shown_in b k c r = cond (nat_lt 0 r && nat_lt r 16) (bit_if_any (b.shown c k r)) 0

-- ballot k in a state, d telling whether its slot is delivered
abbrev pub view_at : {C : Type 0} → Coin-acts C → ℕ → Bool → BallotState C → View
view_at b k d s = record { rounds = round_in k s; shown = shown_in b k s.coin; decided = s.ballot.decided; delivered = d }

-- what stands for the ballots that a hall does not have
abbrev pub no_ballot : View
no_ballot = record { rounds = λ _. cleared; shown = λ _. 0; decided = 0; delivered = false }

-- what a replica holds of ballot k
abbrev pub view_of : {R C : Type 0} → Setting R C → ℕ → Holding R C → ℕ → View
view_of g n h k = cond (nat_lt k n) (view_at g.coins k (is_delivered k h) (state_of k h)) no_ballot

-- the round that ballot k is in, 16 where it has gone on from all
abbrev pub stage_of : {R C : Type 0} → ℕ → Holding R C → ℕ
stage_of k h = (ballot_at k h).stage

-- what is known of a ballot and of the round that it is in: just the rounds up to that one are entered, and those before it have
-- their verdicts
pub record Well (a : Acts) (n own : ℕ) (v : View) (stage : ℕ) : Type 0 where
  pub grounded : Grounded a n own v
  pub low : stage ≤ 16
  pub entered : (r : ℕ) → suc r < 16 → suc r ≤ stage → 0 < (v.rounds (suc r)).entered
  pub unentered : (r : ℕ) → suc r < 16 → stage ≤ r → (v.rounds (suc r)).entered ≡ 0
  pub verdicts : (r : ℕ) → r < 16 → r < stage → 0 < (v.rounds r).verdict

-- How a coin changes: bits and shares stay, and only shares that may be taken are new, and the own ones.
pub record CoinMoves {C : Type 0} (b : Coin-acts C) (own : ℕ) (ok : ℕ → ℕ → ℕ → ℕ → Type 0) (c c' : C) : Type 0 where
  pub sound : b.sound c'
  pub shown : (k r : ℕ) → Tossed k r → (x : Bool) → b.shown c k r ≡ Some x → b.shown c' k r ≡ Some x
  pub taken : (k r j : ℕ) → Tossed k r → Sender j → (v : ℕ) → b.taken_of c k r j ≡ Some v → b.taken_of c' k r j ≡ Some v
  pub only : (k r j : ℕ) → Tossed k r → Sender j → (v : ℕ) → b.taken_of c' k r j ≡ Some v → (b.taken_of c k r j ≡ Some v) ⊎ (((j ≡ own) × (b.own c k r ≡ Some v)) ⊎ ok k r j v)
  pub fixed : (k r : ℕ) → Tossed k r → b.own c' k r ≡ b.own c k r

pub coin_none : {C : Type 0} (b : Coin-acts C) (own : ℕ) (ok : ℕ → ℕ → ℕ → ℕ → Type 0) (c : C) → b.sound c → CoinMoves b own ok c c
coin_none b own ok c so = record { sound = so; shown = λ k r t x e. e; taken = λ k r j t l v e. e; only = λ k r j t l v e. inl e; fixed = λ k r t. refl }

pub coin_then : {C : Type 0} (b : Coin-acts C) (own : ℕ) (ok : ℕ → ℕ → ℕ → ℕ → Type 0) (c c' c'' : C) → CoinMoves b own ok c c' → CoinMoves b own ok c' c'' → CoinMoves b own ok c c''
coin_then b own ok c c' c'' x y = record {
  sound = y.sound;
  shown = λ k r t v e. y.shown k r t v (x.shown k r t v e);
  taken = λ k r j t l v e. y.taken k r j t l v (x.taken k r j t l v e);
  only = λ k r j t l v e. ⊎_elim (λ old. x.only k r j t l v old) (λ z. inr (⊎_elim (λ mine. inl (mine.0, sym (x.fixed k r t) ∙ mine.1)) inr z)) (y.only k r j t l v e);
  fixed = λ k r t. y.fixed k r t ∙ x.fixed k r t;
}

-- What is known of a replica's ballots: its tables have room for them, its coin is one that its calls make, and it has proposed
-- in all of them or in none.
pub record VotesWell {R C : Type 0} (g : Setting R C) (n own : ℕ) (h : Holding R C) : Type 0 where
  pub rounds_room : 15 * n ≤ length h.rounds
  pub ballots_room : n ≤ length h.ballots
  pub coin : g.coins.sound h.coin
  pub well : (k : ℕ) → k < n → Well g.rule n own (view_of g n h k) (stage_of k h)
  pub alike : (k l : ℕ) → k < n → l < n → (ballot_at k h).opening.entered ≡ 0 → (ballot_at l h).opening.entered ≡ 0

-- what a hall has of a ballot
pub view_in : {R C : Type 0} (g : Setting R C) (n : ℕ) (h : Holding R C) (k : ℕ) → k < n → view_of g n h k ≡ view_at g.coins k (is_delivered k h) (state_of k h)
view_in g n h k lk = cond-true (nat_lt k n) (view_at g.coins k (is_delivered k h) (state_of k h)) no_ballot (lt-ltb k n lk)

-- what stays stays over two changes
pub stays_none : (v : View) → Stays v v
stays_none v = record { rounds = λ r. record { entered = λ _. refl; votes = λ t x j e. e; verdict = λ _. refl }; shown = λ r _. refl; decided = λ _. refl; delivered = λ e. e }

pub stays_then : (u v w : View) → Stays u v → Stays v w → Stays u w
stays_then u v w x y = record {
  rounds = λ r. record {
    entered = λ lo. let e = (x.rounds r).entered lo in (y.rounds r).entered (omega arith) ∙ e;
    votes = λ t z j e. (y.rounds r).votes t z j ((x.rounds r).votes t z j e);
    verdict = λ lo. let e = (x.rounds r).verdict lo in (y.rounds r).verdict (omega arith) ∙ e;
  };
  shown = λ r lo. let e = x.shown r lo in y.shown r (omega arith) ∙ e;
  decided = λ lo. let e = x.decided lo in y.decided (omega arith) ∙ e;
  delivered = λ e. y.delivered (x.delivered e);
}
