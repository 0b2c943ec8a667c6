-- What joins the replicas of a hall, kept by every call at an honest one. Assumes nothing.
use Rattle.std.proofs.Common.{◌≡◌, ℕ, ◌<◌, ◌≤◌, ◌≢◌, Bool, true, not, eqb, Some, Option, sym, refl, ap, ◌∙◌, subst, ⊎_elim}
use Rattle.std.proofs.lemmas.Bool.{cases_eq, cond-true, cond-false, eq-eqb, ne_eqb}
use Rattle.basis.specs.Counts.{count}
use Rattle.basis.specs.Halls.{faults}
use Rattle.coins.specs.Coins.{Tossed, Sender}
use Rattle.rules.specs.Laws.{Laws}
use Rattle.rules.specs.Rounds.{Round, Vote}
use Rattle.slots.specs.Steps.{Slots}
use Rattle.broadcast.specs.Claims.{RowLaws}
use Rattle.broadcast.proofs.Moves.{Grows}
use Rattle.ballot_runs.specs.Runs.{Ballots, Run, Quoted as QuotedVote}
use Rattle.ballot_runs.specs.Claims.{Stays}
use Rattle.ballot_runs.proofs.Several.{Turns, turns_run}
use Rattle.ballot_runs.proofs.Lasting.{turns_stay}
use Rattle.outcomes.specs.Holdings.{Closed, Setting, Holding}
use Rattle.evenings.specs.Evenings.{Replica, held, upd}
use Rattle.vote_turns.proofs.Known.{view_of, CoinMoves, VotesWell}
use Rattle.sheet_turns.proofs.Halls.{SheetsWhole}
use Rattle.sheet_turns.proofs.Closing.{MayClose}

-- a hall where one replica has changed
pub at_upd : {X : Type 0} (P : X → Type 0) (s : ℕ → X) (i j : ℕ) (t : X) → (j ≡ i → P t) → ((j ≢ i) → P (s j)) → P (upd s i t j)
at_upd P s i j t new old = ⊎_elim (λ e. subst P (sym (cond-true (eqb j i) t (s j) (eq-eqb j i e))) (new e)) (λ ne. subst P (sym (cond-false (eqb j i) t (s j) (ne_eqb j i ne))) (old ne)) (cases_eq j i)

pub upd_here : {X : Type 0} (s : ℕ → X) (i : ℕ) (t : X) → upd s i t i ≡ t
upd_here s i t = cond-true (eqb i i) t (s i) (eq-eqb i i refl)

pub upd_there : {X : Type 0} (s : ℕ → X) (i j : ℕ) (t : X) → (j ≢ i) → upd s i t j ≡ s j
upd_there s i j t ne = cond-false (eqb j i) t (s j) (ne_eqb j i ne)

module _ {R C Row : Type 0} (g : Setting R C) (meaning : Row → Round) (n : ℕ) (honest : ℕ → Bool) (rows : RowLaws g.rows g.size g.lawful) where
  abbrev pub Hall : Type 0
  Hall = ℕ → Replica R C Row

  abbrev pub Fine : ℕ → Type 0
  Fine i = (i < n) × (honest i ≡ true)

  -- what the replicas of a hall hold, of sheets, of votes and of shares
  abbrev pub holds_at : Hall → ℕ → Holding R C
  holds_at s i = held meaning (s i)

  abbrev pub sheets_of : Hall → ℕ → Slots R
  sheets_of s i = (holds_at s i).slots

  abbrev pub ballots_of : Hall → ℕ → Ballots
  ballots_of s i = view_of g n (holds_at s i)

  abbrev pub share_at : Hall → ℕ → ℕ → ℕ → ℕ → Option ℕ
  share_at s i k r j = g.coins.taken_of (s i).coin k r j

  -- what an honest sender may be quoted with
  abbrev pub QuotedBallot : Hall → ℕ → ℕ → Vote → Type 0
  QuotedBallot s = QuotedVote honest (ballots_of s)

  abbrev pub QuotedShare : Hall → ℕ → ℕ → ℕ → ℕ → Type 0
  QuotedShare s k r j v = honest j ≡ true → share_at s j k r j ≡ Some v

  -- a closed replica has decided every ballot, and has the sheets of those decided 1
  abbrev pub ClosedWell : ℕ → Holding R C → Type 0
  ClosedWell i h = h.life ≡ Closed → MayClose g n i h

  -- what one call does at replica i of a hall
  pub record Turned (s : Hall) (i : ℕ) (h : Holding R C) : Type 0 where
    pub votes : VotesWell g n i h
    pub closed : ClosedWell i h
    pub turns : Turns g.rule n i (QuotedBallot s) (ballots_of s i) (view_of g n h)
    pub coin : CoinMoves g.coins i (QuotedShare s) (s i).coin h.coin
    pub stays_closed : (s i).life ≡ Closed → h.life ≡ Closed
    pub grows : Grows g.rows n (sheets_of s i) h.slots

  -- what holds of the halls of an evening
  pub record Whole (s : Hall) : Type 0 where
    pub cast : SheetsWhole g meaning n honest rows s
    pub votes : (i : ℕ) → Fine i → VotesWell g n i (holds_at s i)
    pub closed : (i : ℕ) → Fine i → ClosedWell i (holds_at s i)
    pub run : Run g.rule n honest (ballots_of s)
    pub shares : (i j k r v : ℕ) → Fine i → Fine j → Tossed k r → Sender j → share_at s i k r j ≡ Some v → share_at s j k r j ≡ Some v
    -- a share under the own number is the own one
    pub own_shares : (i k r v : ℕ) → Fine i → Tossed k r → Sender i → share_at s i k r i ≡ Some v → g.coins.own (s i).coin k r ≡ Some v

  -- what a replica has stays
  pub record Grown (h h' : Holding R C) : Type 0 where
    pub sheets : Grows g.rows n h.slots h'.slots
    pub views : (k : ℕ) → Stays (view_of g n h k) (view_of g n h' k)
    pub shares : (k r j v : ℕ) → Tossed k r → Sender j → g.coins.taken_of h.coin k r j ≡ Some v → g.coins.taken_of h'.coin k r j ≡ Some v
    pub closed : h.life ≡ Closed → h'.life ≡ Closed

  module _ (few : count n (λ j. not (honest j)) ≤ faults n) (laws : (i : ℕ) → Fine i → Laws g.rule n i) where
    pub whole_turned : (s : Hall) → Whole s → (i : ℕ) → Fine i → (t : Replica R C Row) → SheetsWhole g meaning n honest rows (upd s i t) → Turned s i (held meaning t) → Whole (upd s i t)
    whole_turned s w i gi t cast d = record {
      cast = cast;
      votes = λ j gj. at_upd (λ (z : Replica R C Row). VotesWell g n j (held meaning z)) s i j t (λ e. subst (λ (z : ℕ). VotesWell g n z (held meaning t)) (sym e) d.votes) (λ _. w.votes j gj);
      closed = λ j gj. at_upd (λ (z : Replica R C Row). ClosedWell j (held meaning z)) s i j t (λ e. subst (λ (z : ℕ). ClosedWell z (held meaning t)) (sym e) d.closed) (λ _. w.closed j gj);
      run = turns_run g.rule n honest (ballots_of s) i gi (ballots_of s) (ballots_of (upd s i t)) (ballots_of s i) (view_of g n (held meaning t)) refl
          (ap (λ (z : Replica R C Row). view_of g n (held meaning z)) (upd_here s i t)) (λ j ne. refl) (λ j ne. ap (λ (z : Replica R C Row). view_of g n (held meaning z)) (upd_there s i j t ne)) d.turns w.run;
      shares = λ l j k r v gl gj to se h. at_upd (λ (z : Replica R C Row). g.coins.taken_of z.coin k r j ≡ Some v → share_at (upd s i t) j k r j ≡ Some v) s i l t
          (λ e h'. taken_here j k r v gj to se h') (λ _ h'. kept_share j k r v to se (w.shares l j k r v gl gj to se h')) h;
      own_shares = λ j k r v gj to se h. at_upd (λ (z : Replica R C Row). g.coins.taken_of z.coin k r j ≡ Some v → g.coins.own z.coin k r ≡ Some v) s i j t
          (λ e h'. own_here k r v to (subst Sender e se) (subst (λ (z : ℕ). g.coins.taken_of t.coin k r z ≡ Some v) e h')) (λ _ h'. w.own_shares j k r v gj to se h') h;
    }
      where
        -- a share that stands at the coin of its sender still stands there
        kept_share : (j k r v : ℕ) → Tossed k r → Sender j → share_at s j k r j ≡ Some v → share_at (upd s i t) j k r j ≡ Some v
        kept_share j k r v to se h = at_upd (λ (z : Replica R C Row). g.coins.taken_of z.coin k r j ≡ Some v) s i j t
            (λ e. d.coin.taken k r j to se v (ap (λ (z : ℕ). share_at s z k r j) (sym e) ∙ h)) (λ _. h)

        own_here : (k r v : ℕ) → Tossed k r → Sender i → g.coins.taken_of t.coin k r i ≡ Some v → g.coins.own t.coin k r ≡ Some v
        own_here k r v to se h = d.coin.fixed k r to ∙ ⊎_elim
            (λ old. w.own_shares i k r v gi to se old)
            (⊎_elim (λ mine. mine.1) (λ ok. w.own_shares i k r v gi to se (ok gi.1)))
            (d.coin.only k r i to se v h)

        taken_here : (j k r v : ℕ) → Fine j → Tossed k r → Sender j → g.coins.taken_of t.coin k r j ≡ Some v → share_at (upd s i t) j k r j ≡ Some v
        taken_here j k r v gj to se h = ⊎_elim
            (λ old. kept_share j k r v to se (w.shares i j k r v gi gj to se old))
            (⊎_elim
            (λ mine. ap (λ (z : Replica R C Row). g.coins.taken_of z.coin k r j) (ap (upd s i t) mine.0 ∙ upd_here s i t) ∙ h)
            (λ ok. kept_share j k r v to se (ok gj.1)))
            (d.coin.only k r j to se v h)

    pub grown_turned : (s : Hall) → Whole s → (i : ℕ) → Fine i → (h : Holding R C) → Turned s i h → Grown (holds_at s i) h
    grown_turned s w i gi h d = record {
      sheets = d.grows;
      views = turns_stay g.rule n honest few laws (ballots_of s) w.run i (view_of g n h) gi d.turns;
      shares = λ k r j v to se e. d.coin.taken k r j to se v e;
      closed = d.stays_closed;
    }
