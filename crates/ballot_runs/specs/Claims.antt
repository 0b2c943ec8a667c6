-- What holds of ballots in every run. Assumes nothing.
use Rattle.std.specs.Prelude.{◌≡◌, ℕ, suc, ◌+◌, ◌<◌, ◌≤◌, Bool, true, not, T, Err, ◌==◌, ◌≢◌}
use Rattle.basis.specs.Counts.{count}
use Rattle.basis.specs.Halls.{listed, faults}
use Rattle.rules.specs.Rounds.{Round, Vote, recorded, hear_answer}
use Rattle.rules.specs.Laws.{Acts, Reached, Keeps}
use Rattle.ballot_runs.specs.Views.{View, face}
use Rattle.ballot_runs.specs.Runs.{Ballots, Turn, Hall, Honest, Quoted, Run}

-- the bit, the votes and the verdict of a round stay
pub record RoundStays (m m' : Round) : Type 0 where
  pub entered : 0 < m.entered → m'.entered ≡ m.entered
  pub votes : (t v j : ℕ) → m.votes t v j ≡ true → m'.votes t v j ≡ true
  pub verdict : 0 < m.verdict → m'.verdict ≡ m.verdict

-- all that a ballot has stays
pub record Stays (v v' : View) : Type 0 where
  pub rounds : (r : ℕ) → RoundStays (v.rounds r) (v'.rounds r)
  pub shown : (r : ℕ) → 0 < face v r → face v' r ≡ face v r
  pub decided : 0 < v.decided → v'.decided ≡ v.decided
  pub delivered : v.delivered ≡ true → v'.delivered ≡ true

module _ (a : Acts) (n : ℕ) (honest : ℕ → Bool) (s : Hall) where
  -- no two honest replicas' coins show different bits of ballot k
  abbrev pub CoinsAgree : ℕ → Type 0
  CoinsAgree k = (i j r : ℕ) → Honest n honest i → Honest n honest j → 0 < face (s i k) r → 0 < face (s j k) r → face (s i k) r ≡ face (s j k) r

  pub record Claims : Type 0 where
    -- no two honest replicas decide a ballot differently
    pub agreement : (i j k : ℕ) → Honest n honest i → Honest n honest j → CoinsAgree k → 0 < (s i k).decided → 0 < (s j k).decided → (s i k).decided ≡ (s j k).decided
    -- who has decided every ballot has decided 1 in at least f + 2
    pub enough_ones : (i : ℕ) → Honest n honest i → ((k : ℕ) → k < n → 0 < (s i k).decided) → faults n + 2 ≤ count n (λ k. (s i k).decided == 2)
    -- where 1 is decided some honest replica has the slot's sheet
    pub ones_delivered : (i k : ℕ) → Honest n honest i → (s i k).decided ≡ 2 → (l : ℕ) × Honest n honest l × ((s l k).delivered ≡ true)
    -- a decided set is that of one bit
    pub decided_one_bit : (i k : ℕ) → Honest n honest i → (s i k).decided < 3
    -- what an honest replica has recorded of another, that one has said
    pub authentic : (i j k r t v : ℕ) → Honest n honest i → Honest n honest j → ((s i k).rounds r).votes t v j ≡ true → ((s j k).rounds r).votes t v j ≡ true
    -- under each tag above 0x20 an honest replica says at most one vote in a round
    pub one_vote_a_tag : (i k r t v w : ℕ) → Honest n honest i → 32 < t → ((s i k).rounds r).votes t v i ≡ true → ((s i k).rounds r).votes t w i ≡ true → v ≡ w
    -- so a vote that an honest replica has said no honest one refuses
    pub unaccused : (i k r e : ℕ) (w : Vote) → Honest n honest i → Honest n honest w.sender → recorded w ((s w.sender k).rounds r) ≡ true → hear_answer w ((s i k).rounds r) ≢ Err e
    -- later rounds have meanings that the rule's laws speak of
    pub reached : (i k r : ℕ) → Honest n honest i → Reached a n i ((s i k).rounds (suc r))
    -- who has proposed in one ballot has proposed in all
    pub proposed_in_all : (i k l : ℕ) → Honest n honest i → k < n → l < n → 0 < ((s i k).rounds 0).entered → 0 < ((s i l).rounds 0).entered
    -- what a ballot has stays, whatever is done next
    pub lasting : (i k : ℕ) (b : Ballots) → Honest n honest i → Turn a n i (Quoted honest s) (s i) b → Stays (s i k) (b k)

-- for every rule that keeps its laws, every listed hall, and any honest replicas where at most f are faulty
abbrev pub BallotsHold : Type 0
BallotsHold =
    (a : Acts) → Keeps a → (n : ℕ) (honest : ℕ → Bool) (s : Hall) → T (listed n) → count n (λ j. not (honest j)) ≤ faults n → Run a n honest s → Claims a n honest s
