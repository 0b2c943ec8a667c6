-- Runs of ballots: small steps at honest replicas, in any order. Assumes nothing.
use Rattle.std.specs.Prelude.{◌≡◌, ℕ, suc, ◌<◌, ◌≤◌, Bool, true, cond, nat_lt}
use Rattle.basis.specs.Counts.{count}
use Rattle.basis.specs.Halls.{quorum}
use Rattle.basis.specs.Steps.{taking}
use Rattle.rules.specs.Rounds.{Vote}
use Rattle.rules.specs.Laws.{Acts, Single, Audible}
use Rattle.openings.specs.Openings.{again}
use Rattle.ballot_runs.specs.Views.{View, rule_at, face, GoesOn, OnlyAt, with_round, proposal, Fresh}

-- one small step in one ballot of replica own; ok r w: vote w may be heard in round r
pub data Step (a : Acts) (n own : ℕ) (ok : ℕ → Vote → Type 0) (v : View) : View → Type 0 where
  -- round suc r is entered, where no bit is set in it, with the bit that round r goes on with
  goes_on : (r x : ℕ) → suc r < 16 → Single x → (v.rounds (suc r)).entered ≡ 0 → 0 < face v r → GoesOn v r x → Step a n own ok v (with_round v (suc r) (a.enter n own x (v.rounds (suc r))))
  -- a delivered slot's first vote 1 of the opening round is said, where it is not
  says_again : v.delivered ≡ true → Step a n own ok v (with_round v 0 (taking (again own) (v.rounds 0)))
  hears_vote : (r : ℕ) (w : Vote) → r < 16 → Audible (rule_at a r).tags n own w → ok r w → Step a n own ok v (with_round v r ((rule_at a r).hear n own w (v.rounds r)))
  -- the rule's steps in a round, or the opening round's; replicas take them in entered rounds
  takes_steps : (r : ℕ) → r < 16 → Step a n own ok v (with_round v r ((rule_at a r).steps n own (v.rounds r)))
  -- the one bit of a verdict is decided, where it is the coin's
  decides : (r x : ℕ) → r < 16 → Single x → v.decided ≡ 0 → (v.rounds r).verdict ≡ x → face v r ≡ x →
      Step a n own ok v (record { rounds = v.rounds; shown = v.shown; decided = x; delivered = v.delivered })
  -- the coin may show more, and what it shows stays
  shows : (sh : ℕ → ℕ) → ((r : ℕ) → 0 < v.shown r → sh r ≡ v.shown r) → Step a n own ok v (record { rounds = v.rounds; shown = sh; decided = v.decided; delivered = v.delivered })
  delivers : Step a n own ok v (record { rounds = v.rounds; shown = v.shown; decided = v.decided; delivered = true })

-- a replica's ballots, by their slots
abbrev pub Ballots : Type 0
Ballots = ℕ → View

-- a step in one ballot, or proposing, which is done in all ballots at once when a quorum of slots is delivered
pub data Turn (a : Acts) (n own : ℕ) (ok : ℕ → ℕ → Vote → Type 0) (b : Ballots) : Ballots → Type 0 where
  inside : (k : ℕ) (b' : Ballots) → Step a n own (ok k) (b k) (b' k) → OnlyAt k b b' → Turn a n own ok b b'
  proposes : (b' : Ballots) → quorum n ≤ count n (λ k. (b k).delivered) → ((k : ℕ) → k < n → ((b k).rounds 0).entered ≡ 0) →
      ((k : ℕ) → b' k ≡ cond (nat_lt k n) (proposal own (b k)) (b k)) → Turn a n own ok b b'

-- the ballots of all replicas, each by its own number; those of faulty ones stand for nothing
abbrev pub Hall : Type 0
Hall = ℕ → Ballots

-- a replica of the hall that is not faulty
abbrev pub Honest : ℕ → (ℕ → Bool) → ℕ → Type 0
Honest n honest i = (i < n) × (honest i ≡ true)

-- an honest sender is quoted only with the votes that it has said, those that its own records hold of it
abbrev pub Quoted : (ℕ → Bool) → Hall → ℕ → ℕ → Vote → Type 0
Quoted honest s k r w = honest w.sender ≡ true → ((s w.sender k).rounds r).votes w.tag w.set w.sender ≡ true

pub data Run (a : Acts) (n : ℕ) (honest : ℕ → Bool) : Hall → Type 0 where
  opened : (s : Hall) → ((i k : ℕ) → Honest n honest i → Fresh (s i k)) → Run a n honest s
  turned : {s : Hall} → Run a n honest s → (i : ℕ) (s' : Hall) → Honest n honest i → Turn a n i (Quoted honest s) (s i) (s' i) → OnlyAt i s s' → Run a n honest s'
