-- A ballot at rest, and what is over there. Assumes nothing.
use Rattle.std.specs.Prelude.{◌≡◌, ℕ, suc, ◌<◌, ◌≤◌, Bool, true, not, T}
use Rattle.basis.specs.Counts.{count}
use Rattle.basis.specs.Halls.{listed, faults}
use Rattle.rules.specs.Laws.{Acts, Keeps, EndsRounds}
use Rattle.ballot_runs.specs.Views.{View, rule_at, face}
use Rattle.ballot_runs.specs.Runs.{Hall, Honest, Run}

module _ (a : Acts) (n : ℕ) (honest : ℕ → Bool) (s : Hall) where
  -- ballot k at rest
  pub record Rest (k : ℕ) : Type 0 where
    -- what an honest replica has said every honest replica has recorded
    pub heard : (i j r t v : ℕ) → Honest n honest i → Honest n honest j → r < 16 → ((s j k).rounds r).votes t v j ≡ true → ((s i k).rounds r).votes t v j ≡ true
    -- an entered round takes no step
    pub still : (i r : ℕ) → Honest n honest i → r < 16 → 0 < ((s i k).rounds r).entered → (rule_at a r).steps n i ((s i k).rounds r) ≡ (s i k).rounds r
    -- no entered round is left to go on from
    pub gone_on : (i r : ℕ) → Honest n honest i → suc r < 16 → 0 < ((s i k).rounds r).entered → 0 < ((s i k).rounds r).verdict → 0 < face (s i k) r → 0 < ((s i k).rounds (suc r)).entered
    -- all have proposed; a delivered sheet is delivered everywhere, and then first vote 1 of the opening round is said
    pub proposed : (i : ℕ) → Honest n honest i → 0 < ((s i k).rounds 0).entered
    pub shared : (i j : ℕ) → Honest n honest i → Honest n honest j → (s i k).delivered ≡ true → (s j k).delivered ≡ true
    pub said_again : (i : ℕ) → Honest n honest i → (s i k).delivered ≡ true → ((s i k).rounds 0).votes 32 2 i ≡ true

  -- the coins of all honest replicas show their bits of each round below u
  abbrev pub Known : ℕ → ℕ → Type 0
  Known k u = (i r : ℕ) → Honest n honest i → r < u → 0 < face (s i k) r

-- the round has its verdict, and the next one, if there is one, is entered
abbrev pub Over : View → ℕ → Type 0
Over v r = (0 < (v.rounds r).verdict) × (suc r < 16 → 0 < (v.rounds (suc r)).entered)

-- at rest every round before the first unknown coin is over, under every rule that ends rounds
abbrev pub RoundsEnd : Type 0
RoundsEnd =
    (a : Acts) → Keeps a → EndsRounds a → (n : ℕ) (honest : ℕ → Bool) (s : Hall) → T (listed n) → count n (λ j. not (honest j)) ≤ faults n → Run a n honest s →
    (k u : ℕ) → Rest a n honest s k → u ≤ 16 → Known a n honest s k u → (i r : ℕ) → Honest n honest i → r < u → Over (s i k) r
