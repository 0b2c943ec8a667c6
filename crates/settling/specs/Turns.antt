-- The steps of a slot's sheets and then of its ballot. Assumes nothing.
use Rattle.std.specs.Prelude.{ℕ}
use Rattle.outcomes.specs.Holdings.{Setting, Holding}
use Rattle.outcomes.specs.Taking.{sheets_taken, votes_taken}

-- the steps of slot k's sheets, and then those of its ballot
abbrev pub both_taken : {R C : Type 0} → Setting R C → ℕ → ℕ → ℕ → Holding R C → Holding R C
both_taken g n own k h = votes_taken g n own k (sheets_taken g n own k h)
