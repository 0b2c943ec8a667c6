-- That steps taken twice are steps taken once, and that looking then changes nothing. Assumes nothing.
use Rattle.std.specs.Prelude.{◌≡◌, ℕ, ◌<◌, ◌≤◌, Bool, not, T}
use Rattle.basis.specs.Counts.{count}
use Rattle.basis.specs.Halls.{listed, faults}
use Rattle.evenings.specs.Evenings.{Replica, held, Honest, Evening}
use Rattle.outcomes.specs.Calls.{HasOffered, look_after}
use Rattle.outcomes.specs.Holdings.{Setting}
use Rattle.rules.specs.Laws.{Acts, Reached}
use Rattle.rules.specs.Rounds.{Round}

-- Steps taken twice are steps taken once, in each round that lawful calls reach. No law asks it of a rule.
abbrev pub StepsSettle : Acts → Type 0
StepsSettle a = (n own : ℕ) (m : Round) → T (listed n) → own < n → Reached a n own m → a.steps n own (a.steps n own m) ≡ a.steps n own m

-- In every evening under such a rule looking changes nothing at an honest replica that has offered, whatever its coin.
abbrev pub AlwaysStill : {R C Row : Type 0} → Setting R C → (Row → Round) → Type 0
AlwaysStill {R} {C} {Row} g meaning =
    StepsSettle g.rule → (n : ℕ) (honest : ℕ → Bool) (s : ℕ → Replica R C Row) → T (listed n) → count n (λ j. not (honest j)) ≤ faults n →
    Evening g meaning n honest s → (i : ℕ) → Honest g meaning n honest i → HasOffered (s i).life →
    look_after g n i (held meaning (s i)) ≡ held meaning (s i)
