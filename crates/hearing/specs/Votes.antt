-- What a vote leaves of the ballots' records and of the later rounds. Assumes nothing.
use Rattle.std.specs.Prelude.{ℕ, zero, suc, List, slice_index_or, slice_set}
use Rattle.ballots.specs.Ballots.{with_opening}
use Rattle.ballots.specs.States.{Opened, unopened, place}
use Rattle.phases.specs.Steps.{hears}
use Rattle.rules.specs.Laws.{Acts, heard}
use Rattle.rules.specs.Rounds.{Round, Vote, cleared}

-- round r of ballot k, round 0 being the opening round
abbrev pub round_in : ℕ → ℕ → List Opened → List Round → Round
round_in k zero os ms = (slice_index_or os k unopened).opening
round_in k (suc r) os ms = slice_index_or ms (place k r) cleared

-- a vote of round 0 goes to the ballot's record
abbrev pub ballots_heard : ℕ → ℕ → Vote → List Opened → List Opened
ballots_heard k zero w os = slice_set os k (with_opening (hears w (slice_index_or os k unopened).opening) (slice_index_or os k unopened))
ballots_heard k (suc r) w os = os

-- a vote of a later round to the rule
abbrev pub rounds_heard : Acts → ℕ → ℕ → ℕ → ℕ → Vote → List Round → List Round
rounds_heard a n own k zero w ms = ms
rounds_heard a n own k (suc r) w ms = slice_set ms (place k r) (heard a n own w (slice_index_or ms (place k r) cleared))
