-- The phases of votes and their tags. Assumes nothing.
use Rattle.std.specs.Prelude.{ℕ, cond, Some, None, Option, Result, MatchResult, ◌≡◌, ◌==◌}
use Rattle.phases.specs.declared.vote_phase.NoVotePhase.{NoVotePhase}
use Rattle.phases.specs.declared.vote_phase.VotePhase.{VotePhase}
use Rattle.phases.specs.declared.vote_phase.VotePhase.TheVariants.{First, Second, Third}

-- the tag of a phase's votes
abbrev pub tag_of : VotePhase → ℕ
tag_of First = 32
tag_of Second = 33
tag_of Third = 34

-- the phase whose votes bear a tag
abbrev pub phase_at : ℕ → Option VotePhase
phase_at t = cond (t == 32) (Some First) (cond (t == 33) (Some Second) (cond (t == 34) (Some Third) None))

-- a tag is turned into the phase whose votes bear it, and into none where no phase's do
abbrev pub NamesPhase : ℕ → Result VotePhase NoVotePhase → Type 0
NamesPhase t r = MatchResult r (λ phase. phase_at t ≡ Some phase) (λ e. (phase_at t ≡ None) × (e.0 ≡ t))
