-- What stands under a tag of no phase: nothing, whatever is recorded. Assumes nothing.
use Rattle.std.specs.Prelude.{◌≡◌, ℕ, false, None}
use Rattle.rules.specs.Rounds.{Round, voted}
use Rattle.phases.specs.declared.round.PhasedRound.{PhasedRound}
use Rattle.phases.specs.Phases.{phase_at}
use Rattle.phases.specs.Records.{meaning_of}
use Rattle.phases.specs.Steps.{records, counted, enough, union, conclude}

pub record NothingUnder (n own : ℕ) (m : Round) (t : ℕ) : Type 0 where
  -- no vote is recorded there, and none is counted
  pub no_vote : (v j : ℕ) → m.votes t v j ≡ false
  pub nobody_voted : (j : ℕ) → voted t j m ≡ false
  pub none_counted : (x j : ℕ) → counted n m t x j ≡ false
  -- so there are never enough for a verdict, their union is empty, and no verdict is taken from them
  pub not_enough : enough n m t ≡ false
  pub no_union : union n m t ≡ 0
  pub no_verdict : (conclude n own t).applies m ≡ false
  -- and recording a vote there changes nothing
  pub not_recorded : (v j : ℕ) → records t v j m ≡ m

abbrev pub NothingElsewhere : Type 0
NothingElsewhere = (r : PhasedRound) (n own t : ℕ) → phase_at t ≡ None → NothingUnder n own (meaning_of r) t
