-- The union by which of the two masks has a member.
use Rattle.std.proofs.Common.{ℕ, ◌+◌, cond, leb, ◌∙◌, ap₂}
use Rattle.basis.proofs.Counts.{count_cong}
use Rattle.phases.specs.Steps.{union}
use Rattle.phases.proofs.round.PhasedRound.union_in.Goals as goal

pub returns : goal.returns
unfolding union
returns c = c.union_of.ensures ∙ ap₂ (λ (x y : ℕ). cond (leb 1 x) 1 0 + cond (leb 1 y) 2 0)
    (count_cong c.args.n _ _ c.count_in.ensures.zero) (count_cong c.args.n _ _ c.count_in.ensures.one)
