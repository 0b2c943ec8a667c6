-- Nobody in the set is no honest one in it.
use Rattle.std.proofs.Common.{ℕ, not, eqb, sym, ap, ◌∙◌}
use Rattle.phases.proofs.Masks.{none_honest}
use Rattle.phases.proofs.counting.holds_honest.Goals as goal

pub returns-else-members-ne0 : goal.returns-else-members-ne0
returns-else-members-ne0 c = ap (λ (z : ℕ). not (eqb z 0)) c.if-members-ne0.false ∙ sym (none_honest c.args.n c.args.members c.if-members-ne0.false)
