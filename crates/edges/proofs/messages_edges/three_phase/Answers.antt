-- Tag 0x22 is added to the basic ones.
use Rattle.std.proofs.Common.{true, ◌||◌, refl, ap, ◌∙◌}
use Rattle.edges.proofs.messages_edges.three_phase.Goals as goal

pub returns : goal.returns
returns c = record { n = refl; third = c.and.ensures.names 34 ∙ ap (λ b. b || true) (c.basic.ensures.names 34); shares = refl }
