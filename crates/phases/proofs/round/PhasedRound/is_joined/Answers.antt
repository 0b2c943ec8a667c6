-- A first vote that is said, or that nobody has cast, is not joined.
use Rattle.std.proofs.Common.{◌||◌, eqb, ap, ◌∙◌}
use Rattle.rules.specs.Rounds.{bit_set}
use Rattle.phases.specs.Records.{for_set}
use Rattle.phases.proofs.Finished.{joined}
use Rattle.phases.proofs.round.PhasedRound.is_joined.Goals as goal

pub returns : goal.returns
returns c = joined c.args.member.n c.args.member.own c.cast_for-cast.result (bit_set c.args.bit) c.args.self.now (c.contains.result || eqb c.cast_for-cast.result 0)
    (c.cast_for-cast.ensures ∙ ap (for_set c.args.self.now.first) c.from.ensures) (ap (λ b. b || eqb c.cast_for-cast.result 0) c.contains.ensures)
