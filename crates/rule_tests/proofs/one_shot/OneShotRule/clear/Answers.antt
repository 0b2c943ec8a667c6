-- A round of no masks is cleared.
use Rattle.std.proofs.Common.{refl}
use Rattle.rule_tests.proofs.Masks.{none_cast}
use Rattle.rule_tests.proofs.one_shot.OneShotRule.clear.Goals as goal

pub returns : goal.returns
returns c = none_cast _ (refl, (refl, refl))
