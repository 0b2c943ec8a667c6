-- The shares of the replicas before this one are taken.
use Rattle.std.proofs.Common.{◌≡◌}
use Rattle.coin_bench.specs.Scenes.{taken_between}
use Rattle.coin_bench.proofs.scene.take_from_to.Given as goal

abbrev pub invariant-loop-sender : goal.invariant-loop-sender
invariant-loop-sender l = l.coin ≡ taken_between l.n l.at.ballot l.at.round l.from l.sender l.initial.coin
