-- The hall stays as it is.
use Rattle.std.proofs.Common.{◌≡◌}
use Rattle.coin_bench.proofs.scene.Scene.median_times.Given as goal

abbrev pub invariant-loop-toss : goal.invariant-loop-toss
invariant-loop-toss l = l.self.n ≡ l.initial.self.n
