-- The power so far.
use Rattle.std.proofs.Common.{◌≡◌, ◌+◌, ◌%◌, ◌^◌}
use Rattle.coin_bench.proofs.scene.right_value_at.Given as goal

abbrev pub invariant-loop : goal.invariant-loop
invariant-loop l = l.v ≡ (l.z + 7) ^ l.counter % 251
