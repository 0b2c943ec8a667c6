-- One factor more.
use Rattle.std.proofs.Common.{◌≡◌, ℕ, ◌+◌, ◌*◌, ◌%◌, ◌^◌, sym, ap, ◌∙◌, arith}
use native.Mathlib.Nat.{pow-zero}
use Rattle.coin_bench.proofs.Dealing.{power}
use Rattle.coin_bench.proofs.scene.right_value_at.Goals as goal

pub loop-init : goal.loop-init
loop-init c = ap (λ (x : ℕ). x % 251) (sym (pow-zero (c.args.z + 7)))

pub loop-preserved : goal.loop-preserved
loop-preserved c = ap (λ (x : ℕ). c.loop.v * (x + 7) % 251) c.from.ensures ∙ power (c.args.z + 7) c.loop.counter c.loop.v c.loop.invariant

pub returns : goal.returns
returns c = let e : c.loop.counter ≡ c.args.f = omega arith in c.loop.invariant ∙ ap (λ (x : ℕ). (c.args.z + 7) ^ x % 251) e
