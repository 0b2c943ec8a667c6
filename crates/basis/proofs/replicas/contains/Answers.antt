-- Bit j of a mask by shift and mask; a mask of 16 bits has none from 16 on.
use Rattle.std.proofs.Common.{ℕ, ◌/◌, ◌^◌, eqb, sym, ap, ◌∙◌, arith, le-ltb}
use lib.Bits.{and_mask}
use Rattle.basis.specs.Counts.{has}
use Rattle.basis.proofs.Counts.{has_high}
use Rattle.basis.proofs.replicas.contains.Goals as goal

pub returns-then-j-lt-SLOTS : goal.returns-then-j-lt-SLOTS
unfolding has
returns-then-j-lt-SLOTS c = ap (λ (x : ℕ). eqb x 1) (and_mask (c.args.members / 2 ^ c.args.j) 1)

pub returns-else-j-lt-SLOTS : goal.returns-else-j-lt-SLOTS
returns-else-j-lt-SLOTS c = le-ltb c.args.j 16 (omega arith) ∙ sym (has_high 16 c.args.members c.args.j (omega (arith, c.ranges.members.fits)) (omega arith))
