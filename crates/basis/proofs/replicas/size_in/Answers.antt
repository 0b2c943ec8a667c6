-- The lowest n bits alone count; a mask of 16 bits has none beyond.
use Rattle.std.proofs.Common.{ℕ, ◌-◌, sym, ap, ◌∙◌, ⊎_elim, arith}
use Rattle.std.proofs.lemmas.Bool.{cases_lt, both_ways}
use Rattle.std.proofs.lemmas.Nat.{one_shl}
use lib.Bits.{bit_and, and_mask}
use lib.Count.{ones}
use Rattle.basis.specs.Counts.{has}
use Rattle.basis.proofs.Counts.{count_more, has_high, ones_low}
use Rattle.basis.proofs.replicas.size_in.Goals as goal

pub returns-then-n-ge-SLOTS : goal.returns-then-n-ge-SLOTS
returns-then-n-ge-SLOTS c =
    let m = c.args.members in
    c.size.ensures.value ∙ sym (count_more c.args.n 16 (has m) (omega arith)
    (λ j t. ⊎_elim (λ l. l) (λ l. absurd (both_ways (has m j) (has_high 16 m j (omega (arith, c.ranges.members.fits)) l) t)) (cases_lt j 16)))

pub returns-else-n-ge-SLOTS : goal.returns-else-n-ge-SLOTS
returns-else-n-ge-SLOTS c =
    let m = c.args.members in
    let n = c.args.n in
    ap (λ (x : ℕ). ones (bit_and m (x - 1))) (one_shl n 16 (omega arith)) ∙ ap ones (and_mask m n) ∙ ones_low n m
