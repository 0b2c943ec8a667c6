-- An offer in numbers of fixed width, part by part. Assumes nothing.
use Rattle.std.proofs.Common.{◌≡◌, ℕ, ◌^◌, min, true, false, nat_lt, Some, None, Option, refl}
use Rattle.std.specs.Prelude.{ℤ, cond}
use Rattle.std.specs.Int.{saturate_to_bits}
use Rattle.std.specs.Option.{option_map}
use Rattle.scripts.specs.declared.command.Command.{Command}
use Rattle.scripts.specs.declared.command.Command.TheVariants as command
use Rattle.scripts.specs.Commands.{offer, in_32_bits, three_parts, fit}

-- the parts of the command, where all are there
abbrev pub offered : Option ℕ → Option ℤ → Option ℕ → Option Command
offered None z k = None
offered (Some t) None k = None
offered (Some t) (Some z) None = None
offered (Some t) (Some z) (Some k) = Some (command.Offer t z k)

-- they fit one by one
pub parts_fit : (t : Option ℕ) (z : Option ℤ) (k : Option ℕ) → fit (three_parts offer t z k) ≡ offered (option_map (λ k. min k 255) t) (option_map (saturate_to_bits 63) z) (in_32_bits k)
parts_fit None z k = refl
parts_fit (Some t) None k = refl
parts_fit (Some t) (Some z) None = refl
parts_fit (Some t) (Some z) (Some k) =
    elim (nat_lt k (2 ^ 32)) as (λ b. cond b (Some (command.Offer (min t 255) (saturate_to_bits 63 z) k)) None ≡ offered (Some (min t 255)) (Some (saturate_to_bits 63 z)) (cond b (Some k) None))
    [ true ↦ refl | false ↦ refl ]
