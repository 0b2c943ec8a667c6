-- A set of replicas below the part's end fits a mask.
use Rattle.std.proofs.Common.{◌-◌, ◌*◌, ◌^◌, ◌<◌, arith, pow_mono, lt_of_lt_of_le}
use lib.Pow.{shl_exact}
use Rattle.polynomials.proofs.Choosing.{moved_below}
use Rattle.polynomials.proofs.search.Part.nth.Goals as goal

pub overflow_cast-result-2 : goal.overflow_cast-result-2
overflow_cast-result-2 c =
    let low : c.args.k * 2 ^ c.args.self.from < 2 ^ 16 = lt_of_lt_of_le (moved_below c.args.self.from c.args.self.to c.args.k c.args.self.ordered c.requires) (pow_mono c.args.self.small) in
    omega (arith, low, shl_exact (c.args.self.to - c.args.self.from) c.args.self.from 32 c.requires (omega (arith, c.args.self.ordered, c.args.self.small)))

pub returns : goal.returns
returns c = shl_exact (c.args.self.to - c.args.self.from) c.args.self.from 32 c.requires (omega (arith, c.args.self.ordered, c.args.self.small))
