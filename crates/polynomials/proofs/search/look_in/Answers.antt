-- A part with too few held shares shows nothing.
use Rattle.std.proofs.Common.{sym, arith}
use Rattle.polynomials.specs.Polynomials.{at}
use Rattle.polynomials.proofs.Choosing.{few_in_part}
use Rattle.polynomials.proofs.search.look_in.Goals as goal

pub returns-then-size_of-honest_size : goal.returns-then-size_of-honest_size
returns-then-size_of-honest_size c = sym (few_in_part c.args.n c.args.held c.args.part.from c.args.part.to (at c.args.shares.now) c.args.part.ordered c.args.part.small (omega (arith, c.size_of.ensures, c.honest_size.ensures, c.if-size_of-honest_size.true)))
