-- The evening goes on by the till's closing, which answers and leaves what the till holds tells.
use Rattle.std.proofs.Common.{arith, ◌∙◌}
use Rattle.halls.proofs.Playing.{close_goes}
use Rattle.halls.proofs.Seats.{close_answered, close_shown}
use Rattle.halls.proofs.calls.close_at.Goals as goal

pub returns-clause-answer : goal.returns-clause-answer
returns-clause-answer c = c.close.ensures.answer c.args.rule ∙ close_answered c.args.rule c.args.n c.args.tills.now.items c.from.result c.args.number c.from.ensures c.index_mut.result.now c.requires.low c.requires.counted c.requires.seated c.index_mut.ensures.value

pub returns-clause-left : goal.returns-clause-left
returns-clause-left c = close_shown c.args.rule c.args.n c.args.tills.now.items c.from.result c.args.number c.from.ensures c.index_mut.result.now c.requires.low c.requires.counted c.requires.seated c.index_mut.ensures.value c.close.new.self (c.close.ensures.left c.args.rule)

pub returns-clause-goes_on : goal.returns-clause-goes_on
returns-clause-goes_on c = close_goes c.args.rule c.args.n c.args.tills.now.items c.from.result c.index_mut.result.now c.close.new.self (omega (arith, c.from.ensures, c.requires.low)) c.requires.counted c.requires.seated c.index_mut.ensures.value (c.close.ensures.left c.args.rule)
