-- The evening goes on by what the till hears, and it answers and leaves what the till held tells.
use Rattle.std.proofs.Common.{ap, arith, ◌∙◌, sym, subst, set, Result}
use Rattle.basis.specs.declared.heard.Heard.{Heard}
use Rattle.halls.specs.Faults.{Problem}
use Rattle.halls.specs.Plays.{HearsNew, one_if}
use Rattle.halls.specs.States.{numbers_in}
use Rattle.halls.specs.Sweeps.{is_new}
use Rattle.halls.proofs.Playing.{hear_news, seated_then}
use Rattle.halls.proofs.Seats.{hear_answered, hear_shown}
use Rattle.halls.proofs.calls.hear_at.Goals as goal

pub returns-clause-seated : goal.returns-clause-seated
returns-clause-seated c = seated_then c.args.rule c.args.n c.args.tills.now.items c.from.result c.index_mut.result.now c.hear.new.self (omega (arith, c.from.ensures, c.requires.low)) c.requires.counted c.requires.seated c.index_mut.ensures.value (ap numbers_in c.hear.ensures.state)

pub returns-clause-answer : goal.returns-clause-answer
returns-clause-answer c = c.hear.ensures.answer ∙ hear_answered c.args.rule c.args.n c.args.tills.now.items c.from.result c.args.number c.from.ensures c.index_mut.result.now c.requires.low c.requires.counted c.requires.seated c.index_mut.ensures.value c.args.sender c.args.packet.now

pub returns-clause-left : goal.returns-clause-left
returns-clause-left c = hear_shown c.args.rule c.args.n c.args.tills.now.items c.from.result c.args.number c.from.ensures c.index_mut.result.now c.requires.low c.requires.counted c.requires.seated c.index_mut.ensures.value c.hear.new.self c.args.sender c.args.packet.now c.hear.ensures.left

pub returns-clause-hears_new : goal.returns-clause-hears_new
returns-clause-hears_new c =
    subst (λ (r : Result Heard Problem). HearsNew c.args.rule c.args.n (one_if (is_new r)) c.args.tills.now.items (set c.args.tills.now.items c.from.result c.hear.new.self)) (sym c.hear.ensures.answer)
    (hear_news c.args.rule c.args.n c.args.tills.now.items c.from.result c.index_mut.result.now c.hear.new.self (omega (arith, c.from.ensures, c.requires.low)) c.requires.counted c.requires.seated c.index_mut.ensures.value c.args.sender c.args.packet.now (λ i. omega (arith, c.type_inv.packet i)) c.requires.said c.hear.ensures.left)
