-- One more till is opened.
use Rattle.std.proofs.Common.{◌+◌, List, sym, subst}
use Rattle.halls.specs.Plays.{OpenedTo}
use Rattle.halls.specs.declared.till.Till.{Till}
use Rattle.halls.proofs.Beginning.{one_opened}
use Rattle.halls.proofs.opening.open_tills.Goals as goal

pub loop-number-preserved : goal.loop-number-preserved
loop-number-preserved c =
    let o = c.in_ok-open.ensures in
    subst (λ (ts : List Till). OpenedTo c.args.n c.args.coin (c.loop-number.number + 1) ts) (sym {A = List Till} c.in_ok-push.ensures.items)
    (one_opened c.args.n c.args.coin c.loop-number.number c.loop-number.tills.items c.in_ok-open.field-0 c.loop-number.invariant o.numbers o.opened o.coin o.holds)
