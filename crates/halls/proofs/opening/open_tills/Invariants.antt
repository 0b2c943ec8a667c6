-- The tills so far are opened.
use Rattle.halls.specs.Plays.{OpenedTo}
use Rattle.halls.proofs.opening.open_tills.Given as goal

abbrev pub invariant-loop-number : goal.invariant-loop-number
invariant-loop-number l = OpenedTo l.n l.coin l.number l.tills.items
