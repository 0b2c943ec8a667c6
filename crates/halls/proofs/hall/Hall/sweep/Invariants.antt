-- The hall is the same so far, its evening goes on, and all have heard what the tills below said.
use Rattle.std.proofs.Common.{◌≡◌}
use Rattle.halls.specs.Plays.{Progress, one_if}
use Rattle.halls.specs.Scenes.{shown}
use Rattle.halls.specs.Sweeps.{swept_below}
use Rattle.halls.proofs.hall.Hall.sweep.Given as goal

abbrev pub invariant-loop-from : goal.invariant-loop-from
invariant-loop-from l =
    Progress (one_if l.any_new) l.initial.self.rule l.initial.self.n l.initial.self.tills.items l.self.rule l.self.n l.self.tills.items
    × (record { news = l.any_new; tills = shown l.self.tills.items } ≡ swept_below l.initial.self.rule l.initial.self.n l.from (shown l.initial.self.tills.items))
