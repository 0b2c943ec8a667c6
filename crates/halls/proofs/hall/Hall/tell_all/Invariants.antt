-- The hall is the same so far, its evening goes on, and the tills below have heard all.
use Rattle.std.proofs.Common.{◌≡◌}
use Rattle.halls.specs.Plays.{Progress, one_if}
use Rattle.halls.specs.Scenes.{shown}
use Rattle.halls.specs.Sweeps.{told_below}
use Rattle.halls.proofs.hall.Hall.tell_all.Given as goal

abbrev pub invariant-loop-to : goal.invariant-loop-to
invariant-loop-to l =
    Progress (one_if l.any_new) l.initial.self.rule l.initial.self.n l.initial.self.tills.items l.self.rule l.self.n l.self.tills.items
    × (record { news = l.any_new; tills = shown l.self.tills.items } ≡ told_below l.initial.self.rule l.initial.self.n l.to l.from (shown l.initial.self.tills.items))
