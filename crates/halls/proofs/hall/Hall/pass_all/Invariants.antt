-- The hall is the same so far, its evening goes on, and what is left to hear gives the whole.
use Rattle.std.proofs.Common.{◌≡◌, ◌-◌}
use Rattle.halls.specs.Plays.{Progress, one_if}
use Rattle.halls.specs.Scenes.{shown}
use Rattle.halls.specs.Sweeps.{positions, heard_from, all_heard}
use Rattle.halls.proofs.hall.Hall.pass_all.Given as goal

abbrev pub invariant-loop-turn : goal.invariant-loop-turn
invariant-loop-turn l =
    Progress (one_if l.any_new) l.initial.self.rule l.initial.self.n l.initial.self.tills.items l.self.rule l.self.n l.self.tills.items
    × (heard_from l.initial.self.rule l.initial.self.n (positions - l._turn) l.from l.to l.position (record { news = l.any_new; tills = shown l.self.tills.items }) ≡ all_heard l.initial.self.rule l.initial.self.n l.from l.to (shown l.initial.self.tills.items))
