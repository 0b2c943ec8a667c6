-- The hall is the same so far, each sweep so far brought something new, and the sweeps that are left give the whole.
use Rattle.std.proofs.Common.{◌≡◌, ◌-◌}
use Rattle.halls.specs.Plays.{Progress}
use Rattle.halls.specs.Scenes.{shown}
use Rattle.halls.specs.Sweeps.{most_sweeps, rested}
use Rattle.halls.proofs.hall.Hall.rest.Given as goal

abbrev pub invariant-loop-turn : goal.invariant-loop-turn
invariant-loop-turn l =
    Progress l._turn l.initial.self.rule l.initial.self.n l.initial.self.tills.items l.self.rule l.self.n l.self.tills.items
    × (rested l.initial.self.rule l.initial.self.n (most_sweeps - l._turn) (shown l.self.tills.items) ≡ rested l.initial.self.rule l.initial.self.n most_sweeps (shown l.initial.self.tills.items))
