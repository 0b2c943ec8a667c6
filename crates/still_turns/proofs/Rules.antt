-- The steps of the two supplied rules, taken twice, are the same as taken once. Assumes nothing.
use Rattle.std.proofs.Common.{Bool, true, false, sym, subst}
use Rattle.basis.specs.Steps.{settled, Idle}
use Rattle.basis.proofs.Stepping.{passed_idle}
use Rattle.ballots.proofs.Listing.{idle_settled}
use Rattle.phases.specs.Steps.{two_steps, three_steps, two_phase, three_phase, acts_of}
use Rattle.phases.specs.Turns.{two_once, three_once, two_pass, three_pass}
use Rattle.still_turns.specs.Still.{StepsSettle}

pub two_settles : StepsSettle two_phase
two_settles n own m li lo r = idle_settled (two_steps n own) 5 (settled (two_steps n own) 5 m) (subst (Idle (two_steps n own)) (sym (two_pass n own m)) (passed_idle (two_steps n own) m (two_once n own)))

pub three_settles : StepsSettle three_phase
three_settles n own m li lo r = idle_settled (three_steps n own) 5 (settled (three_steps n own) 5 m) (subst (Idle (three_steps n own)) (sym (three_pass n own m)) (passed_idle (three_steps n own) m (three_once n own)))

pub either_settles : (third : Bool) → StepsSettle (acts_of third)
either_settles true = three_settles
either_settles false = two_settles
