-- A replica that has offered, by its numbers and its state. Assumes nothing.
use Rattle.basis.specs.declared.member.Member.{Member}
use Rattle.outcomes.specs.Holdings.{Life, Running as IsRunning, Closed as IsClosed}
use Rattle.halls.specs.declared.state.Active.{Active}
use Rattle.halls.specs.declared.state.Active.TheVariants.{Running, Closed}

abbrev pub active_member : Active → Member
active_member (Running r) = r.member
active_member (Closed c) = c.member

abbrev pub active_life : Active → Life
active_life (Running r) = IsRunning
active_life (Closed c) = IsClosed
