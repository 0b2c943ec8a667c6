-- No slot so far has a message.
use Rattle.std.proofs.Common.{◌≡◌, None}
use Rattle.broadcast.specs.Saying.{earliest}
use Rattle.broadcast.proofs.say.Recorded.earliest_in.Given as goal

abbrev pub invariant-loop-slot : goal.invariant-loop-slot
invariant-loop-slot g l =
    let m = g.S.Sheet in
    earliest m.rows l.self.member.n l.self.member.own l.self.places.now l.phase l.from l.slot ≡ None
