-- So far the slots below have taken their steps.
use Rattle.std.proofs.Common.{◌≡◌}
use Rattle.broadcast.specs.Calls.{of_hall, looked}
use Rattle.broadcast.proofs.calls.look.Given as goal

abbrev pub invariant-loop-slot : goal.invariant-loop-slot
invariant-loop-slot g l =
    let m = g.S.Sheet in
    record { records = l.records; places = l.places }
    ≡ looked m.rows (of_hall l.member.n m.LEN m.lawful) l.member.own l.slot (record { records = l.initial.records; places = l.initial.places })
