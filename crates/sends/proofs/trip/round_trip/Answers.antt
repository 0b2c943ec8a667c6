-- What was written is what is read.
use Rattle.std.proofs.Common.{take, ap, w32, Fits, rules, arith}
use Rattle.sends.proofs.Trips.{trip, sent_in_range}
use Rattle.sends.proofs.trip.round_trip.Goals as goal

pub returns-clause-answer : goal.returns-clause-answer
returns-clause-answer c =
    let e = c.args.entry in
    let out = c.args.out.now in
    let f : Fits w32 e.receipts = search rules in
    let a = c.in_ok-len.ensures.answer in
    trip e (sent_in_range e c.in_ok-len.len out a) (omega arith) c.in_ok-len.len out _ _ a (ap (take c.in_ok-len.len) c.send.ensures.output) c.receive.ensures
