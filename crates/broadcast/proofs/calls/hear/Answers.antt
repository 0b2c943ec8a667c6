-- What was read is for a slot of the hall, and its sheet is lawful.
use Rattle.std.proofs.Common.{Ok, sym, ap, ◌∙◌, arith}
use Rattle.std.proofs.lemmas.Bool.{and_parts, ltb-true, leb-true}
use Rattle.messages.specs.Reading.{syntax, plain, part_placed}
use Rattle.broadcast.proofs.Heard.{sheet_read}
use Rattle.broadcast.proofs.calls.hear.Goals as goal

pub take_sheet-requires : goal.take_sheet-requires
take_sheet-requires g c =
    let m = g.S.Sheet in
    let y = syntax m.LEN m.lawful (record { n = c.args.member.n; tags = c.args.tags; shares = c.args.shares }) in
    let large = and_parts _ _ (sym c.if-not-are_large_enough.ensures) in
    let more = and_parts _ _ large.1 in
    let other = and_parts _ _ (sym c.if-not-is_another.ensures) in
    let f = sheet_read y c.read.ensures.exact c.args.packet.now (λ i. omega (arith, c.type_inv.packet i)) c.in-Sheet.phase c.in-Sheet.slot (part_placed c.in-Sheet.sheet)
    (sym c.in_ok-phase.ensures.answer ∙ ap (λ x. plain (Ok x)) c.in-Sheet.is) in
    record { slot = f.0; sender = ltb-true _ _ other.0; records = leb-true _ _ large.0; places = leb-true _ _ more.1; lawful = f.1 }
