-- Each step once, in their order, is all that apply.
use Rattle.std.proofs.Common.{cond, Some, None, ap, ◌∙◌}
use Rattle.slots.proofs.Stepping.{settles}
use Rattle.slots.proofs.steps.settle_slot.Goals as goal

pub returns : goal.returns
returns g c =
    let m = g.S.Sheet in
    let l = g.met.S.Sheet in
    settles m.rows c.args.n c.args.own c.args.slot m.bytes
    (λ x. l.restored (m.bytes x) (l.octets x) (l.sized (m.bytes x) (l.accepted x)) ∙ ap (λ b. cond b (Some (m.bytes x)) None) (l.accepted x))
    c.requires.low c.requires.below c.args.row.now _ c.args.places.now _ _ _ _ c.requires.enough
    c.sheet_from-send.ensures c.say_due.ensures c.ready_to_say-ready.ensures c.say_due-2.ensures c.deliver.ensures
