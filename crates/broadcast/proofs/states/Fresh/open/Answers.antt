-- What was cleared holds nothing.
use Rattle.std.proofs.Common.{◌≡◌, length, sym, ap, ◌∙◌, ap₂, rules}
use Rattle.broadcast.specs.Calls.{of_hall}
use Rattle.broadcast.specs.Opening.{cleared_to}
use Rattle.slots.specs.Steps.{cleared}
use Rattle.broadcast.proofs.Clearing.{opens}
use Rattle.broadcast.proofs.states.Fresh.open.Goals as goal

pub returns : goal.returns
returns g c =
    let m = g.S.Sheet in
    let rows = m.rows in
    let lr : length c.clear_to.new.rows ≡ length c.args.records.now = search rules in
    let lp : length c.clear_to-2.new.rows ≡ length c.args.places.now = search rules in
    record {
      answer = search rules;
      left = search rules;
      opened = opens rows (of_hall c.args.n m.LEN m.lawful) c.args.rounds c.args.records.now c.clear_to.new.rows c.args.places.now c.clear_to-2.new.rows g.met.S.Sheet.empty
          (sym c.if-not-are_large_enough.ensures) lr lp
          (c.clear_to.ensures ∙ ap (λ i. cleared_to i cleared c.args.records.now) c.from.ensures)
          (c.clear_to-2.ensures ∙ ap₂ (λ i v. cleared_to i v c.args.places.now) c.places_in.ensures c.empty_row.ensures);
    }
