-- What the running replica answers and leaves is what the till answers and leaves.
use Rattle.std.proofs.Common.{rules, Err, ap, ◌∙◌}
use Rattle.std.proofs.lemmas.List.{with_items_is, places}
use Rattle.std.proofs.lemmas.Result.{err_from_is_err_and}
use Rattle.cast.specs.States.{fault_told}
use Rattle.cast.proofs.Hearing.{same_slots, hears, leaves}
use Rattle.cast.proofs.till.Till.hear.Goals as goal

pub returns-in_err-heard-clause-answer : goal.returns-in_err-heard-clause-answer
returns-in_err-heard-clause-answer c =
    let p = err_from_is_err_and c.from_residual.result c.from_residual.ensures.1 in
    ap fault_told (p.1 ∙ ap Err p.2)
    ∙ hears c.in-Running.running c.args.sender c.args.packet.now c.args.self.now.rounds c.args.self.now.state _ _ _ _ _ _ c.in-Running.is c.basic.ensures.value c.as_mut_slice.ensures.value c.as_mut_slice-2.ensures.value c.in_err-heard.ensures.answer

pub returns-in_err-heard-clause-left : goal.returns-in_err-heard-clause-left
returns-in_err-heard-clause-left c =
    let t = c.args.self.now in
    same_slots _ _ _ _ (with_items_is t.records c.hear.new.records (search (rules, places))) (with_items_is t.places c.hear.new.places (search (rules, places)))
    ∙ leaves c.in-Running.running c.args.sender c.args.packet.now t.rounds t.state _ _ _ _ _ _ c.in-Running.is c.basic.ensures.value c.as_mut_slice.ensures.value c.as_mut_slice-2.ensures.value c.in_err-heard.ensures.left

pub returns-clause-answer : goal.returns-clause-answer
returns-clause-answer c =
    hears c.in-Running.running c.args.sender c.args.packet.now c.args.self.now.rounds c.args.self.now.state _ _ _ _ _ _ c.in-Running.is c.basic.ensures.value c.as_mut_slice.ensures.value c.as_mut_slice-2.ensures.value c.in_ok-heard.ensures.answer

pub returns-clause-left : goal.returns-clause-left
returns-clause-left c =
    let t = c.args.self.now in
    same_slots _ _ _ _ (with_items_is t.records c.hear.new.records (search (rules, places))) (with_items_is t.places c.hear.new.places (search (rules, places)))
    ∙ leaves c.in-Running.running c.args.sender c.args.packet.now t.rounds t.state _ _ _ _ _ _ c.in-Running.is c.basic.ensures.value c.as_mut_slice.ensures.value c.as_mut_slice-2.ensures.value c.in_ok-heard.ensures.left
