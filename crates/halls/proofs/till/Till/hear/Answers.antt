-- A till that has offered answers and leaves what its replica does.
use Rattle.std.proofs.Common.{rules, Err, ap, ◌∙◌}
use Rattle.std.proofs.lemmas.List.{with_items_is, places}
use Rattle.std.proofs.lemmas.Result.{err_from_is_err_and}
use Rattle.halls.specs.Faults.{fault_told}
use Rattle.halls.specs.States.{life_of}
use Rattle.halls.specs.Tills.{held_by}
use Rattle.halls.proofs.Leaving.{same_held, hears_told, hears_left}
use Rattle.halls.proofs.till.Till.hear.Goals as goal

pub returns-in_err-hear_by-clause-answer : goal.returns-in_err-hear_by-clause-answer
returns-in_err-hear_by-clause-answer c =
    let t = c.args.self.now in
    let p = err_from_is_err_and c.from_residual.result c.from_residual.ensures.1 in
    ap fault_told (p.1 ∙ ap Err p.2)
    ∙ hears_told c.args.rule t.state (held_by t) _ (same_held (life_of t.state) t.coin _ _ _ _ _ _ c.as_mut_slice-records.ensures.value c.as_mut_slice-rounds.ensures.value c.as_mut_slice-places.ensures.value) c.in-Active.active c.args.sender c.args.packet.now _ c.in-Active.is (c.in_err-hear_by.ensures.answer (life_of t.state))

pub returns-in_err-hear_by-clause-left : goal.returns-in_err-hear_by-clause-left
returns-in_err-hear_by-clause-left c =
    let t = c.args.self.now in
    same_held (life_of t.state) c.hear_by.new.coin _ _ _ _ _ _ (with_items_is t.records c.hear_by.new.records (search (rules, places))) (with_items_is t.rounds c.hear_by.new.rounds (search (rules, places))) (with_items_is t.places c.hear_by.new.places (search (rules, places)))
    ∙ hears_left c.args.rule t.state (held_by t) _ _ (same_held (life_of t.state) t.coin _ _ _ _ _ _ c.as_mut_slice-records.ensures.value c.as_mut_slice-rounds.ensures.value c.as_mut_slice-places.ensures.value) c.in-Active.active c.args.sender c.args.packet.now c.in-Active.is (c.in_err-hear_by.ensures.left (life_of t.state))

pub returns-clause-answer : goal.returns-clause-answer
returns-clause-answer c =
    let t = c.args.self.now in
    hears_told c.args.rule t.state (held_by t) _ (same_held (life_of t.state) t.coin _ _ _ _ _ _ c.as_mut_slice-records.ensures.value c.as_mut_slice-rounds.ensures.value c.as_mut_slice-places.ensures.value) c.in-Active.active c.args.sender c.args.packet.now _ c.in-Active.is (c.in_ok-hear_by.ensures.answer (life_of t.state))

pub returns-clause-left : goal.returns-clause-left
returns-clause-left c =
    let t = c.args.self.now in
    same_held (life_of t.state) c.hear_by.new.coin _ _ _ _ _ _ (with_items_is t.records c.hear_by.new.records (search (rules, places))) (with_items_is t.rounds c.hear_by.new.rounds (search (rules, places))) (with_items_is t.places c.hear_by.new.places (search (rules, places)))
    ∙ hears_left c.args.rule t.state (held_by t) _ _ (same_held (life_of t.state) t.coin _ _ _ _ _ _ c.as_mut_slice-records.ensures.value c.as_mut_slice-rounds.ensures.value c.as_mut_slice-places.ensures.value) c.in-Active.active c.args.sender c.args.packet.now c.in-Active.is (c.in_ok-hear_by.ensures.left (life_of t.state))
