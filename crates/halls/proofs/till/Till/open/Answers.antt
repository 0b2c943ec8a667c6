-- A till that is opened holds tables of the hall's size, cleared.
use Rattle.std.proofs.Common.{rules, ◌≡◌, ℕ, ◌*◌, List, length, ap, sym, ◌∙◌, arith}
use Rattle.std.proofs.lemmas.List.{with_items_is, places}
use Rattle.outcomes.specs.Holdings.{Fresh as IsFresh}
use Rattle.outcomes.specs.Tables.{holding}
use Rattle.phases.specs.Records.{meaning_of}
use Rattle.slots.specs.Places.{all_places}
use Rattle.halls.proofs.Leaving.{same_held}
use Rattle.halls.proofs.Newly.{opened_holds}
use Rattle.halls.proofs.till.Till.open.Goals as goal

pub returns-clause-holds : goal.returns-clause-holds
returns-clause-holds c =
    let records : length c.as_mut_slice.result.now ≡ c.args.n = ap length c.as_mut_slice.ensures.value ∙ omega (arith, c.in_ok-records.ensures.len, c.from-size.ensures) in
    let rounds : length c.as_mut_slice-2.result.now ≡ 15 * c.args.n = ap length c.as_mut_slice-2.ensures.value ∙ omega (arith, c.in_ok-rounds.ensures.len, c.from-size.ensures) in
    let rows : length c.as_mut_slice-3.result.now ≡ all_places c.args.n = ap length c.as_mut_slice-3.ensures.value ∙ sym c.in_ok-places.places.ok.0 ∙ c.in_ok-places.ensures.len ∙ c.places_in.ensures in
    same_held IsFresh c.same.result _ _ _ _ _ _ (with_items_is c.in_ok-records.records c.open.new.records (search (rules, places))) (with_items_is c.in_ok-rounds.rounds c.open.new.rounds (search (rules, places))) (with_items_is c.in_ok-places.places c.open.new.places (search (rules, places)))
    ∙ ap (λ (z : List ℕ). holding meaning_of IsFresh c.open.new.records c.open.new.rounds c.open.new.places (record { numbers = z })) c.same.ensures.value
    ∙ opened_holds c.args.n c.args.number c.args.coin _ _ _ _ _ _ records rounds rows _ c.in_ok-fresh.ensures.answer c.in_ok-fresh.ensures.left
