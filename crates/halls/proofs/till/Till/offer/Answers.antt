-- What is left is what the fresh replica's offer leaves.
use Rattle.std.proofs.Common.{rules, ap, ◌∙◌}
use Rattle.std.proofs.lemmas.List.{with_items_is, places}
use Rattle.outcomes.specs.Holdings.{Fresh as IsFresh, Running as IsRunning}
use Rattle.outcomes.specs.Tables.{holding}
use Rattle.phases.specs.Records.{meaning_of}
use Rattle.sheets.specs.OfTakings.{takings_bytes}
use Rattle.halls.specs.States.{life_of}
use Rattle.halls.specs.Tills.{held_by}
use Rattle.halls.specs.declared.state.State.{State}
use Rattle.halls.proofs.Leaving.{same_held, offers_left}
use Rattle.halls.proofs.till.Till.offer.Goals as goal

pub returns-in-Ok-clause-left : goal.returns-in-Ok-clause-left
returns-in-Ok-clause-left c =
    let t = c.args.self.now in
    same_held IsRunning c.offer_by.new.coin _ _ _ _ _ _ (with_items_is t.records c.offer_by.new.records (search (rules, places))) (with_items_is t.rounds c.offer_by.new.rounds (search (rules, places))) (with_items_is t.places c.offer_by.new.places (search (rules, places)))
    ∙ offers_left c.args.rule t.state (held_by t) _ _
    (same_held IsFresh t.coin _ _ _ _ _ _ c.as_mut_slice-records.ensures.value c.as_mut_slice-rounds.ensures.value c.as_mut_slice-places.ensures.value
    ∙ ap (λ (z : State). holding meaning_of (life_of z) t.records.items t.rounds.items t.places.items t.coin) c.in-Fresh.ensures.value)
    c.in-Fresh.fresh (takings_bytes c.args.sheet.now) c.in-Fresh.ensures.value c.in-Ok.ensures.left
