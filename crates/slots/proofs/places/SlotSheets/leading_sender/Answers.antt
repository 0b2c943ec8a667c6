-- The first of all senders that is backed leads.
use Rattle.std.proofs.Common.{◌≡◌, true, false, rules}
use Rattle.std.proofs.lemmas.Iterator.{first_from_Range}
use Rattle.slots.specs.Places.{backed}
use Rattle.slots.proofs.Leaders.{first_leads}
use Rattle.slots.proofs.places.SlotSheets.leading_sender.Goals as goal

pub returns-clause-value : goal.returns-clause-value
returns-clause-value g c =
    let m = g.S.Sheet in
    let s = c.args.self.now in
    let b = backed m.rows s.n s.places.now c.args.phase s.slot c.args.least in
    first_leads m.rows s.n s.places.now c.args.phase s.slot c.args.least s.n c.find.result
    (first_from_Range _ _ _ _ (λ j. b j ≡ true) (λ j. b j ≡ false) c.find.ensures.ran (λ x q k. search rules) (λ x q k. search rules))
