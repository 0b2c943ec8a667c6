-- A command in a hall.
use Rattle.std.proofs.Common.{Err, w64, to_z, of_z, ap, ◌∙◌, rules}
use Rattle.std.proofs.lemmas.Result.{err_from_is_err_and}
use Rattle.halls.specs.Halls.{scene_of}
use Rattle.halls.proofs.Playing.{continued_none}
use Rattle.halls.proofs.Scripting.{offer_plays}
use Rattle.halls.proofs.player.command.Goals as goal

pub returns-in-Hall-clause-continued : goal.returns-in-Hall-clause-continued
returns-in-Hall-clause-continued c = continued_none c.args.hall.now.rule c.args.hall.now.n c.args.hall.now.tills.items

pub returns-in_err-offer-in-Offer-clause-answer : goal.returns-in_err-offer-in-Offer-clause-answer
returns-in_err-offer-in-Offer-clause-answer c =
    let p = err_from_is_err_and c.from_residual.result c.from_residual.ensures.1 in
    offer_plays (scene_of c.args.hall.now) c.args.asked c.in-Offer.till c.in-Offer.receipts c.in-Offer.cents (to_z w64 (of_z w64 c.in-Offer.cents)) c.from_residual.result _ c.in-Offer.is (search rules) c.in_err-offer-in-Offer.ensures.answer (p.1 ∙ ap Err p.2)
