-- The evening goes on by what the till offers, and it leaves what the till held tells.
use Rattle.std.proofs.Common.{arith}
use Rattle.sheets.specs.OfTakings.{takings_bytes}
use Rattle.sheets.specs.OfTakingsLemmas.{amount_octets, amount_lawful, in_range_of}
use Rattle.halls.proofs.Playing.{offer_goes}
use Rattle.halls.proofs.Seats.{offer_shown}
use Rattle.halls.proofs.calls.offer_at.Goals as goal

pub returns-clause-left : goal.returns-clause-left
returns-clause-left c =
    offer_shown c.args.rule c.args.n c.args.tills.now.items c.from.result c.args.number c.from.ensures c.index_mut.result.now c.requires.low c.requires.counted c.requires.seated c.index_mut.ensures.value c.offer.new.self (takings_bytes c.args.sheet.now) c.offer.ensures.left

pub returns-clause-goes_on : goal.returns-clause-goes_on
returns-clause-goes_on c =
    let x = c.args.sheet.now in
    offer_goes c.args.rule c.args.n c.args.tills.now.items c.from.result c.index_mut.result.now c.offer.new.self (omega (arith, c.from.ensures, c.requires.low)) c.requires.counted c.requires.seated c.index_mut.ensures.value (takings_bytes x) (amount_lawful x.cents x.receipts (in_range_of x)) (amount_octets x.cents x.receipts) c.offer.ensures.left
