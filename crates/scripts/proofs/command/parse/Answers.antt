-- A line written in its form asks for what it was written from. Assumes nothing.
use Rattle.std.proofs.Common.{◌≡◌, ◌∙◌, rules}
use Rattle.scripts.specs.Commands.{command_of}
use Rattle.scripts.proofs.Writing.{command_back}
use Rattle.scripts.proofs.command.parse.Goals as goal

pub returns-in-Hall-Some-clause-back : goal.returns-in-Hall-Some-clause-back
returns-in-Hall-Some-clause-back c a w e =
    let value : c.parse_hall.result ≡ command_of c.args.line.now = search rules in value ∙ command_back a c.args.line.now w e

pub returns-in-Offer-Some-clause-back : goal.returns-in-Offer-Some-clause-back
returns-in-Offer-Some-clause-back c a w e =
    let value : c.parse_offer.result ≡ command_of c.args.line.now = search rules in value ∙ command_back a c.args.line.now w e

pub returns-in-Close-Some-clause-back : goal.returns-in-Close-Some-clause-back
returns-in-Close-Some-clause-back c a w e =
    let value : c.parse_close.result ≡ command_of c.args.line.now = search rules in value ∙ command_back a c.args.line.now w e
