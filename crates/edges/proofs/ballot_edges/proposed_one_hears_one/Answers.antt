-- A second vote 1 of one other decides nothing.
use Rattle.std.proofs.Common.{replicate}
use Rattle.phases.proofs.Masks.{default_cleared}
use Rattle.edges.specs.Openings.{state_of}
use Rattle.edges.proofs.Deciding.{fresh, undecided_by_two}
use Rattle.edges.proofs.ballot_edges.proposed_one_hears_one.Goals as goal

pub returns : goal.returns
returns g c =
    let coin = c.args.coin.now in
    let round = c.default-rounds.result in
    undecided_by_two _ g.C.Coin.acts coin c.of.result
    (state_of c.unopened-ballot.result (replicate 15 round) coin) (state_of c.propose.new.ballot c.propose.new.rounds c.propose.new.coin) (state_of c.hear.new.ballot c.hear.new.rounds c.hear.new.coin)
    (fresh c.unopened-ballot.result round coin c.unopened-ballot.ensures (default_cleared round c.default-rounds.ensures))
    c.propose.ensures c.hear.ensures c.of.ensures
