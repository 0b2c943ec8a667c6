-- A new coin has taken nothing.
use Rattle.edges.proofs.Tossing.{fresh}
use Rattle.edges.proofs.coin_edges.new_coin.Goals as goal

pub returns-clause-coin : goal.returns-clause-coin
returns-clause-coin c = fresh c.new.result c.new.ensures.answer c.new.ensures.coin
