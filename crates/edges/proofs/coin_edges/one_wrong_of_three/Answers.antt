-- What three held shares show.
use Rattle.std.proofs.Common.{Ok, ap, ◌∙◌}
use Rattle.edges.proofs.Tossing.{three_show_none}
use Rattle.edges.proofs.coin_edges.one_wrong_of_three.Goals as goal

pub returns : goal.returns
returns c = ap Ok (c.first_bit.ensures ∙ three_show_none c.in_ok-coin.coin c.take_share.new.coin c.take_share-2.new.coin c.in_ok-coin.ensures.coin c.take_share.ensures c.take_share-2.ensures)
