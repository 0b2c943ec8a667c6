-- What four held shares show.
use Rattle.std.proofs.Common.{Ok, ap, ◌∙◌}
use Rattle.edges.proofs.Tossing.{four_show_one}
use Rattle.edges.proofs.coin_edges.one_wrong_of_four.Goals as goal

pub returns : goal.returns
returns c = ap Ok (c.first_bit.ensures ∙ four_show_one c.in_ok-coin.coin c.take_share.new.coin c.take_share-2.new.coin c.take_share-3.new.coin c.in_ok-coin.ensures.coin c.take_share.ensures c.take_share-2.ensures c.take_share-3.ensures)
