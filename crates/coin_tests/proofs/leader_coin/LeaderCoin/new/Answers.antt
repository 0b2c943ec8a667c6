-- Nothing is taken, and the own share is at most 250.
use Rattle.std.proofs.Common.{arith}
use Rattle.coin_tests.specs.LeadingKeeps.{nothing_taken}
use Rattle.coin_tests.proofs.leader_coin.LeaderCoin.new.Goals as goal

pub returns-clause-fresh : goal.returns-clause-fresh
returns-clause-fresh c = nothing_taken _ (omega arith)
