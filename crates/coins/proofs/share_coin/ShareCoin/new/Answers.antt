-- A new coin has new tosses of the own shares, and what sound ones show is exact.
use Rattle.std.proofs.Common.{rules}
use Rattle.coins.specs.Tosses.{blank}
use Rattle.coins.specs.Keeping.{made_of, shows_exactly}
use Rattle.coins.proofs.share_coin.ShareCoin.new.Goals as goal

pub returns : goal.returns
returns c = record { answer = search rules; coin = made_of _ c.args.shares.now c.map-tosses.ensures.items.long (λ i l. let made = c.map-tosses.ensures.items.at i 0 blank l in search rules); exact = shows_exactly }

pub returns-in_err-member-clause-exact : goal.returns-in_err-member-clause-exact
returns-in_err-member-clause-exact c = shows_exactly
