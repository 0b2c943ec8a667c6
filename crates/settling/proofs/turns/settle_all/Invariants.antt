-- So far the slots below have taken their steps.
use Rattle.std.proofs.Common.{◌≡◌}
use Rattle.outcomes.specs.Holdings.{Life}
use Rattle.outcomes.specs.Tables.{holding, setting}
use Rattle.outcomes.specs.Taking.{taken_below}
use Rattle.settling.proofs.turns.settle_all.Given as goal

abbrev pub invariant-loop-slot : goal.invariant-loop-slot
invariant-loop-slot g i =
    (l : Life) → holding g.R.Rule.meaning l i.records i.rounds i.places i.coin
    ≡ taken_below (setting g.S.Sheet.rows g.S.Sheet.LEN g.S.Sheet.KIND g.S.Sheet.lawful g.R.Rule.acts g.C.Coin.acts) i.member.n i.member.own i.slot
    (holding g.R.Rule.meaning l i.initial.records i.initial.rounds i.initial.places i.initial.coin)
