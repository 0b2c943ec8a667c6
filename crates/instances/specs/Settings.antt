-- What evenings of each kind of sheet are played with. Assumes nothing.
use Rattle.coins.specs.Coins.{Acts as CoinActs}
use Rattle.outcomes.specs.Holdings.{Setting}
use Rattle.outcomes.specs.Tables.{setting}
use Rattle.rules.specs.Laws.{Acts}
use Rattle.sheets.specs.declared.kinds.LabelRow.{LabelRow}
use Rattle.sheets.specs.declared.kinds.TakingsRow.{TakingsRow}
use Rattle.sheets.specs.OfLabels.{label_lawful, label_rows}
use Rattle.sheets.specs.OfTakings.{takings_lawful, takings_rows}

-- takings, of 12 bytes, kind number 1, under a rule and with a coin
abbrev pub of_takings : {C : Type 0} → Acts → CoinActs C → Setting TakingsRow C
of_takings rule coin = setting takings_rows 12 1 takings_lawful rule coin

-- labels, of 36 bytes, kind number 2
abbrev pub of_labels : {C : Type 0} → Acts → CoinActs C → Setting LabelRow C
of_labels rule coin = setting label_rows 36 2 label_lawful rule coin
