-- An evening in which all close: the claims on evenings speak of something. Assumes nothing.
use Rattle.std.specs.Prelude.{ℕ, Bool, true, T}
use Rattle.basis.specs.Halls.{listed}
use Rattle.coins.specs.Dealt.{dealt_acts}
use Rattle.coins.specs.declared.dealt.DealtCoin.{DealtCoin}
use Rattle.evenings.specs.Claims.{has_closed}
use Rattle.evenings.specs.Evenings.{Replica, Honest, Evening}
use Rattle.outcomes.specs.Holdings.{Setting}
use Rattle.phases.specs.declared.round.PhasedRound.{PhasedRound}
use Rattle.phases.specs.Records.{meaning_of}
use Rattle.phases.specs.Steps.{two_phase, three_phase}
use Rattle.rules.specs.Laws.{Acts}
use Rattle.sheets.specs.declared.kinds.TakingsRow.{TakingsRow}
use Rattle.sheets.specs.OfTakings.{takings_lawful, takings_rows}

-- halls that list takings, under a round rule, with dealt coins
abbrev pub takings_hall : Acts → Setting TakingsRow DealtCoin
takings_hall a = record { rows = takings_rows; size = 12; kind = 1; lawful = takings_lawful; rule = a; coins = dealt_acts }

-- no replica is faulty
abbrev pub everyone : ℕ → Bool
everyone _ = true

-- an evening of n replicas in which all honest ones have closed
pub record AllClose (a : Acts) (n : ℕ) (honest : ℕ → Bool) : Type 0 where
  pub hall : ℕ → Replica TakingsRow DealtCoin PhasedRound
  pub evening : Evening (takings_hall a) meaning_of n honest hall
  pub closed : (i : ℕ) → Honest (takings_hall a) meaning_of n honest i → has_closed (takings_hall a) meaning_of n honest hall i

-- there is one in a hall of every size, whichever replicas are honest, under the two-phase and the three-phase rule
pub record SomeEveningCloses : Type 0 where
  pub two : (n : ℕ) (honest : ℕ → Bool) → T (listed n) → AllClose two_phase n honest
  pub three : (n : ℕ) (honest : ℕ → Bool) → T (listed n) → AllClose three_phase n honest
