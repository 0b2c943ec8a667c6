-- What a till holds: its replica's state, tables and coin. Assumes nothing.
use Rattle.coins.specs.declared.dealt.DealtCoin.{DealtCoin}
use Rattle.evenings.specs.Evenings.{Replica, held}
use Rattle.phases.specs.Records.{meaning_of}
use Rattle.phases.specs.declared.round.PhasedRound.{PhasedRound}
use Rattle.sheets.specs.declared.kinds.TakingsRow.{TakingsRow}
use Rattle.halls.specs.States.{Held, life_of}
use Rattle.halls.specs.declared.till.Till.{Till}

-- a till as a replica of an evening
abbrev pub replica_of : Till → Replica TakingsRow DealtCoin PhasedRound
replica_of t = record { life = life_of t.state; records = t.records.items; rounds = t.rounds.items; places = t.places.items; coin = t.coin }

abbrev pub held_by : Till → Held
held_by t = held meaning_of (replica_of t)
