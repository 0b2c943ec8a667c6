-- Where a slot's sheets stand in the table of sheet places, and what stands there. Assumes nothing.
use Rattle.std.specs.Prelude.{ℕ, zero, suc, ◌+◌, ◌*◌, Bool, false, cond, List, Some, None, Option, nat_le, slice_index_or}
use Rattle.basis.specs.Counts.{count}
use Rattle.basis.specs.Halls.{quorum, beyond_faults}
use Rattle.messages.specs.declared.message.Phase.{Phase}
use Rattle.messages.specs.declared.message.Phase.TheVariants.{Send, Echo, Ready}
use Rattle.sheets.specs.Holds.{Rows, holds}

-- how many places a slot has: one for the send, and n each for echoes and readies
abbrev pub slot_places : ℕ → ℕ
slot_places n = 2 * n + 1

-- the places of a hall of n
abbrev pub all_places : ℕ → ℕ
all_places n = n * slot_places n

-- the place of a sender's message of a phase in slot k; a slot's send has one place, whoever sent it
abbrev pub place : ℕ → Phase → ℕ → ℕ → ℕ
place n Send k j = k * slot_places n
place n Echo k j = k * slot_places n + (1 + j)
place n Ready k j = k * slot_places n + (1 + n + j)

-- the first of two answers that is there
abbrev pub or_else : {X : Type 0} → Option X → Option X → Option X
or_else None b = b
or_else (Some a) b = Some a

module _ {R : Type 0} (rows : Rows R) (n : ℕ) (ps : List R) where
  -- the sheet recorded of a sender, by its bytes
  abbrev pub recorded : Phase → ℕ → ℕ → Option (List ℕ)
  recorded ph k j = rows.held (slice_index_or ps (place n ph k j) rows.vacant)

  -- how many of the n senders have this sheet recorded
  abbrev pub tally : Phase → ℕ → List ℕ → ℕ
  tally ph k s = count n (λ j. holds s (recorded ph k j))

  -- whether so many senders have the sheet that stands there
  abbrev pub reaches : Phase → ℕ → ℕ → Option (List ℕ) → Bool
  reaches ph k least None = false
  reaches ph k least (Some s) = nat_le least (tally ph k s)

  abbrev pub backed : Phase → ℕ → ℕ → ℕ → Bool
  backed ph k least j = reaches ph k least (recorded ph k j)

  -- the lowest sender below m whose sheet so many have
  unfoldable pub lowest_backed : Phase → ℕ → ℕ → ℕ → Option ℕ
  lowest_backed ph k least zero = None
  lowest_backed ph k least (suc m) = or_else (lowest_backed ph k least m) (cond (backed ph k least m) (Some m) None)

  -- the sheet of a sender, if there is a sender
  abbrev pub sheet_of : Phase → ℕ → Option ℕ → Option (List ℕ)
  sheet_of ph k None = None
  sheet_of ph k (Some j) = recorded ph k j

  -- the sheet that has 2f + 1 echoes, or else f + 1 readies; of several that of the lowest sender
  abbrev pub to_ready : ℕ → Option (List ℕ)
  to_ready k = or_else (sheet_of Echo k (lowest_backed Echo k (quorum n) n)) (sheet_of Ready k (lowest_backed Ready k (beyond_faults n) n))
