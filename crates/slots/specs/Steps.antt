-- The steps of a slot: when each applies and what it changes. Assumes nothing.
use Rattle.std.specs.Prelude.{◌≡◌, ℕ, zero, suc, ◌<◌, List, length, Some, None, Option, slice_index_or, slice_set}
use Rattle.std.specs.Option.{option_map}
use Rattle.basis.specs.Halls.{quorum}
use Rattle.messages.specs.declared.message.Phase.{Phase}
use Rattle.messages.specs.declared.message.Phase.TheVariants.{Send, Echo, Ready}
use Rattle.slots.specs.declared.slot.Slot.{Slot}
use Rattle.sheets.specs.Holds.{Rows}
use Rattle.slots.specs.Places.{place, or_else, recorded, lowest_backed, sheet_of, to_ready}

-- a replica's tables, as far as sheets go: a record for each slot, and the sheet places
pub record Slots (R : Type 0) : Type 0 where
  pub records : List Slot
  pub places : List R

-- nothing is delivered
abbrev pub cleared : Slot
cleared = record { delivered = None }

-- an answer that counts only where nothing stands yet
abbrev pub unless : {X Y : Type 0} → Option X → Option Y → Option Y
unless None y = y
unless (Some x) y = None

-- a slot's record with its delivery, if there is one
abbrev pub marked_slot : Slot → Option ℕ → Slot
marked_slot r None = r
marked_slot r (Some j) = record { delivered = Some j }

-- the records with a slot's delivery, if there is one
abbrev pub marked : ℕ → List Slot → Option ℕ → List Slot
marked k rs None = rs
marked k rs (Some j) = slice_set rs k (record { delivered = Some j })

module _ {R : Type 0} (rows : Rows R) (n own k : ℕ) where
  -- a sheet recorded of a sender in slot k
  abbrev pub noted : Phase → ℕ → Slots R → List ℕ → Slots R
  noted ph j t s = record { records = t.records; places = slice_set t.places (place n ph k j) (rows.row s) }

  -- the places with a due sheet said: recorded under the own number
  abbrev pub said_due : Phase → List R → Option (List ℕ) → List R
  said_due ph ps None = ps
  said_due ph ps (Some s) = slice_set ps (place n ph k own) (rows.row s)

  -- what an echo would repeat: the recorded send, unless an echo is said
  abbrev pub echo_due : Slots R → Option (List ℕ)
  echo_due t = unless (recorded rows n t.places Echo k own) (recorded rows n t.places Send k own)

  -- what a ready would be of, unless one is said
  abbrev pub ready_cause : List R → Option (List ℕ)
  ready_cause ps = to_ready rows n ps k

  abbrev pub ready_due : Slots R → Option (List ℕ)
  ready_due t = unless (recorded rows n t.places Ready k own) (ready_cause t.places)

  -- the lowest sender whose sheet 2f + 1 are ready of, unless the slot is delivered
  abbrev pub delivery_due : Slots R → Option ℕ
  delivery_due t = unless (slice_index_or t.records k cleared).delivered (lowest_backed rows n t.places Ready k (quorum n) n)

  abbrev pub delivered_by : Slots R → ℕ → Slots R
  delivered_by t j = record { records = slice_set t.records k (record { delivered = Some j }); places = t.places }

  -- the first listed step that applies
  abbrev pub next : Slots R → Option (Slots R)
  next t = or_else (option_map (noted Echo own t) (echo_due t)) (or_else (option_map (noted Ready own t) (ready_due t)) (option_map (delivered_by t) (delivery_due t)))

  -- what the first step that applies leaves; where none does, all as it is
  abbrev pub go_on : Slots R → Option (Slots R) → Slots R
  go_on t None = t
  go_on t (Some t') = t'

  abbrev pub stepped : Slots R → Slots R
  stepped t = go_on t (next t)

  -- steps are taken while one applies, at most so many
  unfoldable pub settled : ℕ → Slots R → Slots R
  settled zero t = t
  settled (suc fuel) t = settled fuel (go_on t (next t))

  -- the sheet delivered for the slot
  abbrev pub delivered_sheet_lem : Slots R → Option (List ℕ)
  delivered_sheet_lem t = sheet_of rows n t.places Ready k (slice_index_or t.records k cleared).delivered

  -- the record and the places that the steps leave, in whatever table of records the slot's record stands
  abbrev pub SettledIn : Slot → Slot → List R → List R → Type 0
  SettledIn r r' ps ps' = (rs : List Slot) → k < length rs → slice_index_or rs k cleared ≡ r → record { records = slice_set rs k r'; places = ps' } ≡ settled 3 (record { records = rs; places = ps })
