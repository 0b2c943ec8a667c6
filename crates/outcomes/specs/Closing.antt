-- What close, list and record answer, and the bytes of the closing record. Assumes nothing.
use Rattle.std.specs.Prelude.{ℕ, zero, suc, ◌+◌, ◌^◌, Bool, cond, not, ◌&&◌, List, [], ◌∷◌, ◌++◌, length, Some, None, Ok, Option, Result, ◌==◌, is_some, slice_index_or}
use Rattle.basis.specs.Bytes.{be}
use Rattle.basis.specs.Counts.{count, total}
use Rattle.basis.specs.Refusals.{Refused, refused}
use Rattle.ballots.specs.States.{Opened, unopened}
use Rattle.broadcast.specs.Calls.{fits_hall}
use Rattle.messages.specs.declared.message.Phase.TheVariants.{Ready}
use Rattle.messages.specs.Writing.{write_answer, write_output}
use Rattle.sheets.specs.Holds.{Rows}
use Rattle.slots.specs.Places.{or_else, sheet_of}
use Rattle.slots.specs.Steps.{Slots, cleared}
use Rattle.outcomes.specs.Holdings.{Holding}

-- the lowest number below m that passes a test
unfoldable pub lowest : (ℕ → Bool) → ℕ → Option ℕ
lowest p zero = None
lowest p (suc m) = or_else (lowest p m) (cond (p m) (Some m) None)

-- goes on where no number failed, and else refuses at the lowest that did
abbrev pub unless_at : {X : Type 0} → ℕ → Option ℕ → Result X Refused → Result X Refused
unless_at why None r = r
unless_at why (Some k) r = refused why k

-- an entry of the list: a replica and the sheet delivered for its slot
pub record Entry : Type 0 where
  pub replica : ℕ
  pub sheet : List ℕ

-- a field of the record for a listed replica: the tag 0x41, the length, the replica, its sheet
abbrev pub sheet_field : ℕ → ℕ → List ℕ → List ℕ
sheet_field size k s = 65 ∷ (be 2 (size + 1) ++ (k ∷ s))

abbrev pub field_if_any : ℕ → ℕ → Option (List ℕ) → List ℕ
field_if_any size k None = []
field_if_any size k (Some s) = sheet_field size k s

-- what close, list and record look at: a replica's slots, its ballots, and how many round records it has
pub record ClosingView (R : Type 0) : Type 0 where
  pub slots : Slots R
  pub ballots : List Opened
  pub rounds : ℕ

abbrev pub closing_view : {R C : Type 0} → Holding R C → ClosingView R
closing_view h = record { slots = h.slots; ballots = h.ballots; rounds = length h.rounds }

module _ {R : Type 0} (rows : Rows R) (n : ℕ) (v : ClosingView R) where
  -- the tables are large enough
  abbrev pub view_fits : Bool
  view_fits = fits_hall n (length v.slots.records) v.rounds (length v.slots.places)

  -- the set of the decided bit of ballot k
  abbrev pub decided_at : ℕ → ℕ
  decided_at k = (slice_index_or v.ballots k unopened).decided

  abbrev pub is_undecided : ℕ → Bool
  is_undecided k = decided_at k == 0

  abbrev pub is_decided_in : ℕ → Bool
  is_decided_in k = decided_at k == 2

  -- the sheet delivered for a slot
  abbrev pub sheet_of_slot : ℕ → Option (List ℕ)
  sheet_of_slot k = sheet_of rows n v.slots.places Ready k (slice_index_or v.slots.records k cleared).delivered

  abbrev pub is_missing : ℕ → Bool
  is_missing k = is_decided_in k && not (is_some (sheet_of_slot k))

  -- all ballots are decided, then the sheets of those decided 1 delivered
  abbrev pub decided_answer : Result (Unit {0}) Refused
  decided_answer = unless_at 14 (lowest is_undecided n) (unless_at 15 (lowest is_missing n) (Ok tt))

  -- close: the sizes, then that
  abbrev pub close_answer : Result (Unit {0}) Refused
  close_answer = cond view_fits decided_answer (refused 4 0)

  -- the sheet on the list for replica k: its ballot is decided 1, and a sheet is delivered for its slot
  abbrev pub listed_sheet : ℕ → Option (List ℕ)
  listed_sheet k = cond (is_decided_in k) (sheet_of_slot k) None

  abbrev pub is_listed : ℕ → Bool
  is_listed k = is_some (listed_sheet k)

  -- how many sheets are on the list
  abbrev pub sheets_listed : ℕ
  sheets_listed = count n is_listed

  -- the replica at an index: it is listed, and so many below it are
  abbrev pub stands_at : ℕ → ℕ → Bool
  stands_at index k = is_listed k && count k is_listed == index

  abbrev pub entry_of : ℕ → Option (List ℕ) → Result Entry Refused
  entry_of k None = refused 17 0
  entry_of k (Some s) = Ok (record { replica = k; sheet = s })

  abbrev pub entry_at : Option ℕ → Result Entry Refused
  entry_at None = refused 17 0
  entry_at (Some k) = entry_of k (listed_sheet k)

  -- list: the sizes, then the entry at an index
  abbrev pub list_answer : ℕ → Result Entry Refused
  list_answer index = cond view_fits (entry_at (lowest (stands_at index) n)) (refused 4 0)

  -- the set of the listed replicas
  abbrev pub listed_set : ℕ
  listed_set = total n (λ k. cond (is_listed k) (2 ^ k) 0)

  -- the length and the number of the kind of sheet
  module _ (size kind : ℕ) where
    -- the fields of the listed replicas below m, rising
    unfoldable pub sheet_fields : ℕ → List ℕ
    sheet_fields zero = []
    sheet_fields (suc m) = sheet_fields m ++ field_if_any size m (listed_sheet m)

    -- the first field: the tag 0x40, the length, the kind's number, the hall size, the set
    abbrev pub head_field : List ℕ
    head_field = 64 ∷ (be 2 4 ++ (kind ∷ (n ∷ be 2 listed_set)))

    abbrev pub closing_record : List ℕ
    closing_record = head_field ++ sheet_fields n

    -- record: the sizes, then the output long enough
    abbrev pub record_answer : List ℕ → Result ℕ Refused
    record_answer out = cond view_fits (write_answer closing_record out) (refused 4 0)

    abbrev pub record_output : List ℕ → List ℕ
    record_output out = cond view_fits (write_output closing_record out) out
