-- What open and offer answer and leave. Assumes nothing.
use Rattle.std.specs.Prelude.{◌≡◌, ℕ, ◌*◌, ◌<◌, true, cond, List, length, get_or, None, Ok, Err, Result, slice_index_or}
use Rattle.basis.specs.Members.{Numbers}
use Rattle.basis.specs.Refusals.{Refused, refused}
use Rattle.ballots.specs.States.{Opened as OpenedBallot, unopened}
use Rattle.broadcast.specs.Calls.{fits_hall}
use Rattle.broadcast.specs.Opening.{cleared_to, open_answer, if_opened}
use Rattle.coins.specs.Coins.{NewCoin}
use Rattle.messages.specs.declared.message.Phase.TheVariants.{Send}
use Rattle.rules.specs.Rounds.{Round, cleared as cleared_round}
use Rattle.sheets.specs.Holds.{Rows}
use Rattle.slots.specs.Places.{all_places}
use Rattle.slots.specs.Steps.{Slots, cleared, noted}
use Rattle.outcomes.specs.Holdings.{Fresh, Running, Setting, Holding, sizes_ok, with_slots, with_life}
use Rattle.outcomes.specs.Taking.{slot_taken}

-- a replica's tables as they are lent to a call, by their meaning
pub record LentTables (R : Type 0) : Type 0 where
  pub slots : Slots R
  pub ballots : List OpenedBallot
  pub rounds : List Round

abbrev pub tables_of : {R C : Type 0} → Holding R C → LentTables R
tables_of h = record { slots = h.slots; ballots = h.ballots; rounds = h.rounds }

module _ {R : Type 0} (rows : Rows R) (n : ℕ) where
  -- the rows that the hall needs are cleared
  abbrev pub cleared_tables : LentTables R → LentTables R
  cleared_tables t = record {
    slots = record { records = cleared_to n cleared t.slots.records; places = cleared_to (all_places n) rows.vacant t.slots.places };
    ballots = cleared_to n unopened t.ballots;
    rounds = cleared_to (15 * n) cleared_round t.rounds;
  }

  -- open: 2, 3 and then 4; the rows are cleared, or all is as it was
  abbrev pub open_answer_lem : ℕ → LentTables R → Result Numbers Refused
  open_answer_lem own t = open_answer n own (length t.slots.records) (length t.rounds) (length t.slots.places)

  abbrev pub open_after : ℕ → LentTables R → LentTables R
  open_after own t = if_opened (open_answer_lem own t) (cleared_tables t) t

  -- Tables as open leaves them: large enough, nothing delivered, nothing recorded, no round entered or voted in, no ballot
  -- proposed in.
  pub record TablesOpened (t : LentTables R) : Type 0 where
    pub sizes : fits_hall n (length t.slots.records) (length t.rounds) (length t.slots.places) ≡ true
    pub ballots : length t.ballots ≡ length t.slots.records
    pub undelivered : (k : ℕ) → k < n → (get_or t.slots.records k cleared).delivered ≡ None
    pub empty : (p : ℕ) → p < all_places n → rows.held (slice_index_or t.slots.places p rows.vacant) ≡ None
    pub unopened_ballots : (k : ℕ) → k < n → slice_index_or t.ballots k unopened ≡ unopened
    pub cleared_rounds : (p : ℕ) → p < 15 * n → slice_index_or t.rounds p cleared_round ≡ cleared_round

-- what is left of a state by a call that may refuse: the numbers, with the refusal where there is one
abbrev pub moved_on : {X : Type 0} → Numbers → Result X Refused → Result Numbers (Numbers × Refused)
moved_on m (Ok x) = Ok m
moved_on m (Err e) = Err (m, e)

module _ {R C : Type 0} (g : Setting R C) (n own : ℕ) where
  -- what offer answers: 4, or the running replica; a refused one keeps the replica fresh
  abbrev pub offer_answer : Holding R C → Result (Unit {0}) Refused
  offer_answer h = cond (sizes_ok n h) (Ok tt) (refused 4 0)

  -- the send of the sheet is said, and the steps of the own slot are taken
  abbrev pub offer_after : List ℕ → Holding R C → Holding R C
  offer_after s h =
      cond (sizes_ok n h)
      (slot_taken g n own own (with_slots (noted g.rows n own own Send own h.slots s) (with_life Running h)))
      h

  -- A replica as open leaves it, with a coin that nothing was taken of yet.
  pub record Opened (h : Holding R C) : Type 0 where
    pub fresh : h.life ≡ Fresh
    pub tables : TablesOpened g.rows n (tables_of h)
    pub new_coin : NewCoin g.coins h.coin
