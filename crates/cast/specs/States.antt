-- What the calls of a till come to in each of its states. Assumes nothing.
use Rattle.std.specs.Prelude.{ℕ, Bool, true, false, cond, not, ◌&&◌, List, Some, None, Ok, Err, Option, Result, slice_get}
use Rattle.std.specs.Option.{option_map}
use Rattle.basis.specs.Members.{Numbers}
use Rattle.basis.specs.Refusals.{Refused, number_of}
use Rattle.messages.specs.Reading.{syntax}
use Rattle.messages.specs.Tags.{basic_tags}
use Rattle.sheets.specs.OfTakings.{takings_lawful, takings_rows}
use Rattle.sheets.specs.declared.kinds.TakingsRow.{TakingsRow}
use Rattle.slots.specs.Steps.{Slots, delivered_sheet_lem}
use Rattle.broadcast.specs.Calls.{of_hall, fits_hall, offer_after, hear_answer, hear_after}
use Rattle.broadcast.specs.Opening.{fresh_numbers}
use Rattle.broadcast.specs.Saying.{say_answer, say_output}
use Rattle.basis.specs.declared.heard.Heard.{Heard}
use Rattle.broadcast.specs.Calls as calls
use Rattle.cast.specs.declared.till.Fault.{Fault}
use Rattle.cast.specs.declared.till.Fault.TheVariants as fault
use Rattle.cast.specs.declared.till.State.{State}
use Rattle.cast.specs.declared.till.State.TheVariants.{Fresh, Running, Gone}
use Rattle.cast.specs.declared.till.Till.{Till}

-- it may offer
abbrev pub is_fresh : State → Bool
is_fresh (Fresh f) = true
is_fresh (Running r) = false
is_fresh Gone = false

abbrev pub is_running : State → Bool
is_running (Fresh f) = false
is_running (Running r) = true
is_running Gone = false

-- the numbers of a till's replica; of none while there is none
abbrev pub numbers_in : State → Option Numbers
numbers_in (Fresh f) = Some (fresh_numbers f)
numbers_in (Running r) = Some (record { n = r.member.n; own = r.member.own })
numbers_in Gone = None

-- whether a till has offered, where there is such a till
abbrev pub has_offered_at : List Till → ℕ → Option Bool
has_offered_at ts j = option_map (λ t. is_running t.state) (slice_get ts j)

-- a till may be faulty towards another: the one has not offered, and the other has
abbrev pub forging : Option Bool → Option Bool → Bool
forging None b = false
forging (Some a) None = false
forging (Some a) (Some b) = not a && b

-- what an offer leaves of the tables: only a fresh replica changes them
abbrev pub offer_left : State → ℕ → List ℕ → Slots TakingsRow → Slots TakingsRow
offer_left (Fresh f) rounds s t = (offer_after takings_rows (of_hall f.member.n 12 takings_lawful) f.member.own s (record { life = calls.Fresh; slots = t; rounds = rounds })).slots
offer_left (Running r) rounds s t = t
offer_left Gone rounds s t = t

-- the sheet that is delivered for a slot, by its bytes; only a replica that has offered delivers
abbrev pub delivered_of : State → ℕ → Slots TakingsRow → Option (List ℕ)
delivered_of (Fresh f) k t = None
delivered_of (Running r) k t = delivered_sheet_lem takings_rows r.member.n r.member.own k t
delivered_of Gone k t = None

-- why a till does not do what it is asked, a refusal by its number and place
pub data Problem : Type 0 where
  misplaced : Problem
  refused : Refused → Problem
  memory : Problem

abbrev pub fault_told : {X : Type 0} → Result X Fault → Result X Problem
fault_told (Ok x) = Ok x
fault_told (Err fault.Misplaced) = Err misplaced
fault_told (Err (fault.Refused e)) = Err (refused (record { number = number_of e.reason; place = e.place }))
fault_told (Err fault.Memory) = Err memory

abbrev pub as_problem : {X : Type 0} → Result X Refused → Result X Problem
as_problem (Ok x) = Ok x
as_problem (Err e) = Err (refused e)

-- what hearing a packet answers; only a replica that has offered hears
abbrev pub heard_of : State → ℕ → List ℕ → ℕ → Slots TakingsRow → Result Heard Problem
heard_of (Fresh f) j xs rounds t = Err misplaced
heard_of (Running r) j xs rounds t = as_problem (hear_answer takings_rows (syntax 12 takings_lawful (record { n = r.member.n; tags = basic_tags; shares = false })) r.member.own j xs (record { life = calls.Running; slots = t; rounds = rounds }))
heard_of Gone j xs rounds t = Err misplaced

-- what hearing a packet leaves of the tables
abbrev pub heard_left : State → ℕ → List ℕ → ℕ → Slots TakingsRow → Slots TakingsRow
heard_left (Fresh f) j xs rounds t = t
heard_left (Running r) j xs rounds t = (hear_after takings_rows (syntax 12 takings_lawful (record { n = r.member.n; tags = basic_tags; shares = false })) r.member.own j xs (record { life = calls.Running; slots = t; rounds = rounds })).slots
heard_left Gone j xs rounds t = t

-- what offering a sheet answers, by the sizes of the tables; only a fresh replica offers
abbrev pub offered_of : State → ℕ → ℕ → ℕ → Result (Unit {0}) Problem
offered_of (Fresh f) records rounds places = cond (fits_hall f.member.n records rounds places) (Ok tt) (Err (refused (record { number = 4; place = 0 })))
offered_of (Running r) records rounds places = Err misplaced
offered_of Gone records rounds places = Err misplaced

-- what saying from a position answers, and what it leaves of the output
abbrev pub said_of : State → ℕ → ℕ → Slots TakingsRow → List ℕ → Result (Option ℕ) Problem
said_of (Fresh f) at rounds t out = Err misplaced
said_of (Running r) at rounds t out = as_problem (say_answer takings_rows r.member.n r.member.own at (record { life = calls.Running; slots = t; rounds = rounds }) out)
said_of Gone at rounds t out = Err misplaced

abbrev pub said_output : State → ℕ → ℕ → Slots TakingsRow → List ℕ → List ℕ
said_output (Fresh f) at rounds t out = out
said_output (Running r) at rounds t out = say_output takings_rows r.member.n r.member.own at (record { life = calls.Running; slots = t; rounds = rounds }) out
said_output Gone at rounds t out = out

-- what stands in a till's tables
abbrev pub tables_of : Till → Slots TakingsRow
tables_of t = record { records = t.records.items; places = t.places.items }

-- what a call at a till of the hall answers, where there is that till
abbrev pub at_till : {X : Type 0} → Option Till → (Till → Result X Problem) → Result X Problem
at_till None f = Err misplaced
at_till (Some t) f = f t

abbrev pub till_hears : ℕ → List ℕ → Till → Result Heard Problem
till_hears j xs t = heard_of t.state j xs t.rounds (tables_of t)

abbrev pub till_says : ℕ → List ℕ → Till → Result (Option ℕ) Problem
till_says at out t = said_of t.state at t.rounds (tables_of t) out
