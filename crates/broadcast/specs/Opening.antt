-- What open checks of a replica's numbers, and what clearing a table leaves. Assumes nothing.
use Rattle.std.specs.Prelude.{ℕ, cond, List, ◌++◌, length, drop, replicate, Ok, Err, Result}
use Rattle.basis.specs.Refusals.{Refused, refused, told, number_of}
use Rattle.basis.specs.declared.refusal.Refusal.{Refusal}
use Rattle.messages.specs.Reading.{and_then}
use Rattle.basis.specs.Members.{Numbers, member_made}
use Rattle.broadcast.specs.declared.states.Fresh.{Fresh}
use Rattle.broadcast.specs.declared.states.Running.{Running}
use Rattle.sheets.specs.Holds.{Rows}
use Rattle.slots.specs.Places.{all_places}
use Rattle.slots.specs.Steps.{Slots, cleared}
use Rattle.broadcast.specs.Calls.{fits_hall}

-- the first rows are empty, and the others as they were
abbrev pub cleared_to : {X : Type 0} → ℕ → X → List X → List X
cleared_to count empty xs = replicate count empty ++ drop count xs

-- what open answers: 2, 3 and then 4, the sizes of the tables
abbrev pub open_answer : ℕ → ℕ → ℕ → ℕ → ℕ → Result Numbers Refused
open_answer n own records rounds places = and_then (member_made n own) (λ m. cond (fits_hall n records rounds places) (Ok m) (refused 4 0))

abbrev pub fresh_numbers : Fresh → Numbers
fresh_numbers f = record { n = f.member.n; own = f.member.own }

abbrev pub fresh_told : Result Fresh Refusal → Result Numbers Refused
fresh_told (Ok f) = Ok (fresh_numbers f)
fresh_told (Err e) = told (Err e)

-- what open leaves: the rows that the hall needs cleared, or all as it was
abbrev pub if_opened : {X : Type 0} → Result Numbers Refused → X → X → X
if_opened (Ok m) x y = x
if_opened (Err e) x y = y

abbrev pub open_after : {R : Type 0} → Rows R → ℕ → ℕ → ℕ → Slots R → Slots R
open_after rows n own rounds t =
    if_opened (open_answer n own (length t.records) rounds (length t.places))
    (record { records = cleared_to n cleared t.records; places = cleared_to (all_places n) rows.vacant t.places }) t

-- what offer answers: the running replica, or 4 and the fresh one as it was
abbrev pub offer_answer : Fresh → ℕ → ℕ → ℕ → Result Numbers (Fresh × Refused)
offer_answer f records rounds places = cond (fits_hall f.member.n records rounds places) (Ok (fresh_numbers f)) (Err (f, record { number = 4; place = 0 }))

abbrev pub offer_told : Result Running (Fresh × Refusal) → Result Numbers (Fresh × Refused)
offer_told (Ok r) = Ok (record { n = r.member.n; own = r.member.own })
offer_told (Err e) = Err (e.0, record { number = number_of e.1.reason; place = e.1.place })
