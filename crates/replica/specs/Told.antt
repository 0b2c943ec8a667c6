-- A replica's states by their numbers, and the answers of calls that lead to them. Assumes nothing.
use Rattle.std.specs.Prelude.{Ok, Err, Result}
use Rattle.basis.specs.declared.member.Member.{Member}
use Rattle.basis.specs.declared.refusal.Refusal.{Refusal}
use Rattle.basis.specs.Members.{Numbers}
use Rattle.basis.specs.Refusals.{Refused, told, number_of}
use Rattle.outcomes.specs.Holdings.{Life, Fresh as IsFresh, Running as IsRunning}
use Rattle.replica.specs.declared.states.Closed.{Closed}
use Rattle.replica.specs.declared.states.Fresh.{Fresh}
use Rattle.replica.specs.declared.states.Running.{Running}

abbrev pub numbers_of : Member → Numbers
numbers_of m = record { n = m.n; own = m.own }

-- open: a fresh replica, or a refusal
abbrev pub fresh_told : Result Fresh Refusal → Result Numbers Refused
fresh_told (Ok f) = Ok (numbers_of f.member)
fresh_told (Err e) = told (Err e)

-- offer: a running replica, or the fresh one back with the refusal
abbrev pub offer_told : Result Running (Fresh × Refusal) → Result Numbers (Numbers × Refused)
offer_told (Ok r) = Ok (numbers_of r.member)
offer_told (Err e) = Err (numbers_of e.0.member, record { number = number_of e.1.reason; place = e.1.place })

-- close: a closed replica, or the running one back with the refusal
abbrev pub close_told : Result Closed (Running × Refusal) → Result Numbers (Numbers × Refused)
close_told (Ok c) = Ok (numbers_of c.member)
close_told (Err e) = Err (numbers_of e.0.member, record { number = number_of e.1.reason; place = e.1.place })

-- the state that an offer leaves
abbrev pub life_left : {X : Type 0} → Result Running X → Life
life_left (Ok r) = IsRunning
life_left (Err e) = IsFresh
