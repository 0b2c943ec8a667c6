-- What a till answers, a refusal by its number and place. Assumes nothing.
use Rattle.std.specs.Prelude.{ℕ, List, Ok, Err, Option, Result}
use Rattle.basis.specs.declared.heard.Heard.{Heard}
use Rattle.basis.specs.Refusals.{Refused, number_of}
use Rattle.outcomes.specs.Closing.{close_answer, closing_view, record_answer, record_output}
use Rattle.outcomes.specs.Hearing.{hear_answer_lem}
use Rattle.outcomes.specs.Opening.{offer_answer}
use Rattle.outcomes.specs.Saying.{say_answer, say_output}
use Rattle.scripts.specs.declared.command.RuleName.{RuleName}
use Rattle.scripts.specs.declared.command.RuleName.TheVariants.{Two}
use Rattle.halls.specs.Actives.{active_member}
use Rattle.halls.specs.States.{Held, setting_of}
use Rattle.halls.specs.declared.state.Active.TheVariants.{Running, Closed}
use Rattle.halls.specs.declared.state.State.{State}
use Rattle.halls.specs.declared.state.State.TheVariants as state
use Rattle.halls.specs.declared.till.Fault.{Fault}
use Rattle.halls.specs.declared.till.Fault.TheVariants as fault

-- why a till does not do what it is asked
pub data Problem : Type 0 where
  misplaced : Problem
  refused : Refused → Problem
  memory : Problem

abbrev pub problem_of : Fault → Problem
problem_of fault.Misplaced = misplaced
problem_of (fault.Refused e) = refused (record { number = number_of e.reason; place = e.place })
problem_of fault.Memory = memory

abbrev pub fault_told : {X : Type 0} → Result X Fault → Result X Problem
fault_told (Ok x) = Ok x
fault_told (Err e) = Err (problem_of e)

abbrev pub as_problem : {X : Type 0} → Result X Refused → Result X Problem
as_problem (Ok x) = Ok x
as_problem (Err e) = Err (refused e)

module _ (rule : RuleName) where
  -- what offering answers
  abbrev pub offered_of : State → Held → Result (Unit {0}) Problem
  offered_of (state.Fresh f) h = as_problem (offer_answer (setting_of rule) f.member.n f.member.own h)
  offered_of (state.Active a) h = Err misplaced
  offered_of state.Gone h = Err misplaced

  -- what hearing a packet answers
  abbrev pub heard_of : State → ℕ → List ℕ → Held → Result Heard Problem
  heard_of (state.Fresh f) j xs h = Err misplaced
  heard_of (state.Active a) j xs h = as_problem (hear_answer_lem (setting_of rule) (active_member a).n (active_member a).own j xs h)
  heard_of state.Gone j xs h = Err misplaced

  -- what saying from a position answers, and what it leaves of the output
  abbrev pub said_of : State → ℕ → List ℕ → Held → Result (Option ℕ) Problem
  said_of (state.Fresh f) from out h = Err misplaced
  said_of (state.Active a) from out h = as_problem (say_answer (setting_of rule) (active_member a).n (active_member a).own h from out)
  said_of state.Gone from out h = Err misplaced

  abbrev pub said_output : State → ℕ → List ℕ → Held → List ℕ
  said_output (state.Fresh f) from out h = out
  said_output (state.Active a) from out h = say_output (setting_of rule) (active_member a).n (active_member a).own h from out
  said_output state.Gone from out h = out

  -- what closing answers
  abbrev pub closed_of : State → Held → Result (Unit {0}) Problem
  closed_of (state.Fresh f) h = Err misplaced
  closed_of (state.Active (Running r)) h = as_problem (close_answer (setting_of rule).rows r.member.n (closing_view h))
  closed_of (state.Active (Closed c)) h = Err misplaced
  closed_of state.Gone h = Err misplaced

-- what giving the closing record answers, and what it leaves of the output: only a closed replica gives it
abbrev pub recorded_of : State → List ℕ → Held → Result ℕ Problem
recorded_of (state.Fresh f) out h = Err misplaced
recorded_of (state.Active (Running r)) out h = Err misplaced
recorded_of (state.Active (Closed c)) out h = as_problem (record_answer (setting_of Two).rows c.member.n (closing_view h) 12 1 out)
recorded_of state.Gone out h = Err misplaced

abbrev pub recorded_output : State → List ℕ → Held → List ℕ
recorded_output (state.Fresh f) out h = out
recorded_output (state.Active (Running r)) out h = out
recorded_output (state.Active (Closed c)) out h = record_output (setting_of Two).rows c.member.n (closing_view h) 12 1 out
recorded_output state.Gone out h = out
