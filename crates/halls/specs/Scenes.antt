-- What the calls of a hall answer and leave, by what its tills hold. Assumes nothing.
use Rattle.std.specs.Prelude.{ℕ, ◌*◌, cond, ◌&&◌, List, [], map, replicate, ℤ, Ok, Err, Result, nat_lt, slice_index_or, slice_set}
use Rattle.ballots.specs.States.{unopened}
use Rattle.basis.specs.Halls.{listed}
use Rattle.basis.specs.declared.heard.Heard.{Heard}
use Rattle.outcomes.specs.Calls.{offer, hear, close, call_after}
use Rattle.outcomes.specs.Closing.{closing_view, close_answer, record_answer, record_output}
use Rattle.outcomes.specs.Hearing.{hear_answer_lem}
use Rattle.outcomes.specs.Holdings.{Life, Fresh, Running, Closed}
use Rattle.outcomes.specs.Opening.{offer_answer}
use Rattle.rules.specs.Rounds.{cleared as cleared_round}
use Rattle.scripts.specs.declared.command.RuleName.{RuleName}
use Rattle.sheets.specs.OfTakings.{takings_rows, takings_empty, in_range_lem, amount_bytes}
use Rattle.slots.specs.Places.{all_places}
use Rattle.slots.specs.Steps.{cleared}
use Rattle.halls.specs.Faults.{Problem, misplaced, refused, as_problem}
use Rattle.halls.specs.States.{Held, setting_of}
use Rattle.halls.specs.Tills.{held_by}
use Rattle.halls.specs.declared.till.Till.{Till}

-- what the tills of a list hold, in their order
abbrev pub shown : List Till → List Held
shown ts = map held_by ts

-- what stands for a till that is not there
abbrev pub nobody : Held
nobody = record { life = Fresh; slots = record { records = []; places = [] }; ballots = []; rounds = []; coin = record { numbers = [] } }

-- what till i holds
abbrev pub till : ℕ → List Held → Held
till i hs = slice_index_or hs i nobody

-- one of three by a till's state, and one of two by whether it has offered
abbrev pub by_life : {X : Type 0} → Life → X → X → X → X
by_life Fresh x y z = x
by_life Running x y z = y
by_life Closed x y z = z

abbrev pub if_offered : {X : Type 0} → Life → X → X → X
if_offered l x y = by_life l y x x

-- one after the other, where the first is no problem
abbrev pub and_told : {X : Type 0} → Result (Unit {0}) Problem → Result X Problem → Result X Problem
and_told (Ok x) r = r
and_told (Err e) r = Err e

abbrev pub if_told : {X Y : Type 0} → Result X Problem → Y → Y → Y
if_told (Ok x) y z = y
if_told (Err e) y z = z

module _ (rule : RuleName) (n i : ℕ) where
  -- offering a sheet: only a fresh replica offers
  abbrev pub offering : Held → Result (Unit {0}) Problem
  offering h = by_life h.life (as_problem (offer_answer (setting_of rule) n i h)) (Err misplaced) (Err misplaced)

  abbrev pub offering_left : List ℕ → Held → Held
  offering_left s h = by_life h.life (call_after (setting_of rule) n i (offer s) h) h h

  -- hearing a packet from till j: only a replica that has offered hears
  abbrev pub hearing : ℕ → List ℕ → Held → Result Heard Problem
  hearing j xs h = if_offered h.life (as_problem (hear_answer_lem (setting_of rule) n i j xs h)) (Err misplaced)

  abbrev pub hearing_left : ℕ → List ℕ → Held → Held
  hearing_left j xs h = if_offered h.life (call_after (setting_of rule) n i (hear j xs) h) h

  -- closing: only a running replica closes
  abbrev pub closing_left : Held → Held
  closing_left h = by_life h.life h (call_after (setting_of rule) n i close h) h

module _ (n : ℕ) where
  abbrev pub closing : Held → Result (Unit {0}) Problem
  closing h = by_life h.life (Err misplaced) (as_problem (close_answer takings_rows n (closing_view h))) (Err misplaced)

  -- giving the closing record: only a closed replica gives it
  abbrev pub recording : List ℕ → Held → Result ℕ Problem
  recording out h = by_life h.life (Err misplaced) (Err misplaced) (as_problem (record_answer takings_rows n (closing_view h) 12 1 out))

  abbrev pub recording_output : List ℕ → Held → List ℕ
  recording_output out h = by_life h.life out out (record_output takings_rows n (closing_view h) 12 1 out)

-- a hall as its calls see it
pub record Scene : Type 0 where
  pub rule : RuleName
  pub n : ℕ
  pub tills : List Held

-- what each till of a new hall holds: tables of the hall's size, empty, and the dealt coin of one number
abbrev pub newly_opened : ℕ → ℕ → Held
newly_opened n coin = record {
  life = Fresh;
  slots = record { records = replicate n cleared; places = replicate (all_places n) takings_empty };
  ballots = replicate n unopened;
  rounds = replicate (15 * n) cleared_round;
  coin = record { numbers = replicate 16 coin };
}

-- opening a hall: 2 where no hall has that size
abbrev pub opening_told : RuleName → ℕ → ℕ → Result Scene Problem
opening_told rule n coin = cond (listed n) (Ok (record { rule = rule; n = n; tills = replicate n (newly_opened n coin) })) (Err (refused (record { number = 2; place = 0 })))

module _ (x : Scene) where
  -- the same hall with other holdings
  abbrev pub with_tills : List Held → Scene
  with_tills hs = record { rule = x.rule; n = x.n; tills = hs }

  -- till i offers takings: 1 where the amount is out of range; misplaced where the hall has no such till, or it has offered
  abbrev pub offer_told : ℕ → ℤ → Result (Unit {0}) Problem
  offer_told i cents = cond (in_range_lem cents) (cond (nat_lt i x.n) (offering x.rule x.n i (till i x.tills)) (Err misplaced)) (Err (refused (record { number = 1; place = 0 })))

  abbrev pub offer_left : ℕ → ℤ → ℕ → Scene
  offer_left i cents receipts = cond (in_range_lem cents && nat_lt i x.n) (with_tills (slice_set x.tills i (offering_left x.rule x.n i (amount_bytes cents receipts) (till i x.tills)))) x

  -- till i closes
  abbrev pub closed_scene : ℕ → Scene
  closed_scene i = with_tills (slice_set x.tills i (closing_left x.rule x.n i (till i x.tills)))

  -- it closes, and then gives its closing record: misplaced where the hall has no such till, or it does not run
  abbrev pub close_told : ℕ → List ℕ → Result ℕ Problem
  close_told i out = cond (nat_lt i x.n) (and_told (closing x.n (till i x.tills)) (recording x.n out (till i (closed_scene i).tills))) (Err misplaced)

  abbrev pub close_left : ℕ → Scene
  close_left i = cond (nat_lt i x.n) (closed_scene i) x

  abbrev pub close_output : ℕ → List ℕ → List ℕ
  close_output i out = cond (nat_lt i x.n) (if_told (closing x.n (till i x.tills)) (recording_output x.n out (till i (closed_scene i).tills)) out) out
