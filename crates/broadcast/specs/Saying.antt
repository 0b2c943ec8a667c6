-- Which sheet messages a replica has said, in the order of their positions. Assumes nothing.
use Rattle.std.specs.Prelude.{ℕ, zero, suc, cond, List, length, Some, None, Ok, Option, Result, nat_le, nat_lt}
use Rattle.std.specs.Option.{option_map}
use Rattle.basis.specs.Refusals.{Refused, refused}
use Rattle.messages.specs.Writing.{written, write_output, position}
use Rattle.messages.specs.declared.message.Message.{Message}
use Rattle.messages.specs.declared.message.Message.TheVariants.{Sheet}
use Rattle.messages.specs.declared.message.Phase.{Phase}
use Rattle.messages.specs.declared.message.Phase.TheVariants.{Send, Echo, Ready}
use Rattle.sheets.specs.Holds.{Rows}
use Rattle.slots.specs.Places.{or_else, recorded}
use Rattle.broadcast.specs.Calls.{may_send, Holding, sizes_ok}

-- a message that stands at or after a position
abbrev pub at_or_after : ℕ → Option (Message (List ℕ)) → Option (Message (List ℕ))
at_or_after from None = None
at_or_after from (Some m) = cond (nat_le from (position m)) (Some m) None

-- what say answers and leaves, by the message that it found
abbrev pub told_position : Option (Message (List ℕ)) → List ℕ → Result (Option ℕ) Refused
told_position None out = Ok None
told_position (Some m) out = cond (nat_lt (length out) (length (written m))) (refused 16 0) (Ok (Some (position m)))

abbrev pub put_message : Option (Message (List ℕ)) → List ℕ → List ℕ
put_message None out = out
put_message (Some m) out = write_output (written m) out

module _ {R : Type 0} (rows : Rows R) (n own : ℕ) (ps : List R) where
  -- the message of a phase for a slot, if it is said: recorded under the own number, a send only for the own slot
  abbrev pub said_message_lem : Phase → ℕ → Option (Message (List ℕ))
  said_message_lem ph k = cond (may_send ph k own) (option_map (Sheet ph k) (recorded rows n ps ph k own)) None

  -- the first message of a phase at or after a position, among the slots below m
  unfoldable pub earliest : Phase → ℕ → ℕ → Option (Message (List ℕ))
  earliest ph from zero = None
  earliest ph from (suc m) = or_else (earliest ph from m) (at_or_after from (said_message_lem ph m))

  -- the first of all: sends, then echoes, then readies
  abbrev pub next_said : ℕ → Option (Message (List ℕ))
  next_said from = or_else (earliest Send from n) (or_else (earliest Echo from n) (earliest Ready from n))

-- say: the sizes of the tables, then the first message said at or after the position, or none; the output long enough
module _ {R : Type 0} (rows : Rows R) (n own from : ℕ) (t : Holding R) (out : List ℕ) where
  abbrev pub say_answer : Result (Option ℕ) Refused
  say_answer = cond (sizes_ok n t) (told_position (next_said rows n own t.slots.places from) out) (refused 4 0)

  abbrev pub say_output : List ℕ
  say_output = cond (sizes_ok n t) (put_message (next_said rows n own t.slots.places from) out) out
