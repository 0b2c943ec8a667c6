-- What say's answers tell: the lowest of the lawful messages that are said is written, or does not fit. Assumes nothing.
use Rattle.std.specs.Prelude.{◌≡◌, ℕ, ◌<◌, ◌≤◌, false, ◌⊎◌, List, ◌++◌, length, drop, Some, None, Ok, Err, Option, Result}
use Rattle.basis.specs.Refusals.{Refused}
use Rattle.messages.specs.declared.message.Message.{Message}
use Rattle.messages.specs.Reading.{Lawful}
use Rattle.messages.specs.Writing.{written, position}
use Rattle.outcomes.specs.Holdings.{Setting, Holding, syntax_of, sizes_ok}
use Rattle.outcomes.specs.Calls.{HasSaid}
use Rattle.outcomes.specs.Saying.{say_answer, say_output}

module _ {R C : Type 0} (g : Setting R C) (n own : ℕ) (h : Holding R C) where
  module _ (from : ℕ) where
    -- a lawful message that is said, at or after a position
    pub record ToSay (m : Message (List ℕ)) : Type 0 where
      pub lawful : Lawful (syntax_of g n) m
      pub said : HasSaid g n own h m
      pub after : from ≤ position m

    -- it is the one that say writes: none is lower, the position is its own, and its bytes stand before the rest of the output
    pub record Writes (out : List ℕ) (p : ℕ) (left : List ℕ) (m : Message (List ℕ)) : Type 0 where
      pub to_say : ToSay m
      pub lowest : (m' : Message (List ℕ)) → ToSay m' → position m ≤ position m'
      pub told : p ≡ position m
      pub bytes : left ≡ written m ++ drop (length (written m)) out

    -- it is the one that is to be written, and the output is shorter than it
    pub record FitsNot (out : List ℕ) (m : Message (List ℕ)) : Type 0 where
      pub to_say : ToSay m
      pub lowest : (m' : Message (List ℕ)) → ToSay m' → position m ≤ position m'
      pub longer : length out < length (written m)

    -- what a refusal tells, with 4 or with 16, at place 0: too small tables, or an output too short for the lowest to say
    abbrev pub Why : List ℕ → Refused → Type 0
    Why out e = ((e ≡ record { number = 4; place = 0 }) × (sizes_ok n h ≡ false)) ⊎ ((e ≡ record { number = 16; place = 0 }) × ((m : Message (List ℕ)) × FitsNot out m))

    -- what an answer tells, with the output that is left: none left to say, the lowest to say, or why it is refused
    abbrev pub Tells : List ℕ → Result (Option ℕ) Refused → List ℕ → Type 0
    Tells out (Ok None) left = ((m : Message (List ℕ)) → ToSay m → ⊥) × (left ≡ out)
    Tells out (Ok (Some p)) left = (m : Message (List ℕ)) × Writes out p left m
    Tells out (Err e) left = (left ≡ out) × Why out e

-- say tells so at every replica of a hall of at most 16, with a sound coin
abbrev pub SaysTheFirst : {R C : Type 0} → Setting R C → Type 0
SaysTheFirst {R} {C} g = (n own from : ℕ) (h : Holding R C) (out : List ℕ) → n ≤ 16 → own < n → g.coins.sound h.coin →
    Tells g n own h from out (say_answer g n own h from out) (say_output g n own h from out)
