-- The message at the start of an output. Assumes nothing.
use Rattle.std.specs.Prelude.{ℕ, ◌+◌, List, take}
use Rattle.messages.specs.Reading.{declared}

-- its tag, its length and a body so long
abbrev pub first_message : List ℕ → List ℕ
first_message xs = take (3 + declared xs) xs
