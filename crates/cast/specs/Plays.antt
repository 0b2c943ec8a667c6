-- What becomes of the hall at a line of a script. Assumes nothing.
use Rattle.std.specs.Prelude.{ℕ, Bool, false, Some, None, Option, ◌==◌}
use Rattle.cast.specs.declared.script.Command.{Command}
use Rattle.cast.specs.declared.script.Command.TheVariants.{Hall, Offer, Forge, Rest, Show}

-- a hall may open at line k: it is the first, and asks for a hall
abbrev pub may_open : ℕ → Option Command → Bool
may_open k None = false
may_open k (Some (Hall n)) = k == 1
may_open k (Some (Offer o)) = false
may_open k (Some (Forge f)) = false
may_open k (Some Rest) = false
may_open k (Some Show) = false
