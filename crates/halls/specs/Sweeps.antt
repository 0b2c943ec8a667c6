-- What tills come to by hearing each other: a message, all messages of one till, a sweep, and rest. Assumes nothing.
use Rattle.std.specs.Prelude.{◌≡◌, ℕ, zero, suc, ◌+◌, Bool, true, false, cond, ◌||◌, List, replicate, Some, None, Ok, Err, Option, Result, ◌==◌, slice_set}
use Rattle.std.specs.Option.{option_map}
use Rattle.basis.specs.Refusals.{Refused}
use Rattle.basis.specs.declared.heard.Heard.{Heard}
use Rattle.basis.specs.declared.heard.Heard.TheVariants.{New, Known}
use Rattle.outcomes.specs.Saying.{say_answer, say_output}
use Rattle.scripts.specs.declared.command.RuleName.{RuleName}
use Rattle.halls.specs.Faults.{Problem}
use Rattle.halls.specs.Packets.{first_message}
use Rattle.halls.specs.Scenes.{Scene, till, if_offered, hearing, hearing_left, with_tills}
use Rattle.halls.specs.States.{Held, setting_of}
use Rattle.halls.specs.declared.calls.Passed.{Passed}

-- a message that a till says, with its position
pub record Spoken : Type 0 where
  pub position : ℕ
  pub packet : List ℕ

-- the room that a message of takings wants, empty
abbrev pub blank : List ℕ
blank = replicate 16 0

-- there is a message where say answers a position, and it stands at the start of the output
abbrev pub spoken : Result (Option ℕ) Refused → List ℕ → Option Spoken
spoken (Ok (Some p)) out = Some (record { position = p; packet = first_message out })
spoken (Ok None) out = None
spoken (Err e) out = None

abbrev pub is_new : Result Heard Problem → Bool
is_new (Ok New) = true
is_new (Ok Known) = false
is_new (Err e) = false

abbrev pub some_new : Option Passed → Bool
some_new None = false
some_new (Some a) = a.news

-- tills that hear each other: whether a message was new to its hearer so far, and what they hold
pub record Hearing : Type 0 where
  pub news : Bool
  pub tills : List Held

-- nothing is heard yet, and one after another
abbrev pub quiet : List Held → Hearing
quiet hs = record { news = false; tills = hs }

abbrev pub joined : Hearing → Hearing → Hearing
joined x y = record { news = x.news || y.news; tills = y.tills }

-- how many positions there are: those of messages lie below
abbrev pub positions : ℕ
positions = 3211264

-- how many sweeps are made at most
abbrev pub most_sweeps : ℕ
most_sweeps = 268435456

module _ (rule : RuleName) (n : ℕ) where
  -- the first message that till i has said at or after a position, if it has offered and there is one
  abbrev pub said_from : ℕ → ℕ → Held → Option Spoken
  said_from i p h = if_offered h.life (spoken (say_answer (setting_of rule) n i h p blank) (say_output (setting_of rule) n i h p blank)) None

  -- till i hears the first message that till j has said at or after a position
  abbrev pub passed_on : (j i : ℕ) → List Held → Spoken → Passed
  passed_on j i hs s = record { position = s.position; news = is_new (hearing rule n i j s.packet (till i hs)) }

  abbrev pub pass_answer : (j i p : ℕ) → List Held → Option Passed
  pass_answer j i p hs = option_map (passed_on j i hs) (said_from j p (till j hs))

  abbrev pub passed_left : (j i : ℕ) → List Held → Option Spoken → List Held
  passed_left j i hs None = hs
  passed_left j i hs (Some s) = slice_set hs i (hearing_left rule n i j s.packet (till i hs))

  abbrev pub pass_left : (j i p : ℕ) → List Held → List Held
  pass_left j i p hs = passed_left j i hs (said_from j p (till j hs))

  -- goes on behind the message that was passed on, if there was one
  abbrev pub go_on : (ℕ → Hearing → Hearing) → Hearing → Option Passed → List Held → Hearing
  go_on f x None hs = x
  go_on f x (Some a) hs = f (a.position + 1) (record { news = x.news || a.news; tills = hs })

  -- till i hears what till j has said at or after a position, positions rising, at most so many messages
  unfoldable pub heard_from : ℕ → (j i p : ℕ) → Hearing → Hearing
  heard_from zero j i p x = x
  heard_from (suc m) j i p x = go_on (heard_from m j i) x (pass_answer j i p x.tills) (pass_left j i p x.tills)

  -- it hears all
  abbrev pub all_heard : (j i : ℕ) → List Held → Hearing
  all_heard j i hs = heard_from positions j i 0 (quiet hs)

  -- the tills below m, but not till j itself, hear all that it has said, hearers rising
  unfoldable pub told_below : ℕ → ℕ → List Held → Hearing
  told_below zero j hs = quiet hs
  told_below (suc m) j hs = cond (m == j) (told_below m j hs) (joined (told_below m j hs) (all_heard j m (told_below m j hs).tills))

  -- so all that the tills below m have said is heard, speakers rising
  unfoldable pub swept_below : ℕ → List Held → Hearing
  swept_below zero hs = quiet hs
  swept_below (suc m) hs = joined (swept_below m hs) (told_below n m (swept_below m hs).tills)

  -- a sweep
  abbrev pub sweep : List Held → Hearing
  sweep hs = swept_below n hs

  -- sweeps, until one brings nothing new, at most so many
  unfoldable pub rested : ℕ → List Held → List Held
  rested zero hs = hs
  rested (suc m) hs = cond (sweep hs).news (rested m (sweep hs).tills) (sweep hs).tills

-- a hall comes to rest: its tills hear each other, until a sweep brings nothing new
abbrev pub rest_left : Scene → Scene
rest_left x = with_tills x (rested x.rule x.n most_sweeps x.tills)

-- the next sweep would bring nothing new
abbrev pub NothingNew : Scene → Type 0
NothingNew x = (sweep x.rule x.n x.tills).news ≡ false
