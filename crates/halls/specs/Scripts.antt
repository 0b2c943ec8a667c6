-- What the lines of a script come to: what each prints, what hall it leaves, and a whole script at play. Assumes nothing.
use Rattle.std.specs.Prelude.{◌≡◌, ℕ, ◌+◌, Bool, true, false, cond, List, [], ◌∷◌, ◌++◌, ◌⊎◌, codes, is_some, Some, None, Ok, Err, Option, Result, String, string_bytes, nat_lt}
use Rattle.std.specs.Fmt.{decimal}
use Rattle.text.specs.Lines.{lines}
use Rattle.outcomes.specs.Closing.{closing_view}
use Rattle.scripts.specs.Commands.{command_of}
use Rattle.scripts.specs.declared.command.Command.{Command}
use Rattle.scripts.specs.declared.command.Command.TheVariants.{Hall, Offer, Rest, Close}
use Rattle.sheets.specs.OfTakings.{takings_rows}
use Rattle.halls.specs.Faults.{Problem, misplaced, refused, memory}
use Rattle.halls.specs.Halls.{scene_of}
use Rattle.halls.specs.Plays.{Continued}
use Rattle.halls.specs.Prints.{record_lines, closes_text, refused_text}
use Rattle.halls.specs.Scenes.{Scene, till, closing, opening_told, offer_told, offer_left, close_left}
use Rattle.halls.specs.States.{Held}
use Rattle.halls.specs.Sweeps.{rest_left}
use Rattle.halls.specs.declared.hall.Hall.{Hall as AHall}
use Rattle.halls.specs.declared.player.Stop.{Stop}
use Rattle.halls.specs.declared.player.Stop.TheVariants.{Fault, Memory}

-- what a line prints: nothing, as it opens a hall or in one; that a till closes, with the lines of its closing record; or that
-- its close is refused
pub data Printed : Type 0 where
  opens : Printed
  nothing : Printed
  closes : (till : ℕ) (lines : List ℕ) → Printed
  refuses : (till number place : ℕ) → Printed

abbrev pub text_of : Printed → List ℕ
text_of opens = []
text_of nothing = []
text_of (closes i x) = closes_text i x
text_of (refuses i k p) = refused_text i k p

-- the lines of a till's closing record
abbrev pub list_of : ℕ → Held → List ℕ
list_of n h = record_lines takings_rows n (closing_view h) 12 1

-- nothing is printed, where there is no problem; any is a fault of the script
abbrev pub unless_problem : {X : Type 0} → Result X Problem → Option Printed
unless_problem (Ok x) = Some nothing
unless_problem (Err e) = None

-- a hall opens, where there is no problem
abbrev pub opening_prints : {X : Type 0} → Result X Problem → Option Printed
opening_prints (Ok x) = Some opens
opening_prints (Err e) = None

-- what closing till i prints, by what close answers
abbrev pub closing_prints : ℕ → List ℕ → Result (Unit {0}) Problem → Option Printed
closing_prints i x (Ok u) = Some (closes i x)
closing_prints i x (Err misplaced) = None
closing_prints i x (Err (refused e)) = Some (refuses i e.number e.place)
closing_prints i x (Err memory) = None

abbrev pub opened_scene : Result Scene Problem → Option Scene
opened_scene (Ok x) = Some x
opened_scene (Err e) = None

-- what a command prints, before the hall line and after it, and none where it is a fault of the script
abbrev pub prints_before : Command → Option Printed
prints_before (Hall n rule coin) = opening_prints (opening_told rule n coin)
prints_before (Offer i cents receipts) = None
prints_before Rest = None
prints_before (Close i) = None

abbrev pub prints_after : Scene → Command → Option Printed
prints_after x (Hall n rule coin) = None
prints_after x (Offer i cents receipts) = unless_problem (offer_told x i cents)
prints_after x Rest = Some nothing
prints_after x (Close i) = cond (nat_lt i x.n) (closing_prints i (list_of x.n (till i x.tills)) (closing x.n (till i x.tills))) None

-- the hall that a command leaves
abbrev pub hall_before : Command → Option Scene
hall_before (Hall n rule coin) = opened_scene (opening_told rule n coin)
hall_before (Offer i cents receipts) = None
hall_before Rest = None
hall_before (Close i) = None

abbrev pub hall_after : Scene → Command → Scene
hall_after x (Hall n rule coin) = x
hall_after x (Offer i cents receipts) = offer_left x i cents receipts
hall_after x Rest = rest_left x
hall_after x (Close i) = close_left x i

abbrev pub command_prints : Option Scene → Option Command → Option Printed
command_prints s None = None
command_prints None (Some c) = prints_before c
command_prints (Some x) (Some c) = prints_after x c

abbrev pub command_leaves : Option Scene → Option Command → Option Scene
command_leaves s None = s
command_leaves None (Some c) = hall_before c
command_leaves (Some x) (Some c) = Some (hall_after x c)

-- what a line prints, none where it is a fault of the script, and the hall that it leaves
abbrev pub line_prints : Option Scene → List ℕ → Option Printed
line_prints s line = command_prints s (command_of line)

abbrev pub line_leaves : Option Scene → List ℕ → Option Scene
line_leaves s line = command_leaves s (command_of line)

-- what takes memory: the tables of a hall, and what a close prints
abbrev pub needs_memory : Printed → Bool
needs_memory opens = true
needs_memory nothing = false
needs_memory (closes i x) = true
needs_memory (refuses i k p) = true

-- a play's answer is the text of what is printed, or that the line is a fault; where it is none, and takes memory, that may
-- have run out
abbrev pub Plays : {A : Type 0} → Result (String A) Stop → Option Printed → Type 0
Plays (Ok s) None = ⊥
Plays (Ok s) (Some p) = string_bytes s ≡ text_of p
Plays (Err Fault) None = Unit {0}
Plays (Err Fault) (Some p) = ⊥
Plays (Err Memory) None = ⊥
Plays (Err Memory) (Some p) = needs_memory p ≡ true

-- the hall that is left is the one expected; where memory ran out, it may be as before
abbrev pub Leaves : {A : Type 0} → Result (String A) Stop → Option Scene → Option Scene → Option Scene → Type 0
Leaves (Ok s) old expected new = new ≡ expected
Leaves (Err Fault) old expected new = new ≡ expected
Leaves (Err Memory) old expected new = (new ≡ expected) ⊎ (new ≡ old)

-- the hall of a script at play
abbrev pub scene_in : Option AHall → Option Scene
scene_in None = None
scene_in (Some h) = Some (scene_of h)

-- why a play ends, by a problem
abbrev pub stop_of : Problem → Stop
stop_of misplaced = Fault
stop_of (refused e) = Fault
stop_of memory = Memory

-- the hall is the same later, or there was none before
abbrev pub Follows : Option AHall → Option AHall → Type 0
Follows None h' = Unit {0}
Follows (Some h) None = ⊥
Follows (Some h) (Some h') = Continued h.rule h.n h.tills.items h'.rule h'.n h'.tills.items

-- a script at play from its first line on: the hall that it has come to, and what its lines printed, the last first
pub data Script : Option AHall → List Printed → Type 0 where
  begun : Script None []
  played : {h : Option AHall} {ps : List Printed} → Script h ps → (line : List ℕ) (h' : Option AHall) (p : Printed) → Follows h h' →
      scene_in h' ≡ line_leaves (scene_in h) line → line_prints (scene_in h) line ≡ Some p → Script h' (p ∷ ps)

abbrev pub Among : Printed → List Printed → Type 0
Among p [] = ⊥
Among p (q ∷ ps) = (p ≡ q) ⊎ Among p ps

-- whatever the lines of a script, all its closes print the same list
abbrev pub ScriptsAlike : Type 0
ScriptsAlike = (h : Option AHall) (ps : List Printed) → Script h ps → (i j : ℕ) (x y : List ℕ) → Among (closes i x) ps → Among (closes j y) ps → x ≡ y

-- the line that tells of a fault, by the number of the script's line
abbrev pub fault_line : ℕ → List ℕ
fault_line k = codes "script " ++ (decimal k ++ 10 ∷ [])

-- what stands in the output for line k
abbrev pub shown_of : ℕ → Option Printed → List ℕ
shown_of k None = fault_line k
shown_of k (Some p) = text_of p

-- what is printed of the lines from the k-th on, with the hall that stands before them: up to the first fault
unfoldable pub printed_from : ℕ → Option Scene → List (List ℕ) → List ℕ
printed_from k s [] = []
printed_from k s (line ∷ more) = shown_of k (line_prints s line) ++ cond (is_some (line_prints s line)) (printed_from (k + 1) (line_leaves s line) more) []

-- all that a script prints
abbrev pub script_printed : List ℕ → List ℕ
script_printed text = printed_from 1 None (lines text)

-- what playing line k has added to the output, whether the script goes on, and the hall that is left
pub record Added (k : ℕ) (line : List ℕ) (s s' : Option Scene) (out out' : List ℕ) (on : Bool) : Type 0 where
  pub text : out' ≡ out ++ shown_of k (line_prints s line)
  pub goes_on : on ≡ is_some (line_prints s line)
  pub hall : s' ≡ line_leaves s line
