-- What a line of a hall script asks for, by its words: the pieces between single spaces. Assumes nothing.
use Rattle.std.specs.Prelude.{ℕ, ◌^◌, min, cond, List, [], ◌∷◌, ℤ, Some, None, codes, Option, nat_lt}
use Rattle.std.specs.Int.{saturate_to_bits}
use Rattle.std.specs.Option.{option_map}
use Rattle.std.specs.Str.{bytes_eq}
use Rattle.text.specs.Digits.{number_of}
use Rattle.text.specs.Decimals.{digit_of, integer_of}
use Rattle.text.specs.Hexadecimals.{hex_number_of}
use Rattle.text.specs.Lines.{words}
use Rattle.scripts.specs.declared.command.Form.{Form}
use Rattle.scripts.specs.declared.command.Form.TheVariants as form
use Rattle.scripts.specs.declared.command.RuleName.{RuleName}
use Rattle.scripts.specs.declared.command.RuleName.TheVariants as rule
use Rattle.scripts.specs.declared.command.Command.{Command}
use Rattle.scripts.specs.declared.command.Command.TheVariants as command

-- what a line asks for, with its numbers as they are written, however large
pub data Asked : Type 0 where
  hall : ℕ → RuleName → ℕ → Asked
  offer : ℕ → ℤ → ℕ → Asked
  rest : Asked
  close : ℕ → Asked

-- a decimal number: one digit or more, no sign
abbrev pub number : List ℕ → Option ℕ
number w = number_of 10 digit_of w

-- such a number, if it fits 32 bits
abbrev pub in_32_bits : Option ℕ → Option ℕ
in_32_bits None = None
in_32_bits (Some k) = cond (nat_lt k (2 ^ 32)) (Some k) None

abbrev pub receipts : List ℕ → Option ℕ
receipts w = in_32_bits (number w)

-- the words of the rules
abbrev pub rule_of_lem : List ℕ → Option RuleName
rule_of_lem w = cond (bytes_eq w (codes "two")) (Some rule.Two) (cond (bytes_eq w (codes "three")) (Some rule.Three) None)

-- the three parts of a hall line, or of an offer, where all are there
abbrev pub three_parts : {A B C : Type 0} → (A → B → C → Asked) → Option A → Option B → Option C → Option Asked
three_parts f None b c = None
three_parts f (Some x) None c = None
three_parts f (Some x) (Some y) None = None
three_parts f (Some x) (Some y) (Some z) = Some (f x y z)

-- after `hall`: N RULE COIN, the last of one to four hexadecimal digits
abbrev pub hall_of : List (List ℕ) → Option Asked
hall_of [] = None
hall_of (n ∷ []) = None
hall_of (n ∷ r ∷ []) = None
hall_of (n ∷ r ∷ c ∷ []) = three_parts hall (number n) (rule_of_lem r) (hex_number_of c)
hall_of (n ∷ r ∷ c ∷ x ∷ ws) = None

-- after `offer`: TILL CENTS RECEIPTS, the second with or without a minus sign
abbrev pub offer_of_lem : List (List ℕ) → Option Asked
offer_of_lem [] = None
offer_of_lem (t ∷ []) = None
offer_of_lem (t ∷ c ∷ []) = None
offer_of_lem (t ∷ c ∷ r ∷ []) = three_parts offer (number t) (integer_of c) (number r)
offer_of_lem (t ∷ c ∷ r ∷ x ∷ ws) = None

-- after `rest`: nothing
abbrev pub rest_of : List (List ℕ) → Option Asked
rest_of [] = Some rest
rest_of (x ∷ ws) = None

-- the word where there is one alone
abbrev pub only : List (List ℕ) → Option (List ℕ)
only [] = None
only (w ∷ []) = Some w
only (w ∷ x ∷ ws) = None

-- after `close`: TILL
abbrev pub close_of : List (List ℕ) → Option Asked
close_of [] = None
close_of (t ∷ []) = option_map close (number t)
close_of (t ∷ x ∷ ws) = None

-- the words that begin the forms
abbrev pub form_of_lem : List ℕ → Option Form
form_of_lem w =
    cond (bytes_eq w (codes "hall")) (Some form.Hall)
    (cond (bytes_eq w (codes "offer")) (Some form.Offer)
    (cond (bytes_eq w (codes "rest")) (Some form.Rest)
    (cond (bytes_eq w (codes "close")) (Some form.Close) None)))

-- what the words after the first ask for, by the form that the first begins
abbrev pub formed : Option Form → List (List ℕ) → Option Asked
formed None ws = None
formed (Some form.Hall) ws = hall_of ws
formed (Some form.Offer) ws = offer_of_lem ws
formed (Some form.Rest) ws = rest_of ws
formed (Some form.Close) ws = close_of ws

-- what the words of a line ask for
abbrev pub asked_in : List (List ℕ) → Option Asked
asked_in [] = None
asked_in (w ∷ ws) = formed (form_of_lem w) ws

-- what a line asks for
abbrev pub asked_of : List ℕ → Option Asked
asked_of line = asked_in (words line)

-- the same in numbers of fixed width: one too large is the nearest that fits, and receipts that do not fit are no offer
abbrev pub fitted : Asked → Option Command
fitted (hall n r c) = Some (command.Hall (min n 255) r c)
fitted (offer t z k) = cond (nat_lt k (2 ^ 32)) (Some (command.Offer (min t 255) (saturate_to_bits 63 z) k)) None
fitted rest = Some command.Rest
fitted (close t) = Some (command.Close (min t 255))

-- the command of a line, where it asks for something
abbrev pub fit : Option Asked → Option Command
fit None = None
fit (Some a) = fitted a

abbrev pub command_of : List ℕ → Option Command
command_of line = fit (asked_of line)
