-- What a line of a script asks for. Assumes nothing.
use Rattle.std.specs.Prelude.{ℕ, ◌^◌, min, cond, List, ℤ, Some, None, codes, Option, nat_lt}
use Rattle.std.specs.Option.{option_map}
use Rattle.std.specs.Str.{bytes_eq}
use Rattle.messages.specs.declared.message.Phase.{Phase}
use Rattle.messages.specs.declared.message.Phase.TheVariants.{Send, Echo, Ready}
use Rattle.text.specs.Decimals.{decimal_of, signed_of}
use Rattle.text.specs.Lines.{first_piece, after_piece, three, words}
use Rattle.cast.specs.declared.script.Amount.{Amount}
use Rattle.cast.specs.declared.script.Offer.{Offer}
use Rattle.cast.specs.declared.script.Forgery.{Forgery}
use Rattle.cast.specs.declared.script.Command.{Command}
use Rattle.cast.specs.declared.script.Command.TheVariants as command

-- a number, at most 255
abbrev pub small_of : List ℕ → Option ℕ
small_of w = option_map (λ k. min k 255) (decimal_of w)

-- two numbers that fit an amount and a number of receipts
abbrev pub amount_from : Option ℤ → Option ℕ → Option Amount
amount_from None r = None
amount_from (Some z) None = None
amount_from (Some z) (Some r) = cond (nat_lt r (2 ^ 32)) (Some (record { cents = z; receipts = r })) None

abbrev pub amount_of_lem : List ℕ → List ℕ → Option Amount
amount_of_lem c r = amount_from (signed_of c) (decimal_of r)

-- the words of the phases
abbrev pub phase_of_lem : List ℕ → Option Phase
phase_of_lem w =
    cond (bytes_eq w (codes "send")) (Some Send)
    (cond (bytes_eq w (codes "echo")) (Some Echo)
    (cond (bytes_eq w (codes "ready")) (Some Ready) None))

-- an offer: a till, an amount and a number of receipts
abbrev pub offer_from : Option ℕ → Option Amount → Option Offer
offer_from None a = None
offer_from (Some t) None = None
offer_from (Some t) (Some a) = Some (record { till = t; amount = a })

abbrev pub offer_in : Option (List ℕ × List ℕ × List ℕ) → Option Offer
offer_in None = None
offer_in (Some w) = offer_from (small_of w.0) (amount_of_lem w.1 w.2)

abbrev pub offer_of : List ℕ → Option Offer
offer_of s = offer_in (three (words s))

-- a forgery: two tills, a phase, a slot, an amount and a number of receipts
abbrev pub forgery_from : Option ℕ → Option ℕ → Option Phase → Option ℕ → Option Amount → Option Forgery
forgery_from None b p k a = None
forgery_from (Some x) None p k a = None
forgery_from (Some x) (Some y) None k a = None
forgery_from (Some x) (Some y) (Some p) None a = None
forgery_from (Some x) (Some y) (Some p) (Some k) None = None
forgery_from (Some x) (Some y) (Some p) (Some k) (Some a) = Some (record { «from» = x; to = y; phase = p; slot = k; amount = a })

abbrev pub forgery_in : List ℕ → List ℕ → List ℕ → Option (List ℕ × List ℕ × List ℕ) → Option Forgery
forgery_in x y p None = None
forgery_in x y p (Some w) = forgery_from (small_of x) (small_of y) (phase_of_lem p) (small_of w.0) (amount_of_lem w.1 w.2)

abbrev pub forgery_third : List ℕ → List ℕ → List ℕ → Option (List ℕ) → Option Forgery
forgery_third x y p None = None
forgery_third x y p (Some s) = forgery_in x y p (three (words s))

abbrev pub forgery_second : List ℕ → List ℕ → Option (List ℕ) → Option Forgery
forgery_second x y None = None
forgery_second x y (Some s) = forgery_third x y (first_piece 32 s) (after_piece 32 s)

abbrev pub forgery_first : List ℕ → Option (List ℕ) → Option Forgery
forgery_first x None = None
forgery_first x (Some s) = forgery_second x (first_piece 32 s) (after_piece 32 s)

abbrev pub forgery_of : List ℕ → Option Forgery
forgery_of s = forgery_first (first_piece 32 s) (after_piece 32 s)

-- a line of one word
abbrev pub bare_command : List ℕ → Option Command
bare_command w = cond (bytes_eq w (codes "rest")) (Some command.Rest) (cond (bytes_eq w (codes "show")) (Some command.Show) None)

-- a line of a word and more
abbrev pub full_command : List ℕ → List ℕ → Option Command
full_command w s =
    cond (bytes_eq w (codes "hall")) (option_map command.Hall (small_of s))
    (cond (bytes_eq w (codes "offer")) (option_map command.Offer (offer_of s))
    (cond (bytes_eq w (codes "forge")) (option_map command.Forge (forgery_of s)) None))

abbrev pub command_in : List ℕ → Option (List ℕ) → Option Command
command_in w None = bare_command w
command_in w (Some s) = full_command w s

-- what a line asks for
abbrev pub command_of : List ℕ → Option Command
command_of line = command_in (first_piece 32 line) (after_piece 32 line)
