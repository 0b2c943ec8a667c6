-- What a line of input means, and what comes of an entry that is sent and read back. Assumes nothing.
use Rattle.std.specs.Prelude.{ℕ, ◌^◌, false, cond, ◌&&◌, List, length, ℤ, Some, None, Ok, Option, Result, nat_lt}
use Rattle.basis.specs.Refusals.{Refused, refused}
use Rattle.messages.specs.Reading.{Placed, Syntax, syntax, reading, and_then}
use Rattle.messages.specs.Tags.{basic_tags}
use Rattle.messages.specs.Writing.{written, write_answer, write_output}
use Rattle.messages.specs.declared.message.Message.{Message}
use Rattle.messages.specs.declared.message.Message.TheVariants.{Sheet, Bit, Set, Share}
use Rattle.messages.specs.declared.message.Phase.TheVariants.{Send, Echo, Ready}
use Rattle.sheets.specs.OfTakings.{in_range_lem, amount_bytes, takings_lawful, takings_row}
use Rattle.text.specs.Decimals.{decimal_of, signed_of}
use Rattle.text.specs.Lines.{three, words}
use Rattle.sends.specs.declared.entry.Entry.{Entry}

-- three numbers that fit a till's number, an amount and a number of receipts
abbrev pub entry_from : Option ℕ → Option ℤ → Option ℕ → Option Entry
entry_from None z r = None
entry_from (Some t) None r = None
entry_from (Some t) (Some z) None = None
entry_from (Some t) (Some z) (Some r) = cond (nat_lt t 256 && nat_lt r (2 ^ 32)) (Some (record { till = t; cents = z; receipts = r })) None

abbrev pub entry_in : Option (List ℕ × List ℕ × List ℕ) → Option Entry
entry_in None = None
entry_in (Some w) = entry_from (decimal_of w.0) (signed_of w.1) (decimal_of w.2)

-- the entry of a line
abbrev pub entry_of : List ℕ → Option Entry
entry_of line = entry_in (three (words line))

-- the entry that a message carries: a send message of lawful takings
abbrev pub carried : ℕ → List ℕ → Option Entry
carried slot s = cond (takings_lawful s) (Some (record { till = slot; cents = (takings_row s).cents; receipts = (takings_row s).receipts })) None

abbrev pub sent : Message Placed → Option Entry
sent (Sheet Send slot p) = carried slot p.bytes
sent (Sheet Echo slot p) = None
sent (Sheet Ready slot p) = None
sent (Bit vote slot round b) = None
sent (Set tag slot round v) = None
sent (Share slot round x) = None

-- the bytes of an entry's send message
abbrev pub send_bytes : Entry → List ℕ
send_bytes e = written (Sheet Send e.till (amount_bytes e.cents e.receipts))

-- sending an entry: refused with 1 where the amount is out of range, and with 16 where the output is too short
abbrev pub send_answer : Entry → List ℕ → Result ℕ Refused
send_answer e out = cond (in_range_lem e.cents) (write_answer (send_bytes e) out) (refused 1 0)

abbrev pub send_output : Entry → List ℕ → List ℕ
send_output e out = cond (in_range_lem e.cents) (write_output (send_bytes e) out) out

-- packets of takings for a hall of four, under the basic tags and with no shares
abbrev pub wire : Syntax
wire = syntax 12 takings_lawful (record { n = 4; tags = basic_tags; shares = false })

-- receiving a packet: what a reading refuses, or the entry that the message carries
abbrev pub received : List ℕ → Result (Option Entry) Refused
received xs = and_then (reading wire xs) (λ m. Ok (sent m))

-- an amount out of range, an output too short, a till beyond the hall of four; and else the entry as it was
abbrev pub trip_answer : Entry → List ℕ → Result (Option Entry) Refused
trip_answer e out =
    cond (in_range_lem e.cents)
    (cond (nat_lt (length out) 16) (refused 16 0) (cond (nat_lt e.till 4) (Ok (Some e)) (refused 9 3)))
    (refused 1 0)
