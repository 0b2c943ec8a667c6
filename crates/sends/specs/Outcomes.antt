-- What a line of input comes to, and how these are counted. Assumes nothing.
use Rattle.std.specs.Prelude.{ℕ, ◌+◌, ◌-◌, ◌^◌, min, replicate, Some, None, Ok, Err, Option, Result}
use Rattle.basis.specs.Refusals.{Refused}
use Rattle.sends.specs.Entries.{trip_answer}
use Rattle.sends.specs.declared.entry.Entry.{Entry}
use Rattle.sends.specs.declared.report.Outcome.{Outcome}
use Rattle.sends.specs.declared.report.Outcome.TheVariants.{Sent, Refused as IsRefused, Unread}
use Rattle.sends.specs.declared.report.Tally.{Tally}

-- what is received of an entry that was sent
abbrev pub received_as : Result (Option Entry) Refused → Outcome
received_as (Ok (Some e)) = Sent
received_as (Ok None) = Unread
received_as (Err e) = IsRefused

-- what a line comes to, by its entry, with room for a message of takings: 16 bytes
abbrev pub comes_to : Option Entry → Outcome
comes_to None = Unread
comes_to (Some e) = received_as (trip_answer e (replicate 16 0))

-- one more, up to the largest number of 64 bits
abbrev pub one_more : ℕ → ℕ
one_more k = min (k + 1) (2 ^ 64 - 1)

-- one line more that came to it
abbrev pub counted : Tally → Outcome → Tally
counted t Sent = record { sent = one_more t.sent; refused = t.refused; unread = t.unread }
counted t IsRefused = record { sent = t.sent; refused = one_more t.refused; unread = t.unread }
counted t Unread = record { sent = t.sent; refused = t.refused; unread = one_more t.unread }
