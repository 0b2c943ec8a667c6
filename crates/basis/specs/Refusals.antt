-- The reasons of refusals with their numbers and words, and what a caller is told. Assumes nothing.
use Rattle.std.specs.Prelude.{◌≡◌, ℕ, List, ◌++◌, Ok, Err, codes, Result}
use Rattle.std.specs.Fmt.{decimal}
use Rattle.basis.specs.declared.refusal.Refusal.{Refusal}
use Rattle.basis.specs.declared.refusal.Reason.{Reason}
use Rattle.basis.specs.declared.refusal.Reason.TheVariants.{AmountOutOfRange, HallSizeNotListed, OwnNumberTooLarge, TablesTooSmall, SenderNotAnother, NotOneWholeMessage, TagNotUsed, WrongLength, SlotTooLarge, RoundOutOfRange, ValueNotLawful, SendNotFromSlot, Contradiction, BallotUndecided, SheetMissing, OutputTooShort, IndexTooLarge}

abbrev pub number_of : Reason → ℕ
number_of AmountOutOfRange = 1
number_of HallSizeNotListed = 2
number_of OwnNumberTooLarge = 3
number_of TablesTooSmall = 4
number_of SenderNotAnother = 5
number_of NotOneWholeMessage = 6
number_of TagNotUsed = 7
number_of WrongLength = 8
number_of SlotTooLarge = 9
number_of RoundOutOfRange = 10
number_of ValueNotLawful = 11
number_of SendNotFromSlot = 12
number_of Contradiction = 13
number_of BallotUndecided = 14
number_of SheetMissing = 15
number_of OutputTooShort = 16
number_of IndexTooLarge = 17

-- no two reasons share a number, so a number names one reason
abbrev pub NumbersApart : Type 0
NumbersApart = (a b : Reason) → number_of a ≡ number_of b → a ≡ b

abbrev pub refusal : Reason → ℕ → Refusal
refusal why place = record { reason = why; place = place }

-- what a refusal says to a user: the number of the first check that failed, and the place
pub record Refused : Type 0 where
  pub number : ℕ
  pub place : ℕ

abbrev pub refused : {X : Type 0} → ℕ → ℕ → Result X Refused
refused k p = Err (record { number = k; place = p })

-- an answer with its refusal as a user knows it
abbrev pub told : {X : Type 0} → Result X Refusal → Result X Refused
told (Ok x) = Ok x
told (Err e) = Err (record { number = number_of e.reason; place = e.place })

-- an answer with its reason as its number, where no place is known
abbrev pub numbered : {X : Type 0} → Result X Reason → Result X ℕ
numbered (Ok x) = Ok x
numbered (Err e) = Err (number_of e)

abbrev pub meaning_of : Reason → List ℕ
meaning_of AmountOutOfRange = codes "the amount is out of range"
meaning_of HallSizeNotListed = codes "the hall size is not listed"
meaning_of OwnNumberTooLarge = codes "the own number is not below the hall size"
meaning_of TablesTooSmall = codes "the tables are too small"
meaning_of SenderNotAnother = codes "the sender is not another replica of the hall"
meaning_of NotOneWholeMessage = codes "the packet is not one whole message"
meaning_of TagNotUsed = codes "the tag is not used"
meaning_of WrongLength = codes "the length is wrong for the tag"
meaning_of SlotTooLarge = codes "the slot is not below the hall size"
meaning_of RoundOutOfRange = codes "the round is out of range"
meaning_of ValueNotLawful = codes "the value or sheet is not lawful"
meaning_of SendNotFromSlot = codes "the send does not come from its slot's replica"
meaning_of Contradiction = codes "the message contradicts an earlier one"
meaning_of BallotUndecided = codes "a ballot is undecided"
meaning_of SheetMissing = codes "a sheet is missing"
meaning_of OutputTooShort = codes "the output is too short"
meaning_of IndexTooLarge = codes "the index is not below the count"

-- a refusal in words: its number, its place and what it means
abbrev pub in_words : Refusal → List ℕ
in_words e = decimal (number_of e.reason) ++ (codes " at " ++ (decimal e.place ++ (codes ": " ++ meaning_of e.reason)))
