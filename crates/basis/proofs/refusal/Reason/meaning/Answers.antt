-- Each text is the one that the reason's definition names.
use Rattle.std.proofs.Common.{sym, ap}
use Rattle.basis.specs.Refusals.{meaning_of}
use Rattle.basis.proofs.refusal.Reason.meaning.Goals as goal

pub returns-in-AmountOutOfRange : goal.returns-in-AmountOutOfRange
returns-in-AmountOutOfRange c = sym (ap meaning_of c.in-AmountOutOfRange.is)

pub returns-in-OwnNumberTooLarge : goal.returns-in-OwnNumberTooLarge
returns-in-OwnNumberTooLarge c = sym (ap meaning_of c.in-OwnNumberTooLarge.is)

pub returns-in-TablesTooSmall : goal.returns-in-TablesTooSmall
returns-in-TablesTooSmall c = sym (ap meaning_of c.in-TablesTooSmall.is)

pub returns-in-SenderNotAnother : goal.returns-in-SenderNotAnother
returns-in-SenderNotAnother c = sym (ap meaning_of c.in-SenderNotAnother.is)

pub returns-in-WrongLength : goal.returns-in-WrongLength
returns-in-WrongLength c = sym (ap meaning_of c.in-WrongLength.is)

pub returns-in-RoundOutOfRange : goal.returns-in-RoundOutOfRange
returns-in-RoundOutOfRange c = sym (ap meaning_of c.in-RoundOutOfRange.is)

pub returns-in-ValueNotLawful : goal.returns-in-ValueNotLawful
returns-in-ValueNotLawful c = sym (ap meaning_of c.in-ValueNotLawful.is)

pub returns-in-SendNotFromSlot : goal.returns-in-SendNotFromSlot
returns-in-SendNotFromSlot c = sym (ap meaning_of c.in-SendNotFromSlot.is)

pub returns-in-Contradiction : goal.returns-in-Contradiction
returns-in-Contradiction c = sym (ap meaning_of c.in-Contradiction.is)

pub returns-in-OutputTooShort : goal.returns-in-OutputTooShort
returns-in-OutputTooShort c = sym (ap meaning_of c.in-OutputTooShort.is)

pub returns-in-IndexTooLarge : goal.returns-in-IndexTooLarge
returns-in-IndexTooLarge c = sym (ap meaning_of c.in-IndexTooLarge.is)
