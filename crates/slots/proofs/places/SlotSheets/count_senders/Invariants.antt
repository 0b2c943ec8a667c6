-- So far as many senders were counted as have the sheet.
use Rattle.std.proofs.Common.{◌≡◌, ◌≤◌}
use Rattle.basis.specs.Counts.{count}
use Rattle.sheets.specs.Holds.{holds}
use Rattle.slots.specs.Places.{recorded}
use Rattle.slots.proofs.places.SlotSheets.count_senders.Given as goal

abbrev pub invariant-loop-sender : goal.invariant-loop-sender
invariant-loop-sender g l =
    let m = g.S.Sheet in
    (l.many ≤ l.sender) × (l.many ≡ count l.sender (λ j. holds (m.bytes l.sheet) (recorded m.rows l.self.n l.self.places.now l.phase l.self.slot j)))
