-- What was read is lawful and for a slot of the hall; a new message is recorded.
use Rattle.std.proofs.Common.{◌≡◌, ℕ, ◌<◌, Bool, true, Ok, length, sym, ap, ◌∙◌, ap₂, subst, arith}
use Rattle.std.proofs.lemmas.List.{length-map}
use Rattle.broadcast.specs.Calls.{fits_hall}
use Rattle.messages.specs.declared.tags.VoteTags.{VoteTags}
use Rattle.messages.specs.Reading.{Syntax, part_placed, reading, Lawful, syntax}
use Rattle.messages.specs.Tags.{uses}
use Rattle.messages.specs.Writing.{on_sheet}
use Rattle.outcomes.specs.Holdings.{Setting, Holding, syntax_of, sizes_ok}
use Rattle.outcomes.specs.Tables.{holding, setting}
use Rattle.hearing.proofs.Packets.{by_bytes, read_lawful, slot_low, slot_placed, heard_left}
use Rattle.hearing.proofs.packet.hear.Goals as goal

pub note_message-requires-clause-lawful : goal.note_message-requires-clause-lawful
note_message-requires-clause-lawful g c =
    let n = c.args.member.n in
    let y : Syntax = syntax g.S.Sheet.LEN g.S.Sheet.lawful (record { n = n; tags = c.tags.result; shares = c.uses_shares.result }) in
    let y' : Syntax = syntax_of (setting g.S.Sheet.rows g.S.Sheet.LEN g.S.Sheet.KIND g.S.Sheet.lawful g.R.Rule.acts g.C.Coin.acts) n in
    let same : y ≡ y' = ap₂ (λ (t : VoteTags) (u : Bool). record { replicas = n; size = g.S.Sheet.LEN; lawful = g.S.Sheet.lawful; tags = uses t; shares = u }) c.tags.ensures c.uses_shares.ensures in
    subst (λ (x : Syntax). Lawful x (by_bytes c.in_ok-message.message)) same
    (read_lawful y c.read.ensures.exact c.args.packet.now (λ i. omega (arith, c.type_inv.packet i)) c.in_ok-message.message (sym c.in_ok-message.ensures.answer))

pub take_steps_if_new-requires-clause-slot : goal.take_steps_if_new-requires-clause-slot
take_steps_if_new-requires-clause-slot g c =
    let n = c.args.member.n in
    let y : Syntax = syntax g.S.Sheet.LEN g.S.Sheet.lawful (record { n = n; tags = c.tags.result; shares = c.uses_shares.result }) in
    subst (λ (x : ℕ). x < n) (sym c.slot-slot.ensures)
    (slot_low y c.in_ok-message.message (read_lawful y c.read.ensures.exact c.args.packet.now (λ i. omega (arith, c.type_inv.packet i)) c.in_ok-message.message (sym c.in_ok-message.ensures.answer)))

pub returns-clause-left : goal.returns-clause-left
returns-clause-left g c l =
    let m = c.args.member in
    let n = m.n in
    let j = c.args.sender in
    let xs = c.args.packet.now in
    let s : Setting _ _ = setting g.S.Sheet.rows g.S.Sheet.LEN g.S.Sheet.KIND g.S.Sheet.lawful g.R.Rule.acts g.C.Coin.acts in
    let h : Holding _ _ = holding g.R.Rule.meaning l c.args.records.now c.args.rounds.now c.args.places.now c.args.coin.now in
    let p = on_sheet part_placed c.in_ok-message.message in
    let y : Syntax = syntax g.S.Sheet.LEN g.S.Sheet.lawful (record { n = n; tags = c.tags.result; shares = c.uses_shares.result }) in
    let same : y ≡ syntax_of s n = ap₂ (λ (t : VoteTags) (u : Bool). record { replicas = n; size = g.S.Sheet.LEN; lawful = g.S.Sheet.lawful; tags = uses t; shares = u }) c.tags.ensures c.uses_shares.ensures in
    let read-is : reading (syntax_of s n) xs ≡ Ok p = ap (λ (x : Syntax). reading x xs) (sym same) ∙ sym c.in_ok-message.ensures.answer in
    let fits : sizes_ok n h ≡ true =
    ap₂ (λ (a b : ℕ). fits_hall n a b (length c.args.places.now)) (length-map c.args.records.now _) (length-map c.args.rounds.now g.R.Rule.meaning) ∙ sym c.if-not-are_large_enough.ensures in
    c.take_steps_if_new.ensures l
    ∙ heard_left s n m.own j xs h p c.slot-slot.result (holding g.R.Rule.meaning l c.note_message.new.records c.note_message.new.rounds c.note_message.new.places c.note_message.new.coin) c.in_ok-heard.heard
    fits (sym c.if-not-is_another.ensures) read-is (c.in_ok-heard.ensures.answer l) (c.slot-slot.ensures ∙ slot_placed c.in_ok-message.message) (c.note_message.ensures.left l)
