-- What is recorded, by the kind of the message.
use Rattle.std.proofs.Common.{◌≡◌, ℕ, sym, ap, ◌∙◌, ap₂}
use Rattle.broadcast.specs.Calls.{if_new}
use Rattle.messages.specs.Reading.{part_placed}
use Rattle.messages.specs.declared.message.Message.{Message}
use Rattle.messages.specs.declared.message.Part.{Part}
use Rattle.messages.specs.Writing.{on_sheet}
use Rattle.outcomes.specs.Hearing.{vote_answer, vote_noted, message_answer, message_noted}
use Rattle.outcomes.specs.Holdings.{Setting, Holding}
use Rattle.outcomes.specs.Tables.{holding, setting}
use Rattle.rules.specs.Rounds.{Vote, bit_set}
use Rattle.messages.specs.Tags.{vote_tag, bits_number}
use Rattle.hearing.proofs.Messages.{vote_left}
use Rattle.hearing.proofs.message.note_message.Goals as goal

pub returns-in-Bit-clause-left : goal.returns-in-Bit-clause-left
returns-in-Bit-clause-left g c l =
    let m = c.args.member in
    let s : Setting _ _ = setting g.S.Sheet.rows g.S.Sheet.LEN g.S.Sheet.KIND g.S.Sheet.lawful g.R.Rule.acts g.C.Coin.acts in
    let h : Holding _ _ = holding g.R.Rule.meaning l c.args.records.now c.args.rounds.now c.args.places.now c.args.coin.now in
    let j = c.args.sender in
    let k = c.in-Bit.slot in
    let r = c.in-Bit.round in
    let w : Vote = record { tag = c.tag.result; set = bits_number c.from.result; sender = j } in
    let w' : Vote = record { tag = vote_tag c.in-Bit.vote; set = bit_set c.in-Bit.bit; sender = j } in
    let same : w ≡ w' = ap₂ (λ (t v : ℕ). record { tag = t; set = v; sender = j }) c.tag.ensures c.from.ensures in
    vote_left g.R.Rule.meaning s m.n m.own j l k w c.args.records.now c.note_vote.new.records c.args.rounds.now c.note_vote.new.rounds c.args.places.now c.args.coin.now r
    c.note_vote.ensures.slots c.note_vote.ensures.ballots c.note_vote.ensures.rounds
    ∙ ap (λ (v : Vote). if_new (vote_answer s m.n m.own j k r v h) (vote_noted s m.n m.own j k r v h) h) same
    ∙ ap (λ (x : Message Part). if_new (message_answer s m.n m.own j h (on_sheet part_placed x)) (message_noted s m.n m.own j (on_sheet part_placed x) h) h) (sym c.in-Bit.is)
