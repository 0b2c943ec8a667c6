-- After the steps of its sheets: proposing, or its votes.
use Rattle.std.proofs.Common.{◌<◌, length, sym, ap, ◌∙◌, arith}
use Rattle.outcomes.specs.Holdings.{Setting, Holding}
use Rattle.outcomes.specs.Tables.{holding, setting}
use Rattle.outcomes.specs.Taking.{taken_below}
use Rattle.outcomes.proofs.SlotOrder.{slot_order}
use Rattle.settling.proofs.Parts.{sheets_by, votes_by}
use Rattle.settling.proofs.Proposals.{proposed_by}
use Rattle.settling.proofs.Slots.{proposing_by, voting_by}
use Rattle.settling.proofs.turns.take_steps.Goals as goal

pub returns-then-may_propose-clause-taken : goal.returns-then-may_propose-clause-taken
returns-then-may_propose-clause-taken g c l =
    let m = c.args.member in
    let k = c.args.slot in
    let f = g.R.Rule.meaning in
    let s : Setting _ _ = setting g.S.Sheet.rows g.S.Sheet.LEN g.S.Sheet.KIND g.S.Sheet.lawful g.R.Rule.acts g.C.Coin.acts in
    let rs = c.settle_sheets.new.records in
    let ps = c.settle_sheets.new.places in
    let ms = c.args.rounds.now in
    let h : Holding _ _ = holding f l c.args.records.now ms c.args.places.now c.args.coin.now in
    let t : Holding _ _ = holding f l rs ms ps c.args.coin.now in
    c.settle_all.ensures l
    ∙ ap (taken_below s m.n m.own m.n) (proposed_by s m.n m.own f l rs c.propose_all.new.records ms ps c.args.coin.now c.propose_all.ensures.slots c.propose_all.ensures.ballots)
    ∙ proposing_by s m.n m.own k h t (sheets_by f s m.n m.own l k c.args.records.now rs ms c.args.places.now ps c.args.coin.now c.settle_sheets.ensures.slots c.settle_sheets.ensures.ballots)
    (sym c.if-may_propose.ensures)

pub returns-else-may_propose-clause-taken : goal.returns-else-may_propose-clause-taken
returns-else-may_propose-clause-taken g c l =
    let m = c.args.member in
    let k = c.args.slot in
    let f = g.R.Rule.meaning in
    let s : Setting _ _ = setting g.S.Sheet.rows g.S.Sheet.LEN g.S.Sheet.KIND g.S.Sheet.lawful g.R.Rule.acts g.C.Coin.acts in
    let rs = c.settle_sheets.new.records in
    let ps = c.settle_sheets.new.places in
    let ms = c.args.rounds.now in
    let h : Holding _ _ = holding f l c.args.records.now ms c.args.places.now c.args.coin.now in
    let t : Holding _ _ = holding f l rs ms ps c.args.coin.now in
    let within : k < length rs = omega (arith, c.requires.slot, c.requires.records, c.settle_sheets.auto.records) in
    votes_by f s m.n m.own l k c.from.result rs c.settle_votes.new.row _ ms c.settle_votes.new.rounds ps c.args.coin.now c.settle_votes.new.coin
    c.from.ensures within c.settle_votes.ensures.slot c.settle_votes.ensures.votes
    ∙ voting_by s m.n m.own k h t (sheets_by f s m.n m.own l k c.args.records.now rs ms c.args.places.now ps c.args.coin.now c.settle_sheets.ensures.slots c.settle_sheets.ensures.ballots)
    (sym c.if-may_propose.ensures)

pub returns-then-may_propose-clause-order : goal.returns-then-may_propose-clause-order
returns-then-may_propose-clause-order g c =
    let m = g.S.Sheet in
    let l = g.met.S.Sheet in
    slot_order (setting m.rows m.LEN m.KIND m.lawful g.R.Rule.acts g.C.Coin.acts) (record { short = l.short; sized = l.sized; restored = l.restored; kept = l.kept }) g.met.C.Coin.keeps

pub returns-else-may_propose-clause-order : goal.returns-else-may_propose-clause-order
returns-else-may_propose-clause-order g c =
    let m = g.S.Sheet in
    let l = g.met.S.Sheet in
    slot_order (setting m.rows m.LEN m.KIND m.lawful g.R.Rule.acts g.C.Coin.acts) (record { short = l.short; sized = l.sized; restored = l.restored; kept = l.kept }) g.met.C.Coin.keeps
