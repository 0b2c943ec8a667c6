-- First the sheets, then the votes.
use Rattle.std.proofs.Common.{◌<◌, length, ap, ◌∙◌, arith}
use Rattle.outcomes.specs.Holdings.{Setting}
use Rattle.outcomes.specs.Tables.{setting}
use Rattle.outcomes.specs.Taking.{votes_taken}
use Rattle.settling.proofs.Parts.{sheets_by, votes_by}
use Rattle.settling.proofs.turns.settle_both.Goals as goal

pub returns : goal.returns
returns g c l =
    let m = c.args.member in
    let k = c.args.slot in
    let f = g.R.Rule.meaning in
    let s : Setting _ _ = setting g.S.Sheet.rows g.S.Sheet.LEN g.S.Sheet.KIND g.S.Sheet.lawful g.R.Rule.acts g.C.Coin.acts in
    let rs = c.settle_sheets.new.records in
    let within : k < length rs = omega (arith, c.requires.slot, c.requires.records, c.settle_sheets.auto.records) in
    votes_by f s m.n m.own l k c.from.result rs c.settle_votes.new.row _ c.args.rounds.now c.settle_votes.new.rounds c.settle_sheets.new.places c.args.coin.now c.settle_votes.new.coin
    c.from.ensures within c.settle_votes.ensures.slot c.settle_votes.ensures.votes
    ∙ ap (votes_taken s m.n m.own k) (sheets_by f s m.n m.own l k c.args.records.now rs c.args.rounds.now c.args.places.now c.settle_sheets.new.places c.args.coin.now
    c.settle_sheets.ensures.slots c.settle_sheets.ensures.ballots)
