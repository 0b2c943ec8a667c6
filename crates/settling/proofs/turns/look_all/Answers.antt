-- One slot more.
use Rattle.std.proofs.Common.{◌≡◌, ap, ◌∙◌, arith}
use Rattle.outcomes.specs.Holdings.{Setting}
use Rattle.outcomes.specs.Tables.{holding, setting}
use Rattle.outcomes.specs.Taking.{slot_taken, looked}
use Rattle.settling.proofs.Slots.{looked_none, looked_more}
use Rattle.settling.proofs.turns.look_all.Goals as goal

pub loop-slot-init : goal.loop-slot-init
loop-slot-init g c l =
    let m = c.args.member in
    let s : Setting _ _ = setting g.S.Sheet.rows g.S.Sheet.LEN g.S.Sheet.KIND g.S.Sheet.lawful g.R.Rule.acts g.C.Coin.acts in
    looked_none s m.n m.own (holding g.R.Rule.meaning l c.args.records.now c.args.rounds.now c.args.places.now c.args.coin.now)

pub loop-slot-preserved : goal.loop-slot-preserved
loop-slot-preserved g c l =
    let m = c.args.member in
    let i = c.loop-slot.slot in
    let s : Setting _ _ = setting g.S.Sheet.rows g.S.Sheet.LEN g.S.Sheet.KIND g.S.Sheet.lawful g.R.Rule.acts g.C.Coin.acts in
    c.take_steps.ensures.taken l ∙ ap (slot_taken s m.n m.own i) (c.loop-slot.invariant l)
    ∙ looked_more s m.n m.own i (holding g.R.Rule.meaning l c.args.records.now c.args.rounds.now c.args.places.now c.args.coin.now)

pub returns : goal.returns
returns g c l =
    let m = c.args.member in
    let s : Setting _ _ = setting g.S.Sheet.rows g.S.Sheet.LEN g.S.Sheet.KIND g.S.Sheet.lawful g.R.Rule.acts g.C.Coin.acts in
    let all : c.loop-slot.slot ≡ m.n = omega (arith, c.loop-slot-test.false, c.loop-slot.auto.slot-end) in
    c.loop-slot.invariant l ∙ ap (λ i. looked s m.n m.own i (holding g.R.Rule.meaning l c.args.records.now c.args.rounds.now c.args.places.now c.args.coin.now)) all
