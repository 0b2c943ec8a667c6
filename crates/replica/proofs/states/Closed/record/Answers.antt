-- The claims on evenings, from the laws of the kind of sheet, the rule and the coin.
use Rattle.claims.proofs.Filling.{evenings_agree, evenings_fill}
use Rattle.claims.proofs.Resting.{rest_if_rounds_end}
use Rattle.claims.proofs.Sayable.{two_sayable, three_sayable}
use Rattle.evening_witness.proofs.OfWitness.{some_evening_closes}
use Rattle.outcomes.specs.Tables.{setting}
use Rattle.phases.proofs.Ending.{two_ends, three_ends}
use Rattle.phases.specs.Keeping.{two_keeps, three_keeps}
use Rattle.phases.specs.Records.{meaning_of}
use Rattle.phases.specs.Steps.{two_phase, three_phase}
use Rattle.replica.proofs.states.Closed.record.Goals as goal

pub returns-clause-agree : goal.returns-clause-agree
returns-clause-agree g c =
    let m = g.S.Sheet in
    let l = g.met.S.Sheet in
    evenings_agree (setting m.rows m.LEN m.KIND m.lawful g.R.Rule.acts g.C.Coin.acts) g.R.Rule.meaning
    (record { rows = record { short = l.short; sized = l.sized; restored = l.restored; kept = l.kept }; rule = g.met.R.Rule.keeps; coins = g.met.C.Coin.keeps })

pub returns-clause-fill : goal.returns-clause-fill
returns-clause-fill g c =
    let m = g.S.Sheet in
    let l = g.met.S.Sheet in
    evenings_fill (setting m.rows m.LEN m.KIND m.lawful g.R.Rule.acts g.C.Coin.acts) g.R.Rule.meaning
    (record { rows = record { short = l.short; sized = l.sized; restored = l.restored; kept = l.kept }; rule = g.met.R.Rule.keeps; coins = g.met.C.Coin.keeps })

pub returns-clause-rest : goal.returns-clause-rest
returns-clause-rest g c =
    let m = g.S.Sheet in
    let l = g.met.S.Sheet in
    rest_if_rounds_end (setting m.rows m.LEN m.KIND m.lawful g.R.Rule.acts g.C.Coin.acts) g.R.Rule.meaning
    (record { rows = record { short = l.short; sized = l.sized; restored = l.restored; kept = l.kept }; rule = g.met.R.Rule.keeps; coins = g.met.C.Coin.keeps })

pub returns-clause-two : goal.returns-clause-two
returns-clause-two g c =
    let m = g.S.Sheet in
    let l = g.met.S.Sheet in
    rest_if_rounds_end (setting m.rows m.LEN m.KIND m.lawful two_phase g.C.Coin.acts) meaning_of
    (record { rows = record { short = l.short; sized = l.sized; restored = l.restored; kept = l.kept }; rule = two_keeps; coins = g.met.C.Coin.keeps }) two_ends two_sayable

pub returns-clause-three : goal.returns-clause-three
returns-clause-three g c =
    let m = g.S.Sheet in
    let l = g.met.S.Sheet in
    rest_if_rounds_end (setting m.rows m.LEN m.KIND m.lawful three_phase g.C.Coin.acts) meaning_of
    (record { rows = record { short = l.short; sized = l.sized; restored = l.restored; kept = l.kept }; rule = three_keeps; coins = g.met.C.Coin.keeps }) three_ends three_sayable

pub returns-clause-witness : goal.returns-clause-witness
returns-clause-witness g c = some_evening_closes
