-- The law of its length, from the laws of a kind of sheet.
use Rattle.closing.proofs.Fields.{record_length}
use Rattle.closing.proofs.record.write_record.Goals as goal

pub returns-then-not-are_large_enough-clause-law : goal.returns-then-not-are_large_enough-clause-law
returns-then-not-are_large_enough-clause-law g c =
    let m = g.S.Sheet in
    let met = g.met.S.Sheet in
    record_length m.rows m.LEN (λ r t e. met.sized t (met.kept r t e).0)

pub returns-clause-law : goal.returns-clause-law
returns-clause-law g c =
    let m = g.S.Sheet in
    let met = g.met.S.Sheet in
    record_length m.rows m.LEN (λ r t e. met.sized t (met.kept r t e).0)
