-- By the law of its length.
use Rattle.std.proofs.Common.{◌*◌, ◌+◌, sym, ap₂, ◌∙◌}
use Rattle.outcomes.specs.Tables.{viewed}
use Rattle.closing.proofs.Fields.{record_length}
use Rattle.closing.proofs.view.ClosingView.record_len.Goals as goal

pub returns : goal.returns
returns g c =
    let m = g.S.Sheet in
    let met = g.met.S.Sheet in
    let s = c.args.self.now in
    ap₂ (λ x y. 7 + x * y) c.field_len.ensures c.count_listed.ensures.value
    ∙ sym (record_length m.rows m.LEN (λ r t e. met.sized t (met.kept r t e).0) s.member.n m.KIND (viewed s.records.now s.rounds s.places.now))
