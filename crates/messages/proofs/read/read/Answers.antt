-- The head, and then the body; and that both fit what is written.
use Rattle.std.proofs.Common.{Err, ap, ◌∙◌}
use Rattle.std.proofs.lemmas.Result.{err_from_is_err_and}
use Rattle.messages.specs.Reading.{syntax, plain}
use Rattle.messages.specs.Tags.{kind_shape}
use Rattle.messages.proofs.Fit.{exact, head_refused, head_passed}
use Rattle.messages.proofs.read.read.Goals as goal

pub returns-in_err-kind : goal.returns-in_err-kind
returns-in_err-kind g c =
    let m = g.S.Sheet in
    let y = syntax m.LEN m.lawful c.args.format in
    let p = err_from_is_err_and c.from_residual.result c.from_residual.ensures.1 in
    record {
      answer = ap plain (p.1 ∙ ap Err p.2) ∙ head_refused y c.args.packet.now c.in_err-kind.field-0.0 c.in_err-kind.ensures.answer;
      exact = exact y g.met.S.Sheet.sized g.met.S.Sheet.short;
    }

pub returns : goal.returns
returns g c =
    let m = g.S.Sheet in
    let y = syntax m.LEN m.lawful c.args.format in
    record {
      answer = head_passed y c.args.packet.now (kind_shape c.in_ok-kind.kind) (plain c.read_body.result) c.in_ok-kind.ensures.answer c.read_body.ensures;
      exact = exact y g.met.S.Sheet.sized g.met.S.Sheet.short;
    }
