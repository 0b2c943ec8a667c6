-- The first field and the others, one after the other.
use Rattle.std.proofs.Common.{◌≤◌, ◌++◌, length, refl, ap, ap₂, ◌∙◌, arith}
use Rattle.outcomes.specs.Tables.{viewed}
use Rattle.outcomes.specs.Closing.{head_field, sheet_fields}
use Rattle.closing.specs.Telling.{over}
use Rattle.closing.proofs.Fields.{put_record}
use Rattle.closing.proofs.view.ClosingView.write.Goals as goal

pub returns-clause-output : goal.returns-clause-output
returns-clause-output g c =
    let m = g.S.Sheet in
    let s = c.args.self.now in
    let v = viewed s.records.now s.rounds s.places.now in
    let head = head_field m.rows s.member.n v m.LEN m.KIND in
    let fields = sheet_fields m.rows s.member.n v m.LEN m.KIND s.member.n in
    let long : length (head ++ fields) ≤ length c.args.out.now = omega (arith, c.record_len-len.ensures, c.if-out-len.false) in
    ap₂ (λ x y. x ++ y) c.write_head.ensures (c.write_fields.ensures ∙ ap (over fields) c.split_at_mut-head.ensures.back)
    ∙ put_record head fields c.args.out.now 7 refl long
