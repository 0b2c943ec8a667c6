-- One replica more: its field is written next, or there is none.
use Rattle.std.proofs.Common.{◌≡◌, ◌≤◌, ◌+◌, ◌-◌, length, sym, refl, ap, ◌∙◌, arith, rules}
use borrow.Rule.Slice.PartMut.{put_mid}
use Rattle.outcomes.specs.Tables.{viewed}
use Rattle.outcomes.specs.Closing.{sheet_fields}
use Rattle.closing.specs.Telling.{over}
use Rattle.closing.proofs.Fields.{SizedRows, over_length, fields_same, room, put_field}
use Rattle.closing.proofs.view.ClosingView.write_fields.Goals.{in-Some, in_default}
use Rattle.closing.proofs.view.ClosingView.write_fields.Goals as goal

pub loop-replica-init : goal.loop-replica-init
unfolding sheet_fields
loop-replica-init g c = (refl, refl)

pub slice_bounds-write_field-end : goal.slice_bounds-write_field-end
slice_bounds-write_field-end g c =
    let m = g.S.Sheet in
    let met = g.met.S.Sheet in
    let s = c.args.self.now in
    let v = viewed s.records.now s.rounds s.places.now in
    let l = c.loop-replica in
    let i = l.invariant in
    let kept : SizedRows m.rows m.LEN = λ r t e. met.sized t (met.kept r t e).0 in
    let fields = sheet_fields m.rows s.member.n v m.LEN m.KIND in
    let fits = room m.rows m.LEN kept s.member.n m.KIND v l.replica (m.bytes c.in-Some.sheet) c.loop-replica-test.true c.in-Some.ensures in
    let long : length l.out ≡ length c.args.out.now = ap length i.1 ∙ over_length (fields l.replica) c.args.out.now (omega (arith, fits, c.requires)) in
    let end : l.at + c.field_len.result ≤ length l.out = omega (arith, fits, long, i.0, c.requires, c.field_len.ensures) in
    search rules

pub loop-replica-preserved : goal.loop-replica-preserved
loop-replica-preserved g c =
    let m = g.S.Sheet in
    let met = g.met.S.Sheet in
    let s = c.args.self.now in
    let v = viewed s.records.now s.rounds s.places.now in
    let l = c.loop-replica in
    let kept : SizedRows m.rows m.LEN = λ r t e. met.sized t (met.kept r t e).0 in
    let fields = sheet_fields m.rows s.member.n v m.LEN m.KIND in
    elim c.match-listed_sheet.branch [
      | in-Some w ↦
          let put = put_field m.rows m.LEN kept s.member.n m.KIND v l.replica (m.bytes w.in-Some.sheet) l.at (l.at + w.field_len.result) l.out c.args.out.now
          w.in-Some.ensures l.invariant.0 l.invariant.1 (ap (λ z. l.at + z) w.field_len.ensures) in
          (w.at-is ∙ put.0, w.out-is ∙ ap (λ f. put_mid l.at ((l.at + w.field_len.result) - l.at) l.out f) w.write_field.ensures ∙ put.1)
      | in_default w ↦
          let same = fields_same m.rows m.LEN kept s.member.n m.KIND v l.replica w.in_default.ensures in
          (w.at-is ∙ l.invariant.0 ∙ sym (ap length same), w.out-is ∙ l.invariant.1 ∙ sym (ap (λ f. over f c.args.out.now) same))
    ]
