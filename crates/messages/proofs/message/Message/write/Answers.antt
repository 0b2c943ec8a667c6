-- Tag, length and slot, and then the sheet.
use Rattle.std.proofs.Common.{◌≡◌, get_or, length, sym, ap, ◌∙◌, rules}
use Rattle.messages.specs.Writing.{on_sheet, written, tag_of, slot_of, write_output}
use Rattle.messages.proofs.Fit.{sheet_written}
use Rattle.messages.proofs.message.Message.write.Goals as goal

pub returns-in-Sheet : goal.returns-in-Sheet
returns-in-Sheet g c =
    let m = g.S.Sheet in
    let bs = m.bytes c.in-Sheet.sheet in
    let is = c.in-Sheet.is in
    let full : length bs ≡ m.LEN = g.met.S.Sheet.sized bs (g.met.S.Sheet.accepted c.in-Sheet.sheet) in
    record {
      answer = search rules;
      output = sheet_written c.args.out.now c.encode.new.out bs c.in-Sheet.phase c.in-Sheet.slot c.written_len-len.result c.tag.result _ _ c.slot.result
          (c.written_len-len.ensures ∙ ap (λ w. length (written (on_sheet m.bytes w))) is)
          (c.tag.ensures ∙ ap tag_of is)
          (ap (λ bs. get_or bs 0 0) c.to_be_bytes.ensures) (ap (λ bs. get_or bs 1 0) c.to_be_bytes.ensures)
          (c.slot.ensures ∙ ap slot_of is)
          c.if-out-len.false
          (let e = c.encode.ensures in simp (sym full) at e)
          ∙ ap (λ w. write_output (written (on_sheet m.bytes w)) c.args.out.now) (sym is);
    }
