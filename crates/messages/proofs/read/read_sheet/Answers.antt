-- The kind reads the sheet exactly if its bytes are lawful.
use Rattle.std.proofs.Common.{◌≡◌, true, false, drop, sym, ap, ◌∙◌}
use Rattle.std.proofs.lemmas.List.{take_rest}
use Rattle.messages.proofs.Fit.{phase_known, unlawful_sheet, lawful_sheet}
use Rattle.messages.proofs.Lists.{read_some}
use Rattle.messages.proofs.read.read_sheet.Goals as goal

pub returns-then-is_none : goal.returns-then-is_none
returns-then-is_none g c =
    let m = g.S.Sheet in
    let xs = c.args.packet.now in
    let no-sheet : m.lawful (drop 4 xs) ≡ false = ap m.lawful (sym (take_rest xs 4)) ∙ sym (read_some m.bytes m.lawful _ c.decode.result c.decode.ensures) ∙ c.if-is_none.ensures in
    unlawful_sheet m.lawful xs _ c.at.ensures no-sheet

pub returns : goal.returns
returns g c =
    let m = g.S.Sheet in
    let xs = c.args.packet.now in
    let sheet : m.lawful (drop 4 xs) ≡ true = ap m.lawful (sym (take_rest xs 4)) ∙ sym (read_some m.bytes m.lawful _ c.decode.result c.decode.ensures) ∙ c.if-is_none.ensures in
    lawful_sheet m.lawful xs _ (phase_known c.args.phase _ c.requires.tag) sheet
