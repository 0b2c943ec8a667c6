-- Behind all sheet messages there is none.
use Rattle.std.proofs.Common.{sym}
use Rattle.basis.proofs.Thirds.{at_most_16}
use Rattle.saying.proofs.PassedOver.{no_sheet}
use Rattle.saying.proofs.view.SayingView.first_sheet.Goals as goal

pub returns-then-from-ge-AFTER_SHEETS : goal.returns-then-from-ge-AFTER_SHEETS
returns-then-from-ge-AFTER_SHEETS g c =
    let s = c.args.self.now in
    sym (no_sheet g.S.Sheet.rows s.member.n s.member.own c.args.from s.places.now (at_most_16 s.member.n s.member.listed) c.if-from-ge-AFTER_SHEETS.true)
