-- One pass over the steps takes all that apply.
use Rattle.std.proofs.Common.{◌≡◌, sym, ap, ◌∙◌, subst}
use Rattle.basis.specs.Steps.{taking, Idle}
use Rattle.basis.proofs.Stepping.{passed}
use Rattle.phases.specs.Records.{meaning_of}
use Rattle.openings.specs.Openings.{join_one, admit, leave, opening_steps}
use Rattle.openings.proofs.Turning.{opening_pass, opening_idle}
use Rattle.openings.proofs.steps.take_opening_steps.Goals as goal

pub returns : goal.returns
returns c =
    let n = c.args.member.n in
    let own = c.args.member.own in
    let m = meaning_of c.args.round.now in
    let done : meaning_of c.leave_round.new.round ≡ passed (opening_steps n own) m =
    c.leave_round.ensures ∙ ap (taking (leave n own)) (c.admit_bit-2.ensures ∙ ap (taking (admit n own 2)) (c.admit_bit.ensures ∙ ap (taking (admit n own 1)) (c.join_for_one.ensures ∙ ap (taking (join_one n own)) c.join_first.ensures))) in
    record { left = done ∙ sym (opening_pass n own m); none = subst (Idle (opening_steps n own)) (sym done) (opening_idle n own m) }
