-- One pass over the steps takes all that apply.
use Rattle.std.proofs.Common.{◌≡◌, Bool, true, false, sym, ap, ◌∙◌, rules}
use Rattle.basis.specs.Steps.{taking}
use Rattle.basis.proofs.Stepping.{passed}
use Rattle.phases.specs.Records.{meaning_of}
use Rattle.phases.specs.Steps.{join, second, third, conclude, steps_of}
use Rattle.phases.specs.Turns.{either_pass}
use Rattle.phases.proofs.Ending.{either_ends}
use denote.Param.{number}
use Rattle.phases.specs.contracts.phased.take_phases.{THIRD-type}
use Rattle.phases.proofs.phased.take_phases.Goals as goal

pub returns-then-this-ne0 : goal.returns-then-this-ne0
returns-then-this-ne0 g c =
    let n = c.args.member.n in
    let own = c.args.member.own in
    let m = meaning_of c.args.round.now in
    let set : THIRD-type (number g.row.THIRD) ≡ true = search rules in
    let done : meaning_of c.take_verdict_in.new.self ≡ passed (steps_of true n own) m = c.take_verdict_in.ensures ∙ ap (taking (conclude n own 34)) (c.vote_third.ensures ∙ ap (taking (third n own)) (c.vote_second.ensures ∙ ap (taking (second n own)) (c.join_first-2.ensures ∙ ap (taking (join n own 2)) c.join_first.ensures))) in
    let p = either_pass n own _ m _ (done ∙ ap (λ (b : Bool). passed (steps_of b n own) m) (sym set)) in
    record { left = p.0; none = p.1; ends = either_ends _ }

pub returns-else-this-ne0 : goal.returns-else-this-ne0
returns-else-this-ne0 g c =
    let n = c.args.member.n in
    let own = c.args.member.own in
    let m = meaning_of c.args.round.now in
    let set : THIRD-type (number g.row.THIRD) ≡ false = search rules in
    let done : meaning_of c.take_verdict_in-else-this-ne0.new.self ≡ passed (steps_of false n own) m = c.take_verdict_in-else-this-ne0.ensures ∙ ap (taking (conclude n own 33)) (c.vote_second.ensures ∙ ap (taking (second n own)) (c.join_first-2.ensures ∙ ap (taking (join n own 2)) c.join_first.ensures)) in
    let p = either_pass n own _ m _ (done ∙ ap (λ (b : Bool). passed (steps_of b n own) m) (sym set)) in
    record { left = p.0; none = p.1; ends = either_ends _ }
