-- What is printed of a close.
use Rattle.std.proofs.Common.{ℕ, Err, replicate, sym, ◌∙◌, ap}
use Rattle.std.proofs.lemmas.List.{length-replicate, length-map}
use Rattle.basis.proofs.Thirds.{at_most_16}
use Rattle.basis.specs.Refusals.{number_of}
use Rattle.basis.specs.declared.refusal.Refusal.{Refusal}
use Rattle.halls.specs.Faults.{problem_of}
use Rattle.halls.specs.Halls.{scene_of}
use Rattle.halls.specs.Prints.{refused_text}
use Rattle.halls.specs.declared.till.Fault.{Fault}
use Rattle.halls.specs.Tills.{held_by}
use Rattle.halls.proofs.Closed.{plays_closed, plays_refused}
use Rattle.halls.proofs.player.close.Goals as goal

pub returns-in_ok-closing_lines-in-Ok-clause-answer : goal.returns-in_ok-closing_lines-in-Ok-clause-answer
returns-in_ok-closing_lines-in-Ok-clause-answer c =
    let h = c.args.hall.now in
    plays_closed (scene_of h) c.args.till (replicate 263 0) (length-map h.tills.items held_by ∙ h.counted) (at_most_16 h.n h.listed) (length-replicate {A = ℕ} 263 0) c.in_ok-closing_lines-in-Ok.field-0 c.in-Ok.len c.close.new.out c.in-Ok.ensures.answer c.in-Ok.ensures.output c.in_ok-closing_lines-in-Ok.ensures.lines

pub returns-in_ok-refused_line-in-Err-Refused-clause-answer : goal.returns-in_ok-refused_line-in-Err-Refused-clause-answer
returns-in_ok-refused_line-in-Err-Refused-clause-answer c =
    let h = c.args.hall.now in
    plays_refused (scene_of h) c.args.till (replicate 263 0) (length-map h.tills.items held_by ∙ h.counted) (at_most_16 h.n h.listed) (length-replicate {A = ℕ} 263 0) c.in_ok-refused_line-in-Err-Refused.field-0 (record { number = number_of c.in-Err-Refused.refusal.reason; place = c.in-Err-Refused.refusal.place })
    (sym (ap (λ (f : Fault). Err (problem_of f)) c.in-Err-Refused.field-0-is) ∙ c.in-Err-Refused.ensures.answer)
    (c.in_ok-refused_line-in-Err-Refused.ensures ∙ ap (λ (r : Refusal). refused_text c.args.till (number_of r.reason) r.place) c.in-Err-Refused.refusal-is)
