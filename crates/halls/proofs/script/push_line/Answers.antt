-- A line that is played adds what it prints.
use Rattle.std.proofs.Common.{Global, List, ℕ, ◌++◌, ap, ◌∙◌, string_bytes}
use Rattle.halls.proofs.Whole.{printed_is, fault_added}
use Rattle.halls.proofs.script.push_line.Goals as goal

pub returns-in_ok-push_str-in-Ok-clause-added : goal.returns-in_ok-push_str-in-Ok-clause-added
returns-in_ok-push_str-in-Ok-clause-added c =
    let p = printed_is c.in-Ok.printed c.args.number _ c.in-Ok.ensures.answer in
    record {
      text = c.in_ok-push_str-in-Ok.ensures.bytes ∙ ap (λ (x : List ℕ). string_bytes c.args.out.now ++ x) (c.as_str.ensures.value ∙ p.0);
      goes_on = p.1;
      hall = c.in-Ok.ensures.left;
    }

pub returns-in_ok-push_str-in-Err-Fault-clause-added : goal.returns-in_ok-push_str-in-Err-Fault-clause-added
returns-in_ok-push_str-in-Err-Fault-clause-added c =
    fault_added Global c.in-Err-Fault.field-0 c.args.number c.args.line.now _ _ _ _ c.in-Err-Fault.field-0-is c.in-Err-Fault.ensures.answer c.in-Err-Fault.ensures.left
    (c.in_ok-push_str-in-Err-Fault.ensures.bytes ∙ ap (λ (x : List ℕ). string_bytes c.args.out.now ++ x) (c.as_str-in-Err-Fault.ensures.value ∙ c.in_ok-fault-in-Err-Fault.ensures.ok))
