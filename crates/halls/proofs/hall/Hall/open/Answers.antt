-- An evening begins.
use Rattle.std.proofs.Common.{Err, Result, sym, ap, ◌∙◌}
use Rattle.std.proofs.lemmas.Result.{err_from_is_err_and}
use Rattle.halls.specs.Faults.{fault_told}
use Rattle.halls.specs.Halls.{scene_told}
use Rattle.halls.specs.Scenes.{shown}
use Rattle.halls.specs.declared.hall.Hall.{Hall}
use Rattle.halls.specs.declared.till.Fault.{Fault}
use Rattle.halls.proofs.Asking.{opened_or, ran_out}
use Rattle.halls.proofs.Beginning.{begun}
use Rattle.halls.proofs.hall.Hall.open.Goals as goal

pub invariant_of-result-clause-counted : goal.invariant_of-result-clause-counted
invariant_of-result-clause-counted c = c.in_ok-tills.ensures.opened.counted

pub invariant_of-result-clause-seated : goal.invariant_of-result-clause-seated
invariant_of-result-clause-seated c = c.in_ok-tills.ensures.opened.seated

pub invariant_of-result-clause-played : goal.invariant_of-result-clause-played
invariant_of-result-clause-played c = ∣ begun c.args.rule c.args.n _ c.in_ok-tills.tills.items c.in_ok-tills.ensures.opened ∣₁

pub returns-in_err-tills : goal.returns-in_err-tills
returns-in_err-tills c =
    let p = err_from_is_err_and c.from_residual.result c.from_residual.ensures.1 in
    ran_out c.args.rule c.args.n c.args.coin (sym c.is_listed.ensures.value ∙ c.if-not-is_listed.false) _
    (ap (λ (r : Result Hall Fault). scene_told (fault_told r)) (p.1 ∙ ap Err (p.2 ∙ c.in_err-tills.ensures.fails)))

pub returns : goal.returns
returns c = opened_or c.args.rule c.args.n c.args.coin (sym c.is_listed.ensures.value ∙ c.if-not-is_listed.false) (shown c.in_ok-tills.tills.items) c.in_ok-tills.ensures.opened.shows
