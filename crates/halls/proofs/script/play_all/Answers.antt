-- Line after line is printed, to the last or to the first fault.
use Rattle.std.proofs.Common.{◌++◌, Bool, List, ℕ, sym, ap, ◌∙◌, subst, string_bytes, arith}
use Rattle.text.specs.Lines.{lines}
use Rattle.halls.specs.Scripts.{Added, scene_in, printed_from}
use Rattle.halls.proofs.Whole.{goes_behind, ends_there, none_left}
use Rattle.halls.proofs.script.play_all.Goals as goal

pub returns-then-not-branch-clause-printed : goal.returns-then-not-branch-clause-printed
returns-then-not-branch-clause-printed c =
    let a : Added c.loop-line.number c.in-Some.line.now (scene_in c.loop-line.player.hall) (scene_in c.push_line.new.player.hall) (string_bytes c.loop-line.out) (string_bytes c.push_line.new.out) c.in_ok-push_line.field-0 = c.in_ok-push_line.ensures.added in
    ends_there c.loop-line.number c.in-Some.line.now (lines c.in-Some.more.now) _ _ _ _ _
    (subst (λ (b : Bool). Added c.loop-line.number c.in-Some.line.now (scene_in c.loop-line.player.hall) (scene_in c.push_line.new.player.hall) (string_bytes c.loop-line.out) (string_bytes c.push_line.new.out) b) c.if-not-branch.true a)
    (ap (λ (ls : List (List ℕ)). string_bytes c.loop-line.out ++ printed_from c.loop-line.number (scene_in c.loop-line.player.hall) ls) (sym c.in-Some.ensures.lines) ∙ c.loop-line.invariant.0)

pub loop-line-preserved : goal.loop-line-preserved
loop-line-preserved c =
    let a : Added c.loop-line.number c.in-Some.line.now (scene_in c.loop-line.player.hall) (scene_in c.push_line.new.player.hall) (string_bytes c.loop-line.out) (string_bytes c.push_line.new.out) c.in_ok-push_line.field-0 = c.in_ok-push_line.ensures.added in (
      goes_behind c.loop-line.number c.in-Some.line.now (lines c.in-Some.more.now) _ _ _ _ _
          (subst (λ (b : Bool). Added c.loop-line.number c.in-Some.line.now (scene_in c.loop-line.player.hall) (scene_in c.push_line.new.player.hall) (string_bytes c.loop-line.out) (string_bytes c.push_line.new.out) b) c.if-not-branch.false a)
          (ap (λ (ls : List (List ℕ)). string_bytes c.loop-line.out ++ printed_from c.loop-line.number (scene_in c.loop-line.player.hall) ls) (sym c.in-Some.ensures.lines) ∙ c.loop-line.invariant.0),
      (let i = c.loop-line.invariant.1 in let s = c.in-Some.ensures.shorter in omega (arith, i, s)),
    )

pub returns-clause-printed : goal.returns-clause-printed
returns-clause-printed c =
    let l = c.in_default.ensures.lines in
    none_left c.loop-line.number (scene_in c.loop-line.player.hall) _ _
    (ap (λ (ls : List (List ℕ)). string_bytes c.loop-line.out ++ printed_from c.loop-line.number (scene_in c.loop-line.player.hall) ls) (sym l) ∙ c.loop-line.invariant.0)
