-- What the one till has written for the other is what it has said, and the other hears it.
use Rattle.std.proofs.Common.{Ok, ap, sym, ◌∙◌, subst, Bool}
use Rattle.halls.specs.Plays.{HearsNew, one_if}
use Rattle.halls.specs.Sweeps.{is_new}
use Rattle.halls.proofs.Playing.{hears_none}
use Rattle.halls.proofs.Passing.{failed_answer, failed_left, passed_answer, passed_shown, passed_low, passed_said}
use Rattle.halls.proofs.calls.pass_at.Goals as goal

pub returns-in_default-clause-hears_new : goal.returns-in_default-clause-hears_new
returns-in_default-clause-hears_new c = hears_none c.args.rule c.args.n c.args.tills.now.items

pub returns-in_default-2-clause-answer : goal.returns-in_default-2-clause-answer
returns-in_default-2-clause-answer c = failed_answer c.args.rule c.args.n c.args.tills.now.items c.from.result c.args.from c.from.ensures c.index.result.now c.requires.from_low c.requires.counted c.requires.seated c.index.ensures c.args.to c.args.position c.say.result c.say.new.out c.say.ensures.answer c.say.ensures.output c.in_default.field-0 c.in_default.is

pub returns-in_default-2-clause-left : goal.returns-in_default-2-clause-left
returns-in_default-2-clause-left c = failed_left c.args.rule c.args.n c.args.tills.now.items c.from.result c.args.from c.from.ensures c.index.result.now c.requires.from_low c.requires.counted c.requires.seated c.index.ensures c.args.to c.args.position c.say.result c.say.new.out c.say.ensures.answer c.say.ensures.output c.in_default.field-0 c.in_default.is

pub returns-in_default-2-clause-hears_new : goal.returns-in_default-2-clause-hears_new
returns-in_default-2-clause-hears_new c = hears_none c.args.rule c.args.n c.args.tills.now.items

pub hear_at-heard-requires-clause-said : goal.hear_at-heard-requires-clause-said
hear_at-heard-requires-clause-said c d low = let b = c.in-Ok-Some.field-0-is in let e = c.in-Ok-Some.position-is in passed_said c.args.rule c.args.n c.args.tills.now.items c.from.result c.args.from c.from.ensures c.index.result.now c.requires.from_low c.requires.counted c.requires.seated c.index.ensures c.args.to c.args.position c.say.result c.say.new.out c.say.ensures.answer c.say.ensures.output c.in-Ok-Some.position (c.in-Ok-Some.is ∙ ap Ok c.in-Ok-Some.field-0-is) c.message_in.result.now c.message_in.ensures c.requires.small d

pub returns-clause-answer : goal.returns-clause-answer
returns-clause-answer c = passed_answer c.args.rule c.args.n c.args.tills.now.items c.from.result c.args.from c.from.ensures c.index.result.now c.requires.from_low c.requires.counted c.requires.seated c.index.ensures c.args.to c.args.position c.say.result c.say.new.out c.say.ensures.answer c.say.ensures.output c.in-Ok-Some.position (c.in-Ok-Some.is ∙ ap Ok c.in-Ok-Some.field-0-is) c.message_in.result.now c.message_in.ensures c.is_news.result (c.is_news.ensures ∙ ap is_new c.hear_at-heard.ensures.answer)

pub returns-clause-left : goal.returns-clause-left
returns-clause-left c = passed_shown c.args.rule c.args.n c.args.tills.now.items c.from.result c.args.from c.from.ensures c.index.result.now c.requires.from_low c.requires.counted c.requires.seated c.index.ensures c.args.to c.args.position c.say.result c.say.new.out c.say.ensures.answer c.say.ensures.output c.in-Ok-Some.position (c.in-Ok-Some.is ∙ ap Ok c.in-Ok-Some.field-0-is) c.message_in.result.now c.message_in.ensures _ c.hear_at-heard.ensures.left

pub returns-clause-inside : goal.returns-clause-inside
returns-clause-inside c = passed_low c.args.rule c.args.n c.args.tills.now.items c.from.result c.args.from c.from.ensures c.index.result.now c.requires.from_low c.requires.counted c.requires.seated c.index.ensures c.args.to c.args.position c.say.result c.say.new.out c.say.ensures.answer c.say.ensures.output c.in-Ok-Some.position (c.in-Ok-Some.is ∙ ap Ok c.in-Ok-Some.field-0-is) c.message_in.result.now c.message_in.ensures c.requires.small

pub returns-clause-hears_new : goal.returns-clause-hears_new
returns-clause-hears_new c = subst (λ (b : Bool). HearsNew c.args.rule c.args.n (one_if b) c.args.tills.now.items c.hear_at-heard.new.tills.items) (sym c.is_news.ensures) c.hear_at-heard.ensures.hears_new
