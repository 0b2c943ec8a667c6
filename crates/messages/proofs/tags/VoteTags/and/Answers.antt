-- One bit more is one tag more.
use Rattle.std.proofs.Common.{◌-◌, ◌&&◌, ◌||◌, eqb, ap, ◌∙◌, arith, rules}
use Rattle.basis.specs.Counts.{has}
use Rattle.messages.specs.Tags.{is_set_tag}
use Rattle.messages.proofs.OfTags.{one_more}
use Rattle.messages.proofs.tags.VoteTags.and.Goals as goal

pub returns-in-34-to-47 : goal.returns-in-34-to-47
returns-in-34-to-47 c = record {
  value = search rules;
  names = λ t. ap (λ m. (eqb t 32 || eqb t 33) || (is_set_tag t && has m (t - 32))) c.with.ensures ∙ one_more c.args.self.mask c.args.tag t (omega arith);
}
