-- A vote counts where what it names is admitted.
use Rattle.std.proofs.Common.{ℕ, Bool, ◌&&◌, ◌||◌, ap, ◌∙◌, ap₂}
use lib.Bits.{bit_or}
use Rattle.basis.specs.Counts.{has}
use Rattle.phases.specs.declared.votes.Votes.{Votes}
use Rattle.phases.specs.Phases.{tag_of}
use Rattle.phases.specs.Records.{for_set, under}
use Rattle.phases.proofs.Masks.{chosen}
use Rattle.phases.proofs.round.PhasedRound.count_in.Goals as goal

-- votes for the set x where a is set, and for both where both flags are
part : ℕ → ℕ → Bool → Bool → Bool → Votes → Bool
part x j f a b vs = (has (for_set vs x) j && f) || (has (for_set vs 3) j && (a && b))

pub returns : goal.returns
unfolding part
returns c =
    let vs = c.votes_in-cast.result in
    let now = under c.args.self.now (tag_of c.args.phase) in
    let a = c.admits-zero.result in
    let b = c.admits-one.result in
    record {
      zero = λ j. ap₂ (λ (p q : ℕ). has (bit_or p q) j) c.where_set.ensures c.where_set-both.ensures ∙ chosen a (a && b) vs.zero vs.both j
          ∙ ap (λ (x : Votes). part 1 j a a b x) c.votes_in-cast.ensures ∙ ap₂ (λ (p q : Bool). part 1 j p p q now) c.admits-zero.ensures c.admits-one.ensures;
      one = λ j. ap₂ (λ (p q : ℕ). has (bit_or p q) j) c.where_set-2.ensures c.where_set-both.ensures ∙ chosen b (a && b) vs.one vs.both j
          ∙ ap (λ (x : Votes). part 2 j b a b x) c.votes_in-cast.ensures ∙ ap₂ (λ (p q : Bool). part 2 j q p q now) c.admits-zero.ensures c.admits-one.ensures;
    }
