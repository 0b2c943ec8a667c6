-- The first vote, and for 1 the second.
use Rattle.std.proofs.Common.{ℕ, Bool, eqb, sym, ap, ◌∙◌}
use Rattle.std.proofs.lemmas.Bool.{cond-true}
use Rattle.rules.specs.Rounds.{bit_set}
use Rattle.phases.specs.Records.{meaning_of}
use Rattle.phases.specs.Steps.{says, begun}
use Rattle.openings.specs.Openings.{once_second}
use Rattle.openings.proofs.proposing.propose.Goals as goal

pub returns-then-bit : goal.returns-then-bit
returns-then-bit c =
    let own = c.args.member.own in
    let x = bit_set c.args.bit in
    let m = meaning_of c.args.round.now in
    c.vote_for_one.ensures ∙ ap (once_second own 2) (c.record_in.ensures ∙ ap (λ (v : ℕ). says 32 v own (begun x m)) c.from.ensures)
    ∙ sym (cond-true (eqb x 2) _ _ (ap (λ (b : Bool). eqb (bit_set b) 2) c.if-bit.true))
