-- One ballot more.
use Rattle.std.proofs.Common.{◌≡◌, ◌<◌, length, refl, ap, ◌∙◌, arith}
use Rattle.outcomes.specs.Tables.{slots_in, ballots_in}
use Rattle.settling.specs.Proposing.{proposed_ballots}
use Rattle.settling.proofs.Parts.{slots_kept}
use Rattle.settling.proofs.Proposals.{proposed_row}
use Rattle.settling.proofs.proposing.propose_all.Goals as goal

pub loop-slot-init : goal.loop-slot-init
unfolding proposed_ballots
loop-slot-init c = (refl, refl)

pub loop-slot-preserved : goal.loop-slot-preserved
loop-slot-preserved c =
    let m = c.args.member in
    let rs = c.loop-slot.records in
    let within : c.loop-slot.slot < length rs = omega (arith, c.loop-slot-test.true, c.loop-slot.auto.records, c.requires) in (
      slots_kept rs c.from.result _ c.propose_in.new.row c.propose_in.ensures.slot ∙ c.loop-slot.invariant.0,
      proposed_row m.n m.own c.loop-slot.slot c.from.result rs c.args.records.now _ c.propose_in.new.row c.from.ensures within c.propose_in.ensures.slot c.propose_in.ensures.ballot
          c.loop-slot.invariant.0 c.loop-slot.invariant.1,
    )

pub returns : goal.returns
returns c =
    let m = c.args.member in
    let all : c.loop-slot.slot ≡ m.n = omega (arith, c.loop-slot-test.false, c.loop-slot.auto.slot-end) in
    record {
      slots = c.loop-slot.invariant.0;
      ballots = c.loop-slot.invariant.1 ∙ ap (λ i. proposed_ballots m.n m.own i (slots_in c.args.records.now) (ballots_in c.args.records.now)) all;
    }
