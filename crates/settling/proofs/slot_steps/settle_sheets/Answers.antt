-- The slot's record is put back beside its ballot.
use Rattle.std.proofs.Common.{◌<◌, length, refl, arith}
use Rattle.settling.proofs.Parts.{settled_by, ballots_kept}
use Rattle.settling.proofs.slot_steps.settle_sheets.Goals as goal

pub returns-clause-slots : goal.returns-clause-slots
returns-clause-slots g c =
    let m = c.args.member in
    let within : c.args.slot < length c.args.records.now = omega (arith, c.requires.slot, c.requires.records) in
    settled_by g.S.Sheet.rows m.n m.own c.args.slot c.from.result c.args.records.now _ _ c.args.places.now c.settle_slot.new.places c.from.ensures within c.settle_slot.ensures

pub returns-clause-ballots : goal.returns-clause-ballots
returns-clause-ballots g c = ballots_kept c.args.records.now c.from.result _ _ refl
