-- So far the ballots below are proposed in.
use Rattle.std.proofs.Common.{◌≡◌}
use Rattle.outcomes.specs.Tables.{slots_in, ballots_in}
use Rattle.settling.specs.Proposing.{proposed_ballots}
use Rattle.settling.proofs.proposing.propose_all.Given as goal

abbrev pub invariant-loop-slot : goal.invariant-loop-slot
invariant-loop-slot l =
    (slots_in l.records ≡ slots_in l.initial.records)
    × (ballots_in l.records ≡ proposed_ballots l.member.n l.member.own l.slot (slots_in l.initial.records) (ballots_in l.initial.records))
