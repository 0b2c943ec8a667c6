-- Two quorums of 3f + 1 share f + 1, and k hold at least k honest ones less the faulty ones.
use Rattle.std.proofs.Common.{rules}
use Rattle.basis.proofs.Counts.{quorums_meet, honest_part}
use Rattle.basis.proofs.replicas.is_quorum.Goals as goal

pub returns : goal.returns
returns c = record { value = search rules; meet = quorums_meet; honest = honest_part }
