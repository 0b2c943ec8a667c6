-- What a record of the two supplied rules means. Assumes nothing.
use Rattle.std.specs.Prelude.{ℕ, ◌^◌, cond, None, ◌==◌, bit_or}
use Rattle.basis.specs.Counts.{has}
use Rattle.rules.specs.Rounds.{Round, bit_if_any, set_if_any}
use Rattle.phases.specs.declared.votes.Votes.{Votes}
use Rattle.phases.specs.declared.round.PhasedRound.{PhasedRound}

abbrev pub no_votes : Votes
no_votes = record { zero = 0; one = 0; both = 0 }

-- who voted for exactly this set of bits
abbrev pub for_set : Votes → ℕ → ℕ
for_set vs v = cond (v == 1) vs.zero (cond (v == 2) vs.one (cond (v == 3) vs.both 0))

abbrev pub with_vote : Votes → ℕ → ℕ → Votes
with_vote vs v j = record {
  zero = cond (v == 1) (bit_or vs.zero (2 ^ j)) vs.zero;
  one = cond (v == 2) (bit_or vs.one (2 ^ j)) vs.one;
  both = cond (v == 3) (bit_or vs.both (2 ^ j)) vs.both;
}

-- the votes under a tag: first, second and third votes
abbrev pub under : PhasedRound → ℕ → Votes
under r t = cond (t == 32) r.first (cond (t == 33) r.second (cond (t == 34) r.third no_votes))

abbrev pub meaning_of : PhasedRound → Round
meaning_of r = record { entered = bit_if_any r.entered; votes = λ t v j. has (for_set (under r t) v) j; verdict = set_if_any r.verdict }

abbrev pub empty_round : PhasedRound
empty_round = record { entered = None; first = no_votes; second = no_votes; third = no_votes; verdict = None }
