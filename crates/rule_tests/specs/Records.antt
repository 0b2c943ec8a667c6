-- The record of a one-shot round: a mask for each tag and set, in one row. Assumes nothing.
use Rattle.std.specs.Prelude.{ℕ, ◌+◌, ◌-◌, ◌*◌, Bool, cond, ◌&&◌, Some, None, Option, nat_le, slice_index_or}
use Rattle.basis.specs.Counts.{has}
use Rattle.rules.specs.Rounds.{Round, bit_if_any, set_if_any}
use Rattle.rule_tests.specs.declared.one_shot.OneShotRound.{OneShotRound}

-- tags from 0x20 to 0x2F, and sets that are not empty
abbrev pub inside : ℕ → ℕ → Bool
inside t v = (nat_le 32 t && nat_le t 47) && (nat_le 1 v && nat_le v 3)

-- where the mask of a tag and a set stands
abbrev pub place : ℕ → ℕ → ℕ
place t v = (t - 32) * 3 + (v - 1)

abbrev pub place_if_any : ℕ → ℕ → Option ℕ
place_if_any t v = cond (inside t v) (Some (place t v)) None

-- who cast this set under this tag
abbrev pub cast_of : OneShotRound → ℕ → ℕ → ℕ
cast_of r t v = cond (inside t v) (slice_index_or r.masks (place t v) 0) 0

abbrev pub meaning_of : OneShotRound → Round
meaning_of r = record { entered = bit_if_any r.entered; votes = λ t v j. has (cast_of r t v) j; verdict = set_if_any r.verdict }
