-- The one-shot rule: entering says a first vote and a final vote for the bit, and a verdict of one bit is taken from a
-- quorum of each. Assumes nothing.
use Rattle.std.specs.Prelude.{ℕ, Bool, cond, ◌&&◌, ◌==◌, nat_le}
use Rattle.basis.specs.Counts.{count}
use Rattle.basis.specs.Halls.{quorum}
use Rattle.messages.specs.Tags.{basic_tags, with_tag}
use Rattle.rules.specs.Rounds.{Round, Vote, is_new, adding}
use Rattle.rules.specs.Laws.{Acts}

-- the final tag, 0x2F
abbrev pub last : ℕ
last = 47

abbrev pub with_vote : ℕ → ℕ → ℕ → Round → Round
with_vote t v j m = record { entered = m.entered; votes = adding t v j m.votes; verdict = m.verdict }

abbrev pub with_bit : ℕ → Round → Round
with_bit x m = record { entered = x; votes = m.votes; verdict = m.verdict }

abbrev pub with_verdict : ℕ → Round → Round
with_verdict v m = record { entered = m.entered; votes = m.votes; verdict = v }

-- both votes for a bit are said, where no bit is set
abbrev pub started : ℕ → ℕ → Round → Round
started own x m = with_vote last x own (with_vote 32 x own (with_bit x m))

abbrev pub enters : ℕ → ℕ → Round → Round
enters own x m = cond (m.entered == 0) (started own x m) m

-- a new vote is recorded
abbrev pub hears : Vote → Round → Round
hears w m = cond (is_new w m) (with_vote w.tag w.set w.sender m) m

-- 2f + 1 first votes and 2f + 1 final votes of the set of one bit
abbrev pub settled_on : ℕ → Round → ℕ → Bool
settled_on n m x = nat_le (quorum n) (count n (m.votes 32 x)) && nat_le (quorum n) (count n (m.votes last x))

-- the verdict, where there is none: the lowest bit that is settled on
abbrev pub found_lem : ℕ → Round → ℕ
found_lem n m = cond (settled_on n m 1) 1 (cond (settled_on n m 2) 2 0)

abbrev pub concludes : ℕ → Round → Round
concludes n m = cond (m.verdict == 0) (with_verdict (found_lem n m) m) m

abbrev pub one_shot : Acts
one_shot = record {
  tags = with_tag basic_tags last;
  final = last;
  enter = λ n own x m. enters own x m;
  hear = λ n own w m. hears w m;
  steps = λ n own m. concludes n m;
}
