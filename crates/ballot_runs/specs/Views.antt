-- A ballot as the claims see it, at one replica, and by what its rounds go on. Assumes nothing.
use Rattle.std.specs.Prelude.{◌≡◌, ℕ, zero, suc, Bool, false, cond, ◌⊎◌, ◌==◌, ◌≢◌}
use Rattle.messages.specs.Tags.{basic_tags}
use Rattle.rules.specs.Rounds.{Round, cleared, bit_set}
use Rattle.rules.specs.Laws.{Acts}
use Rattle.phases.specs.Steps.{hears}
use Rattle.openings.specs.Openings.{proposed, opening_settled}

-- A set of bits is a number: 1 is {0}, 2 is {1}, 3 is both, 0 is the empty set.
pub record View : Type 0 where
  -- round 0 is the opening round
  pub rounds : ℕ → Round
  -- the set of the bit that the coin shows of a round from 1 on, empty where it shows none
  pub shown : ℕ → ℕ
  -- the set of the decided bit, empty before
  pub decided : ℕ
  -- whether the slot's sheet is delivered
  pub delivered : Bool

-- the opening round, as a rule: entering it is proposing
abbrev pub opening : Acts
opening = record { tags = basic_tags; final = 33; enter = λ n own x m. proposed own x m; hear = λ n own w m. hears w m; steps = λ n own m. opening_settled n own m }

abbrev pub rule_at : Acts → ℕ → Acts
rule_at a zero = opening
rule_at a (suc r) = a

-- the set of the bit by which a round is gone on from: the opening round goes on as if a coin showed 1
abbrev pub face : View → ℕ → ℕ
face v zero = 2
face v (suc r) = v.shown (suc r)

-- round r goes on with the bit of x: the one bit of its verdict, or the coin's where the verdict is both
abbrev pub GoesOn : View → ℕ → ℕ → Type 0
GoesOn v r x = ((v.rounds r).verdict ≡ x) ⊎ (((v.rounds r).verdict ≡ 3) × (face v r ≡ x))

-- the places where nothing but place i has changed
abbrev pub OnlyAt : {X : Type 0} → ℕ → (ℕ → X) → (ℕ → X) → Type 0
OnlyAt i g g' = (j : ℕ) → (j ≢ i) → g' j ≡ g j

abbrev pub with_round : View → ℕ → Round → View
with_round v r m = record { rounds = λ q. cond (q == r) m (v.rounds q); shown = v.shown; decided = v.decided; delivered = v.delivered }

-- proposed: 1 where the slot is delivered, else 0
abbrev pub proposal : ℕ → View → View
proposal own v = with_round v 0 (proposed own (bit_set v.delivered) (v.rounds 0))

-- a ballot before anything is said, decided or delivered; a coin may show bits from the start
pub record Fresh (v : View) : Type 0 where
  pub rounds : (r : ℕ) → v.rounds r ≡ cleared
  pub decided : v.decided ≡ 0
  pub delivered : v.delivered ≡ false
