-- What ballot 0 of replica 0 of four comes to by a proposal and votes for 1. Assumes nothing.
use Rattle.std.specs.Prelude.{◌≡◌, Bool, true, false, Option, None, Some, replicate, refl}
use Rattle.std.proofs.Common.{ap, ap₂, ◌∙◌, arith}
use Rattle.basis.specs.Counts.{count}
use Rattle.basis.specs.Steps.{settled}
use Rattle.rules.specs.Rounds.{Round, cleared, bit_if_any}
use Rattle.coins.specs.Coins.{Acts as Coin-acts}
use Rattle.phases.specs.declared.round.PhasedRound.{PhasedRound}
use Rattle.phases.specs.Records.{meaning_of}
use Rattle.phases.specs.Steps.{acts_of, says, begun, admitted, enough, union}
use Rattle.openings.specs.Openings.{admits, ready_to_leave, tally}
use Rattle.ballots.specs.declared.ballot.Ballot.{Ballot}
use Rattle.ballots.specs.States.{Opened, BallotState, ballot_meaning, unopened}
use Rattle.ballots.specs.Ballots.{with_opening, ballot_settled, later_settled}
use Rattle.ballots.specs.Listed.{reproposed}
use Rattle.ballots.proofs.Order.{listed_order}
use Rattle.edges.specs.declared.ballot_edges.Standing.{Standing}
use Rattle.edges.specs.Openings.{state_of, taken, proposed, heard, seen_in, seen_of, Seen}

-- nothing is proposed
abbrev pub start : {C : Type 0} → C → BallotState C
start c = record { ballot = unopened; rounds = replicate 15 cleared; coin = c }

module _ {C : Type 0} (third : Bool) (b : Coin-acts C) where
  -- the same by the lowest rounds first
  abbrev swept : Opened → BallotState C → BallotState C
  swept o s = ballot_settled (acts_of third) b 4 0 0 (reproposed 0 false (record { ballot = o; rounds = s.rounds; coin = s.coin }))

  by_sweep : (o : Opened) (s : BallotState C) → taken third b o s ≡ swept o s
  by_sweep o s = (listed_order (acts_of third) b 4 0 0 false (record { ballot = o; rounds = s.rounds; coin = s.coin })).0

-- a ballot that has not left its opening round
abbrev waiting : {C : Type 0} → Round → C → BallotState C
waiting o c = record { ballot = with_opening o unopened; rounds = replicate 15 cleared; coin = c }

-- 1 is proposed, and 0 is
abbrev one : Round
one = says 33 2 0 (says 32 2 0 (begun 2 cleared))

abbrev none : Round
none = says 32 1 0 (begun 1 cleared)

module _ {C : Type 0} (b : Coin-acts C) (c : C) where
  -- After proposing 1 no step is left; a second vote 1 of one other brings about nothing; those of two others decide 1.
  ones : (third : Bool) → (swept third b (with_opening one unopened) (start c) ≡ waiting one c)
      × (swept third b (with_opening (says 33 2 1 one) unopened) (waiting one c) ≡ waiting (says 33 2 1 one) c)
      × (seen_in (swept third b (with_opening (says 33 2 2 (says 33 2 1 one)) unopened) (waiting (says 33 2 1 one) c)) ≡ record { decided = 2; entered = 2; first_zero = false; first_one = true; second_zero = false; second_one = true })
  unfolding count settled admitted enough union admits ready_to_leave tally later_settled
  ones true = (refl, refl, refl)
  ones false = (refl, refl, refl)

  -- After proposing 0 no step is left; a first vote 1 of one other brings about nothing; those of two others are joined.
  nones : (third : Bool) → (swept third b (with_opening none unopened) (start c) ≡ waiting none c)
      × (swept third b (with_opening (says 32 2 1 none) unopened) (waiting none c) ≡ waiting (says 32 2 1 none) c)
      × (seen_in (swept third b (with_opening (says 32 2 2 (says 32 2 1 none)) unopened) (waiting (says 32 2 1 none) c)) ≡ record { decided = 0; entered = 0; first_zero = true; first_one = true; second_zero = false; second_one = true })
  unfolding count settled admitted enough union admits ready_to_leave tally later_settled
  nones true = (refl, refl, refl)
  nones false = (refl, refl, refl)

-- a ballot that nobody proposed in, and cleared rounds
pub fresh : {C : Type 0} (x : Ballot) (r : PhasedRound) (c : C) → ballot_meaning x ≡ unopened → meaning_of r ≡ cleared → state_of x (replicate 15 r) c ≡ start c
fresh x r c e h = ap₂ (λ (p : Opened) (m : Round). record { ballot = p; rounds = replicate 15 m; coin = c }) e h

-- what is told of an answer is all of it
bit_back : (a b : Option Bool) → bit_if_any a ≡ bit_if_any b → a ≡ b
bit_back None None e = refl
bit_back None (Some true) e = absurd (omega (arith, e))
bit_back None (Some false) e = absurd (omega (arith, e))
bit_back (Some true) None e = absurd (omega (arith, e))
bit_back (Some false) None e = absurd (omega (arith, e))
bit_back (Some true) (Some true) e = refl
bit_back (Some false) (Some false) e = refl
bit_back (Some true) (Some false) e = absurd (omega (arith, e))
bit_back (Some false) (Some true) e = absurd (omega (arith, e))

back : (x y : Standing) → seen_of x ≡ seen_of y → x ≡ y
back x y e =
    ap₂ (λ (d e : Option Bool). record { decided = d; entered = e; first_zero = x.first_zero; first_one = x.first_one; second_zero = x.second_zero; second_one = x.second_one }) (bit_back x.decided y.decided (ap (λ (s : Seen). s.decided) e)) (bit_back x.entered y.entered (ap (λ (s : Seen). s.entered) e))
    ∙ ap₂ (λ (f g : Bool). record { decided = y.decided; entered = y.entered; first_zero = f; first_one = g; second_zero = x.second_zero; second_one = x.second_one }) (ap (λ (s : Seen). s.first_zero) e) (ap (λ (s : Seen). s.first_one) e)
    ∙ ap₂ (λ (f g : Bool). record { decided = y.decided; entered = y.entered; first_zero = y.first_zero; first_one = y.first_one; second_zero = f; second_one = g }) (ap (λ (s : Seen). s.second_zero) e) (ap (λ (s : Seen). s.second_one) e)

module _ {C : Type 0} (third : Bool) (b : Coin-acts C) (c : C) (x : Standing) (s p q : BallotState C) (e : s ≡ start c) where
  -- replica 0 proposed 1, and hears second votes 1 of replicas 1 and 2
  hears_one : p ≡ proposed third b 2 s → q ≡ heard third b 33 1 p → q ≡ waiting (says 33 2 1 one) c
  hears_one f g = g ∙ ap (heard third b 33 1) (f ∙ ap (proposed third b 2) e ∙ by_sweep third b _ (start c) ∙ (ones b c third).0) ∙ by_sweep third b _ (waiting one c) ∙ (ones b c third).1

  pub undecided_by_two : p ≡ proposed third b 2 s → q ≡ heard third b 33 1 p → seen_of x ≡ seen_in q → x ≡ record { decided = None; entered = None; first_zero = false; first_one = true; second_zero = false; second_one = true }
  undecided_by_two f g h = back x _ (h ∙ ap seen_in (hears_one f g))

  pub decided_by_three : (r : BallotState C) → p ≡ proposed third b 2 s → q ≡ heard third b 33 1 p → r ≡ heard third b 33 2 q → seen_of x ≡ seen_in r → x ≡ record { decided = Some true; entered = Some true; first_zero = false; first_one = true; second_zero = false; second_one = true }
  decided_by_three r f g k h = back x _ (h ∙ ap seen_in (k ∙ ap (heard third b 33 2) (hears_one f g) ∙ by_sweep third b _ (waiting (says 33 2 1 one) c)) ∙ (ones b c third).2)

  -- replica 0 proposed 0, and hears first votes 1 of replicas 1 and 2
  hears_first : p ≡ proposed third b 1 s → q ≡ heard third b 32 1 p → q ≡ waiting (says 32 2 1 none) c
  hears_first f g = g ∙ ap (heard third b 32 1) (f ∙ ap (proposed third b 1) e ∙ by_sweep third b _ (start c) ∙ (nones b c third).0) ∙ by_sweep third b _ (waiting none c) ∙ (nones b c third).1

  pub silent_by_one : p ≡ proposed third b 1 s → q ≡ heard third b 32 1 p → seen_of x ≡ seen_in q → x ≡ record { decided = None; entered = None; first_zero = true; first_one = false; second_zero = false; second_one = false }
  silent_by_one f g h = back x _ (h ∙ ap seen_in (hears_first f g))

  pub joined_by_two : (r : BallotState C) → p ≡ proposed third b 1 s → q ≡ heard third b 32 1 p → r ≡ heard third b 32 2 q → seen_of x ≡ seen_in r → x ≡ record { decided = None; entered = None; first_zero = true; first_one = true; second_zero = false; second_one = true }
  joined_by_two r f g k h = back x _ (h ∙ ap seen_in (k ∙ ap (heard third b 32 2) (hears_first f g) ∙ by_sweep third b _ (waiting (says 32 2 1 none) c)) ∙ (nones b c third).2)
