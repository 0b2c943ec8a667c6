-- Where no step of a round applies, to take its steps changes nothing; and what shows early that some do not. Assumes nothing.
use Rattle.std.proofs.Common.{◌≡◌, ℕ, Bool, true, false, not, ◌&&◌, ◌||◌, eqb, leb, List, [], ◌∷◌, sym, refl, ap, ◌∙◌, ⊎_elim, arith}
use Rattle.std.proofs.lemmas.Bool.{cond-false, eqb-true, le-leb, leb-true, and_parts, and_left, and_right, or_left, or_right, or_cases}
use Rattle.basis.specs.Counts.{has, count}
use Rattle.basis.specs.Halls.{quorum, beyond_faults}
use Rattle.basis.specs.Steps.{Step, settled, Idle}
use Rattle.basis.proofs.Counts.{count_mono}
use Rattle.basis.proofs.Stepping.{passed}
use Rattle.rules.specs.Rounds.{Round, voted}
use Rattle.phases.specs.declared.round.PhasedRound.{PhasedRound}
use Rattle.phases.specs.Records.{for_set, meaning_of}
use Rattle.phases.specs.Steps.{is_entered_lem, many, admitted, counted, enough, join, steps_of}
use Rattle.phases.specs.Turns.{and_off, either_pass}
use Rattle.phases.proofs.Masks.{none_honest}

-- one pass over steps of which none applies
passed_still : {M : Type 0} (ss : List (Step M)) (m : M) → Idle ss m → m ≡ passed ss m
passed_still [] m h = refl
passed_still (s ∷ ss) m h = passed_still ss m h.1 ∙ ap (passed ss) (sym (cond-false (s.applies m) (s.leaves m) m h.0))

pub still : (last : Bool) (n own : ℕ) (m : Round) → Idle (steps_of last n own) m → m ≡ settled (steps_of last n own) 5 m
still last n own m h = (either_pass n own last m m (passed_still (steps_of last n own) m h)).0

mid_off : (a b c : Bool) → b ≡ false → (a && (b && c)) ≡ false
mid_off a b c h = and_right a _ (and_left b c h)

-- a first vote is not joined where it is said, or where nobody has cast it
pub joined : (n own z x : ℕ) (r : PhasedRound) (b : Bool) → z ≡ for_set r.first x → b ≡ (has z own || eqb z 0) → b ≡ true → (join n own x).applies (meaning_of r) ≡ false
joined n own z x r b e be h =
    let m = meaning_of r in
    ⊎_elim
    (λ said. and_off (is_entered_lem m) (many n (beyond_faults n) 32 x m) _ (ap not (ap (λ (w : ℕ). has w own) (sym e) ∙ said)))
    (λ none. mid_off (is_entered_lem m) _ _ (none_honest n (for_set r.first x) (sym e ∙ eqb-true z 0 none)))
    (or_cases _ _ (sym be ∙ h))

-- where fewer than 2f + 1 have voted, not enough votes count
counted_voted : (n t j : ℕ) (m : Round) → (counted n m t 1 j || counted n m t 2 j) ≡ true → voted t j m ≡ true
counted_voted n t j m y = ⊎_elim
    (λ one. alone 1 (or_left (m.votes t 1 j) (m.votes t 2 j || m.votes t 3 j)) one)
    (λ two. alone 2 (λ a. or_right (m.votes t 1 j) (m.votes t 2 j || m.votes t 3 j) (or_left (m.votes t 2 j) (m.votes t 3 j) a)) two)
    (or_cases (counted n m t 1 j) (counted n m t 2 j) y)
  where
    alone : (x : ℕ) → (m.votes t x j ≡ true → voted t j m ≡ true) → counted n m t x j ≡ true → voted t j m ≡ true
    alone x f c = ⊎_elim
        (λ a. f (and_parts (m.votes t x j) (admitted n m x) a).0)
        (λ a. or_right (m.votes t 1 j) (m.votes t 2 j || m.votes t 3 j) (or_right (m.votes t 2 j) (m.votes t 3 j) (and_parts (m.votes t 3 j) (admitted n m 1 && admitted n m 2) a).0))
        (or_cases (m.votes t x j && admitted n m x) (m.votes t 3 j && (admitted n m 1 && admitted n m 2)) c)

pub counting_voted : (n t : ℕ) (m : Round) (p : Bool) → p ≡ leb (quorum n) (count n (λ j. voted t j m)) → p ≡ false → p ≡ enough n m t
unfolding enough
counting_voted n t m p hp few = go (enough n m t) refl
  where
    go : (e : Bool) → enough n m t ≡ e → p ≡ e
    go false h = few
    go true h =
        let enough-votes = leb-true _ _ h in
        let more = count_mono n (λ j. counted n m t 1 j || counted n m t 2 j) (λ j. voted t j m) (λ j. counted_voted n t j m) in
        hp ∙ le-leb _ _ (omega arith)
