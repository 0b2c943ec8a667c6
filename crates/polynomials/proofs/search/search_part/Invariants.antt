-- No choice before this one shows anything; so many shares before j are met, and not yet enough.
use Rattle.std.proofs.Common.{◌≡◌, ◌<◌, ◌≤◌, None, length}
use Rattle.basis.specs.Counts.{has, count}
use Rattle.basis.specs.Halls.{quorum}
use Rattle.polynomials.specs.Polynomials.{at}
use Rattle.polynomials.specs.Shares.{meets_by, nth_choice, tried, first_of}
use Rattle.polynomials.proofs.search.search_part.Given as goal

abbrev pub invariant-choices : goal.invariant-choices
invariant-choices l = (l.shown ≡ None) × (first_of l.k (λ k. tried l.n l.held (at l.shares) l.part.to (nth_choice l.part.from k)) ≡ None)

abbrev pub invariant-loop-j : goal.invariant-loop-j
invariant-loop-j l = (l.shown ≡ None) × (l.met ≡ count l.j (λ j. meets_by (length l.polynomial.1.0.now) (has l.polynomial.0) (at l.polynomial.1.0.now) (has l.held) (at l.shares j) j)) × (l.met < quorum l.n) × (l.met ≤ l.j)
