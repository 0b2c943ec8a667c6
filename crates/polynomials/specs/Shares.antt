-- What shares of a hall show: replica j's share stands at the point j + 1. Assumes nothing.
use Rattle.std.specs.Prelude.{◌≡◌, ℕ, zero, suc, ◌+◌, ◌*◌, ◌-◌, ◌/◌, ◌%◌, ◌^◌, ◌≤◌, Bool, cond, ◌&&◌, ◌||◌, List, length, Some, None, Option, MatchOption, ◌==◌, bit_and, nat_le}
use Rattle.std.specs.Option.{option_or}
use Rattle.basis.specs.Counts.{has, count}
use Rattle.basis.specs.Halls.{largest, faults, quorum, beyond_faults}
use Rattle.polynomials.specs.Polynomials.{ev, through, nval}

-- a hall of 3f + 1 replicas, at most 16
pub record Hall (n : ℕ) : Type 0 where
  pub thirds : n ≡ 3 * faults n + 1
  pub small : n ≤ largest

-- replica j holds a share, and the polynomial meets it
abbrev pub meets : List ℕ → (ℕ → Bool) → (ℕ → ℕ) → ℕ → Bool
meets p held share j = held j && ev p (j + 1) % 251 == share j % 251

-- the low bit of the value at 0
abbrev pub low_bit : List ℕ → Bool
low_bit p = ev p 0 % 251 % 2 == 1

-- a polynomial of degree at most f, with any coefficients, that meets 2f + 1 held shares of replicas below n
pub record Enough (n : ℕ) (held : ℕ → Bool) (share : ℕ → ℕ) (p : List ℕ) : Type 0 where
  pub degree : length p ≤ beyond_faults n
  pub many : quorum n ≤ count n (meets p held share)

-- no such polynomial
abbrev pub NoneMeets : ℕ → (ℕ → Bool) → (ℕ → ℕ) → Type 0
NoneMeets n held share = (p : List ℕ) → Enough n held share p → ⊥

-- there is one, and b is the low bit of its value at 0
abbrev pub BitOf : ℕ → (ℕ → Bool) → (ℕ → ℕ) → Bool → Type 0
BitOf n held share b = (p : List ℕ) × Enough n held share p × (b ≡ low_bit p)

-- what is shown, nothing or a bit, is exactly what polynomials say of the held shares
abbrev pub Exact : ℕ → (ℕ → Bool) → (ℕ → ℕ) → Option Bool → Type 0
Exact n held share shown = MatchOption shown (NoneMeets n held share) (BitOf n held share)

-- Two polynomials that each meet 2f + 1 held shares have the same value everywhere,
abbrev pub OneValue : Type 0
OneValue = (n : ℕ) (p q : List ℕ) (held : ℕ → Bool) (share : ℕ → ℕ) → Hall n → Enough n held share p → Enough n held share q → (z : ℕ) → ev p z % 251 ≡ ev q z % 251

-- and so the bit is one, whichever polynomial gives it.
abbrev pub OneBit : Type 0
OneBit = (n : ℕ) (held : ℕ → Bool) (share : ℕ → ℕ) (a b : Bool) → Hall n → BitOf n held share a → BitOf n held share b → a ≡ b

-- The search: a choice is a set of f + 1 replicas of one half, all of which hold shares. Of 2f + 1 met shares f + 1 are in
-- one half, since f and f are fewer.
abbrev pub half : ℕ → ℕ
half n = n / 2

abbrev pub of_size : ℕ → ℕ → Bool
of_size n m = count largest (has m) == beyond_faults n

abbrev pub is_choice : ℕ → ℕ → ℕ → Bool
is_choice n held m = of_size n m && of_size n (bit_and m held)

-- the polynomial through the chosen ones of the shares below some number
abbrev pub chosen : ℕ → (ℕ → ℕ) → ℕ → List ℕ
chosen to share m = through to (has m) share

-- The same as meets for one share, by Newton's numbers; a chosen one is met.
abbrev pub meets_by : ℕ → (ℕ → Bool) → (ℕ → ℕ) → (ℕ → Bool) → ℕ → ℕ → Bool
meets_by w s d held share j = s j || held j && nval w s d (j + 1) % 251 == share % 251

-- what a polynomial shows
abbrev pub bit_if_met : ℕ → ℕ → (ℕ → ℕ) → List ℕ → Option Bool
bit_if_met n held share p = cond (nat_le (quorum n) (count n (meets p (has held) share))) (Some (low_bit p)) None

-- what the set m of replicas below some number shows
abbrev pub tried : ℕ → ℕ → (ℕ → ℕ) → ℕ → ℕ → Option Bool
tried n held share to m = cond (is_choice n held m) (bit_if_met n held share (chosen to share m)) None

-- what the first of the sets below k that shows anything shows
unfoldable pub first_of : ℕ → (ℕ → Option Bool) → Option Bool
first_of zero g = None
first_of (suc k) g = option_or (first_of k g) (g k)

-- the k-th set of the replicas from one number on, as a mask
abbrev pub nth_choice : ℕ → ℕ → ℕ
nth_choice from k = k * 2 ^ from

-- what the held shares of the replicas from one number to below another show
abbrev pub shown_in : ℕ → ℕ → (ℕ → ℕ) → ℕ → ℕ → Option Bool
shown_in n held share from to = first_of (2 ^ (to - from)) (λ k. tried n held share to (nth_choice from k))

-- what those of the lower half show, or else those of the upper one
abbrev pub shown_in_halves : ℕ → ℕ → (ℕ → ℕ) → Option Bool
shown_in_halves n held share = option_or (shown_in n held share 0 (half n)) (shown_in n held share (half n) n)

-- what the held shares show
unfoldable pub shown_of : ℕ → ℕ → (ℕ → ℕ) → Option Bool
unfolding first_of
shown_of n held share = shown_in_halves n held share
