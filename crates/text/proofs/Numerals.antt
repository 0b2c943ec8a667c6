-- Reading a text of digits byte by byte, with or without a limit on the number.
use Rattle.std.proofs.Common.{◌≡◌, ℕ, ◌+◌, ◌*◌, ◌<◌, ◌≤◌, min, true, false, cond, ◌&&◌, eqb, List, [], ◌∷◌, length, get_or, drop, is_some, Some, None, Option, unwrap_or, sym, refl, ap, ◌∙◌, ap₂, ⊎_elim, le-mul_of_pos_right, arith}
use Rattle.std.proofs.lemmas.List.{drop_more, drop_all}
use Rattle.std.proofs.lemmas.Bool.{cases_lt, both_ways}
use Rattle.std.specs.Option.{option_map}
use Rattle.text.specs.Digits.{digit_in, nonempty, all_digits, value_after, number_of}
use Rattle.text.specs.Hexadecimals.{hex_value_of}

-- what is read of s after the number n
abbrev pub read_after : ℕ → (ℕ → Option ℕ) → ℕ → List ℕ → Option ℕ
read_after base digit n s = cond (all_digits digit s) (Some (value_after base digit n s)) None

-- the same, at most the limit
abbrev pub held : ℕ → Option ℕ → Option ℕ
held limit o = option_map (λ n. min n limit) o

module _ (base : ℕ) (digit : ℕ → Option ℕ) where
  -- what is read of a byte that is the digit o, if any, and of s after it
  abbrev at_digit : ℕ → List ℕ → Option ℕ → Option ℕ
  at_digit n s o = cond (is_some o && all_digits digit s) (Some (value_after base digit (n * base + unwrap_or o 0) s)) None

  -- what is read from the byte at i on
  pub read_none : (n : ℕ) (s : List ℕ) (i : ℕ) → i < length s → None ≡ digit (get_or s i 0) → read_after base digit n (drop i s) ≡ None
  read_none n s i h e = ap (read_after base digit n) (drop_more s i 0 h) ∙ ap (at_digit n (drop (i + 1) s)) (sym e)

  pub read_some : (n : ℕ) (s : List ℕ) (i d : ℕ) → i < length s → Some d ≡ digit (get_or s i 0) → read_after base digit n (drop i s) ≡ read_after base digit (n * base + d) (drop (i + 1) s)
  read_some n s i d h e = ap (read_after base digit n) (drop_more s i 0 h) ∙ ap (at_digit n (drop (i + 1) s)) (sym e)

  pub read_all : (n : ℕ) (s : List ℕ) (i : ℕ) → length s ≤ i → read_after base digit n (drop i s) ≡ Some n
  read_all n s i h = rw (drop_all i s)

  -- a text that is not empty is read from its start
  pub read_first : (s : List ℕ) → eqb (length s) 0 ≡ false → read_after base digit 0 s ≡ number_of base digit s
  read_first [] h = absurd (both_ways true h refl)
  read_first (b ∷ s) h = refl

  module _ (limit : ℕ) (positive : 0 < base) where
    limited_next : (n d : ℕ) → min (min n limit * base + d) limit ≡ min (n * base + d) limit
    limited_next n d =
        ⊎_elim
        (λ (h : limit < n). let e : min n limit ≡ limit = omega arith in rw e (omega (arith, le-mul_of_pos_right limit positive, le-mul_of_pos_right n positive)))
        (λ (h : n ≤ limit). let e : min n limit ≡ n = omega arith in rw e)
        (cases_lt limit n)

    -- a limit on the way changes nothing
    pub limited : (n : ℕ) (s : List ℕ) → min (value_after base digit (min n limit) s) limit ≡ min (value_after base digit n s) limit
    limited n [] = omega arith
    limited n (b ∷ s) =
        let d : ℕ = unwrap_or (digit b) 0 in
        sym (limited (min n limit * base + d) s)
        ∙ ap (λ k. min (value_after base digit k s) limit) (limited_next n d)
        ∙ limited (n * base + d) s

    pub held_limited : (n : ℕ) (s : List ℕ) → held limit (read_after base digit (min n limit) s) ≡ held limit (read_after base digit n s)
    held_limited n s =
        elim (all_digits digit s) as (λ t. held limit (cond t (Some (value_after base digit (min n limit) s)) None) ≡ held limit (cond t (Some (value_after base digit n s)) None))
        [ true ↦ ap Some (limited n s) | false ↦ refl ]

-- two ways to read a digit that agree at each byte read the same numbers
module _ (base : ℕ) (f g : ℕ → Option ℕ) (same : (b : ℕ) → f b ≡ g b) where
  same_digits : (s : List ℕ) → all_digits f s ≡ all_digits g s
  same_digits [] = refl
  same_digits (b ∷ s) = ap₂ (λ o t. is_some o && t) (same b) (same_digits s)

  same_value : (n : ℕ) (s : List ℕ) → value_after base f n s ≡ value_after base g n s
  same_value n [] = refl
  same_value n (b ∷ s) = ap (λ o. value_after base f (n * base + unwrap_or o 0) s) (same b) ∙ same_value (n * base + unwrap_or (g b) 0) s

  pub same_number : (s : List ℕ) → number_of base f s ≡ number_of base g s
  same_number s = ap₂ (λ t n. cond (nonempty s && t) (Some n) None) (same_digits s) (same_value 0 s)

pub digit_in_sixteen : (b : ℕ) → digit_in 16 b ≡ hex_value_of b
digit_in_sixteen b = grind arith
