-- Four digits write a number below 2 ^ 16.
use Rattle.std.proofs.Common.{◌≡◌, ℕ, ◌<◌, ◌≤◌, ◌-◌, ◌^◌, min, Bool, true, false, cond, ◌&&◌, leb, List, [], ◌∷◌, length, Some, None, unwrap_or, sym, ap, ◌∙◌, arith, rules}
use Rattle.std.proofs.lemmas.Bool.{cond-true, le-leb}
use Rattle.std.specs.Option.{option_map}
use Rattle.text.specs.Digits.{digit_in, nonempty, all_digits, value_after, limited_number}
use Rattle.text.specs.Hexadecimals.{hex_value_of, hex_number_of}
use Rattle.text.proofs.Numerals.{digit_in_sixteen, same_number}
use Rattle.text.proofs.hex.hex_number.Goals as goal

digit_below : (b : ℕ) → unwrap_or (hex_value_of b) 0 < 16
digit_below b = grind arith

four_below : (s : List ℕ) → length s ≤ 4 → value_after 16 hex_value_of 0 s < 65536
four_below [] h = omega arith
four_below (a ∷ []) h = omega (arith, digit_below a)
four_below (a ∷ b ∷ []) h = omega (arith, digit_below a, digit_below b)
four_below (a ∷ b ∷ c ∷ []) h = omega (arith, digit_below a, digit_below b, digit_below c)
four_below (a ∷ b ∷ c ∷ d ∷ []) h = omega (arith, digit_below a, digit_below b, digit_below c, digit_below d)
four_below (a ∷ b ∷ c ∷ d ∷ e ∷ s) h = absurd (omega arith)

number_is : (s : List ℕ) (n : ℕ) → length s ≤ 4 → Some n ≡ limited_number 16 (digit_in 16) s → (n < 65536) × (Some n ≡ hex_number_of s)
number_is s n h e =
    let read = go (nonempty s && all_digits hex_value_of s) (value_after 16 hex_value_of 0 s) (four_below s h) (e ∙ ap (option_map (λ k. min k (2 ^ 64 - 1))) (same_number 16 (digit_in 16) hex_value_of digit_in_sixteen s)) in
    (read.0, read.1 ∙ sym (cond-true (leb (length s) 4) _ _ (le-leb _ _ h)))
  where
    go : (b : Bool) (v : ℕ) → v < 65536 → Some n ≡ option_map (λ k. min k (2 ^ 64 - 1)) (cond b (Some v) None) → (n < 65536) × (Some n ≡ cond b (Some v) None)
    go true v l e = let q : n ≡ min v (2 ^ 64 - 1) = cc in (omega arith, ap Some (omega arith))
    go false v l e = absurd (let z : ◌≡◌ {A = ℕ} 0 1 = cc in omega arith)

pub returns : goal.returns
returns c = let n = number_is c.args.text.now c.in_ok-number.field-0 (omega arith) c.in_ok-number.ensures in search (rules, n)
