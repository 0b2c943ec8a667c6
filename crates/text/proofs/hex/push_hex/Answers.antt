-- Where memory runs out, a front of all the digits stands there.
use Rattle.std.proofs.Common.{◌≡◌, ℕ, ◌+◌, ◌/◌, ◌<◌, List, [], ◌∷◌, ◌++◌, length, get_or, take, drop, string_bytes, sym, refl, ap, ◌∙◌, append_assoc, take-append-drop}
use Rattle.std.proofs.lemmas.List.{take_at, drop_more}
use Rattle.std.specs.List.{flat_map}
use Rattle.text.specs.Hexadecimals.{hex_digit_of, hex_pair, hexed}
use Rattle.text.proofs.hex.push_hex.Goals as goal

joined_append : {X Y : Type 0} (f : X → List Y) (xs ys : List X) → flat_map f (xs ++ ys) ≡ flat_map f xs ++ flat_map f ys
joined_append f [] ys = refl
joined_append f (x ∷ xs) ys = ap (λ t. f x ++ t) (joined_append f xs ys) ∙ sym (append_assoc (f x) (flat_map f xs) (flat_map f ys))

-- what stands there is the old text and p, which begins the digits of s
front_of : (old s p rest out : List ℕ) → out ≡ old ++ p → hexed s ≡ p ++ rest → (k : ℕ) × (out ≡ old ++ take k (hexed s))
front_of old s p rest out e split = (length p, e ∙ ap (λ t. old ++ t) (sym (ap (take (length p)) split ∙ take_at p rest (length p) refl)))

-- the turn at the byte i
module _ (old s : List ℕ) (i : ℕ) (inside : i < length s) (was : List ℕ) (sofar : was ≡ old ++ hexed (take i s)) where
  -- the digits before the byte, its two digits and those after it
  at_byte : hexed s ≡ hexed (take i s) ++ (hex_pair (get_or s i 0) ++ hexed (drop (i + 1) s))
  at_byte =
      ap hexed (sym (take-append-drop i s))
      ∙ joined_append hex_pair (take i s) (drop i s)
      ∙ ap (λ t. hexed (take i s) ++ hexed t) (drop_more s i 0 inside)

  none_more : (out : List ℕ) → out ≡ was → (k : ℕ) × (out ≡ old ++ take k (hexed s))
  none_more out e = front_of old s (hexed (take i s)) _ out (e ∙ sofar) at_byte

  module _ (half : List ℕ) (high : half ≡ was ++ hex_digit_of (get_or s i 0 / 16) ∷ []) where
    one_more : half ≡ old ++ (hexed (take i s) ++ hex_digit_of (get_or s i 0 / 16) ∷ [])
    one_more = high ∙ ap (λ t. t ++ hex_digit_of (get_or s i 0 / 16) ∷ []) sofar ∙ append_assoc old (hexed (take i s)) _

    only_high : (out : List ℕ) → out ≡ half → (k : ℕ) × (out ≡ old ++ take k (hexed s))
    only_high out e = front_of old s _ _ out (e ∙ one_more) (at_byte ∙ sym (append_assoc (hexed (take i s)) (hex_digit_of (get_or s i 0 / 16) ∷ []) _))

pub returns-in_err-push_digit-clause-front : goal.returns-in_err-push_digit-clause-front
returns-in_err-push_digit-clause-front c =
    none_more (string_bytes c.args.out.now) c.args.bytes.now c.loop-b.b-index c.loop-b-test.true (string_bytes c.loop-b.out) c.loop-b.invariant (string_bytes c.push_digit.new.out) c.in_err-push_digit.ensures

pub returns-in_err-push_digit-2-clause-front : goal.returns-in_err-push_digit-2-clause-front
returns-in_err-push_digit-2-clause-front c =
    only_high (string_bytes c.args.out.now) c.args.bytes.now c.loop-b.b-index c.loop-b-test.true (string_bytes c.loop-b.out) c.loop-b.invariant (string_bytes c.push_digit.new.out) c.in_ok-push_digit.ensures (string_bytes c.push_digit-in-loop-b.new.out) c.in_err-push_digit-2.ensures
