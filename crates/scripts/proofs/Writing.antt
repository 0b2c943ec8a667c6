-- A line written from what it asks for asks for just that. Assumes nothing.
use Rattle.std.proofs.Common.{◌≡◌, ℕ, suc, ◌+◌, ◌*◌, ◌/◌, ◌%◌, ◌^◌, ◌<◌, true, false, cond, ◌&&◌, is_some, eqb, List, [], ◌∷◌, length, Some, None, Option, unwrap_or, refl, ap, ◌∙◌, ap₂, arith}
use Rattle.std.specs.Prelude.{⊤, ℤ, pos, negsuc, neg_ℤ, codes}
use Rattle.std.specs.Option.{option_map}
use Rattle.std.specs.Fmt.{decimal, signed_decimal}
use Rattle.std.specs.Str.Parse.{AllDigits, digits_value_after}
use Rattle.std.specs.Char.{digit_value}
use Rattle.std.proofs.lemmas.Str.Parse.{digit_from_value}
use Rattle.std.proofs.lemmas.Str.{digit_value_digit}
use Rattle.std.proofs.lemmas.Fmt.{decimal_is_IsNumeral}
use Rattle.text.specs.Digits.{all_digits, value_after}
use Rattle.text.specs.Decimals.{digit_of, integer_of}
use Rattle.text.specs.Hexadecimals.{hex_digit_of, hex_value_of, hex_number_of}
use Rattle.text.specs.Lines.{words, in_front}
use Rattle.scripts.specs.declared.command.RuleName.{RuleName}
use Rattle.scripts.specs.declared.command.RuleName.TheVariants as rule
use Rattle.scripts.specs.Commands.{Asked, hall, offer, rest, close, number, rule_of_lem, three_parts, asked_in, asked_of, fit, fitted, command_of}
use Rattle.scripts.specs.Written.{spaced, hex_word, rule_word, line_of, IsSmall, Written}

-- no byte is a space
abbrev pub Spaceless : List ℕ → Type 0
Spaceless [] = ⊤
Spaceless (b ∷ w) = (eqb b 32 ≡ false) × Spaceless w

-- the words of what is written word by word
pub last_word : (w : List ℕ) → Spaceless w → words w ≡ w ∷ []
last_word [] h = refl
last_word (b ∷ w) h = ap (λ t. cond t ([] ∷ words w) (in_front b (words w))) h.0 ∙ ap (in_front b) (last_word w h.1)

pub next_word : (w s : List ℕ) → Spaceless w → words (spaced w s) ≡ w ∷ words s
next_word [] s h = refl
next_word (b ∷ w) s h = ap (λ t. cond t ([] ∷ words (spaced w s)) (in_front b (words (spaced w s)))) h.0 ∙ ap (in_front b) (next_word w s h.1)

-- a digit in two words for it
digit_same : (c : ℕ) → digit_value c < 10 → digit_of c ≡ Some (digit_value c)
digit_same c h = let k = digit_from_value c h in grind (arith, digit_value_digit c k)

digits_all : (ds : List ℕ) → AllDigits 10 ds → all_digits digit_of ds ≡ true
digits_all [] h = refl
digits_all (c ∷ cs) h = ap₂ (λ o t. is_some o && t) (digit_same c h.0) (digits_all cs h.1)

digits_spaceless : (ds : List ℕ) → AllDigits 10 ds → Spaceless ds
digits_spaceless [] h = tt
digits_spaceless (c ∷ cs) h = (let k = digit_from_value c h.0 in grind arith, digits_spaceless cs h.1)

digits_same : (n : ℕ) (ds : List ℕ) → AllDigits 10 ds → value_after 10 digit_of n ds ≡ digits_value_after 10 n ds
digits_same n [] h = refl
digits_same n (c ∷ cs) h = ap (λ o. value_after 10 digit_of (n * 10 + unwrap_or o 0) cs) (digit_same c h.0) ∙ digits_same (n * 10 + digit_value c) cs h.1

numeral : (ds : List ℕ) → 0 < length ds → AllDigits 10 ds → number ds ≡ Some (digits_value_after 10 0 ds)
numeral [] h d = absurd (omega arith)
numeral (c ∷ cs) h d = ap (λ t. cond t (Some (value_after 10 digit_of 0 (c ∷ cs))) None) (digits_all (c ∷ cs) d) ∙ ap Some (digits_same 0 (c ∷ cs) d)

-- a number comes back from its digits
pub number_back : (n : ℕ) → n < 2 ^ 64 → number (decimal n) ≡ Some n
number_back n h = let k = decimal_is_IsNumeral n h in numeral (decimal n) k.0.0 k.0.1 ∙ ap Some k.1

pub number_spaceless : (n : ℕ) → n < 2 ^ 64 → Spaceless (decimal n)
number_spaceless n h = digits_spaceless (decimal n) (decimal_is_IsNumeral n h).0.1

-- so does an amount
integer_pos : (ds : List ℕ) → AllDigits 10 ds → integer_of ds ≡ option_map pos (number ds)
integer_pos [] d = refl
integer_pos (c ∷ cs) d =
    let k = digit_from_value c d.0 in
    let other : eqb c 45 ≡ false = grind arith in
    ap (λ t. cond t (option_map (λ n. neg_ℤ (pos n)) (number cs)) (option_map pos (number (c ∷ cs)))) other

pub integer_back : (z : ℤ) → IsSmall z → integer_of (signed_decimal z) ≡ Some z
integer_back (pos n) h = integer_pos (decimal n) (decimal_is_IsNumeral n h).0.1 ∙ ap (option_map pos) (number_back n h)
integer_back (negsuc n) h = ap (option_map (λ n. neg_ℤ (pos n))) (number_back (suc n) h)

integer_spaceless : (z : ℤ) → IsSmall z → Spaceless (signed_decimal z)
integer_spaceless (pos n) h = number_spaceless n h
integer_spaceless (negsuc n) h = (refl, number_spaceless (suc n) h)

-- and four hexadecimal digits
hex_digit_back : (x : ℕ) → hex_value_of (hex_digit_of x) ≡ Some (x % 16)
hex_digit_back x = grind arith

hex_digit_spaceless : (x : ℕ) → eqb (hex_digit_of x) 32 ≡ false
hex_digit_spaceless x = grind arith

hex_spaceless : (c : ℕ) → Spaceless (hex_word c)
hex_spaceless c = (hex_digit_spaceless (c / 4096), (hex_digit_spaceless (c / 256), (hex_digit_spaceless (c / 16), (hex_digit_spaceless c, tt))))

-- the number of four digits with these values
abbrev of_values : Option ℕ → Option ℕ → Option ℕ → Option ℕ → Option ℕ
of_values a b c d =
    cond (is_some a && (is_some b && (is_some c && (is_some d && true))))
    (Some ((((0 * 16 + unwrap_or a 0) * 16 + unwrap_or b 0) * 16 + unwrap_or c 0) * 16 + unwrap_or d 0)) None

hex_back : (c : ℕ) → c < 2 ^ 16 → hex_number_of (hex_word c) ≡ Some c
hex_back c h =
    let four : hex_number_of (hex_word c) ≡ of_values (hex_value_of (hex_digit_of (c / 4096))) (hex_value_of (hex_digit_of (c / 256))) (hex_value_of (hex_digit_of (c / 16))) (hex_value_of (hex_digit_of c)) = refl in
    four
    ∙ ap₂ (λ x y. of_values x y (hex_value_of (hex_digit_of (c / 16))) (hex_value_of (hex_digit_of c))) (hex_digit_back (c / 4096)) (hex_digit_back (c / 256))
    ∙ ap₂ (λ x y. of_values (Some (c / 4096 % 16)) (Some (c / 256 % 16)) x y) (hex_digit_back (c / 16)) (hex_digit_back c)
    ∙ ap Some (omega arith)

rule_back : (r : RuleName) → rule_of_lem (rule_word r) ≡ Some r
rule_back rule.Two = refl
rule_back rule.Three = refl

rule_spaceless : (r : RuleName) → Spaceless (rule_word r)
rule_spaceless rule.Two = (refl, (refl, (refl, tt)))
rule_spaceless rule.Three = (refl, (refl, (refl, (refl, (refl, tt)))))

-- a line of three words after the first
three_after : (u a b c : List ℕ) → Spaceless u → Spaceless a → Spaceless b → Spaceless c → words (spaced u (spaced a (spaced b c))) ≡ u ∷ a ∷ b ∷ c ∷ []
three_after u a b c p q r s =
    next_word u (spaced a (spaced b c)) p
    ∙ ap (λ ws. u ∷ ws) (next_word a (spaced b c) q ∙ ap (λ ws. a ∷ ws) (next_word b c r ∙ ap (λ ws. b ∷ ws) (last_word c s)))

pub asked_back : (a : Asked) → Written a → asked_of (line_of a) ≡ Some a
asked_back (hall n r c) h =
    ap asked_in (three_after (codes "hall") (decimal n) (rule_word r) (hex_word c) (refl, (refl, (refl, (refl, tt)))) (number_spaceless n h.0) (rule_spaceless r) (hex_spaceless c))
    ∙ ap (λ o. three_parts hall o (rule_of_lem (rule_word r)) (hex_number_of (hex_word c))) (number_back n h.0)
    ∙ ap₂ (λ o q. three_parts hall (Some n) o q) (rule_back r) (hex_back c h.1)
asked_back (offer t z k) h =
    ap asked_in (three_after (codes "offer") (decimal t) (signed_decimal z) (decimal k) (refl, (refl, (refl, (refl, (refl, tt))))) (number_spaceless t h.0) (integer_spaceless z h.1) (number_spaceless k h.2))
    ∙ ap (λ o. three_parts offer o (integer_of (signed_decimal z)) (number (decimal k))) (number_back t h.0)
    ∙ ap₂ (λ o q. three_parts offer (Some t) o q) (integer_back z h.1) (number_back k h.2)
asked_back rest h = refl
asked_back (close t) h =
    ap asked_in (next_word (codes "close") (decimal t) (refl, (refl, (refl, (refl, (refl, tt))))) ∙ ap (λ ws. codes "close" ∷ ws) (last_word (decimal t) (number_spaceless t h)))
    ∙ ap (option_map close) (number_back t h)

pub command_back : (a : Asked) (s : List ℕ) → Written a → s ≡ line_of a → command_of s ≡ fitted a
command_back a s w e = ap command_of e ∙ ap fit (asked_back a w)
