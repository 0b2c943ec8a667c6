-- Numbers as bytes, the most significant first, at any number of bytes. Assumes nothing.
use Rattle.std.proofs.Common.{◌≡◌, ℕ, zero, suc, ◌+◌, ◌*◌, ◌/◌, ◌%◌, ◌^◌, ◌<◌, List, [], ◌∷◌, ◌++◌, length, get_or, take, drop, sym, refl, ap, ◌∙◌, ap₂, mod-lt, mod-eq_of_lt, div-one, arith, lit<, get_or-drop}
use native.Mathlib.Nat.{pow-succ', mod-one}
use lib.Arith.{digits_lt, digits_div, digits_mod, mod-mul}
use Rattle.basis.specs.Bytes.{be, value, Octets}

pub length_be : (k n : ℕ) → length (be k n) ≡ k
length_be zero n = refl
length_be (suc k) n = ap suc (length_be k n)

pub octets_be : (k n : ℕ) → Octets (be k n)
octets_be zero n i = lit< tt
octets_be (suc k) n zero = mod-lt (n / 256 ^ k) (lit< tt)
octets_be (suc k) n (suc i) = octets_be k n i

base_pos : (k : ℕ) → 0 < 256 ^ k
base_pos zero = lit< tt
base_pos (suc k) = omega (arith, pow-succ' 256 k, base_pos k)

pub value_lt : (s : List ℕ) → Octets s → value s < 256 ^ length s
value_lt [] h = lit< tt
value_lt (a ∷ s) h = rw (pow-succ' 256 (length s)) (digits_lt (h 0) (value_lt s (λ i. h (suc i))))

pub value_be : (k n : ℕ) → value (be k n) ≡ n % 256 ^ k
value_be zero n = sym (mod-one n)
value_be (suc k) n =
    ap₂ (λ l v. (n / 256 ^ k % 256) * 256 ^ l + v) (length_be k n) (value_be k n)
    ∙ sym (mod-mul n (lit< tt) (base_pos k)) ∙ ap (λ m. n % m) (sym (pow-succ' 256 k))

pub value_be_lt : (k n : ℕ) → n < 256 ^ k → value (be k n) ≡ n
value_be_lt k n h = value_be k n ∙ mod-eq_of_lt h

pub value_inj : (s t : List ℕ) → length s ≡ length t → Octets s → Octets t → value s ≡ value t → s ≡ t
value_inj [] [] l h k e = refl
value_inj [] (b ∷ t) l h k e = absurd (omega arith)
value_inj (a ∷ s) [] l h k e = absurd (omega arith)
value_inj (a ∷ s) (b ∷ t) l h k e =
    let m : length s ≡ length t = omega arith in
    let same : a * 256 ^ length s + value s ≡ b * 256 ^ length s + value t = e ∙ ap (λ n. b * 256 ^ n + value t) (sym m) in
    let low : value s < 256 ^ length s = value_lt s (λ i. h (suc i)) in
    let low' : value t < 256 ^ length s = rw m (value_lt t (λ i. k (suc i))) in
    let p = sym (digits_div a low) ∙ ap (λ x. x / 256 ^ length s) same ∙ digits_div b low' in
    let q = sym (digits_mod a low) ∙ ap (λ x. x % 256 ^ length s) same ∙ digits_mod b low' in
    ap₂ (λ x y. x ∷ y) p (value_inj s t m (λ i. h (suc i)) (λ i. k (suc i)) q)

pub be_value : (k : ℕ) (s : List ℕ) → length s ≡ k → Octets s → be k (value s) ≡ s
be_value k s l h =
    let low : value s < 256 ^ k = rw (sym l) (value_lt s h) in
    value_inj (be k (value s)) s (length_be k (value s) ∙ sym l) (octets_be k (value s)) h (value_be_lt k (value s) low)

pub be_inj : (k m n : ℕ) → m < 256 ^ k → n < 256 ^ k → be k m ≡ be k n → m ≡ n
be_inj k m n p q e = sym (value_be_lt k m p) ∙ ap value e ∙ value_be_lt k n q

-- what `from_be_bytes` computes
pub value4 : (s : List ℕ) → length s ≡ 4 → value s ≡ get_or s 0 0 * 16777216 + get_or s 1 0 * 65536 + get_or s 2 0 * 256 + get_or s 3 0
value4 [] h = absurd (omega arith)
value4 (a ∷ []) h = absurd (omega arith)
value4 (a ∷ b ∷ []) h = absurd (omega arith)
value4 (a ∷ b ∷ c ∷ []) h = absurd (omega arith)
value4 (a ∷ b ∷ c ∷ d ∷ []) h = omega arith
value4 (a ∷ b ∷ c ∷ d ∷ e ∷ s) h = absurd (omega arith)

pub value8 : (s : List ℕ) → length s ≡ 8 → value s ≡ get_or s 0 0 * 72057594037927936 + get_or s 1 0 * 281474976710656 + get_or s 2 0 * 1099511627776 + get_or s 3 0 * 4294967296 + get_or s 4 0 * 16777216 + get_or s 5 0 * 65536 + get_or s 6 0 * 256 + get_or s 7 0
value8 [] h = absurd (omega arith)
value8 (a ∷ []) h = absurd (omega arith)
value8 (a ∷ b ∷ []) h = absurd (omega arith)
value8 (a ∷ b ∷ c ∷ []) h = absurd (omega arith)
value8 (a ∷ b ∷ c ∷ d ∷ s) h = let t = value4 s (omega arith) in let n : length s ≡ 4 = omega arith in simp (n, t) (omega arith)

-- parts and joins of bytes are bytes
pub octets_take : (n : ℕ) (s : List ℕ) → Octets s → Octets (take n s)
octets_take zero s h i = lit< tt
octets_take (suc n) [] h i = lit< tt
octets_take (suc n) (a ∷ s) h zero = h 0
octets_take (suc n) (a ∷ s) h (suc i) = octets_take n s (λ j. h (suc j)) i

pub octets_drop : (n : ℕ) (s : List ℕ) → Octets s → Octets (drop n s)
octets_drop n s h i = rw get_or-drop (h (n + i))

pub octets_append : (s t : List ℕ) → Octets s → Octets t → Octets (s ++ t)
octets_append [] t h k i = k i
octets_append (a ∷ s) t h k zero = h 0
octets_append (a ∷ s) t h k (suc i) = octets_append s t (λ j. h (suc j)) k i

-- what `to_be_bytes` gives
pub be4 : (n : ℕ) → (n / 16777216 % 256) ∷ (n / 65536 % 256) ∷ (n / 256 % 256) ∷ (n % 256) ∷ [] ≡ be 4 n
be4 n = ap (λ t. (n / 16777216 % 256) ∷ (n / 65536 % 256) ∷ (n / 256 % 256) ∷ (t % 256) ∷ []) (sym (div-one n))

pub be8 : (n : ℕ) → (n / 72057594037927936 % 256) ∷ (n / 281474976710656 % 256) ∷ (n / 1099511627776 % 256) ∷ (n / 4294967296 % 256) ∷ (n / 16777216 % 256) ∷ (n / 65536 % 256) ∷ (n / 256 % 256) ∷ (n % 256) ∷ [] ≡ be 8 n
be8 n = ap (λ t. (n / 72057594037927936 % 256) ∷ (n / 281474976710656 % 256) ∷ (n / 1099511627776 % 256) ∷ (n / 4294967296 % 256) ∷ t) (be4 n)
