-- Short lists by their elements, answers behind a test, and what writing a sheet leaves. Assumes nothing.
use Rattle.std.proofs.Common.{◌≡◌, ℕ, ◌+◌, ◌-◌, ◌≤◌, Bool, true, false, cond, List, [], ◌∷◌, ◌++◌, length, get_or, take, drop, set, is_some, Some, None, Ok, Err, Option, Result, refl, ap, ◌∙◌, append-nil, arith}
use borrow.Rule.Slice.PartMut.{put_mid}
use Rattle.std.proofs.lemmas.List.{drop_all, drop-drop, take_all}
use Rattle.std.specs.Option.{option_map}
use Rattle.sheets.specs.Holds.{if_lawful}

-- a list of six is its elements
pub six : (xs : List ℕ) → length xs ≡ 6 → xs ≡ get_or xs 0 0 ∷ get_or xs 1 0 ∷ get_or xs 2 0 ∷ get_or xs 3 0 ∷ get_or xs 4 0 ∷ get_or xs 5 0 ∷ []
six [] h = absurd (omega arith)
six (a ∷ []) h = absurd (omega arith)
six (a ∷ b ∷ []) h = absurd (omega arith)
six (a ∷ b ∷ c ∷ []) h = absurd (omega arith)
six (a ∷ b ∷ c ∷ d ∷ []) h = absurd (omega arith)
six (a ∷ b ∷ c ∷ d ∷ e ∷ []) h = absurd (omega arith)
six (a ∷ b ∷ c ∷ d ∷ e ∷ f ∷ []) h = refl
six (a ∷ b ∷ c ∷ d ∷ e ∷ f ∷ g ∷ xs) h = absurd (omega arith)

pub four : (xs : List ℕ) → 4 ≤ length xs → xs ≡ get_or xs 0 0 ∷ get_or xs 1 0 ∷ get_or xs 2 0 ∷ get_or xs 3 0 ∷ drop 4 xs
four [] h = absurd (omega arith)
four (a ∷ []) h = absurd (omega arith)
four (a ∷ b ∷ []) h = absurd (omega arith)
four (a ∷ b ∷ c ∷ []) h = absurd (omega arith)
four (a ∷ b ∷ c ∷ d ∷ xs) h = refl

-- the test in front of an answer Ok was passed, or failed
pub passed : {X Y : Type 0} (b : Bool) (r : Result X Y) (e : Y) (x : X) → cond b r (Err e) ≡ Ok x → (b ≡ true) × (r ≡ Ok x)
passed true r e x h = (refl, h)
passed false r e x h = absurd (let z : ◌≡◌ {A = ℕ} 0 1 = cc in omega arith)

pub failed : {X Y : Type 0} (b : Bool) (r : Result X Y) (e : Y) (x : X) → cond b (Err e) r ≡ Ok x → (b ≡ false) × (r ≡ Ok x)
failed false r e x h = (refl, h)
failed true r e x h = absurd (let z : ◌≡◌ {A = ℕ} 0 1 = cc in omega arith)

-- a sheet is read exactly if its bytes are lawful
pub read_some : {X : Type 0} (f : X → List ℕ) (lawful : List ℕ → Bool) (s : List ℕ) (o : Option X) → option_map f o ≡ if_lawful lawful s → is_some o ≡ lawful s
read_some f lawful s None e = go (lawful s) e
  where
    go : (b : Bool) → None ≡ cond b (Some s) None → false ≡ b
    go true e = absurd (let z : ◌≡◌ {A = ℕ} 0 1 = cc in omega arith)
    go false e = refl
read_some f lawful s (Some x) e = go (lawful s) e
  where
    go : (b : Bool) → Some (f x) ≡ cond b (Some s) None → true ≡ b
    go true e = refl
    go false e = absurd (let z : ◌≡◌ {A = ℕ} 0 1 = cc in omega arith)

abbrev pub headed : List ℕ → ℕ → ℕ → ℕ → ℕ → List ℕ
headed out t a b k = set (set (set (set out 0 t) 1 a) 2 b) 3 k

-- four bytes, and after them what stands in the place of the rest
pub put_sheet : (out e bs : List ℕ) (t a b k z : ℕ) → 4 + z ≤ length out
    → e ≡ bs ++ drop z (take (length (headed out t a b k) - 4) (drop 4 (headed out t a b k)))
    → put_mid 4 (length (headed out t a b k) - 4) (headed out t a b k) e ≡ (t ∷ a ∷ b ∷ k ∷ bs) ++ drop (4 + z) out
put_sheet [] e bs t a b k z h q = absurd (omega arith)
put_sheet (o ∷ []) e bs t a b k z h q = absurd (omega arith)
put_sheet (o ∷ p ∷ []) e bs t a b k z h q = absurd (omega arith)
put_sheet (o ∷ p ∷ r ∷ []) e bs t a b k z h q = absurd (omega arith)
put_sheet (o ∷ p ∷ r ∷ s ∷ xs) e bs t a b k z h q =
    let m = length (headed (o ∷ p ∷ r ∷ s ∷ xs) t a b k) - 4 in
    let all : length xs ≤ m = omega arith in
    ap (λ l. t ∷ a ∷ b ∷ k ∷ l)
    (ap (λ l. e ++ l) (drop_all m xs all) ∙ append-nil e ∙ q ∙ ap (λ l. bs ++ drop z l) (take_all m xs all) ∙ ap (λ l. bs ++ l) (drop-drop z 4 (o ∷ p ∷ r ∷ s ∷ xs)))
