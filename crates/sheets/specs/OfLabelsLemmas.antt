-- Labels and their bytes: the same bytes are the same sheet, and a row gives back what it was made of. Assumes nothing.
use Rattle.std.specs.Prelude.{◌≡◌, ℕ, ◌+◌, ◌^◌, ◌<◌, ◌≤◌, Bool, true, false, cond, List, [], ◌∷◌, ◌++◌, length, take, drop, Some, None, nat_eq, slice_index, refl}
use Rattle.std.proofs.Common.{sym, ap, ap₂, subst, ◌∙◌, div-one, arith, eq-eqb, eqb-true, length-take, length-drop, take-append-drop}
use Rattle.std.proofs.Math.Bridge.{le_prop}
use borrow.Rule.Slice.PartMut.{put_mid, post_of}
use Rattle.std.proofs.lemmas.Slice.Eq.{bytes_eq-Decides}
use Rattle.std.proofs.lemmas.List.{drop-drop}
use Rattle.std.proofs.lemmas.Bool.{cond-true}
use Rattle.basis.specs.Bytes.{be, value, Octets}
use Rattle.basis.proofs.Digits.{value_lt, value_be_lt, be_value, be_inj, octets_be, octets_take, octets_drop, octets_append}
use Rattle.sheets.specs.Holds.{holds, if_lawful}
use Rattle.sheets.specs.OfLabels.{file_bytes, label_bytes, label_lawful, label_held, label_row, part}
use Rattle.sheets.specs.declared.kinds.Label.{Label}
use Rattle.sheets.specs.declared.kinds.LabelRow.{LabelRow}
use Rattle.sheets.specs.Tests.{no_true}

abbrev Four : List ℕ → Type 0
Four p = (length p ≤ 4) × (4 ≤ length p)

abbrev pub Wide : List ℕ → Type 0
Wide p = (slice_index p 0 < 2 ^ 64) × (slice_index p 1 < 2 ^ 64) × (slice_index p 2 < 2 ^ 64) × (slice_index p 3 < 2 ^ 64)

abbrev make : (p : List ℕ) (n : ℕ) → Four p → Wide p → n < 2 ^ 32 → Label
make p n f w l = record { fingerprint = p; size = n; four = f; wide = w; fits = l }

wide_prop : (p : List ℕ) (u v : Wide p) → u ≡ v
wide_prop p u v =
    ap₂ (λ x y. (x, u.1, u.2, y)) (le_prop u.0 v.0) (le_prop u.3 v.3)
    ∙ ap₂ (λ x y. (v.0, x, y, v.3)) (le_prop u.1 v.1) (le_prop u.2 v.2)

at_fields : (p q : List ℕ) (m n : ℕ) → p ≡ q → m ≡ n → (f : Four p) (f' : Four q) (w : Wide p) (w' : Wide q) (l : m < 2 ^ 32) (l' : n < 2 ^ 32) → make p m f w l ≡ make q n f' w' l'
at_fields p q m n e d f f' w w' l l' =
    subst (λ (z : List ℕ). (f' : Four z) (w' : Wide z) → make p m f w l ≡ make z n f' w' l') e
    (λ f' w'. subst (λ (k : ℕ). (l' : k < 2 ^ 32) → make p m f w l ≡ make p k f' w' l') d
    (λ l'. ap₂ (λ x y. make p m (x, y) w l) (le_prop f.0 f'.0) (le_prop f.1 f'.1) ∙ ap₂ (λ x y. make p m f' x y) (wide_prop p w w') (le_prop l l')) l') f' w'

-- labels with the same fields are the same
pub label_same : (x y : Label) → x.fingerprint ≡ y.fingerprint → x.size ≡ y.size → x ≡ y
label_same x y p q = at_fields x.fingerprint y.fingerprint x.size y.size p q x.four y.four x.wide y.wide x.fits y.fits

-- a list of four is its elements
pub listed : (p : List ℕ) → Four p → p ≡ slice_index p 0 ∷ slice_index p 1 ∷ slice_index p 2 ∷ slice_index p 3 ∷ []
listed [] f = absurd (omega arith)
listed (a ∷ []) f = absurd (omega arith)
listed (a ∷ b ∷ []) f = absurd (omega arith)
listed (a ∷ b ∷ c ∷ []) f = absurd (omega arith)
listed (a ∷ b ∷ c ∷ d ∷ []) f = refl
listed (a ∷ b ∷ c ∷ d ∷ e ∷ p) f = absurd (omega arith)

-- the same four numbers and size
abbrev pub Agree : List ℕ → List ℕ → ℕ → ℕ → Type 0
Agree p q m n = (slice_index p 0 ≡ slice_index q 0) × (slice_index p 1 ≡ slice_index q 1) × (slice_index p 2 ≡ slice_index q 2) × (slice_index p 3 ≡ slice_index q 3) × (m ≡ n)

abbrev of_four : ℕ → ℕ → ℕ → ℕ → List ℕ
of_four a b c d = a ∷ b ∷ c ∷ d ∷ []

pub by_numbers : (x y : Label) → Agree x.fingerprint y.fingerprint x.size y.size → x ≡ y
by_numbers x y a =
    let p = x.fingerprint in
    let q = y.fingerprint in
    label_same x y
    (listed p x.four ∙ ap₂ (λ u v. of_four u v (slice_index p 2) (slice_index p 3)) a.0 a.1 ∙ ap₂ (λ u v. of_four (slice_index q 0) (slice_index q 1) u v) a.2 a.3 ∙ sym (listed q y.four)) a.4

-- fingerprints and sizes are told apart by their bytes
pub file_alone : (p q : List ℕ) (m n : ℕ) → Wide p → Wide q → m < 2 ^ 32 → n < 2 ^ 32 → file_bytes p m ≡ file_bytes q n → Agree p q m n
file_alone p q m n u v f g e = (
  be_inj 8 _ _ u.0 v.0 (ap (take 8) e),
  be_inj 8 _ _ u.1 v.1 (ap (λ l. take 8 (drop 8 l)) e),
  be_inj 8 _ _ u.2 v.2 (ap (λ l. take 8 (drop 16 l)) e),
  be_inj 8 _ _ u.3 v.3 (ap (λ l. take 8 (drop 24 l)) e),
  be_inj 4 _ _ f g (ap (drop 32) e),
)

pub label_alone : (x y : Label) → label_bytes x ≡ label_bytes y → x ≡ y
label_alone x y e = by_numbers x y (file_alone x.fingerprint y.fingerprint x.size y.size x.wide y.wide x.fits y.fits e)

pub file_octets : (p : List ℕ) (n : ℕ) → Octets (file_bytes p n)
file_octets p n =
    let more : (i : ℕ) (t : List ℕ) → Octets t → Octets (be 8 (slice_index p i) ++ t) = λ i t k. octets_append (be 8 (slice_index p i)) t (octets_be 8 (slice_index p i)) k in
    let t3 = be 8 (slice_index p 3) ++ be 4 n in
    let t2 = be 8 (slice_index p 2) ++ t3 in
    more 0 (be 8 (slice_index p 1) ++ t2) (more 1 t2 (more 2 t3 (more 3 (be 4 n) (octets_be 4 n))))

-- what five parts written one after the other leave
pub put_five : (out a b c d e : List ℕ) (i j k l m : ℕ) → a ≡ be 8 i → b ≡ be 8 j → c ≡ be 8 k → d ≡ be 8 l → e ≡ be 4 m
    → put_mid 32 4 (put_mid 24 8 (put_mid 16 8 (put_mid 8 8 (a ++ post_of 0 8 out) b) c) d) e ≡ (be 8 i ++ (be 8 j ++ (be 8 k ++ (be 8 l ++ be 4 m)))) ++ drop 36 out
put_five out a b c d e i j k l m p q r s t = rw (p, q, r, s, t) (simp (div-one, drop-drop))

-- eight bytes and the rest
chunk : (s w : List ℕ) → Octets s → 8 ≤ length s → w ≡ drop 8 s → be 8 (value (take 8 s)) ++ w ≡ s
chunk s w h l e = ap₂ (λ x y. x ++ y) (be_value 8 (take 8 s) (simp length-take (omega arith)) (octets_take 8 s h)) e ∙ take-append-drop 8 s

-- one more part of eight bytes, from i on
next : (s : List ℕ) (i : ℕ) (w : List ℕ) → Octets s → i + 8 ≤ length s → w ≡ drop (i + 8) s → be 8 (part i s) ++ w ≡ drop i s
next s i w h l e = chunk (drop i s) w (octets_drop i s h) (simp length-drop (omega arith)) (e ∙ sym (drop-drop 8 i s) ∙ refl)

module _ (s : List ℕ) (h : Octets s) (l : length s ≡ 36) where
  -- the numbers that 36 bytes stand for have these bytes
  pub bytes_row : file_bytes (label_row s).fingerprint (label_row s).size ≡ s
  bytes_row =
      let last : be 4 (value (drop 32 s)) ≡ drop 32 s = be_value 4 (drop 32 s) (simp length-drop (omega arith)) (octets_drop 32 s h) in
      next s 0 _ h (omega arith) (next s 8 _ h (omega arith) (next s 16 _ h (omega arith) (next s 24 _ h (omega arith) last)))

  pub held_row : label_held (label_row s) ≡ if_lawful label_lawful s
  held_row = let n : nat_eq (length s) 36 ≡ true = eq-eqb _ _ l in rw (n, bytes_row)

-- a label of any 36 bytes
pub made_of : (s : List ℕ) → Octets s → label_lawful s ≡ true → (x : Label) × (label_bytes x ≡ s)
made_of s h e =
    let l : length s ≡ 36 = eqb-true _ _ e in
    let four : length (drop 32 s) ≡ 4 = simp length-drop (omega arith) in
    let fits : value (drop 32 s) < 2 ^ 32 = subst (λ n. value (drop 32 s) < 256 ^ n) four (value_lt (drop 32 s) (octets_drop 32 s h)) in
    let wide : (i : ℕ) → i + 8 ≤ 36 → part i s < 2 ^ 64 = λ i b. part_lt s h i (omega arith) in (
      make (label_row s).fingerprint (value (drop 32 s)) (omega arith, omega arith) (wide 0 (omega arith), wide 8 (omega arith), wide 16 (omega arith), wide 24 (omega arith)) fits,
      bytes_row s h l,
    )
  where
    part_lt : (s : List ℕ) → Octets s → (i : ℕ) → i + 8 ≤ length s → part i s < 2 ^ 64
    part_lt s h i b =
        let len : length (take 8 (drop i s)) ≡ 8 = simp (length-take, length-drop) (omega arith) in
        subst (λ n. part i s < 256 ^ n) len (value_lt (take 8 (drop i s)) (octets_take 8 (drop i s) (octets_drop i s h)))

-- what a row holds is lawful
pub kept_of : (r : LabelRow) (s : List ℕ) → label_held r ≡ Some s → (label_lawful s ≡ true) × Octets s
kept_of r s e = go r.present e
  where
    go : (b : Bool) → cond b (Some (file_bytes r.fingerprint r.size)) None ≡ Some s → (label_lawful s ≡ true) × Octets s
    go true e =
        let q : file_bytes r.fingerprint r.size ≡ s = cc in
        (subst (λ t. label_lawful t ≡ true) q refl, subst Octets q (file_octets r.fingerprint r.size))
    go false e = absurd (let z : ◌≡◌ {A = ℕ} 0 1 = cc in omega arith)

-- the row made of a label's bytes has its fields
pub row_of : (x : Label) → record { present = true; fingerprint = x.fingerprint; size = x.size } ≡ label_row (label_bytes x)
row_of x =
    let w = x.wide in
    let p = x.fingerprint in
    let at : (i : ℕ) → slice_index p i < 2 ^ 64 → slice_index p i ≡ value (be 8 (slice_index p i)) = λ i b. sym (value_be_lt 8 (slice_index p i) b) in
    ap₂ (λ u v. record { present = true; fingerprint = u; size = v })
    (listed p x.four ∙ ap₂ (λ u v. of_four u v (slice_index p 2) (slice_index p 3)) (at 0 w.0) (at 1 w.1)
    ∙ ap₂ (λ u v. of_four (value (be 8 (slice_index p 0))) (value (be 8 (slice_index p 1))) u v) (at 2 w.2) (at 3 w.3))
    (sym (value_be_lt 4 x.size x.fits))

-- five numbers read one after the other are the row of the bytes
pub read_five : (s t u v w : List ℕ) (a b c d e : List ℕ) (i j k l m : ℕ) → Octets s → length s ≡ 36
    → (a ≡ take 8 s) × (t ≡ drop 8 s) → (b ≡ take 8 t) × (u ≡ drop 8 t) → (c ≡ take 8 u) × (v ≡ drop 8 u) → (d ≡ take 8 v) × (w ≡ drop 8 v) → e ≡ w
    → i ≡ value a → j ≡ value b → k ≡ value c → l ≡ value d → m ≡ value e → file_bytes (i ∷ j ∷ k ∷ l ∷ []) m ≡ s
read_five s t u v w a b c d e i j k l m h len pa pb pc pd pe ei ej ek el em =
    let u2 : u ≡ drop 16 s = pb.1 ∙ ap (drop 8) pa.1 ∙ drop-drop 8 8 s in
    let v3 : v ≡ drop 24 s = pc.1 ∙ ap (drop 8) u2 ∙ drop-drop 8 16 s in
    let w4 : w ≡ drop 32 s = pd.1 ∙ ap (drop 8) v3 ∙ drop-drop 8 24 s in
    let i0 : i ≡ part 0 s = ei ∙ ap value pa.0 in
    let j8 : j ≡ part 8 s = ej ∙ ap value (pb.0 ∙ ap (take 8) pa.1) in
    let k16 : k ≡ part 16 s = ek ∙ ap value (pc.0 ∙ ap (take 8) u2) in
    let l24 : l ≡ part 24 s = el ∙ ap value (pd.0 ∙ ap (take 8) v3) in
    let m32 : m ≡ value (drop 32 s) = em ∙ ap value (pe ∙ w4) in
    ap₂ (λ x y. file_bytes (x ∷ y ∷ k ∷ l ∷ []) m) i0 j8 ∙ ap₂ (λ x y. file_bytes (part 0 s ∷ part 8 s ∷ x ∷ y ∷ []) m) k16 l24
    ∙ ap (λ x. file_bytes (label_row s).fingerprint x) m32 ∙ bytes_row s h len

-- a row that is present holds a label exactly if it has the label's fields
pub is_held : (x : Label) (r : LabelRow) → r.present ≡ true → Agree x.fingerprint r.fingerprint x.size r.size → true ≡ holds (label_bytes x) (label_held r)
is_held x r here a =
    let p = x.fingerprint in
    let q = r.fingerprint in
    let files : file_bytes q r.size ≡ label_bytes x =
    simp (sym a.0, sym a.1, sym a.2, sym a.3, sym a.4) in
    let e : label_held r ≡ Some (label_bytes x) = cond-true r.present _ _ here ∙ ap Some files in
    sym (ap (holds (label_bytes x)) e ∙ (bytes_eq-Decides (label_bytes x) (label_bytes x)).1 refl)

pub not_held : (x : Label) (r : LabelRow) → Wide r.fingerprint → r.size < 2 ^ 32 → (r.present ≡ true → Agree x.fingerprint r.fingerprint x.size r.size → ⊥) → false ≡ holds (label_bytes x) (label_held r)
not_held x r w f h = go r.present refl
  where
    go : (b : Bool) → r.present ≡ b → false ≡ holds (label_bytes x) (cond b (Some (file_bytes r.fingerprint r.size)) None)
    go false i = refl
    go true i = sym (no_true _ (λ t.
        let e = (bytes_eq-Decides (file_bytes r.fingerprint r.size) (label_bytes x)).0 t in
        h i (file_alone x.fingerprint r.fingerprint x.size r.size x.wide w x.fits f (sym e))))
