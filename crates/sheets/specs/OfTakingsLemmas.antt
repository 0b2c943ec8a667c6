-- Takings and their bytes: the same bytes are the same sheet, and a row gives back what it was made of. Assumes nothing.
use Rattle.std.specs.Prelude.{◌≡◌, ℕ, ◌^◌, ◌<◌, Bool, true, false, cond, T, List, ◌++◌, length, take, drop, ℤ, pos, negsuc, ◌≤ℤ◌, Some, None, Ok, FitsSigned, ◌==◌, int_le, nat_eq, refl}
use Rattle.std.proofs.Common.{sym, ap, ap₂, subst, ◌∙◌, arith, div-one, eq-eqb, eqb-true, length-take, length-drop, take-append-drop, of_z, to_z}
use Rattle.std.proofs.Math.Bridge.{le_prop}
use borrow.Rule.Slice.PartMut.{put_mid, post_of}
use Rattle.std.proofs.Math.Dec.{T_prop}
use Rattle.std.specs.Int.{w64}
use Rattle.std.proofs.lemmas.Slice.Eq.{bytes_eq-Decides}
use Rattle.std.proofs.lemmas.List.{drop-drop}
use Rattle.std.proofs.lemmas.Int.{to_z-of_z, of_z-to_z, ints}
use Rattle.std.proofs.lemmas.Bool.{cond-true, and_parts}
use Rattle.basis.specs.Bytes.{be, value, Octets}
use Rattle.basis.specs.Refusals.{refused}
use Rattle.basis.proofs.Digits.{value_lt, value_be_lt, be_value, be_inj, octets_be, octets_take, octets_drop, octets_append}
use Rattle.sheets.specs.Holds.{holds, if_lawful}
use Rattle.sheets.specs.Tests.{no_true}
use Rattle.sheets.specs.OfTakings.{in_range_lem, amount_bytes, takings_bytes, takings_lawful, takings_held, takings_row, takings_made, fields}
use Rattle.sheets.specs.declared.kinds.Takings.{Takings}
use Rattle.sheets.specs.declared.kinds.TakingsRow.{TakingsRow}

abbrev Within : ℤ → Type 0
Within a = (negsuc 999999999999 ≤ℤ a) × (a ≤ℤ pos 1000000000000)

abbrev make : (a : ℤ) (c : ℕ) → Within a → c < 2 ^ 32 → Takings
make a c l f = record { cents = a; receipts = c; lawful = l; fits = f }

leZ_prop : (a b : ℤ) (p q : a ≤ℤ b) → p ≡ q
leZ_prop a b p q = let F : T (int_le a b) → a ≤ℤ b = λ t. record { le = t } in ap F (T_prop (int_le a b) p.le q.le)

at_fields : (a b : ℤ) (c d : ℕ) → a ≡ b → c ≡ d → (l : Within a) (m : Within b) (f : c < 2 ^ 32) (g : d < 2 ^ 32) → make a c l f ≡ make b d m g
at_fields a b c d p q l m f g =
    subst (λ (z : ℤ). (m : Within z) → make a c l f ≡ make z d m g) p
    (λ m. subst (λ (n : ℕ). (g : n < 2 ^ 32) → make a c l f ≡ make a n m g) q
    (λ g. ap₂ (λ x y. make a c x y) (ap₂ (λ x y. (x, y)) (leZ_prop _ _ l.0 m.0) (leZ_prop _ _ l.1 m.1)) (le_prop f g)) g) m

-- takings with the same fields are the same
pub takings_same : (x y : Takings) → x.cents ≡ y.cents → x.receipts ≡ y.receipts → x ≡ y
takings_same x y p q = at_fields x.cents y.cents x.receipts y.receipts p q x.lawful y.lawful x.fits y.fits

pub within : (z : ℤ) → in_range_lem z ≡ true → Within z
within z h = (grind (arith, ints), grind (arith, ints))

-- an amount in range fits 64 bits
pub range_fits : (z : ℤ) → in_range_lem z ≡ true → FitsSigned w64 z
range_fits z h = grind (arith, ints)

pub bits_lt : (z : ℤ) → in_range_lem z ≡ true → of_z w64 z < 256 ^ 8
bits_lt z h = let f = range_fits z h in grind (arith, ints)

pub in_range_of : (x : Takings) → in_range_lem x.cents ≡ true
in_range_of x = let l = x.lawful in grind (arith, ints)

-- amounts and receipts are told apart by their bytes
pub amount_alone : (a b : ℤ) (m n : ℕ) → in_range_lem a ≡ true → in_range_lem b ≡ true → m < 2 ^ 32 → n < 2 ^ 32 → amount_bytes a m ≡ amount_bytes b n → (a ≡ b) × (m ≡ n)
amount_alone a b m n p q f g e =
    let u : of_z w64 a ≡ of_z w64 b = be_inj 8 _ _ (bits_lt a p) (bits_lt b q) (ap (take 8) e) in
    (sym (to_z-of_z w64 a (range_fits a p)) ∙ ap (to_z w64) u ∙ to_z-of_z w64 b (range_fits b q), be_inj 4 _ _ f g (ap (drop 8) e))

pub takings_alone : (x y : Takings) → takings_bytes x ≡ takings_bytes y → x ≡ y
takings_alone x y e =
    let r = amount_alone x.cents y.cents x.receipts y.receipts (in_range_of x) (in_range_of y) x.fits y.fits e in
    takings_same x y r.0 r.1

pub amount_octets : (z : ℤ) (n : ℕ) → Octets (amount_bytes z n)
amount_octets z n = octets_append (be 8 (of_z w64 z)) (be 4 n) (octets_be 8 (of_z w64 z)) (octets_be 4 n)

-- the bytes of an amount in range are lawful
pub amount_lawful : (z : ℤ) (n : ℕ) → in_range_lem z ≡ true → takings_lawful (amount_bytes z n) ≡ true
amount_lawful z n h = let e : to_z w64 (value (be 8 (of_z w64 z))) ≡ z = ap (to_z w64) (value_be_lt 8 _ (bits_lt z h)) ∙ to_z-of_z w64 z (range_fits z h) in ap in_range_lem e ∙ h

-- what two parts written one after the other leave
pub put_both : (out a b : List ℕ) (n m : ℕ) → a ≡ be 8 n → b ≡ be 4 m → put_mid 8 4 (a ++ post_of 0 8 out) b ≡ (be 8 n ++ be 4 m) ++ drop 12 out
put_both out a b n m p q = rw (p, q) (simp (div-one, drop-drop))

module _ (s : List ℕ) (h : Octets s) (l : length s ≡ 12) where
  -- the amount and receipts that 12 bytes stand for have these bytes
  pub bytes_row : amount_bytes (to_z w64 (value (take 8 s))) (value (drop 8 s)) ≡ s
  bytes_row =
      let len : length (take 8 s) ≡ 8 = simp length-take (omega arith) in
      let lt : value (take 8 s) < 2 ^ 64 = subst (λ n. value (take 8 s) < 256 ^ n) len (value_lt (take 8 s) (octets_take 8 s h)) in
      ap (λ u. be 8 u ++ be 4 (value (drop 8 s))) (of_z-to_z w64 (value (take 8 s)) lt)
      ∙ ap₂ (λ u v. u ++ v) (be_value 8 (take 8 s) len (octets_take 8 s h)) (be_value 4 (drop 8 s) (simp length-drop (omega arith)) (octets_drop 8 s h))
      ∙ take-append-drop 8 s

  pub held_row : takings_held (takings_row s) ≡ if_lawful takings_lawful s
  held_row =
      let n : nat_eq (length s) 12 ≡ true = eq-eqb _ _ l in
      rw (n, bytes_row)

-- a sheet of any lawful bytes
pub made_of : (s : List ℕ) → Octets s → takings_lawful s ≡ true → (x : Takings) × (takings_bytes x ≡ s)
made_of s h l =
    let both = and_parts (length s == 12) (in_range_lem (to_z w64 (value (take 8 s)))) l in
    let len : length s ≡ 12 = eqb-true _ _ both.0 in
    let z = to_z w64 (value (take 8 s)) in
    let four : length (drop 8 s) ≡ 4 = simp length-drop (omega arith) in
    let fits : value (drop 8 s) < 2 ^ 32 = subst (λ n. value (drop 8 s) < 256 ^ n) four (value_lt (drop 8 s) (octets_drop 8 s h)) in
    (make z (value (drop 8 s)) (within z both.1) fits, bytes_row s h len)

-- what a row holds is lawful
pub kept_of : (r : TakingsRow) (s : List ℕ) → takings_held r ≡ Some s → (takings_lawful s ≡ true) × Octets s
kept_of r s e = go (in_range_lem r.cents) refl e
  where
    go : (b : Bool) → in_range_lem r.cents ≡ b → cond b (Some (amount_bytes r.cents r.receipts)) None ≡ Some s → (takings_lawful s ≡ true) × Octets s
    go true i e =
        let q : amount_bytes r.cents r.receipts ≡ s = cc in
        (subst (λ t. takings_lawful t ≡ true) q (amount_lawful r.cents r.receipts i), subst Octets q (amount_octets r.cents r.receipts))
    go false i e = absurd (let z : ◌≡◌ {A = ℕ} 0 1 = cc in omega arith)

-- the row made of the bytes of an amount in range has its numbers
pub row_of : (z : ℤ) (n : ℕ) → in_range_lem z ≡ true → n < 2 ^ 32 → record { cents = z; receipts = n } ≡ takings_row (amount_bytes z n)
row_of z n i f =
    ap₂ (λ u v. record { cents = u; receipts = v })
    (sym (ap (to_z w64) (value_be_lt 8 _ (bits_lt z i)) ∙ to_z-of_z w64 z (range_fits z i)))
    (sym (value_be_lt 4 n f))

-- a row holds a sheet exactly if it has the sheet's fields
pub is_held : (x : Takings) (r : TakingsRow) → x.cents ≡ r.cents → x.receipts ≡ r.receipts → true ≡ holds (takings_bytes x) (takings_held r)
is_held x r p q =
    let i : in_range_lem r.cents ≡ true = ap in_range_lem (sym p) ∙ in_range_of x in
    let e : takings_held r ≡ Some (takings_bytes x) = cond-true (in_range_lem r.cents) _ _ i ∙ ap₂ (λ a b. Some (amount_bytes a b)) (sym p) (sym q) in
    sym (ap (holds (takings_bytes x)) e ∙ (bytes_eq-Decides (takings_bytes x) (takings_bytes x)).1 refl)

pub not_held : (x : Takings) (r : TakingsRow) → r.receipts < 2 ^ 32 → ((x.cents ≡ r.cents) → (x.receipts ≡ r.receipts) → ⊥) → false ≡ holds (takings_bytes x) (takings_held r)
not_held x r f h = go (in_range_lem r.cents) refl
  where
    go : (b : Bool) → in_range_lem r.cents ≡ b → false ≡ holds (takings_bytes x) (cond b (Some (amount_bytes r.cents r.receipts)) None)
    go false i = refl
    go true i = sym (no_true _ (λ t.
        let e = (bytes_eq-Decides (amount_bytes r.cents r.receipts) (takings_bytes x)).0 t in
        let q = amount_alone r.cents x.cents r.receipts x.receipts i (in_range_of x) f x.fits e in
        h (sym q.0) (sym q.1)))

-- takings that were made have the numbers that were asked
pub made_facts : (z : ℤ) (n : ℕ) (x : Takings) → Ok (fields x) ≡ takings_made z n → (in_range_lem z ≡ true) × (x.cents ≡ z) × (x.receipts ≡ n)
made_facts z n x e = go (in_range_lem z) refl e
  where
    go : (b : Bool) → in_range_lem z ≡ b → Ok (fields x) ≡ cond b (Ok (record { cents = z; receipts = n })) (refused 1 0) → (in_range_lem z ≡ true) × (x.cents ≡ z) × (x.receipts ≡ n)
    go true i e = let q : fields x ≡ record { cents = z; receipts = n } = cc in (i, ap (λ r. r.cents) q, ap (λ r. r.receipts) q)
    go false i e = absurd (let z : ◌≡◌ {A = ℕ} 0 1 = cc in omega arith)
