-- Writing the fields of the closing record one after the other. Assumes nothing.
use Rattle.std.proofs.Common.{◌≡◌, ℕ, zero, suc, ◌+◌, ◌-◌, ◌*◌, ◌<◌, ◌≤◌, Bool, true, false, cond, List, [], ◌++◌, length, drop, Some, None, Option, sym, refl, ap, ◌∙◌, ap₂, ⊎_elim, add-one, arith, length-append, length-drop, append-nil, append_assoc}
use Rattle.std.specs.Prelude.{slice_index_or}
use Rattle.std.proofs.lemmas.List.{drop-drop}
use Rattle.std.proofs.lemmas.Bool.{cases_eq, le-ltb}
use lib.Seq.{take_at, drop_at}
use borrow.Rule.Slice.PartMut.{put_mid}
use Rattle.basis.specs.Counts.{count}
use Rattle.messages.specs.declared.message.Phase.TheVariants.{Ready}
use Rattle.messages.specs.Writing.{write_output}
use Rattle.sheets.specs.Holds.{Rows}
use Rattle.slots.specs.Places.{sheet_of}
use Rattle.slots.specs.Steps.{cleared}
use Rattle.outcomes.specs.Closing.{ClosingView, sheet_of_slot, is_decided_in, listed_sheet, is_listed, sheet_field, field_if_any, sheet_fields}
use Rattle.closing.specs.RecordLength.{RecordLength}
use Rattle.closing.specs.Telling.{over}

-- a part is written right after bytes that stand at the start
pub put_next : (ys field out xs : List ℕ) (a e : ℕ) → xs ≡ over ys out → a ≡ length ys → e ≡ a + length field → put_mid a (e - a) xs field ≡ over (ys ++ field) out
put_next ys field out xs a e x p q =
    let k : e - a ≡ length field = omega (arith, q) in
    let rest : drop (length field) (drop (length ys) (over ys out)) ≡ drop (length (ys ++ field)) out =
    ap (drop (length field)) (drop_at ys (drop (length ys) out) (length ys) refl) ∙ drop-drop (length field) (length ys) out ∙ ap (λ z. drop z out) (sym (length-append ys field)) in
    ap₂ (λ z i. put_mid i (e - a) z field) x p ∙ ap (λ z. put_mid (length ys) z (over ys out) field) k
    ∙ ap₂ (λ s t. s ++ (field ++ t)) (take_at ys (drop (length ys) out) (length ys) refl) rest
    ∙ sym (append_assoc ys field (drop (length (ys ++ field)) out))

-- bytes written over an output leave its length
pub over_length : (ys out : List ℕ) → length ys ≤ length out → length (over ys out) ≡ length out
over_length ys out h = let a = length-append ys (drop (length ys) out) in let d = length-drop (length ys) out in omega (arith, a, d)

-- the first field and then the others, in an output that is long enough
pub put_record : (head fields out : List ℕ) (k : ℕ) → k ≡ length head → length (head ++ fields) ≤ length out → head ++ over fields (drop k out) ≡ write_output (head ++ fields) out
put_record head fields out k p long =
    let e : drop (length fields) (drop k out) ≡ drop (length (head ++ fields)) out = drop-drop (length fields) k out ∙ ap (λ z. drop z out) (let l = length-append head fields in omega (arith, p, l)) in
    sym (append_assoc head fields (drop (length fields) (drop k out))) ∙ ap (λ z. (head ++ fields) ++ z) e
    ∙ sym (ap (λ b. cond b out ((head ++ fields) ++ drop (length (head ++ fields)) out)) (le-ltb (length out) (length (head ++ fields)) long))

-- rows hold sheets of this length
abbrev pub SizedRows : {R : Type 0} → Rows R → ℕ → Type 0
SizedRows {R} rows size = (r : R) (s : List ℕ) → rows.held r ≡ Some s → length s ≡ size

module _ {R : Type 0} (rows : Rows R) (size : ℕ) (sized : SizedRows rows size) (n kind : ℕ) (v : ClosingView R) where
  abbrev fields : ℕ → List ℕ
  fields m = sheet_fields rows n v size kind m

  -- one field more
  pub fields_more : (k : ℕ) (s : List ℕ) → Some s ≡ listed_sheet rows n v k → fields (k + 1) ≡ fields k ++ sheet_field size k s
  unfolding sheet_fields
  fields_more k s e = rw (add-one k) (ap (λ o. fields k ++ field_if_any size k o) (sym e))

  pub fields_same : (k : ℕ) → None ≡ listed_sheet rows n v k → fields (k + 1) ≡ fields k
  unfolding sheet_fields
  fields_same k e = rw (add-one k) (ap (λ o. fields k ++ field_if_any size k o) (sym e) ∙ append-nil (fields k))

  -- a listed sheet has its kind's length
  pub listed_length : (k : ℕ) (s : List ℕ) → listed_sheet rows n v k ≡ Some s → length s ≡ size
  listed_length k s e = go (is_decided_in rows n v k) e
    where
      by : (d : Option ℕ) → sheet_of rows n v.slots.places Ready k d ≡ Some s → length s ≡ size
      by None e = absurd (let z : ◌≡◌ {A = ℕ} 0 1 = cc in omega arith)
      by (Some j) e = sized _ s e

      go : (b : Bool) → cond b (sheet_of_slot rows n v k) None ≡ Some s → length s ≡ size
      go true e = by (slice_index_or v.slots.records k cleared).delivered e
      go false e = absurd (let z : ◌≡◌ {A = ℕ} 0 1 = cc in omega arith)

  pub field_length : (k : ℕ) (s : List ℕ) → listed_sheet rows n v k ≡ Some s → length (sheet_field size k s) ≡ size + 4
  field_length k s e = let l = listed_length k s e in omega (arith, l)

  -- the fields are as long as so many fields of one sheet
  pub fields_length : (m : ℕ) → length (fields m) ≡ (size + 4) * count m (is_listed rows n v)
  unfolding sheet_fields count
  fields_length zero = omega arith
  fields_length (suc m) = by (listed_sheet rows n v m) refl (fields_length m)
    where
      by : (o : Option (List ℕ)) → listed_sheet rows n v m ≡ o → length (fields m) ≡ (size + 4) * count m (is_listed rows n v)
          → length (fields m ++ field_if_any size m (listed_sheet rows n v m)) ≡ (size + 4) * (cond (is_listed rows n v m) 1 0 + count m (is_listed rows n v))
      by None e ih = rw e (let q = length-append (fields m) [] in omega (arith, q, ih))
      by (Some s) e ih = rw e (let q = length-append (fields m) (sheet_field size m s) in let l = field_length m s e in omega (arith, q, ih, l))

  -- there is room for one more field below n
  pub room_to : (i m : ℕ) → i ≤ m → length (fields i) ≤ length (fields m)
  unfolding sheet_fields
  room_to i zero h = let z : i ≡ 0 = omega arith in rw z (omega arith)
  room_to i (suc m) h = ⊎_elim
      (λ e. rw e (omega arith))
      (λ ne. let r = room_to i m (omega arith) in let q = length-append (fields m) (field_if_any size m (listed_sheet rows n v m)) in omega (arith, r, q))
      (cases_eq i (suc m))

  pub room : (k : ℕ) (s : List ℕ) → k < n → Some s ≡ listed_sheet rows n v k → length (fields k) + (size + 4) ≤ length (fields n)
  room k s lt e =
      let r = room_to (k + 1) n (omega arith) in
      let q = ap length (fields_more k s e) ∙ length-append (fields k) (sheet_field size k s) in
      let l = field_length k s (sym e) in
      omega (arith, r, q, l)

  -- a listed replica's field is written after those before
  pub put_field : (k : ℕ) (s : List ℕ) (a e : ℕ) (xs out : List ℕ) → Some s ≡ listed_sheet rows n v k → a ≡ length (fields k) → xs ≡ over (fields k) out → e ≡ a + (size + 4)
      → (e ≡ length (fields (k + 1))) × (put_mid a (e - a) xs (sheet_field size k s) ≡ over (fields (k + 1)) out)
  put_field k s a e xs out here p x q =
      let field = sheet_field size k s in
      let more = fields_more k s here in
      let wide = field_length k s (sym here) in
      let long = ap length more ∙ length-append (fields k) field in
      let q' : e ≡ a + length field = omega (arith, q, wide) in
      (omega (arith, q, p, wide, long), put_next (fields k) field out xs a e x p q' ∙ ap (λ f. over f out) (sym more))

-- the whole record is seven bytes longer
pub record_length : {R : Type 0} (rows : Rows R) (size : ℕ) → SizedRows rows size → RecordLength rows size
record_length rows size sized n kind v = let f = fields_length rows size sized n kind v n in omega (arith, f)
