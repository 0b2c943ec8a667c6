-- The lines of a record, field by field. Assumes nothing.
use Rattle.std.proofs.Common.{◌≡◌, ℕ, zero, suc, ◌+◌, ◌*◌, ◌/◌, ◌%◌, ◌^◌, ◌<◌, ◌≤◌, Bool, true, false, cond, leb, List, [], ◌∷◌, ◌++◌, length, take, drop, Some, None, Option, sym, refl, ap, ◌∙◌, ap₂, arith, length-append, length-drop, append-nil, append_assoc}
use Rattle.std.proofs.lemmas.Bool.{le-leb, lt-leb, leb-true}
use lib.Seq.{take_at, drop_at}
use Rattle.basis.specs.Bytes.{be}
use Rattle.basis.proofs.Digits.{value_be_lt}
use Rattle.closing.proofs.Fields.{SizedRows, listed_length}
use Rattle.messages.specs.Reading.{declared}
use Rattle.outcomes.specs.Closing.{ClosingView, listed_sheet, listed_set, sheet_field, field_if_any, sheet_fields, head_field, closing_record}
use Rattle.sheets.specs.Holds.{Rows}
use Rattle.sheets.specs.OfTakings.{in_range_lem, amount_bytes, takings_rows}
use Rattle.text.specs.Hexadecimals.{hexed}
use Rattle.halls.specs.Prints.{hex_line, field_split, line_then, lines_within, split_lines, line_if_any, sheet_lines, record_lines, RecordLines}

abbrev Split : Type 0
Split = Option (List ℕ × List ℕ)

abbrev end_of : List ℕ → ℕ
end_of xs = 3 + declared xs

-- what follows the first field is shorter
rest_shorter : (xs f r : List ℕ) → field_split xs ≡ Some (f, r) → length r < length xs
rest_shorter xs f r e = go (leb (end_of xs) (length xs)) refl e
  where
    go : (b : Bool) → leb (end_of xs) (length xs) ≡ b → ◌≡◌ {A = Split} (cond b (Some (take (end_of xs) xs, drop (end_of xs) xs)) None) (Some (f, r)) → length r < length xs
    go true t e =
        let both : ◌≡◌ {A = List ℕ × List ℕ} (take (end_of xs) xs, drop (end_of xs) xs) (f, r) = cc in
        let same : drop (end_of xs) xs ≡ r = ap (λ p. p.1) both in
        let l = length-drop (end_of xs) xs in
        let m : length (drop (end_of xs) xs) ≡ length r = ap length same in
        let fits : end_of xs ≤ length xs = leb-true (end_of xs) (length xs) t in
        omega (arith, l, m, fits)
    go false t e = absurd (let z : ◌≡◌ {A = ℕ} 0 1 = cc in omega arith)

-- no bytes have no field
none_of_none : (xs : List ℕ) → length xs ≤ 0 → field_split xs ≡ None
none_of_none xs h = ap (λ b. cond {A = Split} b (Some (take (end_of xs) xs, drop (end_of xs) xs)) None) (lt-leb (end_of xs) (length xs) (omega arith))

then_same : (a b : List ℕ → List ℕ) (xs : List ℕ) → ((f r : List ℕ) → field_split xs ≡ Some (f, r) → a r ≡ b r) → line_then a (field_split xs) ≡ line_then b (field_split xs)
then_same a b xs h = go (field_split xs) refl
  where
    go : (o : Split) → field_split xs ≡ o → line_then a o ≡ line_then b o
    go None e = refl
    go (Some (f, r)) e = ap (λ t. hex_line f ++ t) (h f r e)

-- as many fields as bytes are enough
enough : (j k : ℕ) (xs : List ℕ) → length xs ≤ j → length xs ≤ k → lines_within j xs ≡ lines_within k xs
unfolding lines_within
enough zero zero xs p q = refl
enough zero (suc k) xs p q = sym (ap (line_then (lines_within k)) (none_of_none xs p))
enough (suc j) zero xs p q = ap (line_then (lines_within j)) (none_of_none xs q)
enough (suc j) (suc k) xs p q =
    then_same (lines_within j) (lines_within k) xs (λ f r e. let l = rest_shorter xs f r e in enough j k r (omega (arith, l, p)) (omega (arith, l, q)))

one_more : (xs : List ℕ) → split_lines xs ≡ line_then (lines_within (length xs)) (field_split xs)
unfolding lines_within
one_more xs = enough (length xs) (suc (length xs)) xs (omega arith) (omega arith)

-- where no whole field stands, no line is made
pub split_none : (xs : List ℕ) → None ≡ field_split xs → split_lines xs ≡ []
split_none xs e = one_more xs ∙ ap (line_then (lines_within (length xs))) (sym e)

-- else the line of the first field comes first
pub split_some : (xs f r : List ℕ) → Some (f, r) ≡ field_split xs → split_lines xs ≡ hex_line f ++ split_lines r
split_some xs f r e =
    let l = rest_shorter xs f r (sym e) in
    one_more xs ∙ ap (line_then (lines_within (length xs))) (sym e) ∙ ap (λ t. hex_line f ++ t) (enough (length xs) (length r) r (omega (arith, l)) (omega arith))

-- a whole field in front of other bytes is the first field
module _ (tag high low : ℕ) (body rest : List ℕ) (long : length body ≡ high * 256 + low) where
  abbrev field : List ℕ
  field = tag ∷ high ∷ low ∷ body

  whole : Some (field, rest) ≡ field_split (field ++ rest)
  whole =
      let at : length field ≡ 3 + (high * 256 + low) = omega (arith, long) in
      let fits : 3 + (high * 256 + low) ≤ length (field ++ rest) = let l = length-append field rest in omega (arith, at, l) in
      sym (ap (λ b. cond {A = Split} b (Some (take (3 + (high * 256 + low)) (field ++ rest), drop (3 + (high * 256 + low)) (field ++ rest))) None) (le-leb _ _ fits)
      ∙ ap₂ (λ x y. Some (x, y)) (take_at field rest (3 + (high * 256 + low)) at) (drop_at field rest (3 + (high * 256 + low)) at))

  split_field : split_lines (field ++ rest) ≡ hex_line field ++ split_lines rest
  split_field = split_some (field ++ rest) field rest whole

-- one line more is written
pub line_more : (was half now rest field more all : List ℕ) → was ++ split_lines rest ≡ all → half ≡ was ++ hexed field → now ≡ half ++ 10 ∷ [] → Some (field, more) ≡ field_split rest → now ++ split_lines more ≡ all
line_more was half now rest field more all sofar digits feed e =
    ap (λ t. t ++ split_lines more) (feed ∙ ap (λ t. t ++ 10 ∷ []) digits ∙ append_assoc was (hexed field) (10 ∷ [])) ∙ append_assoc was (hex_line field) (split_lines more)
    ∙ ap (λ t. was ++ t) (sym (split_some rest field more e)) ∙ sofar

-- none is left to write
pub lines_end : (was rest all : List ℕ) → was ++ split_lines rest ≡ all → None ≡ field_split rest → was ≡ all
lines_end was rest all sofar e = sym (append-nil was) ∙ ap (λ t. was ++ t) (sym (split_none rest e)) ∙ sofar

module _ {R : Type 0} (rows : Rows R) (size : ℕ) (sized : SizedRows rows size) (short : size + 1 < 65536) (n kind : ℕ) (v : ClosingView R) where
  split_sheet : (k : ℕ) (s rest : List ℕ) → length s ≡ size → split_lines (sheet_field size k s ++ rest) ≡ hex_line (sheet_field size k s) ++ split_lines rest
  split_sheet k s rest l =
      let d = value_be_lt 2 (size + 1) short in
      split_field 65 ((size + 1) / 256 ^ 1 % 256) ((size + 1) / 256 ^ 0 % 256) (k ∷ s) rest (omega (arith, d, l))

  split_any : (k : ℕ) (rest : List ℕ) → split_lines (field_if_any size k (listed_sheet rows n v k) ++ rest) ≡ line_if_any size k (listed_sheet rows n v k) ++ split_lines rest
  split_any k rest = go (listed_sheet rows n v k) refl
    where
      go : (o : Option (List ℕ)) → listed_sheet rows n v k ≡ o → split_lines (field_if_any size k o ++ rest) ≡ line_if_any size k o ++ split_lines rest
      go None e = refl
      go (Some s) e = split_sheet k s rest (listed_length rows size sized n kind v k s e)

  split_sheets : (m : ℕ) (rest : List ℕ) → split_lines (sheet_fields rows n v size kind m ++ rest) ≡ sheet_lines rows n v size kind m ++ split_lines rest
  unfolding sheet_fields sheet_lines
  split_sheets zero rest = refl
  split_sheets (suc m) rest =
      let f = field_if_any size m (listed_sheet rows n v m) in
      let l = line_if_any size m (listed_sheet rows n v m) in
      ap split_lines (append_assoc (sheet_fields rows n v size kind m) f rest) ∙ split_sheets m (f ++ rest)
      ∙ ap (λ t. sheet_lines rows n v size kind m ++ t) (split_any m rest) ∙ sym (append_assoc (sheet_lines rows n v size kind m) l (split_lines rest))

  all_sheets : split_lines (sheet_fields rows n v size kind n) ≡ sheet_lines rows n v size kind n
  unfolding lines_within
  all_sheets = ap split_lines (sym (append-nil (sheet_fields rows n v size kind n))) ∙ split_sheets n [] ∙ append-nil (sheet_lines rows n v size kind n)

  -- a line of the first field, and one of each listed replica's
  pub split_record : split_lines (closing_record rows n v size kind) ≡ record_lines rows n v size kind
  split_record =
      split_field 64 0 4 (kind ∷ (n ∷ be 2 (listed_set rows n v))) (sheet_fields rows n v size kind n) (omega arith)
      ∙ ap (λ t. hex_line (head_field rows n v size kind) ++ t) all_sheets

-- takings have 12 bytes
pub takings_sized : SizedRows takings_rows 12
takings_sized r s e = go (in_range_lem r.cents) e
  where
    go : (b : Bool) → ◌≡◌ {A = Option (List ℕ)} (cond b (Some (amount_bytes r.cents r.receipts)) None) (Some s) → length s ≡ 12
    go true e = let same : amount_bytes r.cents r.receipts ≡ s = cc in sym (ap length same)
    go false e = absurd (let z : ◌≡◌ {A = ℕ} 0 1 = cc in omega arith)

-- the lines of the closing record of takings
pub of_takings : (xs : List ℕ) → RecordLines takings_rows 12 1 xs
unfolding RecordLines
of_takings xs n v e = ap split_lines e ∙ split_record takings_rows 12 takings_sized (omega arith) n 1 v
