-- Reading and writing fit: each is the inverse of the other. Assumes nothing.
use Rattle.std.proofs.Common.{◌≡◌, ℕ, ◌+◌, ◌-◌, ◌/◌, ◌%◌, ◌<◌, ◌≤◌, Bool, true, false, cond, eqb, ltb, leb, List, [], ◌∷◌, ◌++◌, length, get_or, take, drop, Some, None, Ok, Err, Option, Result, sym, refl, ap, ◌∙◌, ap₂, arith, length-drop}
use borrow.Rule.Slice.PartMut.{put_mid}
use Rattle.std.proofs.lemmas.List.{take_rest}
use Rattle.std.proofs.lemmas.Bool.{eq-eqb, ne_eqb, lt-ltb, le-ltb, le-leb, lt-leb, ltb-true, ltb-false, eqb-true, leb-true, and_parts, cond-false}
use Rattle.std.proofs.lemmas.Bool.Decides.{nat_tests}
use Rattle.basis.specs.Bytes.{be, Octets}
use Rattle.basis.specs.Refusals.{Refused, refused, refusal, told}
use Rattle.basis.specs.declared.refusal.Reason.TheVariants.{ValueNotLawful}
use Rattle.basis.specs.declared.refusal.Refusal.{Refusal}
use Rattle.messages.specs.Tags.{phase_tag, phase_of_lem, vote_tag, vote_of, bits_number, bits_of, is_set_tag, shape_at}
use Rattle.messages.specs.Writing.{written, bit_number, body_length, write_output}
use Rattle.messages.specs.Reading.{Syntax, Placed, reading, head_reading, body_reading, value_reading, set_reading, round_in, shaped, declared, and_then, plain, Lawful, placed, Exact}
use Rattle.messages.specs.declared.message.BitSet.{BitSet}
use Rattle.messages.specs.declared.message.BitSet.TheVariants.{Zero, One, Both}
use Rattle.messages.specs.declared.message.Message.{Message}
use Rattle.messages.specs.declared.message.Message.TheVariants.{Sheet, Bit, Set, Share}
use Rattle.messages.specs.declared.message.Phase.{Phase}
use Rattle.messages.specs.declared.message.Phase.TheVariants.{Send, Echo, Ready}
use Rattle.messages.specs.declared.message.Shape.{Shape}
use Rattle.messages.specs.declared.message.Shape.TheVariants as shape
use Rattle.messages.specs.declared.message.Vote.{Vote}
use Rattle.messages.specs.declared.message.Vote.TheVariants.{First, Second}
use Rattle.messages.proofs.Lists.{six, four, passed, failed, headed, put_sheet}

-- a packet whose head is right is read by its body
pub headed_reading : (y : Syntax) (s : Shape) (xs : List ℕ) → 3 ≤ length xs → length xs ≡ 3 + declared xs → shape_at y.tags y.shares (get_or xs 0 0) ≡ Some s → declared xs ≡ body_length y.size s → reading y xs ≡ body_reading y xs s
headed_reading y s xs h e f g =
    let a : ltb (length xs) 3 ≡ false = le-ltb _ _ h in
    let b : ltb (length xs) (3 + declared xs) ≡ false = le-ltb _ _ (omega arith) in
    let d : ltb (3 + declared xs) (length xs) ≡ false = le-ltb _ _ (omega arith) in
    let w : eqb (declared xs) (body_length y.size s) ≡ true = eq-eqb _ _ g in
    rw (a, b, d, f, w)

phase_shape : (used : ℕ → Bool) (shares : Bool) (ph : Phase) → shape_at used shares (phase_tag ph) ≡ Some shape.Sheet
phase_shape used shares Send = refl
phase_shape used shares Echo = refl
phase_shape used shares Ready = refl

phase_back : (ph : Phase) → phase_of_lem (phase_tag ph) ≡ ph
phase_back Send = refl
phase_back Echo = refl
phase_back Ready = refl

vote_shape : (used : ℕ → Bool) (shares : Bool) (v : Vote) → shape_at used shares (vote_tag v) ≡ Some shape.Bit
vote_shape used shares First = refl
vote_shape used shares Second = refl

vote_back : (v : Vote) → vote_of (vote_tag v) ≡ v
vote_back First = refl
vote_back Second = refl

bits_back : (v : BitSet) → bits_of (bits_number v) ≡ Some v
bits_back Zero = refl
bits_back One = refl
bits_back Both = refl

set_shape : (used : ℕ → Bool) (shares : Bool) (t : ℕ) → is_set_tag t ≡ true → used t ≡ true → shape_at used shares t ≡ Some shape.Set
set_shape used shares t i u =
    let low : 34 ≤ t = leb-true _ _ (and_parts _ _ i).0 in
    let z : leb 16 t ≡ true = le-leb _ _ (omega arith) in
    let a : leb t 18 ≡ false = lt-leb _ _ (omega arith) in
    let b : eqb t 32 ≡ false = ne_eqb _ _ (λ e. omega arith) in
    let d : eqb t 33 ≡ false = ne_eqb _ _ (λ e. omega arith) in
    rw (z, a, b, d, i, u)

module _ (y : Syntax) (k r : ℕ) (low : ltb k y.replicas ≡ true) (last : leb r 15 ≡ true) where
  zeroth : leb 0 r ≡ true
  zeroth = le-leb _ _ (omega arith)

  bit_body : (v : Vote) (b : Bool) → body_reading y (written (Bit v k r b)) shape.Bit ≡ Ok (Bit v k r b)
  bit_body First true = rw (low, zeroth, last)
  bit_body First false = rw (low, zeroth, last)
  bit_body Second true = rw (low, zeroth, last)
  bit_body Second false = rw (low, zeroth, last)

  set_body : (t : ℕ) (v : BitSet) → leb 1 r ≡ true → body_reading y (written (Set t k r v)) shape.Set ≡ Ok (Set t k r v)
  set_body t v one = rw (low, one, last, bits_back v)

  share_body : (x : ℕ) → leb 1 r ≡ true → leb x 250 ≡ true → body_reading y (written (Share k r x)) shape.Share ≡ Ok (Share k r x)
  share_body x one most = rw (low, one, last, most)

module _ (y : Syntax) (sized : (s : List ℕ) → y.lawful s ≡ true → length s ≡ y.size) (short : y.size + 1 < 65536) where
  back : (m : Message (List ℕ)) → Lawful y m → reading y (written m) ≡ Ok (placed m)
  back (Sheet ph k s) (lt, law) =
      let len = sized s law in
      let xs = written (Sheet ph k s) in
      let says : declared xs ≡ y.size + 1 = omega arith in
      let low : ltb k y.replicas ≡ true = lt-ltb _ _ lt in
      headed_reading y shape.Sheet xs (omega arith) (omega arith) (phase_shape y.tags y.shares ph) says
      ∙ rw (low, law, phase_back ph)
  back (Bit v k r b) (lt, top) =
      headed_reading y shape.Bit (written (Bit v k r b)) (omega arith) (omega arith) (vote_shape y.tags y.shares v) refl
      ∙ bit_body y k r (lt-ltb _ _ lt) (le-leb _ _ top) v b
  back (Set t k r v) (lt, bottom, top, tag, used) =
      headed_reading y shape.Set (written (Set t k r v)) (omega arith) (omega arith) (set_shape y.tags y.shares t tag used) refl
      ∙ set_body y k r (lt-ltb _ _ lt) (le-leb _ _ top) t v (le-leb _ _ bottom)
  back (Share k r x) (lt, bottom, top, most, shares) =
      headed_reading y shape.Share (written (Share k r x)) (omega arith) (omega arith) (rw shares) refl
      ∙ share_body y k r (lt-ltb _ _ lt) (le-leb _ _ top) x (le-leb _ _ bottom) (le-leb _ _ most)

-- what the tag of each shape can be
phase_forth : (y : Syntax) (t : ℕ) → shape_at y.tags y.shares t ≡ Some shape.Sheet → t ≡ phase_tag (phase_of_lem t)
phase_forth y t e = grind (arith, nat_tests)

vote_forth : (y : Syntax) (t : ℕ) → shape_at y.tags y.shares t ≡ Some shape.Bit → t ≡ vote_tag (vote_of t)
vote_forth y t e = grind (arith, nat_tests)

set_forth : (y : Syntax) (t : ℕ) → shape_at y.tags y.shares t ≡ Some shape.Set → (is_set_tag t ≡ true) × (y.tags t ≡ true)
set_forth y t e = (grind (arith, nat_tests), grind (arith, nat_tests))

share_forth : (y : Syntax) (t : ℕ) → shape_at y.tags y.shares t ≡ Some shape.Share → (t ≡ 48) × (y.shares ≡ true)
share_forth y t e = (grind (arith, nat_tests), grind (arith, nat_tests))

bit_forth : (x : ℕ) → leb x 1 ≡ true → x ≡ bit_number (eqb x 1)
bit_forth x h = grind (arith, nat_tests)

bits_forth : (x : ℕ) (v : BitSet) → bits_of x ≡ Some v → x ≡ bits_number v
bits_forth x v e = grind (arith, nat_tests)

module _ (y : Syntax) (xs : List ℕ) (octets : Octets xs) where
  -- some lawful message is written in these bytes and read from them
  abbrev Found : Message Placed → Type 0
  Found p = (m : Message (List ℕ)) × Lawful y m × (xs ≡ written m) × (p ≡ placed m)

  -- the length of three bytes is written in two
  short_head : length xs ≡ 3 + declared xs → declared xs ≡ 3 → xs ≡ get_or xs 0 0 ∷ 0 ∷ 3 ∷ get_or xs 3 0 ∷ get_or xs 4 0 ∷ get_or xs 5 0 ∷ []
  short_head l s =
      let a : get_or xs 1 0 ≡ 0 = omega (arith, octets 1, octets 2) in
      let b : get_or xs 2 0 ≡ 3 = omega (arith, octets 1, octets 2) in
      six xs (omega arith) ∙ ap₂ (λ u v. get_or xs 0 0 ∷ u ∷ v ∷ get_or xs 3 0 ∷ get_or xs 4 0 ∷ get_or xs 5 0 ∷ []) a b

  sheet_head : length xs ≡ 3 + declared xs → 4 ≤ length xs → xs ≡ get_or xs 0 0 ∷ (be 2 (length (get_or xs 3 0 ∷ drop 4 xs)) ++ (get_or xs 3 0 ∷ drop 4 xs))
  sheet_head l m =
      let n = length-drop 4 xs in
      let a : get_or xs 1 0 ≡ length (get_or xs 3 0 ∷ drop 4 xs) / 256 % 256 = omega (arith, octets 1, octets 2) in
      let b : get_or xs 2 0 ≡ length (get_or xs 3 0 ∷ drop 4 xs) / 1 % 256 = omega (arith, octets 1, octets 2) in
      four xs m ∙ ap₂ (λ u v. get_or xs 0 0 ∷ u ∷ v ∷ get_or xs 3 0 ∷ drop 4 xs) a b

  rounds : (first : ℕ) → round_in first xs ≡ true → (first ≤ get_or xs 4 0) × (get_or xs 4 0 ≤ 15)
  rounds first e = let p = and_parts _ _ e in (leb-true _ _ p.0, leb-true _ _ p.1)

  by_shape : (s : Shape) (p : Message Placed) → shape_at y.tags y.shares (get_or xs 0 0) ≡ Some s → length xs ≡ 3 + declared xs → declared xs ≡ body_length y.size s → get_or xs 3 0 < y.replicas → value_reading y xs s ≡ Ok p → Found p
  by_shape shape.Sheet p t l b k e =
      let law = passed (y.lawful (drop 4 xs)) (Ok (Sheet (phase_of_lem (get_or xs 0 0)) (get_or xs 3 0) (record { at = 4; bytes = drop 4 xs }))) (record { number = 11; place = 4 }) p e in
      let w = law.1 in
      let q : Sheet (phase_of_lem (get_or xs 0 0)) (get_or xs 3 0) (record { at = 4; bytes = drop 4 xs }) ≡ p = cc in
      (Sheet (phase_of_lem (get_or xs 0 0)) (get_or xs 3 0) (drop 4 xs), (k, law.0), sheet_head l (omega arith) ∙ ap (λ u. u ∷ (be 2 (length (get_or xs 3 0 ∷ drop 4 xs)) ++ (get_or xs 3 0 ∷ drop 4 xs))) (phase_forth y (get_or xs 0 0) t), sym q)
  by_shape shape.Bit p t l b k e =
      let r = passed (round_in 0 xs) (cond (leb (get_or xs 5 0) 1) (Ok (Bit (vote_of (get_or xs 0 0)) (get_or xs 3 0) (get_or xs 4 0) (eqb (get_or xs 5 0) 1))) (refused 11 5)) (record { number = 10; place = 4 }) p e in
      let v = passed (leb (get_or xs 5 0) 1) (Ok (Bit (vote_of (get_or xs 0 0)) (get_or xs 3 0) (get_or xs 4 0) (eqb (get_or xs 5 0) 1))) (record { number = 11; place = 5 }) p r.1 in
      let w = v.1 in
      let q : Bit (vote_of (get_or xs 0 0)) (get_or xs 3 0) (get_or xs 4 0) (eqb (get_or xs 5 0) 1) ≡ p = cc in (
        Bit (vote_of (get_or xs 0 0)) (get_or xs 3 0) (get_or xs 4 0) (eqb (get_or xs 5 0) 1),
        (k, (rounds 0 r.0).1),
        short_head l b ∙ ap₂ (λ u x. u ∷ 0 ∷ 3 ∷ get_or xs 3 0 ∷ get_or xs 4 0 ∷ x ∷ []) (vote_forth y (get_or xs 0 0) t) (bit_forth (get_or xs 5 0) v.0),
        sym q,
      )
  by_shape shape.Set p t l b k e =
      let r = passed (round_in 1 xs) (set_reading xs (bits_of (get_or xs 5 0))) (record { number = 10; place = 4 }) p e in
      let i = rounds 1 r.0 in
      go (bits_of (get_or xs 5 0)) refl r.1 i
    where
      go : (o : Option BitSet) → bits_of (get_or xs 5 0) ≡ o → set_reading xs o ≡ Ok p → (1 ≤ get_or xs 4 0) × (get_or xs 4 0 ≤ 15) → Found p
      go None o e i = absurd (let z : ◌≡◌ {A = ℕ} 0 1 = cc in omega arith)
      go (Some v) o e i =
          let q : Set (get_or xs 0 0) (get_or xs 3 0) (get_or xs 4 0) v ≡ p = cc in
          let u = set_forth y (get_or xs 0 0) t in
          (Set (get_or xs 0 0) (get_or xs 3 0) (get_or xs 4 0) v, (k, i.0, i.1, u.0, u.1), short_head l b ∙ ap (λ x. get_or xs 0 0 ∷ 0 ∷ 3 ∷ get_or xs 3 0 ∷ get_or xs 4 0 ∷ x ∷ []) (bits_forth (get_or xs 5 0) v o), sym q)
  by_shape shape.Share p t l b k e =
      let r = passed (round_in 1 xs) (cond (leb (get_or xs 5 0) 250) (Ok (Share (get_or xs 3 0) (get_or xs 4 0) (get_or xs 5 0))) (refused 11 5)) (record { number = 10; place = 4 }) p e in
      let v = passed (leb (get_or xs 5 0) 250) (Ok (Share (get_or xs 3 0) (get_or xs 4 0) (get_or xs 5 0))) (record { number = 11; place = 5 }) p r.1 in
      let w = v.1 in
      let i = rounds 1 r.0 in
      let u = share_forth y (get_or xs 0 0) t in
      let q : Share (get_or xs 3 0) (get_or xs 4 0) (get_or xs 5 0) ≡ p = cc in (
        Share (get_or xs 3 0) (get_or xs 4 0) (get_or xs 5 0),
        (k, i.0, i.1, leb-true _ _ v.0, u.1),
        short_head l b ∙ ap (λ x. x ∷ 0 ∷ 3 ∷ get_or xs 3 0 ∷ get_or xs 4 0 ∷ get_or xs 5 0 ∷ []) u.0,
        sym q,
      )

  -- the head that was read: one whole message, a used tag, its right length
  head_facts : (s : Shape) → head_reading y xs ≡ Ok s → (length xs ≡ 3 + declared xs) × (shape_at y.tags y.shares (get_or xs 0 0) ≡ Some s) × (declared xs ≡ body_length y.size s)
  head_facts s e =
      let a = failed (ltb (length xs) 3) _ _ s e in
      let b = failed (ltb (length xs) (3 + declared xs)) _ _ s a.1 in
      let d = failed (ltb (3 + declared xs) (length xs)) _ _ s b.1 in
      let r = go (shape_at y.tags y.shares (get_or xs 0 0)) refl d.1 in
      (omega (arith, ltb-false _ _ b.0, ltb-false _ _ d.0), r.0, r.1)
    where
      go : (o : Option Shape) → shape_at y.tags y.shares (get_or xs 0 0) ≡ o → shaped y xs o ≡ Ok s → (shape_at y.tags y.shares (get_or xs 0 0) ≡ Some s) × (declared xs ≡ body_length y.size s)
      go None o e = absurd (let z : ◌≡◌ {A = ℕ} 0 1 = cc in omega arith)
      go (Some s') o e =
          let w = passed (eqb (declared xs) (body_length y.size s')) (Ok s') (record { number = 8; place = 1 }) s e in
          let v = w.1 in
          let q : s' ≡ s = cc in
          (o ∙ ap Some q, eqb-true _ _ w.0 ∙ ap (body_length y.size) q)

  only : (p : Message Placed) → reading y xs ≡ Ok p → Found p
  only p e = go (head_reading y xs) refl e
    where
      go : (h : Result Shape Refused) → head_reading y xs ≡ h → and_then h (body_reading y xs) ≡ Ok p → Found p
      go (Err r) o e = absurd (let z : ◌≡◌ {A = ℕ} 0 1 = cc in omega arith)
      go (Ok s) o e =
          let f = head_facts s o in
          let k = passed (ltb (get_or xs 3 0) y.replicas) (value_reading y xs s) (record { number = 9; place = 3 }) p e in
          by_shape s p f.1 f.0 f.2 (ltb-true _ _ k.0) k.1

pub exact : (y : Syntax) → ((s : List ℕ) → y.lawful s ≡ true → length s ≡ y.size) → y.size + 1 < 65536 → Exact y
exact y sized short = record { back = back y sized short; only = λ xs octets p e. only y xs octets p e }

-- a packet's sheet that is not lawful, and one that is
abbrev sheet_reading : (List ℕ → Bool) → List ℕ → Result (Message Placed) Refused
sheet_reading lawful xs = cond (lawful (drop 4 xs)) (Ok (Sheet (phase_of_lem (get_or xs 0 0)) (get_or xs 3 0) (record { at = 4; bytes = drop 4 xs }))) (refused 11 4)

-- a tag tells its phase
pub phase_known : (ph : Phase) (t : ℕ) → phase_tag ph ≡ t → ph ≡ phase_of_lem t
phase_known Send t e = ap phase_of_lem e
phase_known Echo t e = ap phase_of_lem e
phase_known Ready t e = ap phase_of_lem e

pub unlawful_sheet : (lawful : List ℕ → Bool) (xs : List ℕ) (e : Refusal) → e ≡ refusal ValueNotLawful 4 → lawful (drop 4 xs) ≡ false → told (Err e) ≡ sheet_reading lawful xs
unlawful_sheet lawful xs e q law = rw (q, law)

pub lawful_sheet : (lawful : List ℕ → Bool) (xs : List ℕ) (ph : Phase) → ph ≡ phase_of_lem (get_or xs 0 0) → lawful (drop 4 xs) ≡ true → Ok (Sheet ph (get_or xs 3 0) (record { at = 4; bytes = take (length xs - 4) (drop 4 xs) })) ≡ sheet_reading lawful xs
lawful_sheet lawful xs ph q law = rw (q, law, take_rest xs 4)

-- a reading stops where the head is refused, and else goes on with the body
pub head_refused : (y : Syntax) (xs : List ℕ) (e : Refusal) → told {X = Shape} (Err e) ≡ head_reading y xs → plain (Err e) ≡ reading y xs
head_refused y xs e h = ap (λ r. and_then r (body_reading y xs)) h

pub head_passed : (y : Syntax) (xs : List ℕ) (s : Shape) (r : Result (Message Placed) Refused) → told (Ok s) ≡ head_reading y xs → r ≡ body_reading y xs s → r ≡ reading y xs
head_passed y xs s r h e = e ∙ ap (λ r. and_then r (body_reading y xs)) h

-- what writing a sheet message leaves: its head, its slot and its sheet, and the rest as it was
pub sheet_written : (out e bs : List ℕ) (ph : Phase) (k len t high low slot : ℕ) → len ≡ length (written (Sheet ph k bs)) → t ≡ phase_tag ph → high ≡ (len - 3) / 256 % 256 → low ≡ (len - 3) % 256 → slot ≡ k → len ≤ length out
    → e ≡ bs ++ drop (length bs) (take (length (headed out t high low slot) - 4) (drop 4 (headed out t high low slot)))
    → put_mid 4 (length (headed out t high low slot) - 4) (headed out t high low slot) e ≡ write_output (written (Sheet ph k bs)) out
sheet_written out e bs ph k len t high low slot l tq hq lq kq fits q =
    let w = written (Sheet ph k bs) in
    let n : len - 3 ≡ length (k ∷ bs) = omega arith in
    let a : high ≡ length (k ∷ bs) / 256 % 256 = hq ∙ ap (λ x. x / 256 % 256) n in
    let b : low ≡ length (k ∷ bs) / 1 % 256 = lq ∙ omega arith in
    let all : 4 + length bs ≡ length w = omega arith in
    let room : ltb (length out) (length w) ≡ false = le-ltb _ _ (omega arith) in
    put_sheet out e bs t high low slot (length bs) (omega arith) q
    ∙ ap₂ (λ x y. (x ∷ high ∷ low ∷ y ∷ bs) ++ drop (4 + length bs) out) tq kq
    ∙ ap₂ (λ x y. (phase_tag ph ∷ x ∷ y ∷ k ∷ bs) ++ drop (4 + length bs) out) a b
    ∙ ap (λ x. w ++ drop x out) all
    ∙ sym (cond-false (ltb (length out) (length w)) out (w ++ drop (length w) out) room)
