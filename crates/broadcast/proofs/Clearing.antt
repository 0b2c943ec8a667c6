-- Clearing a table row by row. Assumes nothing.
use Rattle.std.proofs.Common.{◌≡◌, ℕ, zero, suc, ◌+◌, ◌<◌, true, List, [], ◌∷◌, ◌++◌, length, get_or, take, drop, set, replicate, None, refl, ap, ◌∙◌, ap₂, add-one, arith, append-nil}
use Rattle.messages.specs.Reading.{Syntax}
use Rattle.sheets.specs.Holds.{Rows}
use Rattle.slots.specs.Places.{all_places}
use Rattle.slots.specs.Steps.{cleared}
use Rattle.broadcast.specs.Calls.{Fresh, fits_hall, Opened}
use Rattle.slots.specs.declared.slot.Slot.{Slot}
use Rattle.broadcast.specs.Opening.{cleared_to}

one_more : {X : Type 0} (i : ℕ) (v : X) (xs : List X) → i < length xs → set (cleared_to i v xs) i v ≡ cleared_to (suc i) v xs
one_more zero v [] h = absurd (omega arith)
one_more zero v (x ∷ xs) h = refl
one_more (suc i) v [] h = absurd (omega arith)
one_more (suc i) v (x ∷ xs) h = ap (λ l. v ∷ l) (one_more i v xs (omega arith))

pub clear_more : {X : Type 0} (i : ℕ) (v : X) (xs : List X) → i < length xs → set (cleared_to i v xs) i v ≡ cleared_to (i + 1) v xs
clear_more i v xs h = one_more i v xs h ∙ rw (add-one i)

-- a row at the front of a table is the one that it was filled with
at_front : {X : Type 0} (m i : ℕ) (v d : X) (t : List X) → i < m → get_or (replicate m v ++ t) i d ≡ v
at_front zero i v d t h = absurd (omega arith)
at_front (suc m) zero v d t h = refl
at_front (suc m) (suc i) v d t h = at_front m i v d t (omega arith)

-- what open leaves has nothing delivered and nothing recorded
pub opens : {R : Type 0} (rows : Rows R) (y : Syntax) (rounds : ℕ) (rs rs' : List Slot) (ps ps' : List R) → rows.held rows.vacant ≡ None
    → fits_hall y.replicas (length rs) rounds (length ps) ≡ true → length rs' ≡ length rs → length ps' ≡ length ps
    → rs' ≡ cleared_to y.replicas cleared rs → ps' ≡ cleared_to (all_places y.replicas) rows.vacant ps
    → Opened rows y (record { life = Fresh; slots = record { records = rs'; places = ps' }; rounds = rounds })
opens rows y rounds rs rs' ps ps' none fits lr lp er ep = record {
  fresh = refl;
  sizes = ap₂ (λ a b. fits_hall y.replicas a rounds b) lr lp ∙ fits;
  undelivered = λ k h. ap (λ (r : Slot). r.delivered) (ap (λ l. get_or l k cleared) er ∙ at_front y.replicas k cleared cleared (drop y.replicas rs) h);
  empty = λ p h. ap rows.held (ap (λ l. get_or l p rows.vacant) ep ∙ at_front (all_places y.replicas) p rows.vacant rows.vacant (drop (all_places y.replicas) ps) h) ∙ none;
}

-- clearing the first rows alone, and putting the others after them
pub cleared_front : {X : Type 0} (k : ℕ) (v : X) (xs : List X) → cleared_to k v (take k xs) ++ drop k xs ≡ cleared_to k v xs
cleared_front zero v xs = refl
cleared_front (suc k) v [] = ap (λ l. v ∷ l) (append-nil (replicate k v ++ []))
cleared_front (suc k) v (x ∷ xs) = ap (λ l. v ∷ l) (cleared_front k v xs)
