-- What a close prints. Assumes nothing.
use Rattle.std.specs.Prelude.{◌≡◌, ℕ, zero, suc, ◌+◌, cond, List, [], ◌∷◌, ◌++◌, length, take, drop, Some, None, codes, Option, nat_le}
use Rattle.std.specs.Fmt.{decimal}
use Rattle.messages.specs.Reading.{declared}
use Rattle.outcomes.specs.Closing.{ClosingView, listed_sheet, sheet_field, head_field, closing_record}
use Rattle.sheets.specs.Holds.{Rows}
use Rattle.text.specs.Hexadecimals.{hexed}

-- the line of a refused close, with the number of its reason and its place
abbrev pub refused_text : ℕ → ℕ → ℕ → List ℕ
refused_text till number place = codes "till " ++ (decimal till ++ (codes " refused " ++ (decimal number ++ (codes " " ++ (decimal place ++ 10 ∷ [])))))

-- the first line of an accepted close, and what follows it
abbrev pub closes_head : ℕ → List ℕ
closes_head till = codes "till " ++ (decimal till ++ (codes " closes" ++ 10 ∷ []))

abbrev pub closes_text : ℕ → List ℕ → List ℕ
closes_text till lines = closes_head till ++ lines

-- bytes on a line: two lower case hexadecimal digits of each, and a line feed
abbrev pub hex_line : List ℕ → List ℕ
hex_line x = hexed x ++ 10 ∷ []

-- the first field, which is a tag, a length in two bytes and a body so long, and the bytes after it; nothing where no
-- whole field stands there
abbrev pub field_split : List ℕ → Option (List ℕ × List ℕ)
field_split xs = cond (nat_le (3 + declared xs) (length xs)) (Some (take (3 + declared xs) xs, drop (3 + declared xs) xs)) None

-- a line of a field, and then what is made of the bytes after it
abbrev pub line_then : (List ℕ → List ℕ) → Option (List ℕ × List ℕ) → List ℕ
line_then more None = []
line_then more (Some (field, rest)) = hex_line field ++ more rest

-- a line for each of the first k fields at most
unfoldable pub lines_within : ℕ → List ℕ → List ℕ
lines_within zero xs = []
lines_within (suc k) xs = line_then (lines_within k) (field_split xs)

-- a line for each field, one after the other, while a whole one stands there; there are fewer fields than bytes
abbrev pub split_lines : List ℕ → List ℕ
split_lines xs = lines_within (length xs) xs

-- the line of a listed replica
abbrev pub line_if_any : ℕ → ℕ → Option (List ℕ) → List ℕ
line_if_any size k None = []
line_if_any size k (Some s) = hex_line (sheet_field size k s)

module _ {R : Type 0} (rows : Rows R) (n : ℕ) (v : ClosingView R) (size kind : ℕ) where
  -- the lines of the listed replicas below m, rising
  unfoldable pub sheet_lines : ℕ → List ℕ
  sheet_lines zero = []
  sheet_lines (suc m) = sheet_lines m ++ line_if_any size m (listed_sheet rows n v m)

  -- the lines of a closing record: of its first field, then of each listed replica
  abbrev pub record_lines : List ℕ
  record_lines = hex_line (head_field rows n v size kind) ++ sheet_lines n

-- where bytes are a closing record, their lines are its lines
unfoldable pub RecordLines : {R : Type 0} → Rows R → ℕ → ℕ → List ℕ → Type 0
RecordLines {R} rows size kind xs = (n : ℕ) (v : ClosingView R) → xs ≡ closing_record rows n v size kind → split_lines xs ≡ record_lines rows n v size kind
