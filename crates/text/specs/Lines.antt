-- The words of a line and the lines of a text: pieces, which single separator bytes part.
use Rattle.std.specs.Prelude.{ℕ, ◌+◌, min, cond, List, [], ◌∷◌, length, drop, Some, None, Option, ◌==◌}
use Rattle.std.specs.Option.{unwrap_or}

-- the bytes before the first separator
abbrev pub first_piece : ℕ → List ℕ → List ℕ
first_piece sep [] = []
first_piece sep (b ∷ s) = cond (b == sep) [] (b ∷ first_piece sep s)

-- the bytes after the first separator, where there is one
abbrev pub after_piece : ℕ → List ℕ → Option (List ℕ)
after_piece sep [] = None
after_piece sep (b ∷ s) = cond (b == sep) (Some s) (after_piece sep s)

-- the index of the first separator at or after an index, or the length where there is none
abbrev pub piece_end_lem : ℕ → List ℕ → ℕ → ℕ
piece_end_lem sep s from = min from (length s) + length (first_piece sep (drop from s))

-- one more byte in front of the first piece
abbrev pub in_front : ℕ → List (List ℕ) → List (List ℕ)
in_front b [] = (b ∷ []) ∷ []
in_front b (w ∷ ws) = (b ∷ w) ∷ ws

-- the text is cut at each separator, so it has one piece more than separators
abbrev pub pieces : ℕ → List ℕ → List (List ℕ)
pieces sep [] = [] ∷ []
pieces sep (b ∷ s) = cond (b == sep) ([] ∷ pieces sep s) (in_front b (pieces sep s))

-- the pieces of what follows a separator, if there is a separator
abbrev pub pieces_after : ℕ → Option (List ℕ) → List (List ℕ)
pieces_after sep None = []
pieces_after sep (Some s) = pieces sep s

-- the pieces between spaces
abbrev pub words : List ℕ → List (List ℕ)
words s = pieces 32 s

-- the words where there are three
abbrev pub three : List (List ℕ) → Option (List ℕ × List ℕ × List ℕ)
three [] = None
three (u ∷ []) = None
three (u ∷ v ∷ []) = None
three (u ∷ v ∷ w ∷ []) = Some (u, v, w)
three (u ∷ v ∷ w ∷ x ∷ ws) = None

-- a last piece, unless it is empty
abbrev pub last_piece : List ℕ → List (List ℕ)
last_piece [] = []
last_piece (b ∷ w) = (b ∷ w) ∷ []

-- the pieces without an empty one at the end
abbrev pub trimmed : List (List ℕ) → List (List ℕ)
trimmed [] = []
trimmed (w ∷ []) = last_piece w
trimmed (w ∷ x ∷ ws) = w ∷ trimmed (x ∷ ws)

-- the lines that line feeds end; bytes after the last line feed are a line too
abbrev pub lines : List ℕ → List (List ℕ)
lines s = trimmed (pieces 10 s)

-- the first line, if there is one, and the bytes after its line feed
abbrev pub line_split : List ℕ → Option (List ℕ × List ℕ)
line_split [] = None
line_split (b ∷ s) = Some (first_piece 10 (b ∷ s), unwrap_or (after_piece 10 (b ∷ s)) [])

-- a line, if there is one, and then the lines of what follows it
abbrev pub lines_from : Option (List ℕ × List ℕ) → List (List ℕ)
lines_from None = []
lines_from (Some (line, rest)) = line ∷ lines rest
