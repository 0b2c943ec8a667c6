-- The lines of a text are its first line and the lines of what follows that line's line feed.
use Rattle.std.proofs.Common.{◌≡◌, ◌≢◌, ℕ, true, false, cond, eqb, List, [], ◌∷◌, length, Some, None, Option, unwrap_or, sym, refl, ap, ◌∙◌, ap₂, arith, Bor}
use Rattle.std.proofs.lemmas.Bool.{eqb-false}
use Rattle.std.specs.Option.{option_map}
use Rattle.text.specs.Lines.{first_piece, after_piece, pieces, pieces_after, in_front, trimmed, lines, line_split, lines_from}
use Rattle.text.proofs.Splits.{pieces_split}
use Rattle.text.proofs.words.split_line.Goals as goal

-- a text has a piece, so a piece in front of its pieces is not the last
before_pieces : (w s : List ℕ) → trimmed (w ∷ pieces 10 s) ≡ w ∷ lines s
before_pieces w s = ap (λ ws. trimmed (w ∷ ws)) (pieces_split 10 s) ∙ ap (λ ws. w ∷ trimmed ws) (sym (pieces_split 10 s))

before_rest : (b : ℕ) (w : List ℕ) (rest : Option (List ℕ)) → trimmed ((b ∷ w) ∷ pieces_after 10 rest) ≡ (b ∷ w) ∷ lines (unwrap_or rest [])
before_rest b w None = refl
before_rest b w (Some s) = before_pieces (b ∷ w) s

lines_split : (s : List ℕ) → lines s ≡ lines_from (line_split s)
lines_split [] = refl
lines_split (b ∷ s) =
    elim (eqb b 10) as (λ t. trimmed (cond t ([] ∷ pieces 10 s) (in_front b (pieces 10 s))) ≡ cond t [] (b ∷ first_piece 10 s) ∷ lines (unwrap_or (cond t (Some s) (after_piece 10 s)) [])) [
      | true ↦ before_pieces [] s
      | false ↦ ap (λ ws. trimmed (in_front b ws)) (pieces_split 10 s) ∙ before_rest b (first_piece 10 s) (after_piece 10 s)
    ]

lines_of : (s line rest : List ℕ) → length s ≢ 0 → line ≡ first_piece 10 s → rest ≡ unwrap_or (after_piece 10 s) [] → lines s ≡ line ∷ lines rest
lines_of [] line rest h p q = absurd (omega arith)
lines_of (b ∷ s) line rest h p q = lines_split (b ∷ s) ∙ ap₂ (λ x y. x ∷ lines y) (sym p) (sym q)

-- what is left after the first line: nothing where no line feed ends it
rest_is : (o : Option (Bor (List ℕ))) (none : Bor (List ℕ)) → none.now ≡ [] → (unwrap_or o none).now ≡ unwrap_or (option_map (λ x. x.now) o) []
rest_is None none e = e
rest_is (Some t) none e = refl

pub returns-clause-lines : goal.returns-clause-lines
returns-clause-lines c =
    let s = c.args.text.now in
    let rest = ap (λ x. x.now) c.unwrap_or.ensures ∙ rest_is c.split_piece.result.1 _ refl ∙ ap (λ o. unwrap_or o []) c.split_piece.ensures.rest in
    lines_of s _ _ (eqb-false _ _ (sym c.if-is_empty.ensures)) c.split_piece.ensures.piece rest
