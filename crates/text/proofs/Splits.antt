-- Where the first piece of a text ends, and what the text is made of then.
use Rattle.std.proofs.Common.{◌≡◌, ℕ, suc, ◌+◌, ◌<◌, ◌≤◌, min, true, false, cond, eqb, ltb, List, [], ◌∷◌, length, take, drop, Some, None, Option, unwrap_or, sym, refl, ap, ◌∙◌, ap₂, ◌⊎◌, ⊎_elim, arith, Bor}
use Rattle.std.specs.Option.{option_map, MatchOption}
use Rattle.std.specs.List.{slice_range}
use Rattle.std.specs.List.{position, position_or_len}
use Rattle.std.proofs.lemmas.List.{drop_all, take_rest}
use Rattle.std.proofs.lemmas.List.Recursion.{is_position_or_len}
use Rattle.std.proofs.lemmas.Bool.{cases_lt}
use Rattle.text.specs.Lines.{first_piece, after_piece, piece_end_lem, pieces, pieces_after, in_front}

settled : (n m : ℕ) → n ≤ m → unwrap_or (cond (ltb n m) (Some n) None) m ≡ n
settled n m h = grind arith

module _ (sep : ℕ) where
  abbrev pub piece_length : List ℕ → ℕ
  piece_length s = length (first_piece sep s)

  -- the first piece ends at the first separator
  pub piece_length_is : (s : List ℕ) → piece_length s ≡ position_or_len (λ b. eqb b sep) s
  piece_length_is = is_position_or_len piece_length (λ b. eqb b sep) refl (λ b s. elim (eqb b sep) as (λ t. length (cond t [] (b ∷ first_piece sep s)) ≡ cond t 0 (1 + piece_length s)) [ true ↦ refl | false ↦ omega arith ])

  pub piece_within : (s : List ℕ) → piece_length s ≤ length s
  piece_within [] = omega arith
  piece_within (b ∷ s) = elim (eqb b sep) as (λ t. length (cond t [] (b ∷ first_piece sep s)) ≤ suc (length s)) [ true ↦ omega arith | false ↦ omega (arith, piece_within s) ]

  pub position_is : (s : List ℕ) → unwrap_or (position (λ b. eqb b sep) s) (length s) ≡ piece_length s
  position_is s = rw (sym (piece_length_is s)) (settled (piece_length s) (length s) (piece_within s))

  -- an index beyond the text is its end
  pub piece_end_from : (s : List ℕ) (i from : ℕ) → i ≡ min from (length s) → i + piece_length (drop i s) ≡ piece_end_lem sep s from
  piece_end_from s i from e =
      ⊎_elim
      (λ (h : length s < from). let same : drop i s ≡ drop from s = drop_all i s (omega arith) ∙ sym (drop_all from s (omega arith)) in omega (arith, ap piece_length same))
      (λ (h : from ≤ length s). let same : i ≡ from = omega arith in omega (arith, ap (λ n. piece_length (drop n s)) same))
      (cases_lt (length s) from)

  -- the parts of a text, by the length of its first piece
  pub take_piece : (s : List ℕ) → take (piece_length s) s ≡ first_piece sep s
  take_piece [] = refl
  take_piece (b ∷ s) =
      elim (eqb b sep) as (λ t. take (length (cond t [] (b ∷ first_piece sep s))) (b ∷ s) ≡ cond t [] (b ∷ first_piece sep s))
      [ true ↦ refl | false ↦ ap (λ w. b ∷ w) (take_piece s) ]

  pub after_inside : (s : List ℕ) → piece_length s < length s → after_piece sep s ≡ Some (drop (suc (piece_length s)) s)
  after_inside [] h = absurd (omega arith)
  after_inside (b ∷ s) h =
      (elim (eqb b sep) as (λ t. length (cond t [] (b ∷ first_piece sep s)) < suc (length s) → cond t (Some s) (after_piece sep s) ≡ Some (drop (suc (length (cond t [] (b ∷ first_piece sep s)))) (b ∷ s)))
      [ true ↦ λ k. refl | false ↦ λ k. after_inside s (omega arith) ]) h

  pub after_end : (s : List ℕ) → length s ≤ piece_length s → after_piece sep s ≡ None
  after_end [] h = refl
  after_end (b ∷ s) h =
      (elim (eqb b sep) as (λ t. suc (length s) ≤ length (cond t [] (b ∷ first_piece sep s)) → cond t (Some s) (after_piece sep s) ≡ None)
      [ true ↦ λ k. absurd (omega arith) | false ↦ λ k. after_end s (omega arith) ]) h

  pub pieces_split : (s : List ℕ) → pieces sep s ≡ first_piece sep s ∷ pieces_after sep (after_piece sep s)
  pieces_split [] = refl
  pieces_split (b ∷ s) =
      elim (eqb b sep) as (λ t. cond t ([] ∷ pieces sep s) (in_front b (pieces sep s)) ≡ cond t [] (b ∷ first_piece sep s) ∷ pieces_after sep (cond t (Some s) (after_piece sep s)))
      [ true ↦ refl | false ↦ ap (in_front b) (pieces_split s) ]

  pub pieces_from : (s w : List ℕ) (rest : Option (List ℕ)) → w ≡ first_piece sep s → rest ≡ after_piece sep s → pieces sep s ≡ w ∷ pieces_after sep rest
  pieces_from s w rest p q = pieces_split s ∙ sym (ap₂ (λ x y. x ∷ pieces_after sep y) p q)

-- a text that is cut at n, where its first piece ends
module _ (sep : ℕ) (s : List ℕ) (n : ℕ) (ends : n ≡ piece_end_lem sep s 0) where
  pub piece_is : take n s ≡ first_piece sep s
  piece_is = let same : n ≡ piece_length sep s = omega arith in ap (λ i. take i s) same ∙ take_piece sep s

  -- what stands after the separator, if there is one
  pub rest_is : (o : Option (Bor (List ℕ))) → MatchOption o ((length s < n + 1) ⊎ (length s < length s)) (λ t. (n + 1 ≤ length s) × (length s ≤ length s) × (t.now ≡ slice_range s (n + 1) (length s)) × (length t.now + (n + 1) ≡ length s)) → option_map (λ t. t.now) o ≡ after_piece sep s
  rest_is None h = sym (after_end sep s (omega arith))
  rest_is (Some t) h =
      let next : n + 1 ≡ suc (piece_length sep s) = omega arith in
      ap Some (h.2 ∙ take_rest s (n + 1) ∙ ap (λ i. drop i s) next) ∙ sym (after_inside sep s (omega arith))
