-- A till that closes gives its whole closing record at once. Assumes nothing.
use Rattle.std.proofs.Common.{◌≡◌, ℕ, ◌<◌, ◌≤◌, Bool, true, false, cond, List, ◌++◌, Some, None, Ok, Err, Option, Result, length, take, drop, refl, sym, ap, ap₂, ◌∙◌, subst, ⊎_elim, arith}
use Rattle.std.specs.Prelude.{nat_lt, String, string_bytes}
use Rattle.std.proofs.lemmas.Bool.{cond-true, cond-false, cases_lt, lt-ltb, le-ltb}
use Rattle.std.proofs.lemmas.List.{get_or-set_same, take_at}
use Rattle.basis.proofs.Counts.{count_le}
use Rattle.basis.specs.Refusals.{Refused, refused as refused_at}
use Rattle.closing.proofs.Fields.{record_length}
use Rattle.messages.specs.Writing.{write_answer, write_output}
use Rattle.outcomes.specs.Calls.{if_accepted}
use Rattle.outcomes.specs.Closing.{ClosingView, closing_view, close_answer, closing_record, view_fits, decided_answer, is_listed}
use Rattle.outcomes.specs.Holdings.{Life, Fresh, Running, Closed, with_life}
use Rattle.scripts.specs.declared.command.Command.TheVariants.{Close}
use Rattle.sheets.specs.OfTakings.{takings_rows}
use Rattle.sheets.specs.declared.kinds.TakingsRow.{TakingsRow}
use Rattle.halls.specs.Faults.{Problem, misplaced, refused, as_problem}
use Rattle.halls.specs.Scenes.{Scene, till, nobody, by_life, and_told, if_told, closing, recording, recording_output, closed_scene, close_told, close_output}
use Rattle.halls.specs.Prints.{split_lines, closes_text, refused_text}
use Rattle.halls.specs.Scripts.{Printed, closes, refuses, list_of, text_of, closing_prints, prints_after, Plays}
use Rattle.halls.specs.States.{Held}
use Rattle.halls.proofs.Printing.{takings_sized, split_record}

pub no : {P : Type 0} → ◌≡◌ {A = ℕ} 0 1 → P
no e = absurd (omega (arith, e))

-- only a running replica closes
closed_parts : (l : Life) (r : Result (Unit {0}) Refused) → by_life l (Err misplaced) (as_problem r) (Err misplaced) ≡ Ok tt → (l ≡ Running) × (r ≡ Ok tt)
closed_parts Fresh r e = no cc
closed_parts Running (Ok u) e = (refl, refl)
closed_parts Running (Err x) e = no cc
closed_parts Closed r e = no cc

-- close is accepted where the tables are large enough
accepted_fits : (b : Bool) (r : Result (Unit {0}) Refused) → cond b r (refused_at 4 0) ≡ Ok tt → b ≡ true
accepted_fits true r e = refl
accepted_fits false r e = no cc

module _ (x : Scene) (i : ℕ) (counted : length x.tills ≡ x.n) (low : i < x.n) (accepted : closing x.n (till i x.tills) ≡ Ok tt) where
  runs : (till i x.tills).life ≡ Running
  runs = (closed_parts (till i x.tills).life (close_answer takings_rows x.n (closing_view (till i x.tills))) accepted).0

  answered : close_answer takings_rows x.n (closing_view (till i x.tills)) ≡ Ok tt
  answered = (closed_parts (till i x.tills).life (close_answer takings_rows x.n (closing_view (till i x.tills))) accepted).1

  -- the till is closed, and holds what it held
  pub closed_then : till i (closed_scene x i).tills ≡ with_life Closed (till i x.tills)
  closed_then =
      get_or-set_same x.tills i _ nobody (omega (arith, low, counted))
      ∙ ap₂ (λ (l : Life) (r : Result (Unit {0}) Refused). by_life l (till i x.tills) (if_accepted r (with_life Closed (till i x.tills)) (till i x.tills)) (till i x.tills)) runs answered

module _ (x : Scene) (i : ℕ) (out : List ℕ) (counted : length x.tills ≡ x.n) (small : x.n ≤ 16) (long : length out ≡ 263) where
  abbrev h : Held
  h = till i x.tills

  abbrev view : ClosingView TakingsRow
  view = closing_view h

  abbrev bytes : List ℕ
  bytes = closing_record takings_rows x.n view 12 1

  -- the output is long enough for it
  short : length bytes ≤ length out
  short = let a = record_length takings_rows 12 takings_sized x.n 1 view in let b = count_le x.n (is_listed takings_rows x.n view) in omega (arith, a, b, small, long)

  fits_out : nat_lt (length out) (length bytes) ≡ false
  fits_out = le-ltb (length out) (length bytes) short

  module _ (low : i < x.n) (accepted : closing x.n h ≡ Ok tt) where
    fits : view_fits takings_rows x.n view ≡ true
    fits = accepted_fits (view_fits takings_rows x.n view) (decided_answer takings_rows x.n view) (answered x i counted low accepted)

    gives : recording x.n out (till i (closed_scene x i).tills) ≡ Ok (length bytes)
    gives =
        ap (recording x.n out) (closed_then x i counted low accepted)
        ∙ ap as_problem (cond-true (view_fits takings_rows x.n view) (write_answer bytes out) (refused_at 4 0) fits ∙ cond-false (nat_lt (length out) (length bytes)) (refused_at 16 0) (Ok (length bytes)) fits_out)

    writes : recording_output x.n out (till i (closed_scene x i).tills) ≡ bytes ++ drop (length bytes) out
    writes =
        ap (recording_output x.n out) (closed_then x i counted low accepted)
        ∙ cond-true (view_fits takings_rows x.n view) (write_output bytes out) out fits ∙ cond-false (nat_lt (length out) (length bytes)) out (bytes ++ drop (length bytes) out) fits_out

    accepted_told : close_told x i out ≡ Ok (length bytes)
    accepted_told = cond-true (nat_lt i x.n) _ (Err misplaced) (lt-ltb i x.n low) ∙ ap (λ (r : Result (Unit {0}) Problem). and_told r (recording x.n out (till i (closed_scene x i).tills))) accepted ∙ gives

    accepted_output : close_output x i out ≡ bytes ++ drop (length bytes) out
    accepted_output = cond-true (nat_lt i x.n) _ out (lt-ltb i x.n low) ∙ ap (λ (r : Result (Unit {0}) Problem). if_told r (recording_output x.n out (till i (closed_scene x i).tills)) out) accepted ∙ writes

    -- so many bytes of the output are the record
    pub taken : (len : ℕ) → Ok len ≡ close_told x i out → take len (close_output x i out) ≡ bytes
    taken len e = ap (λ (ys : List ℕ). take len ys) accepted_output ∙ take_at bytes (drop (length bytes) out) len (sym (same (e ∙ accepted_told)))
      where
        same : {a b : ℕ} → ◌≡◌ {A = Result ℕ Problem} (Ok a) (Ok b) → a ≡ b
        same q = cc

    pub prints_list : prints_after x (Close i) ≡ Some (closes i (list_of x.n h))
    prints_list = cond-true (nat_lt i x.n) _ None (lt-ltb i x.n low) ∙ ap (closing_prints i (list_of x.n h)) accepted

  module _ (low : i < x.n) (p : Problem) (not : closing x.n h ≡ Err p) where
    refused_told : close_told x i out ≡ Err p
    refused_told = cond-true (nat_lt i x.n) _ (Err misplaced) (lt-ltb i x.n low) ∙ ap (λ (r : Result (Unit {0}) Problem). and_told r (recording x.n out (till i (closed_scene x i).tills))) not

    pub prints_problem : prints_after x (Close i) ≡ closing_prints i (list_of x.n h) (Err p)
    prints_problem = cond-true (nat_lt i x.n) _ None (lt-ltb i x.n low) ∙ ap (closing_prints i (list_of x.n h)) not

  no_till : x.n ≤ i → close_told x i out ≡ Err misplaced
  no_till high = cond-false (nat_lt i x.n) _ (Err misplaced) (le-ltb i x.n high)

  -- where the length is answered, the till was there and its close accepted
  pub was_accepted : (len : ℕ) → Ok len ≡ close_told x i out → (i < x.n) × (closing x.n h ≡ Ok tt)
  was_accepted len e = ⊎_elim (λ low. (low, go low (closing x.n h) refl)) (λ high. no (let q = e ∙ no_till high in cc)) (cases_lt i x.n)
    where
      go : i < x.n → (r : Result (Unit {0}) Problem) → closing x.n h ≡ r → closing x.n h ≡ Ok tt
      go low (Ok u) is = is
      go low (Err p) is = no (let q = e ∙ refused_told low p is in cc)

  -- and where a refusal is answered, it is that of close
  pub was_refused : (d : Refused) → Err (refused d) ≡ close_told x i out → (i < x.n) × (closing x.n h ≡ Err (refused d))
  was_refused d e = ⊎_elim (λ low. (low, go low (closing x.n h) refl)) (λ high. no (let q = e ∙ no_till high in cc)) (cases_lt i x.n)
    where
      go : i < x.n → (r : Result (Unit {0}) Problem) → closing x.n h ≡ r → closing x.n h ≡ Err (refused d)
      go low (Ok u) is = no (let q = e ∙ accepted_told low is in cc)
      go low (Err p) is = is ∙ ap Err (same (sym (refused_told low p is) ∙ sym e))
        where
          same : {a b : Problem} → ◌≡◌ {A = Result ℕ Problem} (Err a) (Err b) → a ≡ b
          same q = cc

-- what was made of it is what is to be printed
pub plays_of : {A : Type 0} (s : String A) (o : Option Printed) (p : Printed) → o ≡ Some p → string_bytes s ≡ text_of p → Plays (Ok s) o
plays_of s o p e t = subst (λ (z : Option Printed). Plays (Ok s) z) (sym e) t

module _ (x : Scene) (i : ℕ) (out : List ℕ) (counted : length x.tills ≡ x.n) (small : x.n ≤ 16) (long : length out ≡ 263) {A : Type 0} (s : String A) where
  pub plays_closed : (len : ℕ) (left : List ℕ) → Ok len ≡ close_told x i out → left ≡ close_output x i out → string_bytes s ≡ closes_text i (split_lines (take len left)) → Plays (Ok s) (prints_after x (Close i))
  plays_closed len left told output text =
      let w = was_accepted x i out counted small long len told in
      plays_of s (prints_after x (Close i)) (closes i (list_of x.n (till i x.tills)))
      (prints_list x i out counted small long w.0 w.1)
      (text ∙ ap (λ (ys : List ℕ). closes_text i (split_lines ys)) (ap (λ (ys : List ℕ). take len ys) output ∙ taken x i out counted small long w.0 w.1 len told)
      ∙ ap (closes_text i) (split_record takings_rows 12 takings_sized (omega arith) x.n 1 (closing_view (till i x.tills))))

  pub plays_refused : (d : Refused) → Err (refused d) ≡ close_told x i out → string_bytes s ≡ refused_text i d.number d.place → Plays (Ok s) (prints_after x (Close i))
  plays_refused d told text =
      let w = was_refused x i out counted small long d told in
      plays_of s (prints_after x (Close i)) (refuses i d.number d.place) (prints_problem x i out counted small long w.0 (refused d) w.1) text
