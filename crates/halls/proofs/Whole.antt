-- A whole script is printed, line after line. Assumes nothing.
use Rattle.std.proofs.Common.{◌≡◌, ℕ, ◌+◌, true, false, List, [], ◌∷◌, ◌++◌, Some, None, Ok, Err, Option, refl, sym, ap, ap₂, ◌∙◌, string_bytes}
use Rattle.std.specs.Prelude.{String, is_some}
use Rattle.std.proofs.lemmas.Bool.{cond-true, cond-false}
use Rattle.std.proofs.lemmas.List.{append_assoc, append-nil}
use Rattle.halls.specs.Scenes.{Scene}
use Rattle.halls.specs.Scripts.{Printed, Plays, Leaves, Added, fault_line, shown_of, line_prints, line_leaves, printed_from}
use Rattle.halls.specs.declared.player.Stop.{Stop}
use Rattle.halls.specs.declared.player.Stop.TheVariants.{Fault, Memory}
use Rattle.halls.proofs.Closed.{no}

-- what a play that printed something has told
pub printed_is : {A : Type 0} (s : String A) (k : ℕ) (o : Option Printed) → Plays (Ok s) o → (string_bytes s ≡ shown_of k o) × (true ≡ is_some o)
printed_is s k None p = absurd p
printed_is s k (Some q) p = (p, refl)

-- and one that met a fault
pub fault_is : (A : Type 0) (o : Option Printed) → Plays {A = A} (Err Fault) o → o ≡ None
fault_is A None p = refl
fault_is A (Some q) p = absurd p

module _ (k : ℕ) (line : List ℕ) (more : List (List ℕ)) (s s' : Option Scene) (out out' whole : List ℕ) where
  -- the script goes on behind the line
  pub goes_behind : Added k line s s' out out' true → out ++ printed_from k s (line ∷ more) ≡ whole → out' ++ printed_from (k + 1) s' more ≡ whole
  unfolding printed_from
  goes_behind a e =
      ap₂ (λ (x : List ℕ) (t : Option Scene). x ++ printed_from (k + 1) t more) a.text a.hall
      ∙ append_assoc out (shown_of k (line_prints s line)) (printed_from (k + 1) (line_leaves s line) more)
      ∙ ap (λ (x : List ℕ). out ++ (shown_of k (line_prints s line) ++ x)) (sym (cond-true (is_some (line_prints s line)) (printed_from (k + 1) (line_leaves s line) more) [] (sym a.goes_on)))
      ∙ e

  -- or it ends with it
  pub ends_there : Added k line s s' out out' false → out ++ printed_from k s (line ∷ more) ≡ whole → out' ≡ whole
  unfolding printed_from
  ends_there a e =
      a.text
      ∙ ap (λ (x : List ℕ). out ++ x) (sym (append-nil (shown_of k (line_prints s line))) ∙ ap (λ (x : List ℕ). shown_of k (line_prints s line) ++ x) (sym (cond-false (is_some (line_prints s line)) (printed_from (k + 1) (line_leaves s line) more) [] (sym a.goes_on))))
      ∙ e

-- no line is left
pub none_left : (k : ℕ) (s : Option Scene) (out whole : List ℕ) → out ++ printed_from k s [] ≡ whole → out ≡ whole
unfolding printed_from
none_left k s out whole e = sym (append-nil out) ∙ e

-- the line of a fault stands for the line, and the hall is left as it was
pub fault_added : (A : Type 0) (e : Stop) (k : ℕ) (line : List ℕ) (s s' : Option Scene) (out out' : List ℕ) → e ≡ Fault → Plays {A = A} (Err e) (line_prints s line) → Leaves {A = A} (Err e) s (line_leaves s line) s' → out' ≡ out ++ fault_line k → Added k line s s' out out' false
fault_added A Fault k line s s' out out' is p l t =
    let none = fault_is A (line_prints s line) p in
    record {
      text = t ∙ ap (λ (o : Option Printed). out ++ shown_of k o) (sym none);
      goes_on = sym (ap (λ (o : Option Printed). is_some o) none);
      hall = l;
    }
fault_added A Memory k line s s' out out' is p l t = no cc
