-- Whatever the lines of a script, all its closes print the same list. Assumes nothing.
use Rattle.std.proofs.Common.{◌≡◌, ℕ, ◌<◌, Bool, true, false, cond, inl, inr, List, Some, None, Ok, Err, Option, Result, length, refl, sym, ap, ap₂, ◌∙◌, subst, subst₂, ⊎_elim, get_or, arith}
use Rattle.std.specs.Prelude.{ℤ, String, nat_lt}
use Rattle.std.specs.Option.{ok_or}
use Rattle.std.proofs.lemmas.Bool.{cond-true, cond-false, cases_lt, lt-ltb, le-ltb}
use Rattle.std.proofs.lemmas.List.{get_or-map, length-map}
use Rattle.outcomes.specs.Closing.{closing_view}
use Rattle.basis.specs.Refusals.{Refused}
use Rattle.outcomes.specs.Holdings.{Life, Fresh, Running, Closed, with_life}
use Rattle.scripts.specs.Commands.{command_of}
use Rattle.scripts.specs.declared.command.Command.{Command}
use Rattle.scripts.specs.declared.command.Command.TheVariants.{Hall, Offer, Rest, Close}
use Rattle.scripts.specs.declared.command.RuleName.{RuleName}
use Rattle.sheets.specs.OfTakings.{takings_rows, in_range_lem}
use Rattle.halls.specs.Faults.{Problem, misplaced, refused, memory, as_problem}
use Rattle.halls.specs.Halls.{scene_of}
use Rattle.halls.specs.Plays.{Continued, record_of}
use Rattle.halls.specs.Prints.{split_lines}
use Rattle.halls.specs.Scenes.{Scene, shown, till, nobody, by_life, offering, closing, close_left, closed_scene, opening_told, offer_told}
use Rattle.halls.specs.Scripts.{Printed, closes, list_of, unless_problem, opening_prints, closing_prints, prints_before, prints_after, command_prints, command_leaves, scene_in, Follows, Script, begun, played, Among, ScriptsAlike, Plays, stop_of}
use Rattle.halls.specs.declared.player.Stop.{Stop}
use Rattle.halls.specs.declared.player.Stop.TheVariants.{Fault}
use Rattle.halls.specs.States.{Held, is_closed}
use Rattle.halls.specs.Tills.{held_by}
use Rattle.halls.specs.declared.hall.Hall.{Hall as AHall}
use Rattle.halls.specs.declared.till.Till.{Till}
use Rattle.halls.proofs.Agreeing.{alike_of, stays_of, life_closed}
use Rattle.halls.proofs.Beginning.{some_till}
use Rattle.halls.proofs.Closed.{no, closed_then}
use Rattle.halls.proofs.Playing.{continued_none}
use Rattle.halls.proofs.Printing.{takings_sized, split_record}

-- the till is there, it is closed, and these are the lines of its record
pub record Listed (h : AHall) (i : ℕ) (x : List ℕ) : Type 0 where
  pub low : i < h.n
  pub closed : (d : Till) → is_closed (get_or h.tills.items i d).state ≡ true
  pub lines : (d : Till) → split_lines (record_of h.n (get_or h.tills.items i d)) ≡ x

abbrev ListedIn : Option AHall → ℕ → List ℕ → Type 0
ListedIn None i x = ⊥
ListedIn (Some h) i x = Listed h i x

-- a listed till stays listed
listed_stays : (h h' : AHall) (i : ℕ) (x : List ℕ) → Continued h.rule h.n h.tills.items h'.rule h'.n h'.tills.items → Listed h i x → Listed h' i x
listed_stays h h' i x c l = record {
  low = (let e = c.same_size in let lo = l.low in omega (arith, e, lo));
  closed = λ d. (stays d).0;
  lines = λ d. ap split_lines (ap (λ (n : ℕ). record_of n (get_or h'.tills.items i d)) c.same_size ∙ (stays d).1) ∙ l.lines d;
}
  where
    stays : (d : Till) → (is_closed (get_or h'.tills.items i d).state ≡ true) × (record_of h.n (get_or h'.tills.items i d) ≡ record_of h.n (get_or h.tills.items i d))
    stays d = stays_of h.rule h.n h.tills.items h.listed h.played h'.tills.items c.goes_on i d l.low (l.closed d)

stays_in : (h h' : Option AHall) (i : ℕ) (x : List ℕ) → Follows h h' → ListedIn h i x → ListedIn h' i x
stays_in None h' i x f l = absurd l
stays_in (Some h) None i x f l = absurd f
stays_in (Some h) (Some h') i x f l = listed_stays h h' i x f l

-- two listed tills have the same lines
listed_alike : (h : AHall) (i j : ℕ) (x y : List ℕ) → Listed h i x → Listed h j y → (d : Till) → x ≡ y
listed_alike h i j x y a b d = sym (a.lines d) ∙ ap split_lines (alike_of h.rule h.n h.tills.items h.listed h.played i j d a.low b.low (a.closed d) (b.closed d)) ∙ b.lines d

-- the close of till i in the hall x printed its list, and h' is the hall that it left
module _ (h h' : AHall) (j : ℕ) (left : scene_of h' ≡ close_left (scene_of h) j) where
  abbrev x : Scene
  x = scene_of h

  abbrev held : Held
  held = till j x.tills

  counted : length x.tills ≡ x.n
  counted = length-map h.tills.items held_by ∙ h.counted

  module _ (low : j < h.n) (accepted : closing h.n held ≡ Ok tt) where
    same_size : h'.n ≡ h.n
    same_size = ap (λ (z : Scene). z.n) (left ∙ cond-true (nat_lt j x.n) (closed_scene x j) x (lt-ltb j x.n low))

    holds : till j (shown h'.tills.items) ≡ with_life Closed held
    holds = ap (λ (z : Scene). till j z.tills) (left ∙ cond-true (nat_lt j x.n) (closed_scene x j) x (lt-ltb j x.n low)) ∙ closed_then x j counted low accepted

    reads : (d : Till) → held_by (get_or h'.tills.items j d) ≡ with_life Closed held
    reads d = sym (get_or-map held_by h'.tills.items j d nobody (let e = same_size in let k = h'.counted in omega (arith, e, k, low))) ∙ holds

    pub listed_now : Listed h' j (list_of h.n held)
    listed_now = record {
      low = (let e = same_size in omega (arith, e, low));
      closed = λ d. life_closed (get_or h'.tills.items j d).state (ap (λ (z : Held). z.life) (reads d));
      lines = λ d. ap split_lines (ap₂ (λ (n : ℕ) (z : Held). Rattle.outcomes.specs.Closing.closing_record takings_rows n (closing_view z) 12 1) same_size (reads d)) ∙ split_record takings_rows 12 takings_sized (omega arith) h.n 1 (closing_view held);
    }

-- only a close prints a list
quiet_line : {X : Type 0} (r : Result X Problem) (i : ℕ) (x : List ℕ) {P : Type 0} → unless_problem r ≡ Some (closes i x) → P
quiet_line (Ok u) i x e = no cc
quiet_line (Err p) i x e = no cc

quiet_opening : {X : Type 0} (r : Result X Problem) (i : ℕ) (x : List ℕ) {P : Type 0} → opening_prints r ≡ Some (closes i x) → P
quiet_opening (Ok u) i x e = no cc
quiet_opening (Err p) i x e = no cc

closing_listed : (j i : ℕ) (y x : List ℕ) (r : Result (Unit {0}) Problem) → closing_prints j y r ≡ Some (closes i x) → (r ≡ Ok tt) × (j ≡ i) × (y ≡ x)
closing_listed j i y x (Ok u) e = (refl, cc, cc)
closing_listed j i y x (Err misplaced) e = no cc
closing_listed j i y x (Err (refused p)) e = no cc
closing_listed j i y x (Err memory) e = no cc

close_listed : (h h' : AHall) (j i : ℕ) (x : List ℕ) → scene_of h' ≡ close_left (scene_of h) j → prints_after (scene_of h) (Close j) ≡ Some (closes i x) → Listed h' i x
close_listed h h' j i x left e = ⊎_elim go (λ high. no (let q = sym (cond-false (nat_lt j h.n) _ None (le-ltb j h.n high)) ∙ e in cc)) (cases_lt j h.n)
  where
    y : Scene
    y = scene_of h

    go : j < h.n → Listed h' i x
    go low =
        let w = closing_listed j i (list_of y.n (till j y.tills)) x (closing y.n (till j y.tills)) (sym (cond-true (nat_lt j h.n) _ None (lt-ltb j h.n low)) ∙ e) in
        subst (λ (z : List ℕ). Listed h' i z) w.2 (subst (λ (k : ℕ). Listed h' k (list_of y.n (till j y.tills))) w.1 (listed_now h h' j left low w.0))

some_scene : {a b : Scene} → ◌≡◌ {A = Option Scene} (Some a) (Some b) → a ≡ b
some_scene e = cc

-- a line that printed a list has closed a till
new_in : (h h' : Option AHall) (c : Option Command) (i : ℕ) (x : List ℕ) → scene_in h' ≡ command_leaves (scene_in h) c → command_prints (scene_in h) c ≡ Some (closes i x) → ListedIn h' i x
new_in h h' None i x left e = no cc
new_in None h' (Some (Hall n rule coin)) i x left e = quiet_opening (opening_told rule n coin) i x e
new_in None h' (Some (Offer j z k)) i x left e = no cc
new_in None h' (Some Rest) i x left e = no cc
new_in None h' (Some (Close j)) i x left e = no cc
new_in (Some h) h' (Some (Hall n rule coin)) i x left e = no cc
new_in (Some h) h' (Some (Offer j z k)) i x left e = quiet_line (offer_told (scene_of h) j z) i x e
new_in (Some h) h' (Some Rest) i x left e = no cc
new_in (Some h) None (Some (Close j)) i x left e = no cc
new_in (Some h) (Some h') (Some (Close j)) i x left e = close_listed h h' j i x (some_scene left) e

-- each list that was printed is that of a closed till
lists : {h : Option AHall} {ps : List Printed} → Script h ps → (i : ℕ) (x : List ℕ) → Among (closes i x) ps → ListedIn h i x
lists begun i x a = absurd a
lists (played {h} {ps} r line h' p f left prints) i x (inl e) = new_in h h' (command_of line) i x left (prints ∙ ap Some (sym e))
lists (played {h} {ps} r line h' p f left prints) i x (inr a) = stays_in h h' i x f (lists r i x a)

alike_in : (h : Option AHall) (i j : ℕ) (x y : List ℕ) → ListedIn h i x → ListedIn h j y → x ≡ y
alike_in None i j x y a b = absurd a
alike_in (Some h) i j x y a b = listed_alike h i j x y a b (some_till h.tills.items i (let k = h.counted in let lo = a.low in omega (arith, k, lo)))

pub scripts_alike : ScriptsAlike
scripts_alike h ps r i j x y a b = alike_in h i j x y (lists r i x a) (lists r j y b)

-- a hall that a line does not change
pub follows_none : (h : Option AHall) → Follows h h
follows_none None = tt
follows_none (Some h) = continued_none h.rule h.n h.tills.items

-- an offer that is a problem is a fault of the script
never_memory : (l : Life) (r : Result (Unit {0}) Refused) (p : Problem) → Err p ≡ by_life l (as_problem r) (Err misplaced) (Err misplaced) → stop_of p ≡ Fault
never_memory Fresh (Ok u) p e = no cc
never_memory Fresh (Err x) p e = ap stop_of (same e)
  where
    same : {a b : Problem} → ◌≡◌ {A = Result (Unit {0}) Problem} (Err a) (Err b) → a ≡ b
    same q = cc
never_memory Running r p e = ap stop_of (same e)
  where
    same : {a b : Problem} → ◌≡◌ {A = Result (Unit {0}) Problem} (Err a) (Err b) → a ≡ b
    same q = cc
never_memory Closed r p e = ap stop_of (same e)
  where
    same : {a b : Problem} → ◌≡◌ {A = Result (Unit {0}) Problem} (Err a) (Err b) → a ≡ b
    same q = cc

offer_stops : (x : Scene) (i : ℕ) (z : ℤ) (p : Problem) → Err p ≡ offer_told x i z → stop_of p ≡ Fault
offer_stops x i z p e = go (in_range_lem z) (nat_lt i x.n) e
  where
    same : {a b : Problem} → ◌≡◌ {A = Result (Unit {0}) Problem} (Err a) (Err b) → a ≡ b
    same q = cc

    go : (a b : Bool) → Err p ≡ cond a (cond b (offering x.rule x.n i (till i x.tills)) (Err misplaced)) (Err (refused (record { number = 1; place = 0 }))) → stop_of p ≡ Fault
    go true true q = never_memory (till i x.tills).life _ p q
    go true false q = ap stop_of (same q)
    go false b q = ap stop_of (same q)

pub offer_plays : {A : Type 0} (x : Scene) (c : Command) (i k : ℕ) (z z' : ℤ) (r : Result (String A) Stop) (p : Problem) → c ≡ Offer i z k → z' ≡ z → Err p ≡ offer_told x i z' → r ≡ Err (stop_of p) → Plays r (prints_after x c)
offer_plays {A} x c i k z z' r p is same told e =
    subst₂ (λ (r : Result (String A) Stop) (o : Option Printed). Plays r o)
    (sym (e ∙ ap Err (offer_stops x i z' p told)))
    (ap unless_problem (told ∙ ap (offer_told x i) same) ∙ sym (ap (prints_after x) is))
    tt

-- before the hall line any other is a fault
none_before : (c : Command) → ((n : ℕ) (rule : RuleName) (coin : ℕ) → c ≡ Hall n rule coin → ⊥) → prints_before c ≡ None
none_before (Hall n rule coin) f = absurd (f n rule coin refl)
none_before (Offer i z k) f = refl
none_before Rest f = refl
none_before (Close i) f = refl

pub faults_before : (A : Type 0) (h : Option AHall) (c : Command) (o : Option Command) → h ≡ None → o ≡ Some c → ((n : ℕ) (rule : RuleName) (coin : ℕ) → c ≡ Hall n rule coin → ⊥) → Plays {A = A} (Err Fault) (command_prints (scene_in h) o)
faults_before A h c o e is f = subst (Plays {A = A} (Err Fault)) (sym (ap₂ (λ (h : Option AHall) (o : Option Command). command_prints (scene_in h) o) e is ∙ none_before c f)) tt

-- what was asked is the line's command
pub asked_is : (o : Option Command) (c : Command) → Ok c ≡ ok_or o Fault → o ≡ Some c
asked_is None c e = no cc
asked_is (Some d) c e = ap Some (sym (same e))
  where
    same : {a b : Command} → ◌≡◌ {A = Result Command Stop} (Ok a) (Ok b) → a ≡ b
    same q = cc
