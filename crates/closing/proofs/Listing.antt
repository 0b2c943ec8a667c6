-- What list answers at each index, and the fields of the closing record by these answers. Assumes nothing.
use Rattle.std.proofs.Common.{◌≡◌, ℕ, zero, suc, ◌+◌, ◌<◌, ◌≤◌, Bool, true, false, cond, ◌&&◌, List, ◌++◌, Some, None, Ok, Option, Result, eqb, refl, sym, ap, ◌∙◌, subst, ⊎_elim, append-nil, arith}
use Rattle.std.specs.Prelude.{is_some}
use Rattle.std.proofs.lemmas.Bool.{cases_lt, ne_eqb, eq-eqb, cond-true}
use Rattle.basis.specs.Counts.{count}
use Rattle.basis.specs.Refusals.{Refused, refused}
use Rattle.sheets.specs.Holds.{Rows}
use Rattle.outcomes.specs.Closing.{Entry, ClosingView, view_fits, listed_sheet, is_listed, sheets_listed, lowest, stands_at, entry_of, entry_at, list_answer, sheet_field, field_if_any, sheet_fields, head_field}
use Rattle.closing.specs.ListTells.{field_told, entry_fields, Listing, ListTells}
use Rattle.closing.proofs.Lowest.{no_one, this_one}

-- more numbers count at least as many, and one more where a number between passes
count_up : (p : ℕ → Bool) (k m : ℕ) → k ≤ m → count k p ≤ count m p
unfolding count
count_up p k zero h = let z : k ≡ 0 = omega arith in rw z (omega arith)
count_up p k (suc m) h = ⊎_elim (λ lt. let c = count_up p k m (omega arith) in omega (arith, c)) (λ (ge : suc m ≤ k). let e : k ≡ suc m = omega (arith, h, ge) in rw e (omega arith)) (cases_lt k (suc m))

count_past : (p : ℕ → Bool) (k m : ℕ) → p k ≡ true → k < m → count k p < count m p
unfolding count
count_past p k m h lt = let c = count_up p (suc k) m (omega arith) in let y : count (suc k) p ≡ 1 + count k p = ap (λ (b : Bool). cond b 1 0 + count k p) h in omega (arith, c, y)

-- the number that passes and has so many passing below it
nth : (p : ℕ → Bool) (m index : ℕ) → index < count m p → (k : ℕ) × (k < m) × (p k ≡ true) × (count k p ≡ index)
unfolding count
nth p zero index h = absurd (omega arith)
nth p (suc m) index h = go (nth p m index) (p m) refl h
  where
    go : (index < count m p → (k : ℕ) × (k < m) × (p k ≡ true) × (count k p ≡ index)) → (b : Bool) → p m ≡ b → index < cond b 1 0 + count m p → (k : ℕ) × (k < suc m) × (p k ≡ true) × (count k p ≡ index)
    go ih true e h = ⊎_elim (λ lt. let x = ih lt in (x.0, (let l = x.1 in omega arith), x.2, x.3)) (λ ge. (m, omega arith, e, omega arith)) (cases_lt index (count m p))
    go ih false e h = let x = ih (omega (arith, h)) in (x.0, (let l = x.1 in omega arith), x.2, x.3)

there : (o : Option (List ℕ)) → is_some o ≡ true → (s : List ℕ) × (o ≡ Some s)
there None h = absurd (let z : ◌≡◌ {A = ℕ} 0 1 = cc in omega arith)
there (Some s) h = (s, refl)

same_entry : {e e' : Entry} → ◌≡◌ {A = Result Entry Refused} (Ok e) (Ok e') → e ≡ e'
same_entry q = cc

module _ {R : Type 0} (rows : Rows R) (n : ℕ) (v : ClosingView R) (fits : view_fits rows n v ≡ true) where
  abbrev listed : ℕ → Bool
  listed = is_listed rows n v

  abbrev answer : ℕ → Result Entry Refused
  answer = list_answer rows n v

  by_entry : (index : ℕ) → answer index ≡ entry_at rows n v (lowest (stands_at rows n v index) n)
  by_entry index = cond-true (view_fits rows n v) (entry_at rows n v (lowest (stands_at rows n v index) n)) (refused 4 0) fits

  -- nobody stands at an index at which none has so many listed below
  fails : (index k : ℕ) → (listed k ≡ true → count k listed ≡ index → ⊥) → stands_at rows n v index k ≡ false
  fails index k wrong = go (listed k) refl
    where
      go : (b : Bool) → listed k ≡ b → (b && eqb (count k listed) index) ≡ false
      go true e = ne_eqb (count k listed) index (wrong e)
      go false e = refl

  -- the entry of a listed replica stands at the number of those listed below it
  at_listed : (k : ℕ) (s : List ℕ) → k < n → listed_sheet rows n v k ≡ Some s → answer (count k listed) ≡ Ok (record { replica = k; sheet = s })
  at_listed k s lt e =
      let index = count k listed in
      let here : listed k ≡ true = ap is_some e in
      let stands : stands_at rows n v index k ≡ true = ap (λ (b : Bool). b && eqb (count k listed) index) here ∙ eq-eqb (count k listed) index refl in
      let none = no_one (stands_at rows n v index) k (λ j lo l. fails index j (λ y q. let c = count_past listed j k y l in omega (arith, c, q))) in
      by_entry index ∙ ap (entry_at rows n v) (this_one (stands_at rows n v index) k n lt none stands) ∙ ap (entry_of rows n v k) e

  found : (index : ℕ) → index < sheets_listed rows n v → (e : Entry) × (answer index ≡ Ok e) × (e.replica < n) × (listed_sheet rows n v e.replica ≡ Some e.sheet) × (count e.replica listed ≡ index)
  found index h =
      let x = nth listed n index h in
      let s = there (listed_sheet rows n v x.0) x.2 in
      (record { replica = x.0; sheet = s.0 }, sym (ap answer x.3) ∙ at_listed x.0 s.0 x.1 s.1, x.1, s.1, x.3)

  ended : (index : ℕ) → sheets_listed rows n v ≤ index → answer index ≡ refused 17 0
  ended index h = by_entry index ∙ ap (entry_at rows n v) (no_one (stands_at rows n v index) n (λ k lo l. fails index k (λ y q. let c = count_past listed k n y l in omega (arith, c, q, h))))

  listed_one : (index : ℕ) (e : Entry) → answer index ≡ Ok e → (e.replica < n) × (listed_sheet rows n v e.replica ≡ Some e.sheet) × (count e.replica listed ≡ index)
  listed_one index e h = ⊎_elim
      (λ lt.
      let x = found index lt in
      subst (λ (y : Entry). (y.replica < n) × (listed_sheet rows n v y.replica ≡ Some y.sheet) × (count y.replica listed ≡ index)) (same_entry (sym x.1 ∙ h)) (x.2, x.3, x.4))
      (λ ge. absurd (let q = sym (ended index ge) ∙ h in let z : ◌≡◌ {A = ℕ} 0 1 = cc in omega arith))
      (cases_lt index (sheets_listed rows n v))

  rising : (i j : ℕ) (e e' : Entry) → i < j → answer i ≡ Ok e → answer j ≡ Ok e' → e.replica < e'.replica
  rising i j e e' lt h h' =
      let x = listed_one i e h in
      let y = listed_one j e' h' in
      ⊎_elim (λ l. l) (λ ge. absurd (let c = count_up listed e'.replica e.replica (omega (arith, ge)) in omega (arith, c, x.2, y.2, lt))) (cases_lt e.replica e'.replica)

  -- the fields of the listed replicas below m are those of so many entries
  fields_to : (size kind m : ℕ) → m ≤ n → sheet_fields rows n v size kind m ≡ entry_fields rows n v size (count m listed)
  unfolding sheet_fields entry_fields count
  fields_to size kind zero le = refl
  fields_to size kind (suc m) le = go (listed_sheet rows n v m) refl (fields_to size kind m (omega arith))
    where
      none_more : (c : ℕ) → c ≡ 0 + c
      none_more c = omega arith

      one_more : (c : ℕ) → suc c ≡ 1 + c
      one_more c = omega arith

      go : (o : Option (List ℕ)) → listed_sheet rows n v m ≡ o → sheet_fields rows n v size kind m ≡ entry_fields rows n v size (count m listed)
          → sheet_fields rows n v size kind m ++ field_if_any size m (listed_sheet rows n v m) ≡ entry_fields rows n v size (cond (listed m) 1 0 + count m listed)
      go None e ih = rw e (append-nil (sheet_fields rows n v size kind m) ∙ ih ∙ ap (λ (i : ℕ). entry_fields rows n v size i) (none_more (count m listed)))
      go (Some s) e ih =
          ap (λ (o : Option (List ℕ)). sheet_fields rows n v size kind m ++ field_if_any size m o) e
          ∙ ap (λ (xs : List ℕ). xs ++ sheet_field size m s) ih
          ∙ ap (λ (r : Result Entry Refused). entry_fields rows n v size (count m listed) ++ field_told size r) (sym (at_listed m s le e))
          ∙ ap (λ (i : ℕ). entry_fields rows n v size i) (one_more (count m listed))
          ∙ ap (λ (o : Option (List ℕ)). entry_fields rows n v size (cond (is_some o) 1 0 + count m listed)) (sym e)

  listing : Listing rows n v
  listing = record {
    answered = λ index h. let x = found index h in (x.0, x.1);
    ended = ended;
    listed_one = listed_one;
    rising = rising;
    recorded = λ size kind. ap (λ (xs : List ℕ). head_field rows n v size kind ++ xs) (fields_to size kind n (omega arith));
  }

pub list_tells : {R : Type 0} (rows : Rows R) → ListTells rows
list_tells rows n v fits = listing rows n v fits
