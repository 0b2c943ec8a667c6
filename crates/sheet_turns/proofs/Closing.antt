-- What close, list and the closing record come to, at replicas whose ballots and sheets agree. Assumes nothing.
use Rattle.std.proofs.Common.{◌≡◌, ℕ, zero, suc, ◌+◌, ◌^◌, ◌<◌, ◌≤◌, Bool, true, false, cond, not, ◌&&◌, eqb, List, ◌∷◌, ◌++◌, is_some, Some, None, Ok, Option, Result, sym, refl, ap, ◌∙◌, ap₂, ⊎_elim, le_refl, arith}
use Rattle.std.proofs.lemmas.Bool.{cases_eq, false≢true, eqb-false, ne_eqb, cond-true, cond-false}
use Rattle.basis.specs.Bytes.{be}
use Rattle.basis.specs.Counts.{count, total}
use Rattle.basis.specs.Refusals.{Refused, refused}
use Rattle.basis.proofs.Counts.{count_same}
use Rattle.messages.proofs.Lists.{passed}
use Rattle.slots.specs.Places.{or_else}
use Rattle.outcomes.specs.Closing.{closing_view, lowest, unless_at, is_undecided, is_decided_in, sheet_of_slot, is_missing, close_answer, listed_sheet, is_listed, sheets_listed, stands_at, entry_of, entry_at, list_answer, field_if_any, sheet_fields, closing_record}
use Rattle.outcomes.specs.Holdings.{Setting, Holding, sizes_ok, ballot_at}

-- the lowest number passes
pub lowest_some : (p : ℕ → Bool) (m k : ℕ) → lowest p m ≡ Some k → (k < m) × (p k ≡ true)
unfolding lowest
lowest_some p zero k e = absurd (let z : ◌≡◌ {A = ℕ} 0 1 = cc in omega arith)
lowest_some p (suc m) k e = go (lowest_some p m k) (lowest p m) refl (p m) refl e
  where
    go : (lowest p m ≡ Some k → (k < m) × (p k ≡ true)) → (o : Option ℕ) → lowest p m ≡ o → (b : Bool) → p m ≡ b → or_else o (cond b (Some m) None) ≡ Some k → (k < suc m) × (p k ≡ true)
    go ih (Some i) o b t h = let q = ih (o ∙ h) in (omega (arith, q.0), q.1)
    go ih None o true t h = let q : m ≡ k = cc in (omega arith, ap p (sym q) ∙ t)
    go ih None o false t h = absurd (let z : ◌≡◌ {A = ℕ} 0 1 = cc in omega arith)

-- and where there is none, none passes
pub lowest_none : (p : ℕ → Bool) (m : ℕ) → lowest p m ≡ None → (k : ℕ) → k < m → p k ≡ false
unfolding lowest
lowest_none p zero e k lk = absurd (omega arith)
lowest_none p (suc m) e k lk = go (lowest_none p m) (lowest p m) refl (p m) refl e
  where
    go : (lowest p m ≡ None → (k : ℕ) → k < m → p k ≡ false) → (o : Option ℕ) → lowest p m ≡ o → (b : Bool) → p m ≡ b → or_else o (cond b (Some m) None) ≡ None → p k ≡ false
    go ih (Some i) o b t h = absurd (let z : ◌≡◌ {A = ℕ} 0 1 = cc in omega arith)
    go ih None o true t h = absurd (let z : ◌≡◌ {A = ℕ} 0 1 = cc in omega arith)
    go ih None o false t h = ⊎_elim (λ q. ap p q ∙ t) (λ ne. ih o k (omega arith)) (cases_eq k m)

pub none_lowest : (p : ℕ → Bool) (m : ℕ) → ((k : ℕ) → k < m → p k ≡ false) → lowest p m ≡ None
unfolding lowest
none_lowest p zero h = refl
none_lowest p (suc m) h = ap₂ (λ (o : Option ℕ) (b : Bool). or_else o (cond b (Some m) None)) (none_lowest p m (λ k lk. h k (omega arith))) (h m (omega arith))

-- tests that agree below m have the same lowest number, and functions that do the same sum
pub lowest_same : (p q : ℕ → Bool) (m : ℕ) → ((k : ℕ) → k < m → p k ≡ q k) → lowest p m ≡ lowest q m
unfolding lowest
lowest_same p q zero e = refl
lowest_same p q (suc m) e = ap₂ (λ (o : Option ℕ) (b : Bool). or_else o (cond b (Some m) None)) (lowest_same p q m (λ k lk. e k (omega arith))) (e m (omega arith))

pub total_same : (f f' : ℕ → ℕ) (m : ℕ) → ((k : ℕ) → k < m → f k ≡ f' k) → total m f ≡ total m f'
unfolding total
total_same f f' zero e = refl
total_same f f' (suc m) e = ap₂ (λ (x y : ℕ). x + y) (e m (omega arith)) (total_same f f' m (λ k lk. e k (omega arith)))

module _ {R C : Type 0} (g : Setting R C) (n : ℕ) where
  -- two replicas whose ballots are decided alike, with the same sheets for those that are decided 1
  pub record SameOutcome (i j : ℕ) (h h' : Holding R C) : Type 0 where
    pub decided_in : (k : ℕ) → k < n → is_decided_in g.rows n (closing_view h) k ≡ is_decided_in g.rows n (closing_view h') k
    pub sheets : (k : ℕ) → k < n → is_decided_in g.rows n (closing_view h) k ≡ true → sheet_of_slot g.rows n (closing_view h) k ≡ sheet_of_slot g.rows n (closing_view h') k

  module _ (i j : ℕ) (h h' : Holding R C) (same : SameOutcome i j h h') where
    -- have the same list
    pub listed_same : (k : ℕ) → k < n → listed_sheet g.rows n (closing_view h) k ≡ listed_sheet g.rows n (closing_view h') k
    listed_same k lk = go (is_decided_in g.rows n (closing_view h) k) refl
      where
        go : (b : Bool) → is_decided_in g.rows n (closing_view h) k ≡ b → listed_sheet g.rows n (closing_view h) k ≡ listed_sheet g.rows n (closing_view h') k
        go true e = cond-true _ (sheet_of_slot g.rows n (closing_view h) k) None e ∙ same.sheets k lk e ∙ sym (cond-true _ (sheet_of_slot g.rows n (closing_view h') k) None (sym (same.decided_in k lk) ∙ e))
        go false e = cond-false _ (sheet_of_slot g.rows n (closing_view h) k) None e ∙ sym (cond-false _ (sheet_of_slot g.rows n (closing_view h') k) None (sym (same.decided_in k lk) ∙ e))

    is_listed_same : (k : ℕ) → k < n → is_listed g.rows n (closing_view h) k ≡ is_listed g.rows n (closing_view h') k
    is_listed_same k lk = ap (λ (o : Option (List ℕ)). is_some o) (listed_same k lk)

    pub sheets_listed_same : sheets_listed g.rows n (closing_view h) ≡ sheets_listed g.rows n (closing_view h')
    sheets_listed_same = count_same n _ _ is_listed_same

    stands_same : (index k : ℕ) → k < n → stands_at g.rows n (closing_view h) index k ≡ stands_at g.rows n (closing_view h') index k
    stands_same index k lk = ap₂ (λ (b : Bool) (c : ℕ). b && eqb c index) (is_listed_same k lk) (count_same k _ _ (λ l ll. is_listed_same l (omega arith)))

    entry_same : (o : Option ℕ) → ((k : ℕ) → o ≡ Some k → k < n) → entry_at g.rows n (closing_view h) o ≡ entry_at g.rows n (closing_view h') o
    entry_same None low = refl
    entry_same (Some k) low = ap (entry_of g.rows n (closing_view h) k) (listed_same k (low k refl)) ∙ entry_by k (listed_sheet g.rows n (closing_view h') k)
      where
        entry_by : (k : ℕ) (o : Option (List ℕ)) → entry_of g.rows n (closing_view h) k o ≡ entry_of g.rows n (closing_view h') k o
        entry_by k None = refl
        entry_by k (Some s) = refl

    -- answer each index alike
    pub list_same : sizes_ok n h ≡ true → sizes_ok n h' ≡ true → (index : ℕ) → list_answer g.rows n (closing_view h) index ≡ list_answer g.rows n (closing_view h') index
    list_same a b index =
        let first = lowest_same (stands_at g.rows n (closing_view h) index) (stands_at g.rows n (closing_view h') index) n (stands_same index) in
        cond-true (sizes_ok n h) (entry_at g.rows n (closing_view h) (lowest (stands_at g.rows n (closing_view h) index) n)) (refused 4 0) a
        ∙ entry_same (lowest (stands_at g.rows n (closing_view h) index) n) (λ k e. (lowest_some (stands_at g.rows n (closing_view h) index) n k e).0)
        ∙ ap (entry_at g.rows n (closing_view h')) first
        ∙ sym (cond-true (sizes_ok n h') (entry_at g.rows n (closing_view h') (lowest (stands_at g.rows n (closing_view h') index) n)) (refused 4 0) b)

    fields_same : (m : ℕ) → m ≤ n → sheet_fields g.rows n (closing_view h) g.size g.kind m ≡ sheet_fields g.rows n (closing_view h') g.size g.kind m
    unfolding sheet_fields
    fields_same zero le = refl
    fields_same (suc m) le = ap₂ (λ (x y : List ℕ). x ++ y) (fields_same m (omega arith)) (ap (field_if_any g.size m) (listed_same m (omega arith)) ∙ field_by (listed_sheet g.rows n (closing_view h') m))
      where
        field_by : (o : Option (List ℕ)) → field_if_any g.size m o ≡ field_if_any g.size m o
        field_by None = refl
        field_by (Some s) = refl

    -- and give the same closing record
    pub record_same : closing_record g.rows n (closing_view h) g.size g.kind ≡ closing_record g.rows n (closing_view h') g.size g.kind
    record_same = ap₂ (λ (x y : List ℕ). x ++ y)
        (ap (λ (s : ℕ). 64 ∷ (be 2 4 ++ (g.kind ∷ (n ∷ be 2 s)))) (total_same _ _ n (λ k lk. ap (λ (b : Bool). cond {A = ℕ} b (2 ^ k) 0) (is_listed_same k lk))))
        (fields_same n (le_refl _))

  module _ (own : ℕ) (h : Holding R C) where
    -- what close asks for
    pub record MayClose : Type 0 where
      pub sizes : sizes_ok n h ≡ true
      pub decided : (k : ℕ) → k < n → 0 < (ballot_at k h).decided
      pub sheets : (k : ℕ) → k < n → is_decided_in g.rows n (closing_view h) k ≡ true → (x : List ℕ) × (sheet_of_slot g.rows n (closing_view h) k ≡ Some x)

    passes_at : (why : ℕ) (o : Option ℕ) (r : Result (Unit {0}) Refused) → unless_at why o r ≡ Ok tt → (o ≡ None) × (r ≡ Ok tt)
    passes_at why None r e = (refl, e)
    passes_at why (Some k) r e = absurd (let z : ◌≡◌ {A = ℕ} 0 1 = cc in omega arith)

    found : (b : Bool) (o : Option (List ℕ)) → b ≡ true → (b && not (is_some o)) ≡ false → (x : List ℕ) × (o ≡ Some x)
    found true None d e = absurd (false≢true (sym e))
    found false o d e = absurd (false≢true d)
    found true (Some x) d e = (x, refl)

    not_missing : (b : Bool) (o : Option (List ℕ)) → (b ≡ true → (x : List ℕ) × (o ≡ Some x)) → (b && not (is_some o)) ≡ false
    not_missing false o f = refl
    not_missing true o f = ap (λ (z : Option (List ℕ)). not (is_some z)) (f refl).1

    pub closed_may : close_answer g.rows n (closing_view h) ≡ Ok tt → MayClose
    closed_may e =
        let a = passed (sizes_ok n h) _ (record { number = 4; place = 0 }) tt e in
        let b = passes_at 14 (lowest (is_undecided g.rows n (closing_view h)) n) _ a.1 in
        let c = passes_at 15 (lowest (is_missing g.rows n (closing_view h)) n) (Ok tt) b.1 in
        record {
          sizes = a.0;
          decided = λ k lk. let z = eqb-false _ _ (lowest_none (is_undecided g.rows n (closing_view h)) n b.0 k lk) in ⊎_elim (λ q. absurd (z q)) (λ ne. omega arith) (cases_eq (ballot_at k h).decided 0);
          sheets = λ k lk d. found (is_decided_in g.rows n (closing_view h) k) (sheet_of_slot g.rows n (closing_view h) k) d (lowest_none (is_missing g.rows n (closing_view h)) n c.0 k lk);
        }

    pub may_closed : MayClose → close_answer g.rows n (closing_view h) ≡ Ok tt
    may_closed m =
        cond-true (sizes_ok n h) _ (refused 4 0) m.sizes
        ∙ ap (λ (o : Option ℕ). unless_at 14 o (unless_at 15 (lowest (is_missing g.rows n (closing_view h)) n) (Ok tt))) (none_lowest (is_undecided g.rows n (closing_view h)) n (λ k lk. ne_eqb _ _ (λ e. omega (arith, m.decided k lk))))
        ∙ ap (λ (o : Option ℕ). unless_at 15 o (Ok tt)) (none_lowest (is_missing g.rows n (closing_view h)) n (λ k lk. not_missing (is_decided_in g.rows n (closing_view h) k) (sheet_of_slot g.rows n (closing_view h) k) (m.sheets k lk)))

    -- where close is not refused, the sheets listed are as many as the ballots decided 1
    pub sheets_counted : MayClose → sheets_listed g.rows n (closing_view h) ≡ count n (is_decided_in g.rows n (closing_view h))
    sheets_counted m = count_same n _ _ (λ k lk. as_many (is_decided_in g.rows n (closing_view h) k) (sheet_of_slot g.rows n (closing_view h) k) (m.sheets k lk))
      where
        as_many : (b : Bool) (o : Option (List ℕ)) → (b ≡ true → (x : List ℕ) × (o ≡ Some x)) → is_some (cond b o None) ≡ b
        as_many false o f = refl
        as_many true o f = ap (λ (z : Option (List ℕ)). is_some z) (f refl).1
