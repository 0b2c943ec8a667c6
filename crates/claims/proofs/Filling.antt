-- Enough sheets, and the claims on evenings that hold under every rule. Assumes nothing.
use Rattle.std.proofs.Common.{◌≡◌, ℕ, zero, suc, ◌+◌, ◌*◌, ◌<◌, ◌≤◌, Bool, true, false, cond, eqb, List, length, Some, None, Ok, Option, sym, ap, ◌∙◌, subst, arith}
use Rattle.basis.specs.Halls.{faults}
use Rattle.basis.proofs.Counts.{count_same}
use Rattle.basis.proofs.Thirds.{thirds}
use Rattle.broadcast.proofs.Tables.{some_inj}
use Rattle.rules.specs.Rounds.{Round}
use Rattle.closing.proofs.Fields.{record_length}
use Rattle.closing.proofs.Listing.{list_tells}
use Rattle.outcomes.specs.Closing.{Entry, closing_view, is_decided_in, sheet_of_slot, listed_sheet, sheets_listed, list_answer, closing_record}
use Rattle.outcomes.specs.Holdings.{Closed, Setting}
use Rattle.evenings.specs.Evenings.{held, Offers}
use Rattle.evenings.specs.Claims.{Lawful, EveningsAgree, EveningsFill}
use Rattle.sheet_turns.proofs.Closing.{sheets_counted}
use Rattle.sheet_turns.proofs.Halls.{leads_later, whole_opened, offers_sent, sheet_offered}
use Rattle.claims.proofs.Halls.{Whole, holds_at, ballots_of}
use Rattle.claims.proofs.Views.{view_decided}
use Rattle.claims.proofs.Agreeing.{ballots_claims, agreement}
use Rattle.claims.proofs.Calling.{leads_after, evening_whole}

listed_there : (b : Bool) (o : Option (List ℕ)) (x : List ℕ) → cond b o None ≡ Some x → o ≡ Some x
listed_there true o x e = e
listed_there false o x e = absurd (let z : ◌≡◌ {A = ℕ} 0 1 = cc in omega arith)

times_up : (a b c : ℕ) → b ≤ c → a * b ≤ a * c
times_up zero b c h = omega arith
times_up (suc a) b c h = let i = times_up a b c h in omega (arith, i, h)

module _ {R C Row : Type 0} (g : Setting R C) (meaning : Row → Round) (laws : Lawful g) where
  pub evenings_agree : EveningsAgree g meaning
  evenings_agree n honest s s' li few e leads coins =
      let w = evening_whole g meaning n honest laws li few e in
      let a = leads_after g meaning n honest laws li few w leads in
      agreement g meaning n honest laws li few s s' w a.whole (leads_later g meaning n honest laws.rows few w.cast leads) a.grown coins

  pub evenings_fill : EveningsFill g meaning
  evenings_fill n honest s li few e = record { many = many; entries = entries; bytes = bytes; as_offered = as_offered; offered_once = offered_once }
    where
      w : Whole g meaning n honest laws.rows s
      w = evening_whole g meaning n honest laws li few e

      many : (i : ℕ) → (i < n) × (honest i ≡ true) → (s i).life ≡ Closed → faults n + 2 ≤ sheets_listed g.rows n (closing_view (held meaning (s i)))
      many i gi c =
          let m = w.closed i gi c in
          let v = holds_at g meaning n honest laws.rows s i in
          let enough = (ballots_claims g meaning n honest laws li few s w).enough_ones i gi (λ k lk. subst (λ (z : ℕ). 0 < z) (sym (view_decided g n v k lk)) (m.decided k lk)) in
          let same = count_same n (λ k. eqb (ballots_of g meaning n honest laws.rows s i k).decided 2) (is_decided_in g.rows n (closing_view v)) (λ k lk. ap (λ (z : ℕ). eqb z 2) (view_decided g n v k lk)) in
          subst (λ (z : ℕ). faults n + 2 ≤ z) (same ∙ sym (sheets_counted g n i v m)) enough

      entries : (i index : ℕ) → (i < n) × (honest i ≡ true) → (s i).life ≡ Closed → index < faults n + 2 → (x : Entry) × (list_answer g.rows n (closing_view (held meaning (s i))) index ≡ Ok x)
      entries i index gi c lt = let l = many i gi c in (list_tells g.rows n (closing_view (held meaning (s i))) (w.closed i gi c).sizes).answered index (omega arith)

      bytes : (i : ℕ) → (i < n) × (honest i ≡ true) → (s i).life ≡ Closed → 7 + (g.size + 4) * (faults n + 2) ≤ length (closing_record g.rows n (closing_view (held meaning (s i))) g.size g.kind)
      bytes i gi c =
          let v = closing_view (held meaning (s i)) in
          let l = record_length g.rows g.size (λ r t h. laws.rows.sized t (laws.rows.kept r t h).0) n g.kind v in
          let p = times_up (g.size + 4) (faults n + 2) (sheets_listed g.rows n v) (many i gi c) in
          omega (arith, l, p)

      offered_once : (k : ℕ) (x y : List ℕ) → (k < n) × (honest k ≡ true) → Offers g meaning n honest e.calls k x → Offers g meaning n honest e.calls k y → x ≡ y
      offered_once k x y gk ox oy =
          let wh = whole_opened g meaning n honest laws.rows e.start e.opened in
          some_inj (offers_sent g meaning n honest laws.rows few wh e.calls k x gk ox) (offers_sent g meaning n honest laws.rows few wh e.calls k y gk oy)

      as_offered : (i k : ℕ) (x : List ℕ) → (i < n) × (honest i ≡ true) → (k < n) × (honest k ≡ true) → (s i).life ≡ Closed → listed_sheet g.rows n (closing_view (held meaning (s i))) k ≡ Some x → Offers g meaning n honest e.calls k x
      as_offered i k x gi gk c h = sheet_offered g meaning n honest laws.rows few (thirds n li) s e i k x gi gk
          (listed_there (is_decided_in g.rows n (closing_view (held meaning (s i))) k) (sheet_of_slot g.rows n (closing_view (held meaning (s i))) k) x h)
