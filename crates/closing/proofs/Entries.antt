-- Looking for the entry at an index, replica by replica. Assumes nothing.
use Rattle.std.proofs.Common.{◌≡◌, ℕ, ◌+◌, ◌<◌, ◌≤◌, true, false, ◌&&◌, List, Some, None, Ok, eqb, sym, ap, ◌∙◌, eq-eqb, arith}
use Rattle.std.specs.Prelude.{is_some}
use Rattle.std.proofs.lemmas.Bool.{ne_eqb}
use Rattle.basis.specs.Counts.{count}
use Rattle.basis.proofs.Counts.{count_yes, count_no}
use Rattle.sheets.specs.Holds.{Rows}
use Rattle.outcomes.specs.Closing.{ClosingView, lowest, listed_sheet, is_listed, stands_at, entry_of, entry_at}
use Rattle.closing.proofs.Lowest.{this_one, none_more}

module _ {R : Type 0} (rows : Rows R) (n : ℕ) (v : ClosingView R) (index : ℕ) where
  -- so many are listed below i, and none of them stands at the index
  abbrev pub Passed : ℕ → ℕ → Type 0
  Passed b i = (b ≤ i) × (b ≡ count i (is_listed rows n v)) × (lowest (stands_at rows n v index) i ≡ None)

  abbrev below : ℕ → ℕ
  below i = count i (is_listed rows n v)

  -- replica i is listed, and at another index
  pub passed_listed : (b i : ℕ) (s : List ℕ) → Passed b i → Some s ≡ listed_sheet rows n v i → (b ≡ index → ⊥) → Passed (b + 1) (i + 1)
  passed_listed b i s p e ne =
      let here : is_listed rows n v i ≡ true = ap is_some (sym e) in
      let more = count_yes i (is_listed rows n v) here in
      let fails : stands_at rows n v index i ≡ false = ap (λ x. x && eqb (below i) index) here ∙ ne_eqb (below i) index (λ q. ne (p.1 ∙ q)) in
      (omega (arith, p.0), omega (arith, p.1, more), none_more (stands_at rows n v index) i p.2 fails)

  -- replica i is not listed
  pub passed_other : (b i : ℕ) → Passed b i → None ≡ listed_sheet rows n v i → Passed b (i + 1)
  passed_other b i p e =
      let here : is_listed rows n v i ≡ false = ap is_some (sym e) in
      let fails : stands_at rows n v index i ≡ false = ap (λ x. x && eqb (below i) index) here in
      (omega (arith, p.0), p.1 ∙ sym (count_no i (is_listed rows n v) here), none_more (stands_at rows n v index) i p.2 fails)

  -- replica i stands at the index
  pub entry_found : (b i : ℕ) (s : List ℕ) → i < n → Passed b i → Some s ≡ listed_sheet rows n v i → b ≡ index → Ok (record { replica = i; sheet = s }) ≡ entry_at rows n v (lowest (stands_at rows n v index) n)
  entry_found b i s lt p e q =
      let here : is_listed rows n v i ≡ true = ap is_some (sym e) in
      let stands : stands_at rows n v index i ≡ true = ap (λ x. x && eqb (below i) index) here ∙ eq-eqb (below i) index (sym p.1 ∙ q) in
      ap (entry_of rows n v i) e ∙ sym (ap (entry_at rows n v) (this_one (stands_at rows n v index) i n lt p.2 stands))
