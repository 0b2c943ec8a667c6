-- What a packet that was read as a sheet message is known to be; looking at one slot more. Assumes nothing.
use Rattle.std.proofs.Common.{◌≡◌, ℕ, ◌+◌, ◌<◌, true, List, Ok, sym, ap, ◌∙◌, subst, add-one, arith}
use Rattle.basis.specs.Bytes.{Octets}
use Rattle.messages.specs.Reading.{Syntax, Placed, reading, Lawful, placed, Exact}
use Rattle.messages.specs.declared.message.Message.{Message}
use Rattle.messages.specs.declared.message.Message.TheVariants.{Sheet, Bit, Set, Share}
use Rattle.messages.specs.declared.message.Phase.{Phase}
use Rattle.sheets.specs.Holds.{Rows}
use Rattle.slots.specs.Steps.{Slots, settled}
use Rattle.broadcast.specs.Calls.{looked}

-- a sheet message that was read is for a slot of the hall, and its sheet is lawful
pub sheet_read : (y : Syntax) → Exact y → (xs : List ℕ) → Octets xs → (ph : Phase) (k : ℕ) (p : Placed) → reading y xs ≡ Ok (Sheet ph k p) → (k < y.replicas) × (y.lawful p.bytes ≡ true)
sheet_read y fit xs octets ph k p e = let o = fit.only xs octets (Sheet ph k p) e in go o.0 o.1 o.3
  where
    go : (m : Message (List ℕ)) → Lawful y m → Sheet ph k p ≡ placed m → (k < y.replicas) × (y.lawful p.bytes ≡ true)
    go (Sheet ph' k' s) l q =
        let a : k ≡ k' = cc in
        let b : p ≡ record { at = 4; bytes = s } = cc in
        (subst (λ x. x < y.replicas) (sym a) l.0, ap (λ x. y.lawful x.bytes) b ∙ l.1)
    go (Bit v k' r x) l q = absurd (let z : ◌≡◌ {A = ℕ} 0 1 = cc in omega arith)
    go (Set t k' r x) l q = absurd (let z : ◌≡◌ {A = ℕ} 0 1 = cc in omega arith)
    go (Share k' r x) l q = absurd (let z : ◌≡◌ {A = ℕ} 0 1 = cc in omega arith)

-- one slot more takes its steps
pub looked_more : {R : Type 0} (rows : Rows R) (y : Syntax) (own i : ℕ) (t : Slots R) → looked rows y own (i + 1) t ≡ settled rows y.replicas own i 3 (looked rows y own i t)
unfolding looked
looked_more rows y own i t = rw (add-one i)
