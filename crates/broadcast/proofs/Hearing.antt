-- What hear answers to what is new, and to what an honest replica has said. Assumes nothing.
use Rattle.std.proofs.Common.{◌≡◌, ℕ, suc, ◌<◌, true, cond, not, ◌&&◌, eqb, ltb, List, Some, None, Ok, Err, Option, Result, sym, refl, ap, ◌∙◌, subst, arith}
use Rattle.std.proofs.lemmas.Bool.{and_parts, and_from, ltb-true, lt-ltb, ne_eqb, not_from_false}
use Rattle.std.specs.Str.{bytes_eq}
use Rattle.basis.specs.Bytes.{Octets}
use Rattle.basis.specs.Refusals.{Refused, refused}
use Rattle.messages.specs.declared.message.Message.{Message}
use Rattle.messages.specs.declared.message.Message.TheVariants.{Sheet, Bit, Set, Share}
use Rattle.messages.specs.declared.message.Phase.{Phase}
use Rattle.messages.specs.Writing.{written}
use Rattle.messages.specs.Reading.{Syntax, Placed, and_then, reading, Lawful, placed, Exact}
use Rattle.messages.proofs.Fit.{exact}
use Rattle.messages.proofs.Lists.{passed}
use Rattle.sheets.specs.Holds.{Rows}
use Rattle.slots.specs.Places.{recorded}
use Rattle.slots.specs.Steps.{Slots}
use Rattle.broadcast.specs.Calls.{Holding, sizes_ok, may_send, compared, taking, hear_answer, Said}
use Rattle.basis.specs.declared.heard.Heard.{Heard}
use Rattle.basis.specs.declared.heard.Heard.TheVariants.{New, Known}
use Rattle.broadcast.specs.Claims.{RowLaws}
use Rattle.broadcast.proofs.Tables.{other_not, same_bytes, bytes_same}

pub compared_new : (o : Option (List ℕ)) (s : List ℕ) → compared o s ≡ Ok New → o ≡ None
compared_new None s e = refl
compared_new (Some r) s e = absurd (let p = passed (bytes_eq r s) (Ok Known) (record { number = 13; place = 4 }) New e in let q = p.1 in let z : ◌≡◌ {A = ℕ} 0 1 = cc in omega arith)

pub compared_known : (o : Option (List ℕ)) (s : List ℕ) → compared o s ≡ Ok Known → o ≡ Some s
compared_known None s e = absurd (let z : ◌≡◌ {A = ℕ} 0 1 = cc in omega arith)
compared_known (Some r) s e = ap Some (same_bytes r s (passed (bytes_eq r s) (Ok Known) (record { number = 13; place = 4 }) Known e).0)

abbrev read_as : Phase → ℕ → List ℕ → Result (Message Placed) Refused
read_as ph k s = Ok (Sheet ph k (record { at = 4; bytes = s }))

pub read_once : (r : Result (Message Placed) Refused) (ph ph' : Phase) (k k' : ℕ) (s s' : List ℕ) → r ≡ read_as ph k s → r ≡ read_as ph' k' s' → (ph ≡ ph') × (k ≡ k') × (s ≡ s')
read_once r ph ph' k k' s s' a b =
    let p : ◌≡◌ {A = Placed} (record { at = 4; bytes = s }) (record { at = 4; bytes = s' }) = cc in
    (cc, cc, ap (λ (z : Placed). z.bytes) p)

-- a sheet message is taken in
pub record Takes {R : Type 0} (rows : Rows R) (y : Syntax) (own j : ℕ) (xs : List ℕ) (t : Slots R) : Type 0 where
  pub phase : Phase
  pub slot : ℕ
  pub sheet : List ℕ
  pub low : slot < y.replicas
  pub sender : j < y.replicas
  pub other : j ≡ own → ⊥
  pub allowed : may_send phase slot j ≡ true
  pub free : recorded rows y.replicas t.places phase slot j ≡ None
  pub lawful : y.lawful sheet ≡ true
  pub octets : Octets sheet
  pub read : reading y xs ≡ Ok (Sheet phase slot (record { at = 4; bytes = sheet }))

module _ {R : Type 0} (rows : Rows R) (y : Syntax) (laws : RowLaws rows y.size y.lawful) where
  fits : Exact y
  fits = exact y laws.sized laws.short

  module _ (own j : ℕ) (xs : List ℕ) (t : Holding R) where
    -- checks 4 and 5 are passed
    heard_passed : (a : Heard) → hear_answer rows y own j xs t ≡ Ok a → (j < y.replicas) × (j ≡ own → ⊥) × (and_then (reading y xs) (taking rows y own j t.slots) ≡ Ok a)
    heard_passed a e =
        let p = passed (sizes_ok y.replicas t) _ (record { number = 4; place = 0 }) a e in
        let q = passed (ltb j y.replicas && not (eqb j own)) _ (record { number = 5; place = 0 }) a p.1 in
        let b = and_parts _ _ q.0 in
        (ltb-true _ _ b.0, other_not own j b.1, q.1)

    pub takes : Octets xs → hear_answer rows y own j xs t ≡ Ok New → Takes rows y own j xs t.slots
    takes oct e = let p = heard_passed New e in go p.0 p.1 (reading y xs) refl p.2
      where
        by_message : j < y.replicas → (j ≡ own → ⊥) → (m : Message (List ℕ)) → Lawful y m → xs ≡ written m → reading y xs ≡ Ok (placed m) → taking rows y own j t.slots (placed m) ≡ Ok New → Takes rows y own j xs t.slots
        by_message lj ne (Sheet ph k s) law w r e =
            let p = passed (may_send ph k j) (compared (recorded rows y.replicas t.slots.places ph k j) s) (record { number = 12; place = 3 }) New e in
            record {
              phase = ph;
              slot = k;
              sheet = s;
              low = law.0;
              sender = lj;
              other = ne;
              allowed = p.0;
              free = compared_new _ s p.1;
              lawful = law.1;
              octets = λ i. subst Octets w oct (suc (suc (suc (suc i))));
              read = r;
            }
        by_message lj ne (Bit v k b x) law w r e = absurd (let z : ◌≡◌ {A = ℕ} 0 1 = cc in omega arith)
        by_message lj ne (Set g k b x) law w r e = absurd (let z : ◌≡◌ {A = ℕ} 0 1 = cc in omega arith)
        by_message lj ne (Share k b x) law w r e = absurd (let z : ◌≡◌ {A = ℕ} 0 1 = cc in omega arith)

        go : j < y.replicas → (j ≡ own → ⊥) → (r : Result (Message Placed) Refused) → reading y xs ≡ r → and_then r (taking rows y own j t.slots) ≡ Ok New → Takes rows y own j xs t.slots
        go lj ne (Err e) o h = absurd (let z : ◌≡◌ {A = ℕ} 0 1 = cc in omega arith)
        go lj ne (Ok p) o h = let f = fits.only xs oct p o in
            by_message lj ne f.0 f.1 f.2 (o ∙ ap Ok f.3) (ap (taking rows y own j t.slots) (sym f.3) ∙ h)

    -- a message that somebody has said reads as itself
    pub said_read : (u : Holding R) → (m : Said rows y j u xs) → reading y xs ≡ Ok (Sheet m.phase m.slot (record { at = 4; bytes = m.sheet }))
    said_read u m = ap (reading y) m.bytes ∙ fits.back (Sheet m.phase m.slot m.sheet) (m.low, (laws.kept _ m.sheet m.stands).0)

    said_taking : (u : Holding R) → (m : Said rows y j u xs) → and_then (reading y xs) (taking rows y own j t.slots) ≡ compared (recorded rows y.replicas t.slots.places m.phase m.slot j) m.sheet
    said_taking u m = ap (λ r. and_then r (taking rows y own j t.slots)) (said_read u m) ∙ ap (λ b. cond b (compared (recorded rows y.replicas t.slots.places m.phase m.slot j) m.sheet) (refused 12 3)) m.allowed

    -- and is recorded where it is known
    pub known_stands : (u : Holding R) → (m : Said rows y j u xs) → hear_answer rows y own j xs t ≡ Ok Known → recorded rows y.replicas t.slots.places m.phase m.slot j ≡ Some m.sheet
    known_stands u m e = compared_known _ m.sheet (sym (said_taking u m) ∙ (heard_passed Known e).2)

    -- it is not refused where no other sheet of that sender stands
    pub said_unrefused : (u : Holding R) → (m : Said rows y j u xs) → sizes_ok y.replicas t ≡ true → j < y.replicas → (j ≡ own → ⊥) →
        ((r : List ℕ) → recorded rows y.replicas t.slots.places m.phase m.slot j ≡ Some r → r ≡ m.sheet) → (e : Refused) → hear_answer rows y own j xs t ≡ Err e → ⊥
    said_unrefused u m sizes lj ne alone e h = go _ refl (sym answer ∙ h)
      where
        from : (ltb j y.replicas && not (eqb j own)) ≡ true
        from = and_from _ _ (lt-ltb _ _ lj) (not_from_false _ (ne_eqb j own ne))

        answer : hear_answer rows y own j xs t ≡ compared (recorded rows y.replicas t.slots.places m.phase m.slot j) m.sheet
        answer = ap (λ b. cond b (cond (ltb j y.replicas && not (eqb j own)) (and_then (reading y xs) (taking rows y own j t.slots)) (refused 5 0)) (refused 4 0)) sizes
            ∙ ap (λ b. cond b (and_then (reading y xs) (taking rows y own j t.slots)) (refused 5 0)) from ∙ said_taking u m

        go : (o : Option (List ℕ)) → recorded rows y.replicas t.slots.places m.phase m.slot j ≡ o → compared o m.sheet ≡ Err e → ⊥
        go None q h' = let z : ◌≡◌ {A = ℕ} 0 1 = cc in omega arith
        go (Some r) q h' =
            let w : bytes_eq r m.sheet ≡ true = subst (λ (v : List ℕ). bytes_eq r v ≡ true) (alone r q) (bytes_same r) in
            let h'' : Ok Known ≡ Err e = sym (ap (λ b. cond b (Ok Known) (refused 13 4)) w) ∙ h' in
            let z : ◌≡◌ {A = ℕ} 0 1 = cc in omega arith
