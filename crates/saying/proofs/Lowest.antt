-- The lowest of several messages, from the lowest of each part. Assumes nothing.
use Rattle.std.proofs.Common.{◌≡◌, ℕ, zero, suc, ◌<◌, ◌≤◌, ◌⊎◌, inl, inr, Bool, true, false, cond, List, Some, None, Option, refl, ap, subst, ⊎_elim, arith}
use Rattle.std.specs.Prelude.{nat_le}
use Rattle.std.proofs.lemmas.Bool.{cases_eq, leb-true, leb-false}
use Rattle.broadcast.specs.Saying.{at_or_after}
use Rattle.messages.specs.declared.message.Message.{Message}
use Rattle.messages.specs.Writing.{position}
use Rattle.slots.specs.Places.{or_else}
use Rattle.outcomes.specs.Saying.{first_of}

abbrev Said : Type 0
Said = Message (List ℕ)

-- an answer is the lowest in position of the messages of which P holds, and none where it holds of none
abbrev pub IsLowest : (Said → Type 0) → Option Said → Type 0
IsLowest P None = (m : Said) → P m → ⊥
IsLowest P (Some m) = P m × ((m' : Said) → P m' → position m ≤ position m')

-- of the same messages
pub lowest_same : (P Q : Said → Type 0) (o : Option Said) → ((m : Said) → P m → Q m) → ((m : Said) → Q m → P m) → IsLowest P o → IsLowest Q o
lowest_same P Q None to back l = λ m q. l m (back m q)
lowest_same P Q (Some x) to back l = (to x l.0, λ m q. l.1 m (back m q))

-- all of the first part are lower than those of the second
abbrev pub Before : (Said → Type 0) → (Said → Type 0) → Type 0
Before P Q = (m m' : Said) → P m → Q m' → position m ≤ position m'

pub lowest_of_two : (P Q : Said → Type 0) (a b : Option Said) → IsLowest P a → IsLowest Q b → Before P Q → IsLowest (λ m. P m ⊎ Q m) (or_else a b)
lowest_of_two P Q None None la lb low = λ m s. ⊎_elim (la m) (lb m) s
lowest_of_two P Q None (Some y) la lb low = (inr lb.0, λ m s. ⊎_elim (λ p. absurd (la m p)) (lb.1 m) s)
lowest_of_two P Q (Some x) b la lb low = (inl la.0, λ m s. ⊎_elim (la.1 m) (low x m la.0) s)

-- of one of the numbers below n
abbrev pub Among : ℕ → (ℕ → Said → Type 0) → Said → Type 0
Among n P m = (i : ℕ) × (i < n) × P i m

pub lowest_of_all : (f : ℕ → Option Said) (P : ℕ → Said → Type 0) (n : ℕ) → ((i : ℕ) → i < n → IsLowest (P i) (f i)) → ((i j : ℕ) → i < j → j < n → Before (P i) (P j)) → IsLowest (Among n P) (first_of f n)
unfolding first_of
lowest_of_all f P zero each low = λ m s. absurd (let z = s.1 in omega arith)
lowest_of_all f P (suc n) each low = lowest_same (λ m. Among n P m ⊎ P n m) (Among (suc n) P) (or_else (first_of f n) (f n))
    (λ m s. ⊎_elim (λ a. (a.0, (let z = a.1 in omega arith), a.2)) (λ p. (n, omega arith, p)) s)
    (λ m s. ⊎_elim (λ e. inr (subst (λ i. P i m) e s.2)) (λ ne. inl (s.0, (let z = s.1 in omega arith), s.2)) (cases_eq s.0 n))
    (lowest_of_two (Among n P) (P n) (first_of f n) (f n)
    (lowest_of_all f P n (λ i l. each i (omega arith)) (λ i j l k. low i j l (omega arith)))
    (each n (omega arith))
    (λ m m' a p. low a.0 n a.1 (omega arith) m m' a.2 p))

-- one message, where it is there and stands at or after the position
abbrev pub There : ℕ → Option Said → Said → Type 0
There from o m = (o ≡ Some m) × (from ≤ position m)

pub lowest_of_one : (from : ℕ) (o : Option Said) → IsLowest (There from o) (at_or_after from o)
lowest_of_one from None = λ m t. absurd (let e = t.0 in let z : ◌≡◌ {A = ℕ} 0 1 = cc in omega arith)
lowest_of_one from (Some x) = go (nat_le from (position x)) refl
  where
    same : (m : Said) → Some x ≡ Some m → x ≡ m
    same m e = cc

    go : (b : Bool) → nat_le from (position x) ≡ b → IsLowest (There from (Some x)) (cond b (Some x) None)
    go true e = ((refl, leb-true from (position x) e), λ m t. let s = ap position (same m t.0) in omega arith)
    go false e = λ m t. absurd (let s = ap position (same m t.0) in let l = leb-false from (position x) e in let q = t.1 in omega arith)
