-- The lowest vote that is said. Assumes nothing.
use Rattle.std.proofs.Common.{◌≡◌, ℕ, ◌<◌, ◌≤◌, ◌⊎◌, inl, inr, Bool, true, false, cond, List, Some, None, Option, refl, sym, ap, ◌∙◌, subst, ⊎_elim, eqb-true, arith}
use Rattle.std.specs.Prelude.{nat_le, ◌==◌}
use Rattle.std.proofs.lemmas.Bool.{and_parts, leb-true, eqb-false}
use Rattle.messages.specs.declared.message.BitSet.{BitSet}
use Rattle.messages.specs.declared.message.BitSet.TheVariants.{Zero, One, Both}
use Rattle.messages.specs.declared.message.Message.{Message}
use Rattle.messages.specs.declared.message.Message.TheVariants.{Bit, Set}
use Rattle.messages.specs.declared.message.Vote.TheVariants.{First, Second}
use Rattle.messages.specs.Tags.{vote_tag, vote_of, bits_number}
use Rattle.messages.specs.Writing.{bit_number, value_of}
use Rattle.broadcast.specs.Saying.{at_or_after}
use Rattle.slots.specs.Places.{or_else}
use Rattle.outcomes.specs.Holdings.{Holding}
use Rattle.outcomes.specs.Saying.{vote_message, may_be_cast, is_vote_said, vote_said, first_value, first_in_ballot, first_under}
use Rattle.saying.proofs.Lowest.{IsLowest, There, Among, Before, lowest_same, lowest_of_one, lowest_of_two, lowest_of_all}
use Rattle.saying.proofs.Positions.{At, by_slot, by_round, by_value}

-- the tag of a vote for one bit
pub vote_tag_of : (t : ℕ) → 32 ≤ t → t ≤ 33 → vote_tag (vote_of t) ≡ t
vote_tag_of t low high = go (t == 32) refl
  where
    go : (b : Bool) → (t == 32) ≡ b → vote_tag (cond b First Second) ≡ t
    go true e = sym (eqb-true t 32 e)
    go false e = let ne = eqb-false t 32 e in omega arith

-- where a vote's message stands
pub vote_stands : (t k r : ℕ) (v : BitSet) → 32 ≤ t → At t k r (vote_message t k r v)
vote_stands t k r v low = go (nat_le t 33) refl
  where
    bit_small : (b : Bool) → bit_number b < 256
    bit_small true = omega arith
    bit_small false = omega arith

    set_small : (v : BitSet) → bits_number v < 256
    set_small Zero = omega arith
    set_small One = omega arith
    set_small Both = omega arith

    go : (b : Bool) → nat_le t 33 ≡ b → At t k r (cond b (Bit (vote_of t) k r (bits_number v == 2)) (Set t k r v))
    go true e = record { tag = vote_tag_of t low (leb-true t 33 e); slot = refl; round = refl; value = bit_small (bits_number v == 2) }
    go false e = record { tag = refl; slot = refl; round = refl; value = set_small v }

-- of the votes of one round: values rise
zero_low : (t k r : ℕ) (v : BitSet) → value_of {P = List ℕ} (vote_message t k r Zero) ≤ value_of {P = List ℕ} (vote_message t k r v)
zero_low t k r v = go (nat_le t 33)
  where
    some : (v : BitSet) → 1 ≤ bits_number v
    some Zero = omega arith
    some One = omega arith
    some Both = omega arith

    go : (b : Bool) → value_of {P = List ℕ} (cond b (Bit (vote_of t) k r false) (Set t k r Zero)) ≤ value_of {P = List ℕ} (cond b (Bit (vote_of t) k r (bits_number v == 2)) (Set t k r v))
    go true = omega arith
    go false = some v

one_low : (t k r : ℕ) → may_be_cast t r Both ≡ true → value_of {P = List ℕ} (vote_message t k r One) ≤ value_of {P = List ℕ} (vote_message t k r Both)
one_low t k r c = go (nat_le t 33) c
  where
    go : (b : Bool) → cond b false (nat_le 1 r) ≡ true → value_of {P = List ℕ} (cond b (Bit (vote_of t) k r true) (Set t k r One)) ≤ value_of {P = List ℕ} (cond b (Bit (vote_of t) k r false) (Set t k r Both))
    go true e = absurd (let z : ◌≡◌ {A = ℕ} 0 1 = cc in omega arith)
    go false e = omega arith

module _ {R C : Type 0} (own : ℕ) (h : Holding R C) (from : ℕ) where
  -- what a vote that is said is, and that it is said
  pub said_parts : (t k r : ℕ) (v : BitSet) (m : Message (List ℕ)) → vote_said own h t k r v ≡ Some m → (m ≡ vote_message t k r v) × (is_vote_said own h t k r v ≡ true)
  said_parts t k r v m e = go (is_vote_said own h t k r v) e
    where
      go : (b : Bool) → cond b (Some (vote_message t k r v)) None ≡ Some m → (m ≡ vote_message t k r v) × (b ≡ true)
      go true e = (cc, refl)
      go false e = absurd (let z : ◌≡◌ {A = ℕ} 0 1 = cc in omega arith)

  -- a vote of a round, by any set
  abbrev pub VoteIn : ℕ → ℕ → ℕ → Message (List ℕ) → Type 0
  VoteIn t k r m = (v : BitSet) × There from (vote_said own h t k r v) m

  pub vote_at : (t k r : ℕ) → 32 ≤ t → (m : Message (List ℕ)) → VoteIn t k r m → At t k r m
  vote_at t k r low m p = subst (At t k r) (sym (said_parts t k r p.0 m p.1.0).0) (vote_stands t k r p.0 low)

  -- in one round
  value_before : (t k r : ℕ) → 32 ≤ t → (v w : BitSet) → (may_be_cast t r w ≡ true → value_of {P = List ℕ} (vote_message t k r v) ≤ value_of {P = List ℕ} (vote_message t k r w)) → Before (There from (vote_said own h t k r v)) (There from (vote_said own h t k r w))
  value_before t k r low v w rises m m' p q =
      let a = vote_at t k r low m (v, p) in
      let b = vote_at t k r low m' (w, q) in
      let x = said_parts t k r v m p.0 in
      let y = said_parts t k r w m' q.0 in
      let c = (and_parts _ _ y.1).0 in
      let values : value_of m ≤ value_of m' = let l = rises c in let u = ap value_of x.0 in let d = ap value_of y.0 in omega arith in
      by_value m m' (a.tag ∙ sym b.tag) (a.slot ∙ sym b.slot) (a.round ∙ sym b.round) values

  pub value_lowest : (t k r : ℕ) → 32 ≤ t → IsLowest (VoteIn t k r) (first_value own h from t k r)
  value_lowest t k r low =
      let V : BitSet → Message (List ℕ) → Type 0 = λ v. There from (vote_said own h t k r v) in
      let o : BitSet → Option (Message (List ℕ)) = λ v. at_or_after from (vote_said own h t k r v) in
      lowest_same (λ m. V Zero m ⊎ (V One m ⊎ V Both m)) (VoteIn t k r) (first_value own h from t k r)
      (λ m s. ⊎_elim (λ p. (Zero, p)) (λ s. ⊎_elim (λ p. (One, p)) (λ p. (Both, p)) s) s)
      (λ m s. back m s.0 s.1)
      (lowest_of_two (V Zero) (λ m. V One m ⊎ V Both m) (o Zero) (or_else (o One) (o Both)) (lowest_of_one from (vote_said own h t k r Zero))
      (lowest_of_two (V One) (V Both) (o One) (o Both) (lowest_of_one from (vote_said own h t k r One)) (lowest_of_one from (vote_said own h t k r Both))
      (value_before t k r low One Both (one_low t k r)))
      (λ m m' p s. ⊎_elim (value_before t k r low Zero One (λ _. zero_low t k r One) m m' p) (value_before t k r low Zero Both (λ _. zero_low t k r Both) m m' p) s))
    where
      back : (m : Message (List ℕ)) (v : BitSet) → There from (vote_said own h t k r v) m → There from (vote_said own h t k r Zero) m ⊎ (There from (vote_said own h t k r One) m ⊎ There from (vote_said own h t k r Both) m)
      back m Zero p = inl p
      back m One p = inr (inl p)
      back m Both p = inr (inr p)

  -- in one ballot, and under one tag
  pub ballot_lowest : (t k : ℕ) → 32 ≤ t → IsLowest (Among 16 (VoteIn t k)) (first_in_ballot own h from t k)
  ballot_lowest t k low = lowest_of_all (first_value own h from t k) (VoteIn t k) 16 (λ r l. value_lowest t k r low)
      (λ i j l u m m' p q.
      let a = vote_at t k i low m p in
      let b = vote_at t k j low m' q in
      by_round m m' a.value (a.tag ∙ sym b.tag) (a.slot ∙ sym b.slot) (let x = a.round in let y = b.round in omega arith))

  pub under_lowest : (n t : ℕ) → 32 ≤ t → IsLowest (Among n (λ k. Among 16 (VoteIn t k))) (first_under own h from n t)
  under_lowest n t low = lowest_of_all (first_in_ballot own h from t) (λ k. Among 16 (VoteIn t k)) n (λ k l. ballot_lowest t k low)
      (λ i j l u m m' p q.
      let a = vote_at t i p.0 low m p.2 in
      let b = vote_at t j q.0 low m' q.2 in
      by_slot m m' (let x = a.round in let z = p.1 in omega arith) a.value (a.tag ∙ sym b.tag) (let x = a.slot in let y = b.slot in omega arith))
