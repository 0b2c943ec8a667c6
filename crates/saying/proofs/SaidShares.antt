-- The lowest share that is said. Assumes nothing.
use Rattle.std.proofs.Common.{◌≡◌, ℕ, suc, ◌<◌, ◌≤◌, List, Some, None, Option, refl, sym, ◌∙◌, subst, arith}
use Rattle.coins.specs.Coins.{Acts as Coin-acts, Tossed}
use Rattle.messages.specs.declared.message.Message.{Message}
use Rattle.messages.specs.declared.message.Message.TheVariants.{Share}
use Rattle.outcomes.specs.Saying.{first_of, share_message, share_said, share_from, first_share_in}
use Rattle.saying.proofs.Lowest.{IsLowest, There, Among, lowest_of_one, lowest_of_all}
use Rattle.saying.proofs.Positions.{At, by_slot, by_round}

module _ {C : Type 0} (coins : Coin-acts C) (own from : ℕ) (c : C) where
  -- a share of a round
  abbrev pub ShareIn : ℕ → ℕ → Message (List ℕ) → Type 0
  ShareIn k r m = There from (share_said coins own c k (suc r)) m

  -- what a share that is said is, and that it is taken
  pub share_parts : (k r : ℕ) (m : Message (List ℕ)) → share_said coins own c k r ≡ Some m → (x : ℕ) × (coins.taken_of c k r own ≡ Some x) × (m ≡ Share k r x)
  share_parts k r m e = go (coins.taken_of c k r own) e
    where
      go : (o : Option ℕ) → share_message k r o ≡ Some m → (x : ℕ) × (o ≡ Some x) × (m ≡ Share k r x)
      go None e = absurd (let z : ◌≡◌ {A = ℕ} 0 1 = cc in omega arith)
      go (Some x) e = (x, refl, cc)

  -- the own shares that are taken are lawful
  module _ (lawful : (k r x : ℕ) → Tossed k r → coins.taken_of c k r own ≡ Some x → x ≤ 250) where
    pub tossed : (k r : ℕ) → k < 16 → r < 15 → Tossed k (suc r)
    tossed k r lk lr = record { ballot_below = lk; round_from = omega arith; round_to = omega arith }

    pub share_at : (k r : ℕ) → k < 16 → r < 15 → (m : Message (List ℕ)) → ShareIn k r m → At 48 k (suc r) m
    share_at k r lk lr m p =
        let s = share_parts k (suc r) m p.0 in
        let small = lawful k (suc r) s.0 (tossed k r lk lr) s.1 in
        subst (At 48 k (suc r)) (sym s.2) (record { tag = refl; slot = refl; round = refl; value = omega arith })

    -- in one ballot, and in all
    pub share_in_lowest : (k : ℕ) → k < 16 → IsLowest (Among 15 (ShareIn k)) (first_share_in coins own c from k)
    share_in_lowest k lk = lowest_of_all (share_from coins own c from k) (ShareIn k) 15 (λ r l. lowest_of_one from (share_said coins own c k (suc r)))
        (λ i j l u m m' p q.
        let a = share_at k i lk (omega arith) m p in
        let b = share_at k j lk u m' q in
        by_round m m' a.value (a.tag ∙ sym b.tag) (a.slot ∙ sym b.slot) (let x = a.round in let y = b.round in omega arith))

    pub share_lowest : (n : ℕ) → n ≤ 16 → IsLowest (Among n (λ k. Among 15 (ShareIn k))) (first_of (first_share_in coins own c from) n)
    share_lowest n most = lowest_of_all (first_share_in coins own c from) (λ k. Among 15 (ShareIn k)) n (λ k l. share_in_lowest k (omega arith))
        (λ i j l u m m' p q.
        let a = share_at i p.0 (omega arith) p.1 m p.2 in
        let b = share_at j q.0 (omega arith) q.1 m' q.2 in
        by_slot m m' (let x = a.round in let z = p.1 in omega arith) a.value (a.tag ∙ sym b.tag) (let x = a.slot in let y = b.slot in omega arith))
