-- The lowest sheet message that is said. Assumes nothing.
use Rattle.std.proofs.Common.{◌≡◌, ℕ, zero, suc, ◌<◌, ◌≤◌, ◌⊎◌, inl, inr, Bool, true, false, cond, List, Some, None, Option, refl, sym, ap, ◌∙◌, subst, ⊎_elim, arith}
use Rattle.std.specs.Option.{option_map}
use Rattle.broadcast.specs.Calls.{may_send}
use Rattle.broadcast.specs.Saying.{at_or_after, said_message_lem, earliest, next_said}
use Rattle.messages.specs.declared.message.Message.{Message}
use Rattle.messages.specs.declared.message.Message.TheVariants.{Sheet}
use Rattle.messages.specs.declared.message.Phase.{Phase}
use Rattle.messages.specs.declared.message.Phase.TheVariants.{Send, Echo, Ready}
use Rattle.messages.specs.Tags.{phase_tag}
use Rattle.sheets.specs.Holds.{Rows}
use Rattle.slots.specs.Places.{or_else, recorded}
use Rattle.outcomes.specs.Saying.{first_of}
use Rattle.saying.proofs.Lowest.{IsLowest, There, Among, Before, lowest_same, lowest_of_one, lowest_of_two, lowest_of_all}
use Rattle.saying.proofs.Positions.{At, by_tag, by_slot}

module _ {R : Type 0} (rows : Rows R) (n own from : ℕ) (ps : List R) where
  -- a sheet message of a phase for a slot
  abbrev pub SheetIn : Phase → ℕ → Message (List ℕ) → Type 0
  SheetIn ph k m = There from (said_message_lem rows n own ps ph k) m

  -- what a sheet message that is said is, and that it may be sent and is recorded
  pub sheet_parts : (ph : Phase) (k : ℕ) (m : Message (List ℕ)) → said_message_lem rows n own ps ph k ≡ Some m → (s : List ℕ) × (may_send ph k own ≡ true) × (recorded rows n ps ph k own ≡ Some s) × (m ≡ Sheet ph k s)
  sheet_parts ph k m e = go (may_send ph k own) (recorded rows n ps ph k own) e
    where
      go : (b : Bool) (o : Option (List ℕ)) → cond b (option_map (Sheet ph k) o) None ≡ Some m → (s : List ℕ) × (b ≡ true) × (o ≡ Some s) × (m ≡ Sheet ph k s)
      go false o e = absurd (let z : ◌≡◌ {A = ℕ} 0 1 = cc in omega arith)
      go true None e = absurd (let z : ◌≡◌ {A = ℕ} 0 1 = cc in omega arith)
      go true (Some s) e = (s, refl, refl, cc)

  pub sheet_at : (ph : Phase) (k : ℕ) (m : Message (List ℕ)) → SheetIn ph k m → At (phase_tag ph) k 0 m
  sheet_at ph k m p = let s = sheet_parts ph k m p.0 in subst (At (phase_tag ph) k 0) (sym s.3) (record { tag = refl; slot = refl; round = refl; value = omega arith })

  -- the broadcast's search is a first one
  earliest_first : (ph : Phase) (m : ℕ) → earliest rows n own ps ph from m ≡ first_of (λ k. at_or_after from (said_message_lem rows n own ps ph k)) m
  unfolding earliest first_of
  earliest_first ph zero = refl
  earliest_first ph (suc m) = ap (λ o. or_else o (at_or_after from (said_message_lem rows n own ps ph m))) (earliest_first ph m)

  -- of one phase
  phase_lowest : (ph : Phase) → IsLowest (Among n (SheetIn ph)) (earliest rows n own ps ph from n)
  phase_lowest ph = subst (IsLowest (Among n (SheetIn ph))) (sym (earliest_first ph n))
      (lowest_of_all (λ k. at_or_after from (said_message_lem rows n own ps ph k)) (SheetIn ph) n (λ k l. lowest_of_one from (said_message_lem rows n own ps ph k))
      (λ i j l u m m' p q.
      let a = sheet_at ph i m p in
      let b = sheet_at ph j m' q in
      by_slot m m' (let x = a.round in omega arith) a.value (a.tag ∙ sym b.tag) (let x = a.slot in let y = b.slot in omega arith)))

  -- of all three: a phase with its slot
  abbrev pub AnySheet : Message (List ℕ) → Type 0
  AnySheet m = (ph : Phase) × Among n (SheetIn ph) m

  phase_before : n ≤ 16 → (ph ph' : Phase) → phase_tag ph < phase_tag ph' → Before (Among n (SheetIn ph)) (Among n (SheetIn ph'))
  phase_before most ph ph' lt m m' p q =
      let a = sheet_at ph p.0 m p.2 in
      let b = sheet_at ph' q.0 m' q.2 in
      by_tag m m' (let x = a.slot in let z = p.1 in omega arith) (let x = a.round in omega arith) a.value (let x = a.tag in let y = b.tag in omega arith)

  pub sheet_lowest : n ≤ 16 → IsLowest AnySheet (next_said rows n own ps from)
  sheet_lowest most =
      let S : Phase → Message (List ℕ) → Type 0 = λ ph. Among n (SheetIn ph) in
      let o : Phase → Option (Message (List ℕ)) = λ ph. earliest rows n own ps ph from n in
      lowest_same (λ m. S Send m ⊎ (S Echo m ⊎ S Ready m)) AnySheet (next_said rows n own ps from)
      (λ m s. ⊎_elim (λ p. (Send, p)) (λ s. ⊎_elim (λ p. (Echo, p)) (λ p. (Ready, p)) s) s)
      (λ m s. back m s.0 s.1)
      (lowest_of_two (S Send) (λ m. S Echo m ⊎ S Ready m) (o Send) (or_else (o Echo) (o Ready)) (phase_lowest Send)
      (lowest_of_two (S Echo) (S Ready) (o Echo) (o Ready) (phase_lowest Echo) (phase_lowest Ready) (phase_before most Echo Ready (omega arith)))
      (λ m m' p s. ⊎_elim (phase_before most Send Echo (omega arith) m m' p) (phase_before most Send Ready (omega arith) m m' p) s))
    where
      back : (m : Message (List ℕ)) (ph : Phase) → Among n (SheetIn ph) m → Among n (SheetIn Send) m ⊎ (Among n (SheetIn Echo) m ⊎ Among n (SheetIn Ready) m)
      back m Send p = inl p
      back m Echo p = inr (inl p)
      back m Ready p = inr (inr p)
