-- Where all that might be said lies below a position, nothing is found. Assumes nothing.
use Rattle.std.proofs.Common.{◌≡◌, ℕ, suc, ◌+◌, ◌*◌, ◌≤◌, Bool, true, false, cond, List, Some, None, Option, refl, ap, ◌∙◌, arith}
use Rattle.std.proofs.lemmas.Bool.{lt-leb}
use Rattle.broadcast.specs.Saying.{at_or_after, next_said}
use Rattle.coins.specs.Coins.{Acts as Coin-acts}
use Rattle.messages.specs.declared.message.Message.{Message}
use Rattle.messages.specs.declared.message.Message.TheVariants.{Share}
use Rattle.messages.specs.declared.message.Phase.{Phase}
use Rattle.messages.specs.declared.message.Phase.TheVariants.{Send, Echo, Ready}
use Rattle.messages.specs.Tags.{uses, phase_tag}
use Rattle.messages.specs.Writing.{position}
use Rattle.outcomes.specs.Holdings.{Setting, Holding}
use Rattle.outcomes.specs.Saying.{first_value, first_in_ballot, first_under, share_message, share_from, first_if_used}
use Rattle.saying.proofs.Lowest.{IsLowest, Among}
use Rattle.saying.proofs.SaidSheets.{SheetIn, AnySheet, sheet_at, sheet_lowest}
use Rattle.sheets.specs.Holds.{Rows}
use Rattle.saying.proofs.SaidVotes.{VoteIn, vote_at, value_lowest, ballot_lowest, under_lowest}

none_if : (P : Message (List ℕ) → Type 0) (o : Option (Message (List ℕ))) → IsLowest P o → ((m : Message (List ℕ)) → P m → ⊥) → o ≡ None
none_if P None l never = refl
none_if P (Some x) l never = absurd (never x l.0)

none_both : (b : Bool) → ◌≡◌ {A = Option (Message (List ℕ))} (cond b None None) None
none_both true = refl
none_both false = refl

module _ {R C : Type 0} (own : ℕ) (h : Holding R C) (from t : ℕ) (low : 32 ≤ t) where
  -- votes of one round, of one ballot, under one tag
  pub no_value : (k r : ℕ) → ((t * 16 + k) * 16 + r) * 256 + 256 ≤ from → first_value own h from t k r ≡ None
  no_value k r below = none_if (VoteIn own h from t k r) (first_value own h from t k r) (value_lowest own h from t k r low)
      (λ m p.
      let a = vote_at own h from t k r low m p in
      absurd (let x = a.tag in let y = a.slot in let z = a.round in let v = a.value in let q = p.1.1 in omega arith))

  pub no_ballot : (k : ℕ) → (t * 16 + k) * 4096 + 4096 ≤ from → first_in_ballot own h from t k ≡ None
  no_ballot k below = none_if (Among 16 (VoteIn own h from t k)) (first_in_ballot own h from t k) (ballot_lowest own h from t k low)
      (λ m p.
      let a = vote_at own h from t k p.0 low m p.2 in
      absurd (let x = a.tag in let y = a.slot in let z = a.round in let w = p.1 in let v = a.value in let q = p.2.1.1 in omega arith))

  no_under : (n : ℕ) → n ≤ 16 → t * 65536 + 65536 ≤ from → first_under own h from n t ≡ None
  no_under n most below = none_if (Among n (λ k. Among 16 (VoteIn own h from t k))) (first_under own h from n t) (under_lowest own h from n t low)
      (λ m p.
      let a = vote_at own h from t p.0 p.2.0 low m p.2.2 in
      absurd (let x = a.tag in let y = a.slot in let u = p.1 in let z = a.round in let w = p.2.1 in let v = a.value in let q = p.2.2.1.1 in omega arith))

  -- the same where the rule uses the tag
  pub no_used : (g : Setting R C) (n : ℕ) → n ≤ 16 → t * 65536 + 65536 ≤ from → first_if_used g n own h from t ≡ None
  no_used g n most below = ap (λ o. cond (uses g.rule.tags t) o None) (no_under n most below) ∙ none_both (uses g.rule.tags t)

-- behind the last position of a sheet message there is none
pub no_sheet : {R : Type 0} (rows : Rows R) (n own from : ℕ) (ps : List R) → n ≤ 16 → 1245184 ≤ from → next_said rows n own ps from ≡ None
no_sheet rows n own from ps most behind = none_if (AnySheet rows n own from ps) (next_said rows n own ps from) (sheet_lowest rows n own from ps most) (λ m s. go m s.0 s.1)
  where
    low : (ph : Phase) → phase_tag ph ≤ 18
    low Send = omega arith
    low Echo = omega arith
    low Ready = omega arith

    go : (m : Message (List ℕ)) (ph : Phase) → Among n (SheetIn rows n own from ps ph) m → ⊥
    go m ph p =
        let a = sheet_at rows n own from ps ph p.0 m p.2 in
        let l = low ph in
        absurd (let x = a.tag in let y = a.slot in let u = p.1 in let z = a.round in let v = a.value in let q = p.2.1 in omega arith)

-- a share that fits a byte
pub no_share : {C : Type 0} (coins : Coin-acts C) (own : ℕ) (c : C) (from k r x : ℕ) → coins.taken_of c k (suc r) own ≡ Some x → x ≤ 255 → ((48 * 16 + k) * 16 + suc r) * 256 + 256 ≤ from → share_from coins own c from k r ≡ None
no_share coins own c from k r x taken small below =
    ap (λ o. at_or_after from (share_message k (suc r) o)) taken
    ∙ ap (λ b. cond b (Some (Share k (suc r) x)) None) (lt-leb from (position {P = List ℕ} (Share k (suc r) x)) (omega arith))
