-- The lowest of all messages that are said. Assumes nothing.
use Rattle.std.proofs.Common.{◌≡◌, ℕ, ◌+◌, ◌<◌, ◌≤◌, ◌⊎◌, Bool, true, false, cond, List, Some, None, Option, refl, ⊎_elim, arith}
use Rattle.broadcast.specs.Saying.{next_said}
use Rattle.coins.specs.Coins.{Tossed}
use Rattle.messages.specs.declared.message.Message.{Message}
use Rattle.messages.specs.declared.message.Phase.{Phase}
use Rattle.messages.specs.declared.message.Phase.TheVariants.{Send, Echo, Ready}
use Rattle.messages.specs.Tags.{phase_tag, uses}
use Rattle.messages.specs.Writing.{tag_of, slot_of, round_of, value_of}
use Rattle.slots.specs.Places.{or_else}
use Rattle.outcomes.specs.Holdings.{Setting, Holding}
use Rattle.outcomes.specs.Saying.{first_of, first_share_in, first_under, first_share, first_if_used, lowest_vote, next_message}
use Rattle.saying.proofs.Lowest.{IsLowest, Among, lowest_same, lowest_of_two, lowest_of_all}
use Rattle.saying.proofs.Positions.{by_tag}
use Rattle.saying.proofs.SaidVotes.{VoteIn, vote_at, under_lowest}
use Rattle.saying.proofs.SaidShares.{ShareIn, share_at, share_lowest}
use Rattle.saying.proofs.SaidSheets.{AnySheet, sheet_at, sheet_lowest}

-- an answer that is only asked for where a test passes
lowest_if : (P : Message (List ℕ) → Type 0) (b : Bool) (o : Option (Message (List ℕ))) → IsLowest P o → IsLowest (λ m. (b ≡ true) × P m) (cond b o None)
lowest_if P true o l = lowest_same P (λ m. (◌≡◌ {A = Bool} true true) × P m) o (λ m p. (refl, p)) (λ m p. p.1) l
lowest_if P false o l = λ m p. absurd (let e = p.0 in let z : ◌≡◌ {A = ℕ} 0 1 = cc in omega arith)

-- the own shares that are taken are lawful
abbrev pub LawfulShares : {R C : Type 0} → Setting R C → ℕ → Holding R C → Type 0
LawfulShares g own h = (k r x : ℕ) → Tossed k r → g.coins.taken_of h.coin k r own ≡ Some x → x ≤ 250

module _ {R C : Type 0} (g : Setting R C) (n own from : ℕ) (h : Holding R C) where
  -- a vote under a tag that the rule uses, by its tag; a share of a coin that uses shares
  abbrev pub VoteUnder : ℕ → Message (List ℕ) → Type 0
  VoteUnder t m = (uses g.rule.tags t ≡ true) × Among n (λ k. Among 16 (VoteIn own h from t k)) m

  abbrev pub AnyVote : Message (List ℕ) → Type 0
  AnyVote m = Among 16 (λ i. VoteUnder (32 + i)) m

  abbrev pub AnyShare : Message (List ℕ) → Type 0
  AnyShare m = (g.coins.uses ≡ true) × Among n (λ k. Among 15 (ShareIn g.coins own from h.coin k)) m

  abbrev pub Sheets : Message (List ℕ) → Type 0
  Sheets m = AnySheet g.rows n own from h.slots.places m

  -- of all
  abbrev pub Any : Message (List ℕ) → Type 0
  Any m = Sheets m ⊎ (AnyVote m ⊎ AnyShare m)

  module _ (most : n ≤ 16) (shares : LawfulShares g own h) where
    vote_lowest : IsLowest AnyVote (lowest_vote g n own h from)
    vote_lowest = lowest_of_all (λ i. first_if_used g n own h from (32 + i)) (λ i. VoteUnder (32 + i)) 16
        (λ i l. lowest_if (Among n (λ k. Among 16 (VoteIn own h from (32 + i) k))) (uses g.rule.tags (32 + i)) (first_under own h from n (32 + i)) (under_lowest own h from n (32 + i) (omega arith)))
        (λ i j l u m m' p q.
        let a = vote_at own h from (32 + i) p.1.0 p.1.2.0 (omega arith) m p.1.2.2 in
        let b = vote_at own h from (32 + j) q.1.0 q.1.2.0 (omega arith) m' q.1.2.2 in
        by_tag m m' (let x = a.slot in let z = p.1.1 in omega arith) (let x = a.round in let z = p.1.2.1 in omega arith) a.value (let x = a.tag in let y = b.tag in omega arith))

    any_share_lowest : IsLowest AnyShare (first_share g.coins own h.coin from n)
    any_share_lowest = lowest_if (Among n (λ k. Among 15 (ShareIn g.coins own from h.coin k))) g.coins.uses (first_of (first_share_in g.coins own h.coin from) n) (share_lowest g.coins own from h.coin shares n most)

    sheet_under : (m : Message (List ℕ)) → Sheets m → (slot_of m < 16) × (round_of m < 16) × (value_of m < 256) × (tag_of m < 32)
    sheet_under m s =
        let a = sheet_at g.rows n own from h.slots.places s.0 s.1.0 m s.1.2 in
        ((let x = a.slot in let z = s.1.1 in omega arith), (let x = a.round in omega arith), a.value, (let x = a.tag in let l = low s.0 in omega arith))
      where
        low : (ph : Phase) → phase_tag ph < 32
        low Send = omega arith
        low Echo = omega arith
        low Ready = omega arith

    vote_under : (m : Message (List ℕ)) → AnyVote m → (slot_of m < 16) × (round_of m < 16) × (value_of m < 256) × (32 ≤ tag_of m) × (tag_of m < 48)
    vote_under m v =
        let p = v.2 in
        let a = vote_at own h from (32 + v.0) p.1.0 p.1.2.0 (omega arith) m p.1.2.2 in
        ((let x = a.slot in let z = p.1.1 in omega arith), (let x = a.round in let z = p.1.2.1 in omega arith), a.value, (let x = a.tag in omega arith), (let x = a.tag in let z = v.1 in omega arith))

    share_tag_of : (m : Message (List ℕ)) → AnyShare m → tag_of m ≡ 48
    share_tag_of m s = let p = s.1 in (share_at g.coins own from h.coin shares p.0 p.2.0 (let z = p.1 in omega arith) p.2.1 m p.2.2).tag

    pub any_lowest : IsLowest Any (next_message g n own h from)
    any_lowest = lowest_of_two Sheets (λ m. AnyVote m ⊎ AnyShare m) (next_said g.rows n own h.slots.places from) (or_else (lowest_vote g n own h from) (first_share g.coins own h.coin from n))
        (sheet_lowest g.rows n own from h.slots.places most)
        (lowest_of_two AnyVote AnyShare (lowest_vote g n own h from) (first_share g.coins own h.coin from n) vote_lowest any_share_lowest
        (λ m m' p q. let a = vote_under m p in let b = share_tag_of m' q in by_tag m m' a.0 a.1 a.2 (let z = a.4 in omega arith)))
        (λ m m' p q.
        let a = sheet_under m p in
        ⊎_elim (λ v. let b = vote_under m' v in by_tag m m' a.0 a.1 a.2 (let y = a.3 in let z = b.3 in omega arith)) (λ s. let b = share_tag_of m' s in by_tag m m' a.0 a.1 a.2 (let y = a.3 in omega arith)) q)
