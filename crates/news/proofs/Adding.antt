-- What a replica has recorded is bounded, and grows where all stays and a message is added. Assumes nothing.
use Rattle.std.proofs.Common.{◌≡◌, ℕ, zero, suc, ◌+◌, ◌-◌, ◌<◌, ◌≤◌, Bool, true, false, List, subst, arith}
use Rattle.std.proofs.lemmas.Bool.{and_parts, leb-true}
use Rattle.basis.specs.Counts.{count, total}
use Rattle.basis.proofs.Counts.{count_le}
use Rattle.basis.proofs.Totals.{count_below}
use Rattle.messages.specs.declared.message.BitSet.{BitSet}
use Rattle.messages.specs.declared.message.BitSet.TheVariants.{Zero, One, Both}
use Rattle.messages.specs.declared.message.Message.{Message}
use Rattle.messages.specs.declared.message.Message.TheVariants.{Sheet, Bit, Set, Share}
use Rattle.messages.specs.declared.message.Phase.{Phase}
use Rattle.messages.specs.declared.message.Phase.TheVariants.{Send, Echo, Ready}
use Rattle.messages.specs.declared.message.Vote.{Vote}
use Rattle.messages.specs.declared.message.Vote.TheVariants.{First, Second}
use Rattle.messages.specs.Reading.{Lawful}
use Rattle.messages.specs.Tags.{vote_tag, bits_number}
use Rattle.rules.specs.Rounds.{bit_set}
use Rattle.outcomes.specs.Holdings.{Setting, Holding, syntax_of}
use Rattle.news.specs.Recorded.{has_sheet, has_vote, has_share, sheets_in, votes_in, shares_in, recorded_in, most_recorded}
use Rattle.news.proofs.Sums.{total_mono, total_more, total_most, count_gains}

-- the numbers of tags, and of sets of one bit and of any
tag_within : (vote : Vote) → (32 ≤ vote_tag vote) × (vote_tag vote ≤ 47)
tag_within First = (omega arith, omega arith)
tag_within Second = (omega arith, omega arith)

pub bit_within : (b : Bool) → (0 < bit_set b) × (bit_set b < 3)
bit_within true = (omega arith, omega arith)
bit_within false = (omega arith, omega arith)

pub set_within : (v : BitSet) → (0 < bits_number v) × (bits_number v < 4)
set_within Zero = (omega arith, omega arith)
set_within One = (omega arith, omega arith)
set_within Both = (omega arith, omega arith)

module _ {R C : Type 0} (g : Setting R C) (n : ℕ) where
  -- no replica of a hall of at most 16 has recorded more
  pub recorded_most : n ≤ 16 → (h : Holding R C) → recorded_in g n h ≤ most_recorded
  unfolding recorded_in sheets_in votes_in shares_in
  recorded_most le h = let t = total_most n 12576 _ (λ k lk. slot k) in omega arith
    where
      few : (p : ℕ → Bool) → count n p ≤ 16
      few p = let c = count_le n p in omega arith

      sheets : (k : ℕ) → sheets_in g n h k ≤ 48
      sheets k =
          let a = few (has_sheet g n h k Send) in let b = few (has_sheet g n h k Echo) in let c = few (has_sheet g n h k Ready) in
          omega arith

      votes : (k : ℕ) → votes_in g n h k ≤ 12288
      votes k = total_most 16 768 _ (λ r lr. total_most 16 48 _ (λ t lt. total_most 3 16 _ (λ v lv. few (has_vote g n h k r (32 + t) (suc v)))))

      shares : (k : ℕ) → shares_in g n h k ≤ 240
      shares k = total_most 15 16 _ (λ r lr. few (has_share g n h k (suc r)))

      slot : (k : ℕ) → sheets_in g n h k + (votes_in g n h k + shares_in g n h k) ≤ 12576
      slot k = let a = sheets k in let b = votes k in let c = shares k in omega arith

  -- what is recorded is recorded still
  pub record Still (h h' : Holding R C) : Type 0 where
    pub sheets : (k : ℕ) (ph : Phase) (j : ℕ) → k < n → j < n → has_sheet g n h k ph j ≡ true → has_sheet g n h' k ph j ≡ true
    pub votes : (k r t v j : ℕ) → k < n → r < 16 → has_vote g n h k r t v j ≡ true → has_vote g n h' k r t v j ≡ true
    pub shares : (k r j : ℕ) → k < n → r < 15 → j < n → has_share g n h k (suc r) j ≡ true → has_share g n h' k (suc r) j ≡ true

  -- whether a message of sender j is recorded
  abbrev pub has_message : Holding R C → ℕ → Message (List ℕ) → Bool
  has_message h j (Sheet ph k s) = has_sheet g n h k ph j
  has_message h j (Bit vote k r b) = has_vote g n h k r (vote_tag vote) (bit_set b) j
  has_message h j (Set tag k r v) = has_vote g n h k r tag (bits_number v) j
  has_message h j (Share k r x) = has_share g n h k r j

  module _ {h h' : Holding R C} (s : Still h h') where
    phase_mono : (k : ℕ) (ph : Phase) → k < n → count n (has_sheet g n h k ph) ≤ count n (has_sheet g n h' k ph)
    phase_mono k ph lk = count_below n (has_sheet g n h k ph) (has_sheet g n h' k ph) (λ j lj. s.sheets k ph j lk lj)

    sheets_mono : (k : ℕ) → k < n → sheets_in g n h k ≤ sheets_in g n h' k
    unfolding sheets_in
    sheets_mono k lk = let a = phase_mono k Send lk in let b = phase_mono k Echo lk in let c = phase_mono k Ready lk in omega arith

    set_mono : (k r t v : ℕ) → k < n → r < 16 → count n (has_vote g n h k r t v) ≤ count n (has_vote g n h' k r t v)
    set_mono k r t v lk lr = count_below n (has_vote g n h k r t v) (has_vote g n h' k r t v) (λ j lj. s.votes k r t v j lk lr)

    tag_mono : (k r t : ℕ) → k < n → r < 16 → total 3 (λ v. count n (has_vote g n h k r t (suc v))) ≤ total 3 (λ v. count n (has_vote g n h' k r t (suc v)))
    tag_mono k r t lk lr = total_mono 3 _ _ (λ v lv. set_mono k r t (suc v) lk lr)

    round_mono : (k r : ℕ) → k < n → r < 16 → total 16 (λ t. total 3 (λ v. count n (has_vote g n h k r (32 + t) (suc v)))) ≤ total 16 (λ t. total 3 (λ v. count n (has_vote g n h' k r (32 + t) (suc v))))
    round_mono k r lk lr = total_mono 16 _ _ (λ t lt. tag_mono k r (32 + t) lk lr)

    votes_mono : (k : ℕ) → k < n → votes_in g n h k ≤ votes_in g n h' k
    unfolding votes_in
    votes_mono k lk = total_mono 16 _ _ (λ r lr. round_mono k r lk lr)

    toss_mono : (k r : ℕ) → k < n → r < 15 → count n (has_share g n h k (suc r)) ≤ count n (has_share g n h' k (suc r))
    toss_mono k r lk lr = count_below n (has_share g n h k (suc r)) (has_share g n h' k (suc r)) (λ j lj. s.shares k r j lk lr lj)

    shares_mono : (k : ℕ) → k < n → shares_in g n h k ≤ shares_in g n h' k
    unfolding shares_in
    shares_mono k lk = total_mono 15 _ _ (λ r lr. toss_mono k r lk lr)

    slot_mono : (k : ℕ) → k < n → sheets_in g n h k + (votes_in g n h k + shares_in g n h k) ≤ sheets_in g n h' k + (votes_in g n h' k + shares_in g n h' k)
    slot_mono k lk = let a = sheets_mono k lk in let b = votes_mono k lk in let c = shares_mono k lk in omega arith

    -- so it is no less
    pub still_mono : recorded_in g n h ≤ recorded_in g n h'
    unfolding recorded_in
    still_mono = total_mono n _ _ slot_mono

    slot_more : (k : ℕ) → k < n → sheets_in g n h k + (votes_in g n h k + shares_in g n h k) < sheets_in g n h' k + (votes_in g n h' k + shares_in g n h' k) → recorded_in g n h < recorded_in g n h'
    unfolding recorded_in
    slot_more k lk more = total_more n _ _ slot_mono k lk more

    sheet_more : (k : ℕ) (ph : Phase) (j : ℕ) → k < n → j < n → has_sheet g n h k ph j ≡ false → has_sheet g n h' k ph j ≡ true → sheets_in g n h k < sheets_in g n h' k
    unfolding sheets_in
    sheet_more k ph j lk lj old new = go ph (count_gains n (has_sheet g n h k ph) (has_sheet g n h' k ph) (λ i li. s.sheets k ph i lk li) j lj old new)
      where
        go : (ph : Phase) → count n (has_sheet g n h k ph) < count n (has_sheet g n h' k ph) →
            count n (has_sheet g n h k Send) + (count n (has_sheet g n h k Echo) + count n (has_sheet g n h k Ready)) <
            count n (has_sheet g n h' k Send) + (count n (has_sheet g n h' k Echo) + count n (has_sheet g n h' k Ready))
        go Send m = let b = phase_mono k Echo lk in let c = phase_mono k Ready lk in omega arith
        go Echo m = let a = phase_mono k Send lk in let c = phase_mono k Ready lk in omega arith
        go Ready m = let a = phase_mono k Send lk in let b = phase_mono k Echo lk in omega arith

    vote_more : (k r t v j : ℕ) → k < n → r < 16 → t < 16 → v < 3 → j < n → has_vote g n h k r (32 + t) (suc v) j ≡ false → has_vote g n h' k r (32 + t) (suc v) j ≡ true → votes_in g n h k < votes_in g n h' k
    unfolding votes_in
    vote_more k r t v j lk lr lt lv lj old new =
        total_more 16 _ _ (λ q lq. round_mono k q lk lq) r lr
        (total_more 16 _ _ (λ u lu. tag_mono k r (32 + u) lk lr) t lt
        (total_more 3 _ _ (λ w lw. set_mono k r (32 + t) (suc w) lk lr) v lv
        (count_gains n (has_vote g n h k r (32 + t) (suc v)) (has_vote g n h' k r (32 + t) (suc v)) (λ i li. s.votes k r (32 + t) (suc v) i lk lr) j lj old new)))

    share_more : (k r j : ℕ) → k < n → r < 15 → j < n → has_share g n h k (suc r) j ≡ false → has_share g n h' k (suc r) j ≡ true → shares_in g n h k < shares_in g n h' k
    unfolding shares_in
    share_more k r j lk lr lj old new = total_more 15 _ _ (λ q lq. toss_mono k q lk lq) r lr
        (count_gains n (has_share g n h k (suc r)) (has_share g n h' k (suc r)) (λ i li. s.shares k r i lk lr li) j lj old new)

    -- the same by the tag and the set themselves
    tagged_more : (k r t v j : ℕ) → k < n → r ≤ 15 → 32 ≤ t → t ≤ 47 → 0 < v → v < 4 → j < n → has_vote g n h k r t v j ≡ false → has_vote g n h' k r t v j ≡ true → recorded_in g n h < recorded_in g n h'
    tagged_more k r t v j lk lr tl th vl vh lj old new =
        let et : t ≡ 32 + (t - 32) = omega arith in
        let ev : v ≡ suc (v - 1) = omega arith in
        let m = vote_more k r (t - 32) (v - 1) j lk (omega arith) (omega arith) (omega arith) lj
        (subst (λ (z : ℕ). has_vote g n h k r (32 + (t - 32)) z j ≡ false) ev (subst (λ (z : ℕ). has_vote g n h k r z v j ≡ false) et old))
        (subst (λ (z : ℕ). has_vote g n h' k r (32 + (t - 32)) z j ≡ true) ev (subst (λ (z : ℕ). has_vote g n h' k r z v j ≡ true) et new)) in
        let a = sheets_mono k lk in let c = shares_mono k lk in
        slot_more k lk (omega arith)

    -- and it is more where a message is added
    pub message_more : (j : ℕ) → j < n → (m : Message (List ℕ)) → Lawful (syntax_of g n) m → has_message h j m ≡ false → has_message h' j m ≡ true → recorded_in g n h < recorded_in g n h'
    message_more j lj (Sheet ph k x) law old new =
        let a = sheet_more k ph j law.0 lj old new in let b = votes_mono k law.0 in let c = shares_mono k law.0 in
        slot_more k law.0 (omega arith)
    message_more j lj (Bit vote k r b) law old new =
        let t = tag_within vote in let v = bit_within b in
        tagged_more k r (vote_tag vote) (bit_set b) j law.0 law.1 t.0 t.1 v.0 (omega (arith, v.1)) lj old new
    message_more j lj (Set tag k r v) law old new =
        let t = and_parts _ _ law.3 in
        let lo = leb-true 34 tag t.0 in
        let hi = leb-true tag 47 t.1 in
        let w = set_within v in
        tagged_more k r tag (bits_number v) j law.0 law.2 (omega arith) hi w.0 w.1 lj old new
    message_more j lj (Share k zero x) law old new = absurd (omega (arith, law.1))
    message_more j lj (Share k (suc r) x) law old new =
        let c = share_more k r j law.0 (omega (arith, law.2)) lj old new in let a = sheets_mono k law.0 in let b = votes_mono k law.0 in
        slot_more k law.0 (omega arith)
