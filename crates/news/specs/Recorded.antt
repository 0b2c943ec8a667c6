-- How many messages a replica and a hall have recorded, and how many calls hear something new. Assumes nothing.
use Rattle.std.specs.Prelude.{ℕ, suc, ◌+◌, ◌<◌, ◌≤◌, Bool, not, ◌&&◌, T, Ok, Err, Result, is_some}
use Rattle.basis.specs.Counts.{count, total}
use Rattle.basis.specs.Halls.{listed, faults}
use Rattle.basis.specs.Refusals.{Refused}
use Rattle.basis.specs.declared.heard.Heard.{Heard}
use Rattle.basis.specs.declared.heard.Heard.TheVariants.{New, Known}
use Rattle.ballots.specs.States.{round_at}
use Rattle.broadcast.specs.Calls.{may_send}
use Rattle.messages.specs.declared.message.Phase.{Phase}
use Rattle.messages.specs.declared.message.Phase.TheVariants.{Send, Echo, Ready}
use Rattle.rules.specs.Rounds.{Round}
use Rattle.slots.specs.Places.{recorded}
use Rattle.outcomes.specs.Calls.{Call, offer, hear, look, say, close, list, write}
use Rattle.outcomes.specs.Hearing.{hear_answer_lem}
use Rattle.outcomes.specs.Holdings.{Setting, Holding, state_of}
use Rattle.evenings.specs.Evenings.{Replica, held, Leads, nothing, called, Evening}

module _ {R C : Type 0} (g : Setting R C) (n : ℕ) (h : Holding R C) where
  -- whether a sheet, a vote and a share of sender j is recorded
  abbrev pub has_sheet : ℕ → Phase → ℕ → Bool
  has_sheet k ph j = may_send ph k j && is_some (recorded g.rows n h.slots.places ph k j)

  abbrev pub has_vote : ℕ → ℕ → ℕ → ℕ → ℕ → Bool
  has_vote k r t v j = (round_at k r (state_of k h)).votes t v j

  abbrev pub has_share : ℕ → ℕ → ℕ → Bool
  has_share k r j = is_some (g.coins.taken_of h.coin k r j)

  -- of slot k: the sheets of the three phases; the votes of the rounds 0 to 15 under the tags 32 to 47 for the sets 1 to 3;
  -- the shares of the rounds 1 to 15
  unfoldable pub sheets_in : ℕ → ℕ
  sheets_in k = count n (has_sheet k Send) + (count n (has_sheet k Echo) + count n (has_sheet k Ready))

  unfoldable pub votes_in : ℕ → ℕ
  votes_in k = total 16 (λ r. total 16 (λ t. total 3 (λ v. count n (has_vote k r (32 + t) (suc v)))))

  unfoldable pub shares_in : ℕ → ℕ
  shares_in k = total 15 (λ r. count n (has_share k (suc r)))

  -- of all slots
  unfoldable pub recorded_in : ℕ
  recorded_in = total n (λ k. sheets_in k + (votes_in k + shares_in k))

-- the most that a replica of the largest hall can have recorded: of each slot and sender 3 sheets, 768 votes and 15 shares
abbrev pub most_recorded : ℕ
most_recorded = 201216

-- the most that all replicas of the largest hall can
abbrev pub most_in_hall : ℕ
most_in_hall = 3219456

-- 1 where an answer is that a message is new, else 0
abbrev pub one_if_new : Result Heard Refused → ℕ
one_if_new (Ok New) = 1
one_if_new (Ok Known) = 0
one_if_new (Err e) = 0

-- the same of a call at replica i: no other call answers so
abbrev pub new_by : {R C : Type 0} → Setting R C → ℕ → ℕ → Call → Holding R C → ℕ
new_by g n i (offer x) h = 0
new_by g n i (hear j xs) h = one_if_new (hear_answer_lem g n i j xs h)
new_by g n i look h = 0
new_by g n i (say from) h = 0
new_by g n i close h = 0
new_by g n i (list index) h = 0
new_by g n i write h = 0

module _ {R C Row : Type 0} (g : Setting R C) (meaning : Row → Round) (n : ℕ) where
  -- what all replicas of a hall have recorded
  unfoldable pub recorded_by_all : (ℕ → Replica R C Row) → ℕ
  recorded_by_all s = total n (λ i. recorded_in g n (held meaning (s i)))

  -- how many calls, of those that lead from one hall to another, heard something new
  abbrev pub heard_new : {honest : ℕ → Bool} {s s' : ℕ → Replica R C Row} → Leads g meaning n honest s s' → ℕ
  heard_new nothing = 0
  heard_new (called {s'} r i c hi can au t e) = heard_new r + new_by g n i c (held meaning (s' i))

module _ {R C Row : Type 0} (g : Setting R C) (meaning : Row → Round) (n : ℕ) (honest : ℕ → Bool) where
  -- so many sweeps one after the other, each made of any calls, of which at least one hears something new
  pub data Sweeps (s : ℕ → Replica R C Row) : ℕ → (ℕ → Replica R C Row) → Type 0 where
    no_sweep : Sweeps s 0 s
    swept : {m : ℕ} {s' s'' : ℕ → Replica R C Row} → Sweeps s m s' → (r : Leads g meaning n honest s' s'') → 0 < heard_new g meaning n r → Sweeps s (suc m) s''

-- What is heard new adds to what the hall has recorded, which never becomes less, and there is a most that it can record.
abbrev pub NewsAdd : {R C Row : Type 0} → Setting R C → (Row → Round) → Type 0
NewsAdd {R} {C} {Row} g meaning =
    (n : ℕ) (honest : ℕ → Bool) (s s' : ℕ → Replica R C Row) → T (listed n) → count n (λ j. not (honest j)) ≤ faults n →
    Evening g meaning n honest s → (r : Leads g meaning n honest s s') →
    (heard_new g meaning n r + recorded_by_all g meaning n s ≤ recorded_by_all g meaning n s') × (recorded_by_all g meaning n s' ≤ most_in_hall)

-- So in no evening more calls than that hear something new.
abbrev pub NewsFew : {R C Row : Type 0} → Setting R C → (Row → Round) → Type 0
NewsFew {R} {C} {Row} g meaning =
    (n : ℕ) (honest : ℕ → Bool) (s : ℕ → Replica R C Row) → T (listed n) → count n (λ j. not (honest j)) ≤ faults n →
    (e : Evening g meaning n honest s) → heard_new g meaning n e.calls ≤ most_in_hall

-- And hearing until nothing is new comes to an end, in every evening.
abbrev pub SweepsEnd : {R C Row : Type 0} → Setting R C → (Row → Round) → Type 0
SweepsEnd {R} {C} {Row} g meaning =
    (n : ℕ) (honest : ℕ → Bool) (s s' : ℕ → Replica R C Row) (m : ℕ) → T (listed n) → count n (λ j. not (honest j)) ≤ faults n →
    Evening g meaning n honest s → Sweeps g meaning n honest s m s' → m + recorded_by_all g meaning n s ≤ most_in_hall
