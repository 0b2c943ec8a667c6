-- A hall of tills as an evening in which all are honest. Assumes nothing.
use Rattle.std.specs.Prelude.{◌≡◌, ℕ, ◌<◌, ◌≤◌, Bool, true, cond, List, Some, length, replicate, slice_index_or}
use Rattle.coins.specs.declared.dealt.DealtCoin.{DealtCoin}
use Rattle.evenings.specs.Evenings.{Replica, held, Leads, Evening}
use Rattle.news.specs.Recorded.{heard_new}
use Rattle.outcomes.specs.Closing.{closing_view, closing_record}
use Rattle.outcomes.specs.Opening.{Opened}
use Rattle.phases.specs.Records.{meaning_of}
use Rattle.phases.specs.declared.round.PhasedRound.{PhasedRound}
use Rattle.scripts.specs.declared.command.RuleName.{RuleName}
use Rattle.sheets.specs.OfTakings.{takings_rows}
use Rattle.sheets.specs.declared.kinds.TakingsRow.{TakingsRow}
use Rattle.halls.specs.Scenes.{shown, newly_opened}
use Rattle.halls.specs.States.{setting_of, numbers_in, is_closed}
use Rattle.halls.specs.Tills.{held_by}
use Rattle.halls.specs.declared.till.Till.{Till}

-- no till is faulty
abbrev pub all_honest : ℕ → Bool
all_honest i = true

abbrev pub Replicas : Type 0
Replicas = ℕ → Replica TakingsRow DealtCoin PhasedRound

-- the tills have the numbers of a hall of n, each its own
abbrev pub Seated : ℕ → List Till → Type 0
Seated n ts = (i : ℕ) (d : Till) → i < n → numbers_in (slice_index_or ts i d).state ≡ Some (record { n = n; own = i })

-- the tills hold what the replicas of a hall hold
abbrev pub Shows : ℕ → List Till → Replicas → Type 0
Shows n ts s = (i : ℕ) (d : Till) → i < n → held meaning_of (s i) ≡ held_by (slice_index_or ts i d)

module _ (rule : RuleName) (n : ℕ) where
  -- the tills are those of an evening, which began with one coin for all
  pub record Played (ts : List Till) : Type 0 where
    pub now : Replicas
    pub evening : Evening (setting_of rule) meaning_of n all_honest now
    pub shows : Shows n ts now
    pub coin : DealtCoin
    pub dealt : (i : ℕ) → i < n → (evening.start i).coin ≡ coin

  -- calls that their states allow, and packets that were said, lead from the one list of tills to the other
  abbrev pub GoesOn : List Till → List Till → Type 0
  GoesOn ts ts' = (s : Replicas) → Shows n ts s → (s' : Replicas) × Leads (setting_of rule) meaning_of n all_honest s s' × Shows n ts' s'

  -- the same, where so many of these calls at least have heard something new
  abbrev pub HearsNew : ℕ → List Till → List Till → Type 0
  HearsNew k ts ts' = (s : Replicas) → Shows n ts s → (s' : Replicas) × (r : Leads (setting_of rule) meaning_of n all_honest s s') × Shows n ts' s' × (k ≤ heard_new (setting_of rule) meaning_of n r)

-- a hall is the same hall later: its size and its rule stay, and its evening goes on
pub record Continued (rule : RuleName) (n : ℕ) (ts : List Till) (rule' : RuleName) (n' : ℕ) (ts' : List Till) : Type 0 where
  pub same_rule : rule' ≡ rule
  pub same_size : n' ≡ n
  pub goes_on : GoesOn rule n ts ts'

-- the same, where so many messages at least were new to a till
pub record Progress (k : ℕ) (rule : RuleName) (n : ℕ) (ts : List Till) (rule' : RuleName) (n' : ℕ) (ts' : List Till) : Type 0 where
  pub same_rule : rule' ≡ rule
  pub same_size : n' ≡ n
  pub hears_new : HearsNew rule n k ts ts'

-- one, if something was new
abbrev pub one_if : Bool → ℕ
one_if b = cond b 1 0

-- the closing record of a till
abbrev pub record_of : ℕ → Till → List ℕ
record_of n t = closing_record takings_rows n (closing_view (held_by t)) 12 1

-- any two closed tills have the same closing record
abbrev pub Alike : ℕ → List Till → Type 0
Alike n ts = (i j : ℕ) (d : Till) → i < n → j < n → is_closed (slice_index_or ts i d).state ≡ true → is_closed (slice_index_or ts j d).state ≡ true →
    record_of n (slice_index_or ts i d) ≡ record_of n (slice_index_or ts j d)

-- closed tills stay closed and keep their closing record
abbrev pub RecordsStay : ℕ → List Till → List Till → Type 0
RecordsStay n ts ts' = (i : ℕ) (d : Till) → i < n → is_closed (slice_index_or ts i d).state ≡ true →
    (is_closed (slice_index_or ts' i d).state ≡ true) × (record_of n (slice_index_or ts' i d) ≡ record_of n (slice_index_or ts i d))

-- m tills of a hall of n are opened, with a coin of one number
pub record OpenedTo (n coin m : ℕ) (ts : List Till) : Type 0 where
  pub counted : length ts ≡ m
  pub seated : (i : ℕ) (d : Till) → i < m → numbers_in (slice_index_or ts i d).state ≡ Some (record { n = n; own = i })
  pub fresh : (rule : RuleName) (i : ℕ) (d : Till) → i < m → Opened (setting_of rule) n i (held_by (slice_index_or ts i d))
  pub dealt : (i : ℕ) (d : Till) → i < m → (slice_index_or ts i d).coin ≡ record { numbers = replicate 16 coin }
  pub shows : shown ts ≡ replicate m (newly_opened n coin)
