-- What holds of every evening: agreement, enough sheets, and that nobody waits at rest. Assumes nothing.
use Rattle.std.specs.Prelude.{◌≡◌, ℕ, ◌+◌, ◌*◌, ◌<◌, ◌≤◌, Bool, true, not, T, ◌⊎◌, List, length, Some, Ok, Err, Result, ◌≢◌}
use Rattle.basis.specs.Counts.{count}
use Rattle.basis.specs.Halls.{listed, faults}
use Rattle.basis.specs.declared.heard.Heard.TheVariants.{Known}
use Rattle.ballots.specs.States.{round_at}
use Rattle.broadcast.specs.Claims.{RowLaws}
use Rattle.coins.specs.Coins.{Keeps as CoinKeeps}
use Rattle.outcomes.specs.Calls.{HasOffered, HasSaid, Said, look_after}
use Rattle.outcomes.specs.Closing.{Entry, ClosingView, closing_view, close_answer, list_answer, closing_record, listed_sheet, sheets_listed}
use Rattle.basis.specs.Refusals.{Refused}
use Rattle.outcomes.specs.Hearing.{hear_answer_lem}
use Rattle.outcomes.specs.Holdings.{Closed, Setting, ballot_at, state_of}
use Rattle.messages.specs.declared.message.Message.TheVariants.{Share}
use Rattle.messages.specs.Tags.{uses}
use Rattle.rules.specs.Laws.{Acts, Reached, EndsRounds, Keeps}
use Rattle.rules.specs.Rounds.{Round}
use Rattle.evenings.specs.Evenings.{Replica, Hall as HallOf, Honest as HonestOf, held, Leads, Offers, Evening}

module _ {R C Row : Type 0} (g : Setting R C) (meaning : Row → Round) (n : ℕ) (honest : ℕ → Bool) where
  -- a hall of such replicas, and one of them that is not faulty, as evenings have them
  abbrev pub Hall : Type 0
  Hall = HallOf g meaning n honest

  abbrev pub Honest : ℕ → Type 0
  Honest i = HonestOf g meaning n honest i

  -- the bit decided in ballot k, as a set: 0 none, 1 is {0}, 2 is {1}
  abbrev pub decided : Hall → ℕ → ℕ → ℕ
  decided s i k = (ballot_at k (held meaning (s i))).decided

  -- what round r of ballot k means at replica i
  abbrev pub round_of : Hall → ℕ → ℕ → ℕ → Round
  round_of s i k r = round_at k r (state_of k (held meaning (s i)))

  -- what close, list and record answer at replica i: the entry at an index, the bytes of the record, whether it can close
  abbrev pub viewed_at : Hall → ℕ → ClosingView R
  viewed_at s i = closing_view (held meaning (s i))

  abbrev pub listed_at : Hall → ℕ → ℕ → Result Entry Refused
  listed_at s i index = list_answer g.rows n (viewed_at s i) index

  abbrev pub record_of : Hall → ℕ → List ℕ
  record_of s i = closing_record g.rows n (viewed_at s i) g.size g.kind

  abbrev pub has_closed : Hall → ℕ → Type 0
  has_closed s i = (s i).life ≡ Closed

  -- No two honest coins show different bits for one ballot and round. Shown bits stay, so this says it of all moments
  -- before, too.
  abbrev pub CoinsAgree : Hall → Type 0
  CoinsAgree s = (i j k r : ℕ) (b c : Bool) → Honest i → Honest j → k < n → 1 ≤ r → r ≤ 15 → g.coins.shown (s i).coin k r ≡ Some b → g.coins.shown (s j).coin k r ≡ Some c → b ≡ c

  -- Two moments of an evening, s and later s'. What is done at the one is compared with what is done at the other.
  pub record Agreement (s s' : Hall) : Type 0 where
    -- no two honest replicas decide a ballot differently, and a decision stays
    pub same_decisions : (i j k : ℕ) → Honest i → Honest j → k < n → 0 < decided s i k → 0 < decided s' j k → decided s i k ≡ decided s' j k
    pub decisions_stay : (i k : ℕ) → Honest i → k < n → 0 < decided s i k → decided s' i k ≡ decided s i k
    -- all that close answer each list index alike
    pub same_lists : (i j index : ℕ) → Honest i → Honest j → has_closed s i → has_closed s' j → listed_at s i index ≡ listed_at s' j index
    -- and give the same closing record, byte for byte
    pub same_records : (i j : ℕ) → Honest i → Honest j → has_closed s i → has_closed s' j → record_of s i ≡ record_of s' j
    -- what an honest replica has said no other refuses, so none accuses another of contradiction
    pub no_accusation : (i j : ℕ) (xs : List ℕ) (e : Refused) → Honest i → Honest j → (j ≢ i) → Said g n j (held meaning (s j)) xs → hear_answer_lem g n i j xs (held meaning (s' i)) ≢ Err e
    -- an honest replica's coin is sound, as what say tells asks
    pub coins_sound : (i : ℕ) → Honest i → g.coins.sound (s' i).coin

  -- The closing record of an honest replica, the one that is defined even where no output was long enough.
  pub record EnoughSheets (s : Hall) (e : Evening g meaning n honest s) : Type 0 where
    pub many : (i : ℕ) → Honest i → has_closed s i → faults n + 2 ≤ sheets_listed g.rows n (viewed_at s i)
    -- so list answers so many indices with an entry, and the record has the bytes of so many fields
    pub entries : (i index : ℕ) → Honest i → has_closed s i → index < faults n + 2 → (x : Entry) × (listed_at s i index ≡ Ok x)
    pub bytes : (i : ℕ) → Honest i → has_closed s i → 7 + (g.size + 4) * (faults n + 2) ≤ length (record_of s i)
    -- where it holds the sheet of an honest replica, that is the one which this replica was called to offer
    pub as_offered : (i k : ℕ) (x : List ℕ) → Honest i → Honest k → has_closed s i → listed_sheet g.rows n (viewed_at s i) k ≡ Some x → Offers g meaning n honest e.calls k x
    -- and it was called to offer no other sheet
    pub offered_once : (k : ℕ) (x y : List ℕ) → Honest k → Offers g meaning n honest e.calls k x → Offers g meaning n honest e.calls k y → x ≡ y

  -- All honest replicas have offered, each has heard, unrefused, what the other honest ones said, and looking changes
  -- nothing at any of them.
  pub record AtRest (s : Hall) : Type 0 where
    pub offered : (i : ℕ) → Honest i → HasOffered (s i).life
    pub heard : (i j : ℕ) (xs : List ℕ) → Honest i → Honest j → (j ≢ i) → Said g n j (held meaning (s j)) xs → hear_answer_lem g n i j xs (held meaning (s i)) ≡ Ok Known
    pub still : (i : ℕ) → Honest i → look_after g n i (held meaning (s i)) ≡ held meaning (s i)

  -- every honest replica's coin shows its bits of ballot k for the rounds from 1 on below u
  abbrev pub Shown : Hall → ℕ → ℕ → Type 0
  Shown s k u = (i r : ℕ) → Honest i → 1 ≤ r → r < u → (b : Bool) × (g.coins.shown (s i).coin k r ≡ Some b)

  -- a ballot has gone on from round r
  abbrev pub Over : Hall → ℕ → ℕ → ℕ → Type 0
  Over s i k r = r < (ballot_at k (held meaning (s i))).stage

  -- it can close: it has, or close does not refuse it
  abbrev pub CanClose : Hall → ℕ → Type 0
  CanClose s i = has_closed s i ⊎ (close_answer g.rows n (viewed_at s i) ≡ Ok tt)

  pub record NobodyWaits (s : Hall) : Type 0 where
    -- all rounds before a ballot's first unknown coin are over, all sixteen where there is none
    pub rounds_over : (k u : ℕ) → k < n → u ≤ 16 → Shown s k u → (i r : ℕ) → Honest i → r < u → Over s i k r
    -- in each later round that is entered and has its verdict the own share is said, where the coin uses shares and has it
    pub shares_said : (i k r v : ℕ) → Honest i → k < n → 1 ≤ r → r ≤ 15 → 0 < (round_of s i k r).entered → 0 < (round_of s i k r).verdict →
        g.coins.uses ≡ true → g.coins.own (s i).coin k r ≡ Some v → HasSaid g n i (held meaning (s i)) (Share k r v)
    pub can_close : (i : ℕ) → Honest i → ((k : ℕ) → k < n → 0 < decided s i k) → CanClose s i

-- what the claims ask: that the kind of sheet, the coin and the rule keep their laws
pub record Lawful {R C : Type 0} (g : Setting R C) : Type 0 where
  pub rows : RowLaws g.rows g.size g.lawful
  pub rule : Keeps g.rule
  pub coins : CoinKeeps g.coins

-- a vote that others may hear: under a tag of the rule, of a set that the tag carries
abbrev pub Sayable : (ℕ → Bool) → ℕ → ℕ → Type 0
Sayable used t v = (used t ≡ true) × (0 < v) × (v < 4) × (t < 34 → v < 3)

-- All that a replica says in a round are votes that others may hear. No law asks it of a rule; it is asked of those
-- under which nobody waits.
abbrev pub SaysSayable : Acts → Type 0
SaysSayable a = (n own : ℕ) (m : Round) → T (listed n) → own < n → Reached a n own m → (t v : ℕ) → m.votes t v own ≡ true → Sayable (uses a.tags) t v

-- For every listed hall, and any honest replicas where at most f are faulty.
abbrev pub EveningsAgree : {R C Row : Type 0} → Setting R C → (Row → Round) → Type 0
EveningsAgree {R} {C} {Row} g meaning =
    (n : ℕ) (honest : ℕ → Bool) (s s' : ℕ → Replica R C Row) → T (listed n) → count n (λ j. not (honest j)) ≤ faults n →
    Evening g meaning n honest s → Leads g meaning n honest s s' → CoinsAgree g meaning n honest s' → Agreement g meaning n honest s s'

abbrev pub EveningsFill : {R C Row : Type 0} → Setting R C → (Row → Round) → Type 0
EveningsFill {R} {C} {Row} g meaning =
    (n : ℕ) (honest : ℕ → Bool) (s : ℕ → Replica R C Row) → T (listed n) → count n (λ j. not (honest j)) ≤ faults n →
    (e : Evening g meaning n honest s) → EnoughSheets g meaning n honest s e

abbrev pub EveningsRest : {R C Row : Type 0} → Setting R C → (Row → Round) → Type 0
EveningsRest {R} {C} {Row} g meaning =
    (n : ℕ) (honest : ℕ → Bool) (s : ℕ → Replica R C Row) → T (listed n) → count n (λ j. not (honest j)) ≤ faults n →
    Evening g meaning n honest s → AtRest g meaning n honest s → NobodyWaits g meaning n honest s

-- Evenings rest so under every rule that ends its rounds and says what may be heard, as the two supplied ones do.
abbrev pub RestIfRoundsEnd : {R C Row : Type 0} → Setting R C → (Row → Round) → Type 0
RestIfRoundsEnd g meaning = EndsRounds g.rule → SaysSayable g.rule → EveningsRest g meaning
