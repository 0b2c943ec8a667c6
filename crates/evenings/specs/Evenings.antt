-- Evenings: one hall from its opening on, by calls at its honest replicas over their real tables and coins. Assumes nothing.
use Rattle.std.specs.Prelude.{◌≡◌, ℕ, ◌<◌, Bool, true, cond, ◌⊎◌, List, ◌==◌, ◌≢◌}
use Rattle.outcomes.specs.Calls.{Call, offer, hear, look, say, close, list, write, Allowed, Said, call_after}
use Rattle.outcomes.specs.declared.opening_record.OpeningRecord.{OpeningRecord}
use Rattle.outcomes.specs.Holdings.{Life, Setting, Holding}
use Rattle.outcomes.specs.Opening.{Opened}
use Rattle.outcomes.specs.Tables.{holding}
use Rattle.rules.specs.Rounds.{Round}

-- a replica: its state, the tables lent to its calls (the rule's records are Row), its coin
pub record Replica (R C Row : Type 0) : Type 0 where
  pub life : Life
  pub records : List OpeningRecord
  pub rounds : List Row
  pub places : List R
  pub coin : C

-- what it holds, by a rule's meaning of its records
abbrev pub held : {R C Row : Type 0} → (Row → Round) → Replica R C Row → Holding R C
held meaning t = holding meaning t.life t.records t.rounds t.places t.coin

-- the hall where replica i alone has changed
abbrev pub upd : {X : Type 0} → (ℕ → X) → ℕ → X → ℕ → X
upd s i t j = cond (j == i) t (s j)

module _ {R C Row : Type 0} (g : Setting R C) (meaning : Row → Round) (n : ℕ) (honest : ℕ → Bool) where
  -- the replicas of a hall by their numbers; those of faulty ones stand for nothing
  abbrev pub Hall : Type 0
  Hall = ℕ → Replica R C Row

  -- a replica of the hall that is not faulty
  abbrev pub Honest : ℕ → Type 0
  Honest i = (i < n) × (honest i ≡ true)

  -- an honest sender is quoted to another only with what it has said, and a faulty one with any bytes
  abbrev pub Authentic : Hall → ℕ → Call → Type 0
  Authentic s i (offer x) = Unit {0}
  Authentic s i (hear j xs) = j < n → honest j ≡ true → (j ≢ i) → Said g n j (held meaning (s j)) xs
  Authentic s i look = Unit {0}
  Authentic s i (say from) = Unit {0}
  Authentic s i close = Unit {0}
  Authentic s i (list index) = Unit {0}
  Authentic s i write = Unit {0}

  -- all honest replicas are open, each with tables and a new coin of its own
  abbrev pub AllOpen : Hall → Type 0
  AllOpen s = (i : ℕ) → Honest i → Opened g n i (held meaning (s i))

  -- A hall leads to another by calls at honest replicas, in any order that their states allow, refused ones too, each on
  -- what the call before it at that replica left: any tables that mean what the call's outcome says.
  pub data Leads (s : Hall) : Hall → Type 0 where
    nothing : Leads s s
    called : {s' : Hall} → Leads s s' → (i : ℕ) (c : Call) → Honest i → Allowed g c (held meaning (s' i)) → Authentic s' i c →
        (t : Replica R C Row) → held meaning t ≡ call_after g n i c (held meaning (s' i)) → Leads s (upd s' i t)

  -- replica k was called to offer the sheet x
  abbrev pub Offers : {s s' : Hall} → Leads s s' → ℕ → List ℕ → Type 0
  Offers nothing k x = ⊥
  Offers (called r i c hi can au t e) k x = ((i ≡ k) × (c ≡ offer x)) ⊎ Offers r k x

  -- an evening up to some moment: the hall as it was opened, what it is now, and the calls between
  pub record Evening (s : Hall) : Type 0 where
    pub start : Hall
    pub opened : AllOpen start
    pub calls : Leads start s
