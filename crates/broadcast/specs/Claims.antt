-- What holds of the sheet broadcast in every run. Assumes nothing.
use Rattle.std.specs.Prelude.{◌≡◌, ℕ, ◌+◌, ◌<◌, ◌≤◌, Bool, true, not, T, List, length, Some, None, Ok, Err, Option, ◌≢◌}
use Rattle.basis.specs.Bytes.{Octets}
use Rattle.basis.specs.Counts.{count}
use Rattle.basis.specs.Halls.{listed, faults}
use Rattle.basis.specs.Refusals.{Refused}
use Rattle.messages.specs.declared.message.Phase.TheVariants.{Send}
use Rattle.messages.specs.Reading.{Syntax}
use Rattle.sheets.specs.Holds.{Rows, if_lawful}
use Rattle.slots.specs.Places.{all_places, recorded}
use Rattle.slots.specs.Steps.{Slots, delivered_sheet_lem, next, settled}
use Rattle.broadcast.specs.Runs.{Call, Authentic, Run, Offered}
use Rattle.broadcast.specs.Calls.{Running, Holding, hear_answer, look_after, call_after, Said, Allowed, replicas}
use Rattle.basis.specs.declared.heard.Heard.TheVariants.{Known}

-- what the claims ask of a kind of sheet
pub record RowLaws {R : Type 0} (rows : Rows R) (size : ℕ) (lawful : List ℕ → Bool) : Type 0 where
  pub short : size + 1 < 65536
  pub sized : (s : List ℕ) → lawful s ≡ true → length s ≡ size
  pub restored : (s : List ℕ) → Octets s → length s ≡ size → rows.held (rows.row s) ≡ if_lawful lawful s
  pub kept : (r : R) (s : List ℕ) → rows.held r ≡ Some s → (lawful s ≡ true) × Octets s

module _ {R : Type 0} (rows : Rows R) (y : Syntax) (honest : ℕ → Bool) (s : ℕ → Holding R) where
  -- a replica of the hall that is not faulty
  abbrev pub Honest : ℕ → Type 0
  Honest i = (i < y.replicas) × (honest i ≡ true)

  -- what replica i has delivered for slot k
  abbrev pub delivered : ℕ → ℕ → Option (List ℕ)
  delivered i k = delivered_sheet_lem rows y.replicas i k (s i).slots

  -- the sheet that replica k has said the send of
  abbrev pub sent : ℕ → Option (List ℕ)
  sent k = recorded rows y.replicas (s k).slots.places Send k k

  -- all honest replicas have offered, each has heard what the others said, and looking changes nothing
  pub record Rest : Type 0 where
    pub running : (i : ℕ) → Honest i → (s i).life ≡ Running
    pub heard : (i j : ℕ) (xs : List ℕ) → Honest i → Honest j → (j ≢ i) → Said rows y j (s j) xs → hear_answer rows y i j xs (s i) ≡ Ok Known
    pub still : (i : ℕ) → Honest i → look_after rows y i (s i) ≡ s i

  pub record Claims (run : Run (replicas rows y) y.replicas honest s) : Type 0 where
    -- honest replicas deliver the same sheet for a slot
    pub same : (i j k : ℕ) (a b : List ℕ) → Honest i → Honest j → k < y.replicas → delivered i k ≡ Some a → delivered j k ≡ Some b → a ≡ b
    -- a delivered slot stays delivered, with its sheet, whatever is called next
    pub lasting : (i k : ℕ) (a : List ℕ) (c : Call (List ℕ)) → Honest i → k < y.replicas → Allowed rows y c (s i) → Authentic (replicas rows y) y.replicas honest s i c → delivered i k ≡ Some a →
        delivered_sheet_lem rows y.replicas i k (call_after rows y i c (s i)).slots ≡ Some a
    -- what is delivered for an honest replica's slot is the sheet that it has sent
    pub valid : (i k : ℕ) (a : List ℕ) → Honest i → Honest k → delivered i k ≡ Some a → sent k ≡ Some a
    -- and an honest replica has sent what it was called to offer
    pub sent_offered : (k : ℕ) (a : List ℕ) → Honest k → sent k ≡ Some a → Offered (replicas rows y) y.replicas honest run k a
    pub offered_sent : (k : ℕ) (a : List ℕ) → Honest k → Offered (replicas rows y) y.replicas honest run k a → sent k ≡ Some a
    -- what an honest replica has said no other refuses, so none accuses it of contradiction
    pub unrefused : (i j : ℕ) (xs : List ℕ) (e : Refused) → Honest i → Honest j → (j ≢ i) → Said rows y j (s j) xs → hear_answer rows y i j xs (s i) ≢ Err e
    -- at rest each honest replica's sheet is delivered at every honest replica
    pub reached : Rest → (i k : ℕ) → Honest i → Honest k → (a : List ℕ) × (sent k ≡ Some a) × (delivered i k ≡ Some a)
    -- and what one honest replica has delivered all have
    pub shared : Rest → (i j k : ℕ) (a : List ℕ) → Honest i → Honest j → k < y.replicas → delivered i k ≡ Some a → delivered j k ≡ Some a

-- for every listed hall, any tags and coin, and any honest replicas where at most f are faulty
abbrev pub BroadcastHolds : {R : Type 0} → Rows R → ℕ → (List ℕ → Bool) → Type 0
BroadcastHolds {R} rows size lawful =
    (n : ℕ) (tags : ℕ → Bool) (shares : Bool) (honest : ℕ → Bool) (s : ℕ → Holding R) → T (listed n) → count n (λ j. not (honest j)) ≤ faults n →
    let y : Syntax = record { replicas = n; size = size; lawful = lawful; tags = tags; shares = shares } in
    (run : Run (replicas rows y) n honest s) → Claims rows y honest s run

-- the steps of a slot end: after three none applies, in any tables that are large enough
abbrev pub StepsEnd : {R : Type 0} → Rows R → Type 0
StepsEnd {R} rows = (n own k : ℕ) (t : Slots R) → own < n → k < n → n ≤ length t.records → all_places n ≤ length t.places → next rows n own k (settled rows n own k 3 t) ≡ None
