-- Runs of a hall: calls at honest replicas, in any order, whatever a replica holds. Assumes nothing.
use Rattle.std.specs.Prelude.{◌≡◌, ℕ, ◌<◌, Bool, true, cond, ◌⊎◌, List, ◌==◌, ◌≢◌}

-- a call at a replica; X is what offer is given, and ask is a call that changes nothing: say, list or record
pub data Call (X : Type 0) : Type 0 where
  offer : X → Call X
  hear : (sender : ℕ) (packet : List ℕ) → Call X
  look : Call X
  ask : Call X
  close : Call X

-- what the replicas of a hall are, each by its own number; S is what one holds
pub record Node (S X : Type 0) : Type 1 where
  -- what open may leave
  pub opened : ℕ → S → Type 0
  -- which calls the state allows
  pub can : Call X → S → Type 0
  -- what a call leaves; a refused one leaves all as it was
  pub after : ℕ → Call X → S → S
  -- these bytes are a message that the replica has said
  pub said : ℕ → S → List ℕ → Type 0

-- the hall where replica i alone has changed
abbrev pub upd : {S : Type 0} → (ℕ → S) → ℕ → S → ℕ → S
upd s i t j = cond (j == i) t (s j)

module _ {S X : Type 0} (node : Node S X) (n : ℕ) (honest : ℕ → Bool) where
  -- an honest replica is quoted to another only with what it has said, and a faulty one with any bytes
  abbrev pub Authentic : (ℕ → S) → ℕ → Call X → Type 0
  Authentic s i (offer x) = Unit {0}
  Authentic s i (hear j xs) = j < n → honest j ≡ true → (j ≢ i) → node.said j (s j) xs
  Authentic s i look = Unit {0}
  Authentic s i ask = Unit {0}
  Authentic s i close = Unit {0}

  -- the halls that a run can come to
  pub data Run : (ℕ → S) → Type 0 where
    opening : (s : ℕ → S) → ((i : ℕ) → i < n → honest i ≡ true → node.opened i (s i)) → Run s
    calling : {s : ℕ → S} → Run s → (i : ℕ) (c : Call X) → i < n → honest i ≡ true → node.can c (s i) → Authentic s i c → Run (upd s i (node.after i c (s i)))

  -- in this run replica k was called to offer x
  abbrev pub Offered : {s : ℕ → S} → Run s → ℕ → X → Type 0
  Offered (opening s o) k x = ⊥
  Offered (calling r i c low hon can au) k x = ((i ≡ k) × (c ≡ offer x)) ⊎ Offered r k x
