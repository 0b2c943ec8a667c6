-- The tables of a replica keep their lengths, whatever steps are taken. Assumes nothing.
use Rattle.std.proofs.Common.{◌≡◌, ℕ, zero, suc, Bool, cond, List, length, set, refl, ap, ◌∙◌, ap₂, length-set}
use Rattle.std.proofs.lemmas.Bool.{cond_both}
use Rattle.ballots.specs.Ballots.{verdict_at, face, gone_rounds, ruled, shared, round_settled, later_settled, stepped_opening, opening_part, may_go}
use Rattle.ballots.specs.Listed.{reproposed, ballot_taken}
use Rattle.ballots.specs.States.{Opened, BallotState, place}
use Rattle.ballots.proofs.Order.{listed_order}
use Rattle.broadcast.specs.Calls.{fits_hall}
use Rattle.broadcast.proofs.Settling.{Step, echoes, readies, delivers, rests, stepped}
use Rattle.coins.specs.Coins.{Acts as Coin-acts}
use Rattle.rules.specs.Laws.{Acts}
use Rattle.rules.specs.Rounds.{Round}
use Rattle.sheets.specs.Holds.{Rows}
use Rattle.slots.specs.Steps.{Slots, settled}
use Rattle.outcomes.specs.Holdings.{Holding, sizes_ok}

-- rows that are set under a test
set_if : {X : Type 0} (b : Bool) (xs : List X) (p : ℕ) (x : X) → length (cond b (set xs p x) xs) ≡ length xs
set_if b xs p x = cond_both b (set xs p x) xs (λ ys. length ys ≡ length xs) (λ _. length-set xs p x) (λ _. refl)

module _ {R : Type 0} where
  -- the tables of two states are as long
  pub record SameTables (t t' : Slots R) : Type 0 where
    pub records : length t'.records ≡ length t.records
    pub places : length t'.places ≡ length t.places

  pub tables_none : {t : Slots R} → SameTables t t
  tables_none = record { records = refl; places = refl }

  pub tables_on : {t u v : Slots R} → SameTables t u → SameTables u v → SameTables t v
  tables_on a b = record { records = b.records ∙ a.records; places = b.places ∙ a.places }

module _ {R : Type 0} (rows : Rows R) (n own k : ℕ) where
  step_tables : (t t' : Slots R) → Step rows n own k t t' → SameTables t t'
  step_tables t t' (echoes x e) = record { records = refl; places = length-set t.places _ _ }
  step_tables t t' (readies x e) = record { records = refl; places = length-set t.places _ _ }
  step_tables t t' (delivers j e) = record { records = length-set t.records _ _; places = refl }
  step_tables t t' (rests e r d) = tables_none

  pub settled_tables : (fuel : ℕ) (t : Slots R) → SameTables t (settled rows n own k fuel t)
  unfolding settled
  settled_tables zero t = tables_none
  settled_tables (suc fuel) t = tables_on (step_tables t _ (stepped rows n own k t)) (settled_tables fuel _)

-- the rounds, by the steps of a ballot
module _ {C : Type 0} (a : Acts) (b : Coin-acts C) (n own k : ℕ) where
  gone_length : (r v c : ℕ) (o : Opened) (ms : List Round) → length (gone_rounds a n own k r v c o ms) ≡ length ms
  gone_length r v c o ms = cond_both (may_go r v c o) _ ms (λ (xs : List Round). length xs ≡ length ms) (λ _. set_if _ ms (place k r) _) (λ _. refl)

  round_length : (r : ℕ) (s : BallotState C) → length (round_settled a b n own k r s).rounds ≡ length s.rounds
  round_length r s =
      let t = shared a b n own k r (ruled a b n own k r s) in
      gone_length (suc r) (verdict_at a b n own k (suc r) t) (face a b n own k (suc r) t) s.ballot t.rounds ∙ set_if _ s.rounds (place k r) _

  later_length : (u r : ℕ) (s : BallotState C) → length (later_settled a b n own k u r s).rounds ≡ length s.rounds
  unfolding later_settled
  later_length zero r s = refl
  later_length (suc u) r s = later_length u (suc r) (round_settled a b n own k r s) ∙ round_length r s

  pub ballot_length : (delivered : Bool) (s : BallotState C) → length (ballot_taken a b n own k delivered s).rounds ≡ length s.rounds
  ballot_length delivered s =
      ap (λ (x : BallotState C). length x.rounds) (listed_order a b n own k delivered s).0
      ∙ later_length 15 0 (opening_part a b n own k (reproposed own delivered s))
      ∙ (let o = stepped_opening a n own k (reproposed own delivered s).ballot in gone_length 0 o.opening.verdict 2 o s.rounds)

module _ {R C : Type 0} where
  -- the tables of two holdings are as long
  pub record SameLengths (h h' : Holding R C) : Type 0 where
    pub records : length h'.slots.records ≡ length h.slots.records
    pub places : length h'.slots.places ≡ length h.slots.places
    pub ballots : length h'.ballots ≡ length h.ballots
    pub rounds : length h'.rounds ≡ length h.rounds

  pub lengths_none : {h : Holding R C} → SameLengths h h
  lengths_none = record { records = refl; places = refl; ballots = refl; rounds = refl }

  pub lengths_on : {h u v : Holding R C} → SameLengths h u → SameLengths u v → SameLengths h v
  lengths_on a b = record { records = b.records ∙ a.records; places = b.places ∙ a.places; ballots = b.ballots ∙ a.ballots; rounds = b.rounds ∙ a.rounds }

  -- and so the sizes stay as they are
  pub sizes_same : (n : ℕ) {h h' : Holding R C} → SameLengths h h' → sizes_ok n h' ≡ sizes_ok n h
  sizes_same n {h} {h'} s =
      ap (λ (x : ℕ). fits_hall n x (length h'.rounds) (length h'.slots.places)) s.records
      ∙ ap₂ (λ (x y : ℕ). fits_hall n (length h.slots.records) x y) s.rounds s.places
