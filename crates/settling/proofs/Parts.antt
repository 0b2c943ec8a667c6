-- What one slot's sheets and votes leave, over the lent tables. Assumes nothing.
use Rattle.std.proofs.Common.{◌≡◌, ℕ, ◌<◌, List, length, map, get_or, set, is_some, sym, ap, ◌∙◌, ap₂}
use Rattle.std.proofs.Math.Seq.{map-set_same}
use Rattle.std.proofs.lemmas.List.{map-set, get_or-map, length-map}
use Rattle.ballots.specs.Listed.{ballot_taken}
use Rattle.ballots.specs.States.{Opened, BallotState, unopened, ballot_meaning}
use Rattle.outcomes.specs.declared.opening_record.OpeningRecord.{OpeningRecord}
use Rattle.outcomes.specs.Holdings.{Life, Setting, with_state}
use Rattle.outcomes.specs.Tables.{slots_in, ballots_in, holding}
use Rattle.outcomes.specs.Taking.{sheets_taken, votes_taken}
use Rattle.rules.specs.Rounds.{Round}
use Rattle.sheets.specs.Holds.{Rows}
use Rattle.slots.specs.declared.slot.Slot.{Slot}
use Rattle.slots.specs.Steps.{Slots, cleared, settled, SettledIn}

-- a row's slot and ballot, read and written in their tables
module _ (rs : List OpeningRecord) (k : ℕ) (d : OpeningRecord) where
  pub slot_at : k < length rs → get_or (slots_in rs) k cleared ≡ (get_or rs k d).slot
  slot_at l = get_or-map (λ (r : OpeningRecord). r.slot) rs k d cleared l

  pub ballot_in : k < length rs → get_or (ballots_in rs) k unopened ≡ ballot_meaning (get_or rs k d).ballot
  ballot_in l = get_or-map (λ (r : OpeningRecord). ballot_meaning r.ballot) rs k d unopened l

  pub slots_kept : (r : OpeningRecord) → r.slot ≡ (get_or rs k d).slot → slots_in (set rs k r) ≡ slots_in rs
  slots_kept r e = map-set_same (λ (x : OpeningRecord). x.slot) rs k r d e

  pub ballots_kept : (r : OpeningRecord) → ballot_meaning r.ballot ≡ ballot_meaning (get_or rs k d).ballot → ballots_in (set rs k r) ≡ ballots_in rs
  ballots_kept r e = map-set_same (λ (x : OpeningRecord). ballot_meaning x.ballot) rs k r d e

pub ballots_written : (rs : List OpeningRecord) (k : ℕ) (r : OpeningRecord) → ballots_in (set rs k r) ≡ set (ballots_in rs) k (ballot_meaning r.ballot)
ballots_written rs k r = map-set (λ (x : OpeningRecord). ballot_meaning x.ballot) rs k r

pub slots_written : (rs : List OpeningRecord) (k : ℕ) (r : OpeningRecord) → slots_in (set rs k r) ≡ set (slots_in rs) k r.slot
slots_written rs k r = map-set (λ (x : OpeningRecord). x.slot) rs k r

-- a slot's record put back with what the steps of its sheets leave
pub settled_by : {R : Type 0} (rows : Rows R) (n own k q : ℕ) (rs : List OpeningRecord) (r d : OpeningRecord) (ps ps' : List R) → q ≡ k → k < length rs
    → SettledIn rows n own k (get_or rs q d).slot r.slot ps ps'
    → record { records = slots_in (set rs q r); places = ps' } ≡ settled rows n own k 3 (record { records = slots_in rs; places = ps })
settled_by rows n own k q rs r d ps ps' e l s =
    ap (λ (t : List Slot). record { records = t; places = ps' }) (slots_written rs q r ∙ ap (λ (i : ℕ). set (slots_in rs) i r.slot) e)
    ∙ s (slots_in rs) (simp length-map l) (slot_at rs k d l ∙ ap (λ (i : ℕ). (get_or rs i d).slot) (sym e))

module _ {R C Row : Type 0} (f : Row → Round) (g : Setting R C) (n own : ℕ) (l : Life) where
  -- a slot's sheets, by what they leave of slots and places
  pub sheets_by : (k : ℕ) (rs rs' : List OpeningRecord) (ms : List Row) (ps ps' : List R) (c : C)
      → record { records = slots_in rs'; places = ps' } ≡ settled g.rows n own k 3 (record { records = slots_in rs; places = ps }) → ballots_in rs' ≡ ballots_in rs
      → holding f l rs' ms ps' c ≡ sheets_taken g n own k (holding f l rs ms ps c)
  sheets_by k rs rs' ms ps ps' c es eb = ap₂ (λ (t : Slots R) (os : List Opened). record { life = l; slots = t; ballots = os; rounds = map f ms; coin = c }) es eb

  -- a slot's votes, by what they leave of its row, the rounds and the coin
  pub votes_by : (k q : ℕ) (rs : List OpeningRecord) (r d : OpeningRecord) (ms ms' : List Row) (ps : List R) (c c' : C) → q ≡ k → k < length rs
      → r.slot ≡ (get_or rs q d).slot
      → record { ballot = ballot_meaning r.ballot; rounds = map f ms'; coin = c' } ≡ ballot_taken g.rule g.coins n own k (is_some (get_or rs q d).slot.delivered) (record { ballot = ballot_meaning (get_or rs q d).ballot; rounds = map f ms; coin = c })
      → holding f l (set rs q r) ms' ps c' ≡ votes_taken g n own k (holding f l rs ms ps c)
  votes_by k q rs r d ms ms' ps c c' e lt es ev =
      let at : ballot_taken g.rule g.coins n own k (is_some (get_or rs q d).slot.delivered) (record { ballot = ballot_meaning (get_or rs q d).ballot; rounds = map f ms; coin = c })
      ≡ ballot_taken g.rule g.coins n own k (is_some (get_or (slots_in rs) k cleared).delivered) (record { ballot = get_or (ballots_in rs) k unopened; rounds = map f ms; coin = c }) =
      ap (λ (i : ℕ). ballot_taken g.rule g.coins n own k (is_some (get_or rs i d).slot.delivered) (record { ballot = ballot_meaning (get_or rs i d).ballot; rounds = map f ms; coin = c })) e
      ∙ sym (ap₂ (λ (s : Slot) (o : Opened). ballot_taken g.rule g.coins n own k (is_some s.delivered) (record { ballot = o; rounds = map f ms; coin = c })) (slot_at rs k d lt) (ballot_in rs k d lt)) in
      ap₂ (λ (t : List Slot) (os : List Opened). record { life = l; slots = record { records = t; places = ps }; ballots = os; rounds = map f ms'; coin = c' })
      (slots_kept rs q d r es) (ballots_written rs q r ∙ ap (λ (i : ℕ). set (ballots_in rs) i (ballot_meaning r.ballot)) e)
      ∙ ap (λ (s : BallotState C). with_state k s (holding f l rs ms ps c)) (ev ∙ at)
