-- What a till that is opened holds. Assumes nothing.
use Rattle.std.proofs.Common.{◌≡◌, ℕ, ◌*◌, List, ◌++◌, Ok, length, map, replicate, sym, ap, ◌∙◌, arith}
use Rattle.std.proofs.lemmas.List.{append-nil, drop_all, length-map}
use Rattle.ballots.specs.States.{unopened}
use Rattle.basis.specs.Members.{Numbers}
use Rattle.broadcast.specs.Opening.{cleared_to, if_opened}
use Rattle.outcomes.specs.declared.opening_record.OpeningRecord.{OpeningRecord}
use Rattle.outcomes.specs.Holdings.{Fresh as IsFresh}
use Rattle.outcomes.specs.Opening.{LentTables, cleared_tables, open_answer_lem, open_after}
use Rattle.outcomes.specs.Tables.{holding, lent, slots_in, ballots_in}
use Rattle.phases.specs.Records.{meaning_of}
use Rattle.phases.specs.declared.round.PhasedRound.{PhasedRound}
use Rattle.rules.specs.Rounds.{cleared as cleared_round}
use Rattle.sheets.specs.OfTakings.{takings_rows, takings_empty}
use Rattle.sheets.specs.declared.kinds.TakingsRow.{TakingsRow}
use Rattle.slots.specs.Places.{all_places}
use Rattle.slots.specs.Steps.{cleared}
use Rattle.halls.specs.Scenes.{newly_opened}

-- a table that is cleared as far as it reaches
all_cleared : {X : Type 0} (k : ℕ) (x : X) (xs : List X) → length xs ≡ k → cleared_to k x xs ≡ replicate k x
all_cleared k x xs e = ap (λ (ys : List _). replicate k x ++ ys) (drop_all k xs (omega (arith, e))) ∙ append-nil (replicate k x)

module _ (n own number : ℕ) (rs rs' : List OpeningRecord) (ms ms' : List PhasedRound) (ps ps' : List TakingsRow) where
  abbrev before : LentTables TakingsRow
  before = lent meaning_of rs ms ps

  abbrev fresh_tables : LentTables TakingsRow
  fresh_tables = record { slots = record { records = replicate n cleared; places = replicate (all_places n) takings_empty }; ballots = replicate n unopened; rounds = replicate (15 * n) cleared_round }

  -- tables of the hall's size are cleared wholly
  wholly : length rs ≡ n → length ms ≡ 15 * n → length ps ≡ all_places n → cleared_tables takings_rows n before ≡ fresh_tables
  wholly a b d = λ i. record {
    slots = record { records = all_cleared n cleared (slots_in rs) (length-map rs _ ∙ a) i; places = all_cleared (all_places n) takings_empty ps d i };
    ballots = all_cleared n unopened (ballots_in rs) (length-map rs _ ∙ a) i;
    rounds = all_cleared (15 * n) cleared_round (map meaning_of ms) (length-map ms _ ∙ b) i;
  }

  pub opened_holds : length rs ≡ n → length ms ≡ 15 * n → length ps ≡ all_places n → (m : Numbers) → Ok m ≡ open_answer_lem takings_rows n own before → lent meaning_of rs' ms' ps' ≡ open_after takings_rows n own before →
      holding meaning_of IsFresh rs' ms' ps' (record { numbers = replicate 16 number }) ≡ newly_opened n number
  opened_holds a b d m answered left =
      ap (λ (t : LentTables TakingsRow). record { life = IsFresh; slots = t.slots; ballots = t.ballots; rounds = t.rounds; coin = record { numbers = replicate 16 number } })
      (left ∙ sym (ap (λ z. if_opened z (cleared_tables takings_rows n before) before) answered) ∙ wholly a b d)
