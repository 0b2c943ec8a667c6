-- The evening of takings that closes. Assumes nothing.
use Rattle.std.proofs.Common.{◌≡◌, ℕ, Bool, T, zero, suc, ◌*◌, ◌<◌, true, leb, List, ◌∷◌, length, map, get_or, replicate, pos, None, refl, sym, ap, ◌∙◌, arith, lit<}
use lib.ListN.{get_or-replicate, length-replicate}
use Rattle.std.proofs.lemmas.Bool.{and_parts, and_from, eqb-true, le-leb}
use Rattle.basis.specs.Halls.{listed}
use Rattle.basis.proofs.Thirds.{thirds, some_faults, at_most_16}
use Rattle.ballots.specs.States.{ballot_meaning, unopened}
use Rattle.ballots.specs.declared.ballot.Stage.TheVariants.{InRound}
use Rattle.broadcast.specs.Claims.{RowLaws}
use Rattle.coins.specs.declared.dealt.DealtCoin.{DealtCoin}
use Rattle.evenings.specs.Evenings.{Replica, held}
use Rattle.outcomes.specs.declared.opening_record.OpeningRecord.{OpeningRecord}
use Rattle.outcomes.specs.Holdings.{Fresh}
use Rattle.outcomes.specs.Opening.{Opened}
use Rattle.phases.specs.declared.round.PhasedRound.{PhasedRound}
use Rattle.phases.specs.Records.{meaning_of, empty_round}
use Rattle.phases.specs.Steps.{two_phase, three_phase}
use Rattle.phases.proofs.Masks.{none_cast}
use Rattle.rules.specs.Laws.{Acts}
use Rattle.rules.specs.Rounds.{Round, cleared}
use Rattle.sheets.specs.declared.kinds.TakingsRow.{TakingsRow}
use Rattle.sheets.specs.OfTakings.{amount_bytes, takings_lawful, takings_held, takings_empty, takings_rows}
use Rattle.sheets.specs.OfTakingsLemmas.{amount_octets, amount_lawful, held_row, kept_of}
use Rattle.slots.specs.declared.slot.Slot.{Slot}
use Rattle.slots.specs.Places.{all_places}
use Rattle.slots.specs.Steps.{cleared as cleared_slot}
use Rattle.evening_witness.specs.Witness.{takings_hall, AllClose, SomeEveningCloses}
use Rattle.evening_witness.proofs.Rows.{Writable, two_written, three_written}
use Rattle.evening_witness.proofs.Fewer.{fewer}
use Rattle.evening_witness.proofs.Evenings.{evening_closes}

takings_laws : RowLaws takings_rows 12 takings_lawful
takings_laws = record { short = lit< tt; sized = λ s h. eqb-true _ _ (and_parts _ _ h).0; restored = λ s h l. held_row s h l; kept = λ r s h. kept_of r s h }

-- an opening record as open leaves it
empty_record : OpeningRecord
empty_record = record { slot = cleared_slot; ballot = record { opening = empty_round; stage = InRound 0; decided = None } }

-- a replica as open leaves it
fresh_replica : ℕ → Replica TakingsRow DealtCoin PhasedRound
fresh_replica n = record { life = Fresh; records = replicate n empty_record; rounds = replicate (15 * n) empty_round; places = replicate (all_places n) takings_empty; coin = record { numbers = replicate 16 0 } }

map_replicate : {X Y : Type 0} (f : X → Y) (n : ℕ) (x : X) → map f (replicate n x) ≡ replicate n (f x)
map_replicate {X} {Y} f zero x = refl
map_replicate {X} {Y} f (suc n) x = ap (λ (l : List Y). f x ∷ l) (map_replicate f n x)

mapped_length : {X Y : Type 0} (f : X → Y) (n : ℕ) (x : X) → length (map f (replicate n x)) ≡ n
mapped_length f n x = ap length (map_replicate f n x) ∙ length-replicate n (f x)

mapped_at : {X Y : Type 0} (f : X → Y) (n k : ℕ) (x : X) (d : Y) → k < n → get_or (map f (replicate n x)) k d ≡ f x
mapped_at {X} {Y} f n k x d h = ap (λ (l : List Y). get_or l k d) (map_replicate f n x) ∙ get_or-replicate n k (f x) d h

long_enough : (a b : ℕ) → b ≡ a → leb a b ≡ true
long_enough a b e = le-leb a b (omega arith)

opened : (a : Acts) (n i : ℕ) → Opened (takings_hall a) n i (held meaning_of (fresh_replica n))
unfolding fresh_replica empty_record
opened a n i = record {
  fresh = refl;
  tables = record {
    sizes = and_from _ _ (long_enough n _ (mapped_length (λ (r : OpeningRecord). r.slot) n empty_record))
        (and_from _ _ (long_enough (15 * n) _ (mapped_length meaning_of (15 * n) empty_round)) (long_enough (all_places n) _ (length-replicate (all_places n) takings_empty)));
    ballots = mapped_length (λ (r : OpeningRecord). ballot_meaning r.ballot) n empty_record ∙ sym (mapped_length (λ (r : OpeningRecord). r.slot) n empty_record);
    undelivered = λ k h. ap (λ (s : Slot). s.delivered) (mapped_at (λ (r : OpeningRecord). r.slot) n k empty_record cleared_slot h);
    empty = λ p h. ap takings_held (get_or-replicate (all_places n) p takings_empty takings_empty h);
    unopened_ballots = λ k h. mapped_at (λ (r : OpeningRecord). ballot_meaning r.ballot) n k empty_record unopened h ∙ ap (λ (m : Round). record { opening = m; stage = 0; decided = 0 }) none_cast;
    cleared_rounds = λ p h. mapped_at meaning_of (15 * n) p empty_round cleared h ∙ none_cast;
  };
  new_coin = record { sound = tt; none_taken = λ k r j t l. refl };
}

under : (a : Acts) → Writable a → (n : ℕ) (honest : ℕ → Bool) → T (listed n) → AllClose a n honest
under a rule n honest h =
    let start : ℕ → Replica TakingsRow DealtCoin PhasedRound = λ i. fresh_replica n in
    let e = evening_closes (takings_hall a) rule takings_laws n (some_faults n h) (thirds n h) (at_most_16 n h) (amount_bytes (pos 1250) 3) (amount_lawful (pos 1250) 3 refl) (amount_octets (pos 1250) 3) start (λ i o. opened a n i) in
    let f = fewer (takings_hall a) meaning_of n honest start e.0 e.1 in
    record { hall = f.0; evening = record { start = start; opened = λ i o. opened a n i; calls = f.1 }; closed = λ i o. ap (λ (t : Replica TakingsRow DealtCoin PhasedRound). t.life) (f.2 i o.1) ∙ e.2 i o.0 }

pub some_evening_closes : SomeEveningCloses
some_evening_closes = record { two = under two_phase two_written; three = under three_phase three_written }
