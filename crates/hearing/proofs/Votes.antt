-- A vote in its round. Assumes nothing.
use Rattle.std.proofs.Common.{◌≡◌, ℕ, suc, ◌<◌, List, length, map, get_or, set, sym, ap, ◌∙◌, ap₂}
use Rattle.ballots.proofs.Rows.{row_at, row_written}
use Rattle.ballots.specs.Ballots.{with_opening}
use Rattle.ballots.specs.States.{Opened, place, ballot_meaning}
use Rattle.outcomes.specs.declared.opening_record.OpeningRecord.{OpeningRecord}
use Rattle.outcomes.specs.Tables.{ballots_in}
use Rattle.phases.specs.declared.round.PhasedRound.{PhasedRound}
use Rattle.phases.specs.Records.{meaning_of}
use Rattle.phases.specs.Steps.{hears}
use Rattle.rules.specs.Laws.{Acts, heard}
use Rattle.rules.specs.Rounds.{Round, Vote}
use Rattle.settling.proofs.Parts.{ballot_in, ballots_written}
use Rattle.hearing.specs.Votes.{round_in, ballots_heard, rounds_heard}

-- in the opening round, whose record stands at q
module _ (w : Vote) (k q i : ℕ) (rs : List OpeningRecord) (d : OpeningRecord) (first : i ≡ 0) (e : q ≡ k) (lt : k < length rs) where
  pub opening_heard : (p : PhasedRound) → meaning_of p ≡ hears w (meaning_of (get_or rs q d).ballot.opening)
      → ballots_in (set rs q (record { slot = (get_or rs q d).slot; ballot = record { opening = p; stage = (get_or rs q d).ballot.stage; decided = (get_or rs q d).ballot.decided } }))
      ≡ ballots_heard k i w (ballots_in rs)
  opening_heard p h =
      let o : Opened = ballot_meaning (get_or rs q d).ballot in
      ballots_written rs q (record { slot = (get_or rs q d).slot; ballot = record { opening = p; stage = (get_or rs q d).ballot.stage; decided = (get_or rs q d).ballot.decided } })
      ∙ ap₂ (set (ballots_in rs)) e (ap (λ (m : Round). with_opening m o) h
      ∙ ap (λ (j : ℕ). with_opening (hears w (ballot_meaning (get_or rs j d).ballot).opening) (ballot_meaning (get_or rs j d).ballot)) e
      ∙ sym (ap (λ (o : Opened). with_opening (hears w o.opening) o) (ballot_in rs k d lt)))
      ∙ ap (λ (r' : ℕ). ballots_heard k r' w (ballots_in rs)) (sym first)

-- in a later round, whose record stands at q
module _ {X : Type 0} (f : X → Round) (w : Vote) (k r q i : ℕ) (xs : List X) (d : X) (os : List Opened) (later : i ≡ suc r) (e : q ≡ place k r) (lt : place k r < length xs) where
  pub later_is : f (get_or xs q d) ≡ round_in k i os (map f xs)
  later_is = row_at f xs q (place k r) d e lt ∙ ap (λ (j : ℕ). round_in k j os (map f xs)) (sym later)

  pub later_heard : (a : Acts) (n own : ℕ) (y : X) → f y ≡ heard a n own w (f (get_or xs q d)) → map f (set xs q y) ≡ rounds_heard a n own k i w (map f xs)
  later_heard a n own y h = row_written f xs q (place k r) d e lt (heard a n own w) y h ∙ ap (λ (j : ℕ). rounds_heard a n own k j w (map f xs)) (sym later)
