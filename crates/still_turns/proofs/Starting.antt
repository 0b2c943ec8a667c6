-- A replica as open leaves it has no step left at any slot. Assumes nothing.
use Rattle.std.proofs.Common.{◌≡◌, ℕ, zero, suc, ◌<◌, Bool, false, cond, List, ◌∷◌, Some, None, Option, is_some, refl, sym, ap, ap₂, subst, arith}
use Rattle.std.specs.Option.{option_map}
use Rattle.basis.specs.Halls.{quorum, beyond_faults}
use Rattle.basis.specs.Steps.{Idle}
use Rattle.ballots.proofs.Sweeps.{goes_from, not_due, gone_elsewhere}
use Rattle.ballots.specs.Ballots.{may_go}
use Rattle.ballots.specs.Listed.{repropose}
use Rattle.ballots.specs.States.{Opened as OpenedBallot, unopened}
use Rattle.messages.specs.declared.message.Phase.{Phase}
use Rattle.messages.specs.declared.message.Phase.TheVariants.{Send, Echo, Ready}
use Rattle.openings.specs.Openings.{opening_steps}
use Rattle.sheets.specs.Holds.{Rows}
use Rattle.slots.proofs.Positions.{place_within}
use Rattle.slots.specs.Places.{place, or_else, recorded, reaches, lowest_backed, sheet_of, to_ready}
use Rattle.slots.specs.Steps.{unless, noted, echo_due, ready_due, delivery_due, delivered_by, next}
use Rattle.outcomes.specs.Holdings.{Setting, Holding, ballot_at, state_of}
use Rattle.outcomes.specs.Opening.{Opened}
use Rattle.still_turns.proofs.Slots.{SlotDone}

-- nobody leads where nothing is recorded
none_backed : {R : Type 0} (rows : Rows R) (n : ℕ) (ps : List R) (ph : Phase) (k least m : ℕ) → ((j : ℕ) → j < m → recorded rows n ps ph k j ≡ None) → lowest_backed rows n ps ph k least m ≡ None
unfolding lowest_backed
none_backed rows n ps ph k least zero none = refl
none_backed rows n ps ph k least (suc m) none = ap₂ (λ (o : Option ℕ) (x : Option (List ℕ)). or_else o (cond (reaches rows n ps ph k least x) (Some m) None))
    (none_backed rows n ps ph k least m (λ j lt. none j (omega arith))) (none m (omega arith))

module _ {R C : Type 0} (g : Setting R C) (n own : ℕ) (lo : own < n) (h : Holding R C) (o : Opened g n own h) (k : ℕ) (lk : k < n) where
  nothing : (ph : Phase) (j : ℕ) → j < n → recorded g.rows n h.slots.places ph k j ≡ None
  nothing ph j lj = o.tables.empty (place n ph k j) (place_within n ph k j lk lj)

  nobody_backed : (ph : Phase) (least : ℕ) → lowest_backed g.rows n h.slots.places ph k least n ≡ None
  nobody_backed ph least = none_backed g.rows n h.slots.places ph k least n (nothing ph)

  no_echo : echo_due g.rows n own k h.slots ≡ None
  no_echo = ap₂ (λ (x y : Option (List ℕ)). unless x y) (nothing Echo own lo) (nothing Send own lo)

  no_cause : to_ready g.rows n h.slots.places k ≡ None
  no_cause = ap₂ (λ (x y : Option ℕ). or_else (sheet_of g.rows n h.slots.places Echo k x) (sheet_of g.rows n h.slots.places Ready k y)) (nobody_backed Echo (quorum n)) (nobody_backed Ready (beyond_faults n))

  no_ready : ready_due g.rows n own k h.slots ≡ None
  no_ready = ap₂ (λ (x y : Option (List ℕ)). unless x y) (nothing Ready own lo) no_cause

  no_delivery : delivery_due g.rows n own k h.slots ≡ None
  no_delivery = ap₂ (λ (x y : Option ℕ). unless x y) (o.tables.undelivered k lk) (nobody_backed Ready (quorum n))

  none : next g.rows n own k h.slots ≡ None
  none = λ i. or_else (option_map (noted g.rows n own k Echo own h.slots) (no_echo i)) (or_else (option_map (noted g.rows n own k Ready own h.slots) (no_ready i)) (option_map (delivered_by g.rows n own k h.slots) (no_delivery i)))

  unstarted : ballot_at k h ≡ unopened
  unstarted = o.tables.unopened_ballots k lk

  stage : (ballot_at k h).stage ≡ 0
  stage = ap (λ (b : OpenedBallot). b.stage) unstarted

  gone : (r : ℕ) → r < 16 → goes_from g.rule g.coins n own k r (state_of k h) ≡ false
  gone zero lt = ap (λ (b : OpenedBallot). may_go 0 b.opening.verdict 2 b) unstarted
  gone (suc r) lt = gone_elsewhere g.rule g.coins n own k (suc r) (state_of k h) (λ e. omega (arith, stage))

  pub opened_done : SlotDone g n own k h
  opened_done = record {
    sheets = none;
    ballot = record {
      opening = subst (λ (d : Bool). Idle (repropose own d ∷ opening_steps n own) (ballot_at k h).opening) (sym (ap is_some (o.tables.undelivered k lk)))
          (subst (λ (b : OpenedBallot). Idle (repropose own false ∷ opening_steps n own) b.opening) (sym unstarted) (refl, (refl, (refl, (refl, (refl, (refl, tt)))))));
      rounds = λ q lt. record { ruled = λ l. absurd (omega (arith, stage)); due = not_due g.rule g.coins n own k q (state_of k h) (omega (arith, stage)) };
      gone = gone;
    };
  }
