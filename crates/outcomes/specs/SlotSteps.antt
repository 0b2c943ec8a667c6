-- The steps of a slot as they are listed: the first listed that applies is taken, until none does. Assumes nothing.
use Rattle.std.specs.Prelude.{◌≡◌, ℕ, suc, ◌<◌, ◌≤◌, Bool, List, [], ◌∷◌, length, Option, is_some}
use Rattle.std.specs.Option.{option_map}
use Rattle.basis.specs.Halls.{largest}
use Rattle.basis.specs.Steps.{Step, settled, Idle}
use Rattle.ballots.specs.Listed.{Taking, in_opening, openers, repropose, later_steps}
use Rattle.messages.specs.declared.message.Phase.TheVariants.{Echo, Ready}
use Rattle.openings.specs.Openings.{opening_steps}
use Rattle.slots.specs.Places.{all_places}
use Rattle.slots.specs.Steps.{Slots, noted, echo_due, ready_due, delivery_due, delivered_by, go_on}
use Rattle.outcomes.specs.Holdings.{Setting, Holding, is_delivered, state_of, with_slots, with_state}
use Rattle.outcomes.specs.Taking.{may_propose, proposed_below, taken_below, slot_taken}

-- A replica while the steps of a slot are taken, with the two markers of the steps of its ballot.
pub record Turn (R C : Type 0) : Type 0 where
  pub holding : Holding R C
  -- how many later rounds have had the rule's steps
  pub called : ℕ
  -- how many later rounds there are up to that of the last share that was said
  pub passed : ℕ

module _ {R C : Type 0} where
  -- the same with other tables of sheets
  abbrev pub with_sheets : Slots R → Turn R C → Turn R C
  with_sheets t x = record { holding = with_slots t x.holding; called = x.called; passed = x.passed }

  -- ballot k with the markers, and the same with that changed
  abbrev pub ballot_of : ℕ → Turn R C → Taking C
  ballot_of k x = record { state = state_of k x.holding; called = x.called; passed = x.passed }

  abbrev pub with_taking : ℕ → Taking C → Turn R C → Turn R C
  with_taking k t x = record { holding = with_state k t.state x.holding; called = t.called; passed = t.passed }

  -- a step of ballot k as a step of the slot, by whether the slot is delivered
  abbrev pub in_ballot : ℕ → (Bool → Step (Taking C)) → Step (Turn R C)
  in_ballot k f = record {
    applies = λ x. (f (is_delivered k x.holding)).applies (ballot_of k x);
    leaves = λ x. with_taking k ((f (is_delivered k x.holding)).leaves (ballot_of k x)) x;
  }

  -- steps of ballot k that do not ask for that
  abbrev pub in_ballots : ℕ → List (Step (Taking C)) → List (Step (Turn R C))
  in_ballots k [] = []
  in_ballots k (t ∷ ts) = in_ballot k (λ d. t) ∷ in_ballots k ts

module _ {R C : Type 0} (g : Setting R C) (n own k : ℕ) where
  -- a step of the slot's sheets, by what it leaves of them where it applies
  abbrev pub in_sheets : (Slots R → Option (Slots R)) → Step (Turn R C)
  in_sheets f = record {
    applies = λ x. is_some (f x.holding.slots);
    leaves = λ x. with_sheets (go_on g.rows n own k x.holding.slots (f x.holding.slots)) x;
  }

  abbrev pub echo : Step (Turn R C)
  echo = in_sheets (λ t. option_map (noted g.rows n own k Echo own t) (echo_due g.rows n own k t))

  abbrev pub ready : Step (Turn R C)
  ready = in_sheets (λ t. option_map (noted g.rows n own k Ready own t) (ready_due g.rows n own k t))

  abbrev pub deliver : Step (Turn R C)
  deliver = in_sheets (λ t. option_map (delivered_by g.rows n own k t) (delivery_due g.rows n own k t))

  -- Propose: in every ballot at once, and then all slots take their steps, the lowest first. This slot is one of them: in it
  -- the rule has then been called in each entered round, and the shares are said, so both markers stand at the last round.
  abbrev pub propose : Step (Turn R C)
  propose = record {
    applies = λ x. may_propose g n own k x.holding;
    leaves = λ x. record { holding = taken_below g n own n (proposed_below g n own n x.holding); called = 15; passed = 15 };
  }

  -- all steps in their order: Echo, Ready, Deliver, Propose, Repropose, the opening round's, the rule's, Share, Go on
  unfoldable pub slot_steps : List (Step (Turn R C))
  slot_steps =
      echo ∷ (ready ∷ (deliver ∷ (propose ∷ (in_ballot k (λ d. in_opening (repropose own d))
      ∷ in_ballots k (openers (opening_steps n own) (later_steps g.rule g.coins n own k))))))

  -- The first listed that applies is taken, until none does. Each of these 56 is taken once at most.
  unfoldable pub slot_turned : Holding R C → Turn R C
  slot_turned h = settled slot_steps 56 (record { holding = h; called = 0; passed = 0 })

  -- what a replica comes to by the listed steps of a slot
  abbrev pub slot_listed : Holding R C → Holding R C
  slot_listed h = (slot_turned h).holding

-- tables that are large enough, and a coin that its calls have made
pub record Roomy {R C : Type 0} (g : Setting R C) (n : ℕ) (h : Holding R C) : Type 0 where
  pub slots : n ≤ length h.slots.records
  pub places : all_places n ≤ length h.slots.places
  pub ballots : n ≤ length h.ballots
  pub coin : g.coins.sound h.coin

-- The listed order comes to the same as taking the steps by parts; at its end no step applies; and where the replica
-- proposes, the turn of each slot after that is its listed steps.
abbrev pub SlotOrder : {R C : Type 0} → Setting R C → Type 0
SlotOrder {R} {C} g = (n own k : ℕ) (h : Holding R C) → n ≤ largest → own < n → k < n → Roomy g n h →
    (slot_listed g n own k h ≡ slot_taken g n own k h)
    × Idle (slot_steps g n own k) (slot_turned g n own k h)
    × (taken_below g n own (suc k) (proposed_below g n own n h) ≡ slot_listed g n own k (taken_below g n own k (proposed_below g n own n h)))
