-- The listed steps of a slot come to the same as taking them by parts. Assumes nothing.
use Rattle.std.proofs.Common.{◌≡◌, ℕ, ◌<◌, ◌≤◌, Bool, true, false, length, None, refl, sym, ap, ◌∙◌, subst, arith}
use Rattle.std.proofs.lemmas.Bool.{cond-true, cond-false}
use Rattle.basis.specs.Halls.{largest}
use Rattle.basis.specs.Steps.{stepped, Idle}
use Rattle.ballots.specs.Listed.{all_taken}
use Rattle.broadcast.specs.Claims.{RowLaws}
use Rattle.broadcast.proofs.Ending.{steps_end}
use Rattle.coins.specs.Coins.{Keeps as CoinKeeps}
use Rattle.slots.specs.Steps.{next}
use Rattle.outcomes.specs.Holdings.{Setting, Holding, is_delivered, state_of}
use Rattle.outcomes.specs.Taking.{sheets_taken, votes_taken, may_propose, proposed_below, taken_below, slot_taken}
use Rattle.outcomes.specs.SlotSteps.{Turn, slot_steps, slot_turned, slot_listed, Roomy, SlotOrder}
use Rattle.outcomes.proofs.Proposed.{turn_is, roomy, proposed_idle}
use Rattle.outcomes.proofs.Turning.{comes_idle, comes_turn, sheets_first, sheets_come, sheets_skipped, put}
use Rattle.outcomes.proofs.Voting.{after_sheets, votes_come, votes_idle}

-- what a slot comes to by its listed steps, by the laws of the kind of sheet and of the coin
by_parts : {R C : Type 0} (g : Setting R C) → RowLaws g.rows g.size g.lawful → CoinKeeps g.coins → (n own k : ℕ) (h : Holding R C) → n ≤ largest → own < n → k < n → Roomy g n h →
    (slot_listed g n own k h ≡ slot_taken g n own k h) × Idle (slot_steps g n own k) (slot_turned g n own k h)
unfolding slot_steps slot_turned slot_taken
by_parts {R} {C} g rows coins n own k h hall lo lk room = go (may_propose g n own k s) refl
  where
    s : Holding R C
    s = sheets_taken g n own k h

    none : next g.rows n own k s.slots ≡ None
    none = steps_end g.rows rows n own k h.slots lo lk room.slots room.places

    x : Turn R C
    x = record { holding = h; called = 0; passed = 0 }

    y : Turn R C
    y = record { holding = s; called = 0; passed = 0 }

    within : k < length s.ballots
    within = let e = room.ballots in omega arith

    go : (b : Bool) → may_propose g n own k s ≡ b → (slot_listed g n own k h ≡ slot_taken g n own k h) × Idle (slot_steps g n own k) (slot_turned g n own k h)
    go false off =
        let z : Turn R C = put g n own k s within (all_taken g.rule g.coins n own k (is_delivered k s) (state_of k s)) in
        let e = sheets_come g n own k (after_sheets g n own k) 3 53 56 x z refl (λ j le. votes_come g n own k s within none off j (omega arith)) 56 (omega arith) in (
          ap (λ (t : Turn R C). t.holding) e ∙ sym (cond-false (may_propose g n own k s) (taken_below g n own n (proposed_below g n own n s)) (votes_taken g n own k s) off),
          subst (Idle (slot_steps g n own k)) (sym e) (votes_idle g n own k s within none off),
        )
    go true on =
        let ss = sheets_first g n own k (after_sheets g n own k) in
        let z : Turn R C = record { holding = taken_below g n own n (proposed_below g n own n s); called = 15; passed = 15 } in
        let idle : Idle ss z = proposed_idle g n own k coins hall lo lk s room.ballots room.coin none in
        let turn : stepped ss y ≡ z = sheets_skipped g n own k (after_sheets g n own k) y none ∙ cond-true (may_propose g n own k s) z _ on in
        let e = sheets_come g n own k (after_sheets g n own k) 3 53 56 x z refl (comes_turn ss 0 53 y z z (omega arith) turn (comes_idle ss 0 z idle)) 56 (omega arith) in (
          ap (λ (t : Turn R C). t.holding) e ∙ sym (cond-true (may_propose g n own k s) (taken_below g n own n (proposed_below g n own n s)) (votes_taken g n own k s) on),
          subst (Idle (slot_steps g n own k)) (sym e) idle,
        )

-- and so each slot in its turn after proposing
pub slot_order : {R C : Type 0} (g : Setting R C) → RowLaws g.rows g.size g.lawful → CoinKeeps g.coins → SlotOrder g
slot_order g rows coins n own k h hall lo lk room =
    let p = by_parts g rows coins n own k h hall lo lk room in
    let u = taken_below g n own k (proposed_below g n own n h) in
    let q = by_parts g rows coins n own k u hall lo lk (roomy g n own k coins hall lo lk h room.ballots room.coin room.slots room.places) in
    (p.0, p.1, turn_is g n own k coins hall lo lk h room.ballots room.coin ∙ sym q.0)
