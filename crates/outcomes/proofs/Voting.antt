-- Once a slot's sheets have taken their steps and Propose does not apply, its listed steps are those of its ballot. Assumes nothing.
use Rattle.std.proofs.Common.{◌≡◌, ℕ, zero, suc, ◌<◌, Bool, false, ◌&&◌, eqb, leb, List, ◌∷◌, length, None, refl, sym, ap, ◌∙◌}
use Rattle.std.proofs.lemmas.Bool.{cond-false}
use Rattle.basis.specs.Counts.{count}
use Rattle.basis.specs.Halls.{quorum}
use Rattle.basis.specs.Steps.{Step, stepped, settled, Idle}
use Rattle.ballots.specs.Listed.{Taking, in_opening, openers, repropose, later_steps, listed_steps, all_taken}
use Rattle.ballots.proofs.Order.{listed_order}
use Rattle.openings.specs.Openings.{opening_steps}
use Rattle.slots.specs.Steps.{next}
use Rattle.outcomes.specs.Holdings.{Setting, Holding, is_delivered, ballot_at, state_of}
use Rattle.outcomes.specs.Taking.{may_propose}
use Rattle.outcomes.specs.SlotSteps.{Turn, in_ballot, in_ballots, propose}
use Rattle.outcomes.proofs.Keeping.{Proposes, proposal_kept, kept_stepped, kept_settled}
use Rattle.outcomes.proofs.Turning.{Comes, settled_on, sheets_first, sheets_idle, sheets_skipped, put, read_put, put_same, one_turn, turns, one_idle, idles}

module _ {R C : Type 0} (g : Setting R C) (n own k : ℕ) where
  abbrev later : List (Step (Taking C))
  later = openers (opening_steps n own) (later_steps g.rule g.coins n own k)

  abbrev balloted : List (Step (Turn R C))
  balloted = in_ballot k (λ d. in_opening (repropose own d)) ∷ in_ballots k later

  -- the steps after those of the sheets
  abbrev pub after_sheets : List (Step (Turn R C))
  after_sheets = propose g n own k ∷ balloted

  module _ (h : Holding R C) (room : k < length h.ballots) where
    abbrev d : Bool
    d = is_delivered k h

    abbrev listed : List (Step (Taking C))
    listed = listed_steps g.rule g.coins n own k d

    abbrev at : Taking C → Turn R C
    at t = put g n own k h room t

    abbrev pub start : Taking C
    start = record { state = state_of k h; called = 0; passed = 0 }

    ballot_turn : (t : Taking C) → stepped balloted (at t) ≡ at (stepped listed t)
    unfolding listed_steps
    ballot_turn t = one_turn g n own k h room (λ b. in_opening (repropose own b)) (in_ballots k later) later t (turns g n own k h room later t)

    ballot_idle : (t : Taking C) → Idle listed t → Idle balloted (at t)
    unfolding listed_steps
    ballot_idle t i = (one_idle g n own k h room (λ b. in_opening (repropose own b)) t i.0, idles g n own k h room later t i.1)

    module _ (none : next g.rows n own k h.slots ≡ None) where
      -- a turn that is no proposal
      turn_by : (t : Taking C) → may_propose g n own k (at t).holding ≡ false → stepped (sheets_first g n own k after_sheets) (at t) ≡ at (stepped listed t)
      turn_by t off = sheets_skipped g n own k after_sheets (at t) none ∙ cond-false ((propose g n own k).applies (at t)) ((propose g n own k).leaves (at t)) (stepped balloted (at t)) off ∙ ballot_turn t

      pub idle_by : (t : Taking C) → may_propose g n own k (at t).holding ≡ false → Idle listed t → Idle (sheets_first g n own k after_sheets) (at t)
      idle_by t off i = sheets_idle g n own k after_sheets (at t) none (off, ballot_idle t i)

      module _ (off : may_propose g n own k h ≡ false) where
        abbrev Same : Taking C → Type 0
        Same t = Proposes g.rule g.coins n own k (ballot_at k h).opening.entered t

        -- Propose does not begin to apply
        still_off : (t : Taking C) → Same t → may_propose g n own k (at t).holding ≡ false
        still_off t p =
            ap (λ (z : Taking C). eqb z.state.ballot.opening.entered 0 && leb (quorum n) (count n (λ l. is_delivered l h))) (read_put g n own k h room t)
            ∙ ap (λ (m : ℕ). eqb m 0 && leb (quorum n) (count n (λ l. is_delivered l h))) p ∙ off

        all_turns : (fuel : ℕ) (t : Taking C) → Same t → settled (sheets_first g n own k after_sheets) fuel (at t) ≡ at (settled listed fuel t)
        unfolding settled
        all_turns zero t p = refl
        all_turns (suc fuel) t p =
            ap (λ (x : Turn R C). settled (sheets_first g n own k after_sheets) fuel x) (turn_by t (still_off t p))
            ∙ all_turns fuel (stepped listed t) (kept_stepped Same listed t (proposal_kept g.rule g.coins n own k (ballot_at k h).opening.entered d) p)

        -- what the ballot's steps come to is what the slot comes to, and then none applies
        pub votes_come : Comes (sheets_first g n own k after_sheets) 52 (record { holding = h; called = 0; passed = 0 }) (at (all_taken g.rule g.coins n own k d (state_of k h)))
        unfolding all_taken
        votes_come fuel le =
            ap (λ (x : Turn R C). settled (sheets_first g n own k after_sheets) fuel x) (sym (put_same g n own k h room 0 0))
            ∙ all_turns fuel start refl
            ∙ ap at (settled_on listed 52 fuel start le (listed_order g.rule g.coins n own k d (state_of k h)).1)

        pub votes_idle : Idle (sheets_first g n own k after_sheets) (at (all_taken g.rule g.coins n own k d (state_of k h)))
        unfolding all_taken
        votes_idle =
            let t = settled listed 52 start in
            idle_by t (still_off t (kept_settled Same listed 52 start (proposal_kept g.rule g.coins n own k (ballot_at k h).opening.entered d) refl)) (listed_order g.rule g.coins n own k d (state_of k h)).1
