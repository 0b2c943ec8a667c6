-- What looking brings about at such a replica. Assumes nothing.
use Rattle.std.proofs.Common.{◌≡◌, ℕ, zero, suc, ◌+◌, ◌*◌, ◌<◌, ◌≤◌, Bool, true, false, cond, ◌&&◌, eqb, leb, List, Some, Option, is_some, sym, refl, ap, ◌∙◌, subst, ap₂, inl, arith}
use Rattle.std.proofs.lemmas.Bool.{le-leb, cond_both, cond-false, both_ways, eqb-false, ne_eqb, and_left}
use Rattle.basis.specs.Counts.{count}
use Rattle.basis.specs.Halls.{faults, quorum}
use Rattle.ballots.specs.States.{Opened}
use Rattle.broadcast.specs.Claims.{RowLaws}
use Rattle.broadcast.proofs.Ending.{steps_end}
use Rattle.broadcast.proofs.Moves.{at, many, Grows, moves_none}
use Rattle.broadcast.proofs.Settling.{Settled, stepped, still_settled}
use Rattle.broadcast.proofs.Tables.{some_holds}
use Rattle.messages.specs.declared.message.Phase.{Phase}
use Rattle.messages.specs.declared.message.Phase.TheVariants.{Send, Echo, Ready}
use Rattle.sheets.specs.Holds.{holds}
use Rattle.slots.specs.Steps.{Slots, go_on, settled}
use Rattle.outcomes.specs.Holdings.{Setting, Holding, is_delivered, ballot_at}
use Rattle.outcomes.specs.Taking.{sheets_taken, votes_taken, may_propose, proposed_below, taken_below, slot_taken}
use Rattle.sheet_turns.proofs.Turns.{is_delivered_stays}
use Rattle.evening_witness.proofs.Ballots.{Taken}
use Rattle.evening_witness.proofs.Turning.{ReplicaWell, Later, sheets_later, votes_of, votes_done, votes_here, votes_later, Proposed, proposal_later, rest_later}

-- where all pass
pub all_count : (n : ℕ) (p : ℕ → Bool) → ((j : ℕ) → j < n → p j ≡ true) → count n p ≡ n
unfolding count
all_count zero p h = refl
all_count (suc n) p h = let a = ap₂ (λ (b : Bool) (c : ℕ). cond b 1 0 + c) (h n (omega arith)) (all_count n p (λ j l. h j (omega arith))) in omega arith

module _ {R C : Type 0} (g : Setting R C) (laws : RowLaws g.rows g.size g.lawful) (n : ℕ) (some : 1 ≤ faults n) (thirds : n ≡ 3 * faults n + 1) (x : List ℕ) (own : ℕ) (lo : own < n) where
  abbrev E : Holding R C → Type 0
  E h = ReplicaWell g laws n some x own lo h

  abbrev L : Holding R C → Holding R C → Type 0
  L h h' = Later g laws n some x own lo h h'

  -- the sheet is recorded of a sender
  abbrev pub Recorded : Phase → ℕ → ℕ → Holding R C → Type 0
  Recorded ph k j h = at g.rows n h.slots ph k j ≡ Some x

  pub recorded_stays : (ph : Phase) (k j : ℕ) → k < n → j < n → (h h' : Holding R C) → L h h' → Recorded ph k j h → Recorded ph k j h'
  recorded_stays ph k j lk lj h h' l r = l.moved.moves.grows.sheets ph k j x lk lj r

  abbrev pub Delivered : ℕ → Holding R C → Type 0
  Delivered k h = is_delivered k h ≡ true

  pub delivered_stays : (k : ℕ) → k < n → (h h' : Holding R C) → L h h' → Delivered k h → Delivered k h'
  delivered_stays k lk h h' l d = is_delivered_stays g n own h h' l.moved.moves.grows k lk d

  -- a vote for 1 is recorded of a sender in the opening round
  abbrev pub Voted : ℕ → ℕ → ℕ → Holding R C → Type 0
  Voted t k j h = (ballot_at k h).opening.votes t 2 j ≡ true

  pub voted_stays : (t k j : ℕ) → k < n → (h h' : Holding R C) → L h h' → Voted t k j h → Voted t k j h'
  voted_stays t k j lk h h' l v = (l.grown k lk).round.votes t 2 j v

  abbrev pub Started : ℕ → Holding R C → Type 0
  Started k h = Proposed g laws n some x own lo k h

  pub started_stays : (k : ℕ) → k < n → (h h' : Holding R C) → L h h' → Started k h → Started k h'
  started_stays k lk h h' l p = (l.grown k lk).round.entered p

  abbrev pub Decided : ℕ → Holding R C → Type 0
  Decided k h = 0 < (ballot_at k h).decided

  pub decided_stays : (k : ℕ) → k < n → (h h' : Holding R C) → L h h' → Decided k h → Decided k h'
  decided_stays k lk h h' l d = (l.grown k lk).decided d

  module _ (k : ℕ) (lk : k < n) (u : Holding R C) (e : E u) where
    any : Phase → ℕ → ℕ → List ℕ → Type 0
    any ph l j z = Unit {0}

    v : Holding R C
    v = sheets_taken g n own k u

    first : L u (sheets_taken g n own k u)
    first = sheets_later g laws n some x own lo k lk u e

    rest : L (sheets_taken g n own k u) (slot_taken g n own k u)
    unfolding slot_taken
    rest = rest_later g laws n some x own lo k lk (sheets_taken g n own k u) first.well

    settles : Settled g.rows n own k (sheets_taken g n own k u).slots
    settles =
        let t = u.slots in
        let s = settled g.rows n own k 3 t in
        let after = first.well.sound in
        let none = steps_end g.rows laws n own k t lo lk e.sound.records_fit e.sound.places_fit in
        still_settled g.rows n laws own lo k lk s _ after (stepped g.rows n own k s) (subst (λ (o : Option (Slots R)). Grows g.rows n (go_on g.rows n own k s o) s) (sym none) (moves_none g.rows n {ok = λ ph l j z. Unit {0}} after).grows)

    pub echo_said : Recorded Send k k u → Recorded Echo k own (slot_taken g n own k u)
    echo_said r =
        let a = settles.echoed x (recorded_stays Send k k lk lk _ _ first r) in
        recorded_stays Echo k own lk lo _ _ rest (a.1 ∙ ap Some (first.well.same Echo k own a.0 lk lo refl a.1))

    all_recorded : (ph : Phase) → ((j : ℕ) → j < n → Recorded ph k j u) → quorum n ≤ many g.rows n (sheets_taken g n own k u).slots ph k x
    all_recorded ph all =
        let c = all_count n (λ j. holds x (at g.rows n (sheets_taken g n own k u).slots ph k j)) (λ j lj. some_holds x _ (recorded_stays ph k j lk lj _ _ first (all j lj))) in
        omega arith

    pub ready_said : ((j : ℕ) → j < n → Recorded Echo k j u) → Recorded Ready k own (slot_taken g n own k u)
    ready_said all =
        let a = settles.readied x (inl (all_recorded Echo all)) in
        recorded_stays Ready k own lk lo _ _ rest (a.1 ∙ ap Some (first.well.same Ready k own a.0 lk lo refl a.1))

    pub delivers : ((j : ℕ) → j < n → Recorded Ready k j u) → Delivered k (slot_taken g n own k u)
    delivers all =
        let a = settles.got x (all_recorded Ready all) in
        delivered_stays k lk _ _ rest (ap (λ (o : Option ℕ). is_some o) a.1)

    pub proposes : ((l : ℕ) → l < n → Delivered l u) → Started k (slot_taken g n own k u)
    unfolding slot_taken
    proposes all =
        let w = sheets_taken g n own k u in
        let c = all_count n (λ l. is_delivered l w) (λ l ll. delivered_stays l ll _ _ first (all l ll)) in
        let enough : leb (quorum n) (count n (λ l. is_delivered l w)) ≡ true = le-leb _ _ (omega arith) in
        cond_both (may_propose g n own k w) _ (votes_taken g n own k w) (Started k)
        (λ _. (proposal_later g laws n some x own lo w first.well).1 k lk)
        (λ off. started_stays k lk _ _ (votes_later g laws n some x own lo k lk w first.well) (pos (eqb (ballot_at k w).opening.entered 0) refl _ enough off))
      where
        pos : (b : Bool) → eqb (ballot_at k (sheets_taken g n own k u)).opening.entered 0 ≡ b → (c : Bool) → c ≡ true → (b && c) ≡ false → Started k (sheets_taken g n own k u)
        pos true q c t off = absurd (both_ways c off t)
        pos false q c t off = let ne = eqb-false (ballot_at k (sheets_taken g n own k u)).opening.entered 0 q in omega arith

    -- what the ballot's steps leave of it
    voting : Started k u → ballot_at k (slot_taken g n own k u) ≡ votes_of g laws n some x own lo k (sheets_taken g n own k u)
    unfolding slot_taken
    voting s =
        let w = sheets_taken g n own k u in
        let p = started_stays k lk _ _ first s in
        let off : may_propose g n own k w ≡ false = and_left (eqb (ballot_at k w).opening.entered 0) _ (ne_eqb _ 0 (λ z. omega arith)) in
        ap (ballot_at k) (cond-false (may_propose g n own k w) (taken_below g n own n (proposed_below g n own n w)) (votes_taken g n own k w) off) ∙ votes_here g laws n some x own lo k lk w first.well

    done : Taken g.rule g.coins n own k some (is_delivered k (sheets_taken g n own k u)) (ballot_at k (sheets_taken g n own k u)) (votes_of g laws n some x own lo k (sheets_taken g n own k u))
    done = votes_done g laws n some x own lo k lk (sheets_taken g n own k u) first.well

    enough_votes : (t : ℕ) → ((j : ℕ) → j < n → Voted t k j u) → count n ((ballot_at k (sheets_taken g n own k u)).opening.votes t 2) ≡ n
    enough_votes t all = all_count n _ (λ j lj. voted_stays t k j lk _ _ first (all j lj))

    pub first_said : Delivered k u → Started k u → Voted 32 k own (slot_taken g n own k u)
    first_said d s = subst (λ (o : Opened). o.opening.votes 32 2 own ≡ true) (sym (voting s)) (done.first (delivered_stays k lk _ _ first d) (started_stays k lk _ _ first s))

    pub second_said : Started k u → ((j : ℕ) → j < n → Voted 32 k j u) → Voted 33 k own (slot_taken g n own k u)
    second_said s all = subst (λ (o : Opened). o.opening.votes 33 2 own ≡ true) (sym (voting s)) (done.second (started_stays k lk _ _ first s) (let c = enough_votes 32 all in omega arith))

    pub decides : Started k u → ((j : ℕ) → j < n → Voted 32 k j u) → ((j : ℕ) → j < n → Voted 33 k j u) → Decided k (slot_taken g n own k u)
    decides s all both = subst (λ (o : Opened). 0 < o.decided) (sym (voting s)) (done.decides (started_stays k lk _ _ first s) (let c = enough_votes 32 all in omega arith) (let c = enough_votes 33 both in omega arith))
