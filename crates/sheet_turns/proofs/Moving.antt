-- What taking steps does to a replica's sheets, and what is left once looking changes nothing. Assumes nothing.
use Rattle.std.proofs.Common.{◌≡◌, ℕ, zero, suc, ◌<◌, ◌≤◌, List, sym, refl, ◌∙◌, subst, ⊎_elim, le_refl, arith, length-set}
use Rattle.std.proofs.lemmas.Bool.{cases_eq, cond_both}
use Rattle.broadcast.specs.Claims.{RowLaws}
use Rattle.broadcast.proofs.Moves.{Sound, Grows, grows_on, Moves, moves_none, moves_on}
use Rattle.broadcast.proofs.Settling.{Settled, stepped, settled_there, step_moves, settled_moves, still_settled}
use Rattle.messages.specs.declared.message.Phase.{Phase}
use Rattle.slots.specs.Steps.{next, go_on, settled}
use Rattle.outcomes.specs.Holdings.{Setting, Holding, is_delivered, state_of}
use Rattle.outcomes.specs.Taking.{sheets_taken, votes_taken, may_propose, proposed_below, taken_below, votes_or_proposal, slot_taken, looked}
use Rattle.sheet_turns.proofs.Lengths.{SameLengths, lengths_none, lengths_on, settled_tables, ballot_length}

module _ {R C : Type 0} (g : Setting R C) (n own : ℕ) (ok : Phase → ℕ → ℕ → List ℕ → Type 0) where
  -- the state and the lengths stay, and the sheets move
  pub record Moved (h h' : Holding R C) : Type 0 where
    pub life : h'.life ≡ h.life
    pub lengths : SameLengths h h'
    pub moves : Moves g.rows n own ok h.slots h'.slots

  pub moved_none : {h : Holding R C} → Sound g.rows n own h.slots → Moved h h
  moved_none s = record { life = refl; lengths = lengths_none; moves = moves_none g.rows n s }

  pub moved_on : {h u v : Holding R C} → Moved h u → Moved u v → Moved h v
  moved_on a b = record { life = b.life ∙ a.life; lengths = lengths_on a.lengths b.lengths; moves = moves_on g.rows n a.moves b.moves }

  -- the steps of a ballot leave the sheets alone
  pub votes_moved : (k : ℕ) (h : Holding R C) → Sound g.rows n own h.slots → Moved h (votes_taken g n own k h)
  votes_moved k h s = record {
    life = refl;
    lengths = record { records = refl; places = refl; ballots = length-set h.ballots k _; rounds = ballot_length g.rule g.coins n own k (is_delivered k h) (state_of k h) };
    moves = moves_none g.rows n s;
  }

  pub proposed_moved : (m : ℕ) (h : Holding R C) → Sound g.rows n own h.slots → Moved h (proposed_below g n own m h)
  unfolding proposed_below
  proposed_moved zero h s = moved_none s
  proposed_moved (suc m) h s =
      let a = proposed_moved m h s in
      moved_on a (record {
        life = refl;
        lengths = record { records = refl; places = refl; ballots = length-set (proposed_below g n own m h).ballots m _; rounds = refl };
        moves = moves_none g.rows n a.moves.sound;
      })

  module _ (laws : RowLaws g.rows g.size g.lawful) (lo : own < n) where
    pub sheets_moved : (k : ℕ) → k < n → (h : Holding R C) → Sound g.rows n own h.slots → Moved h (sheets_taken g n own k h)
    sheets_moved k lk h s =
        let t = settled_tables g.rows n own k 3 h.slots in
        record {
          life = refl;
          lengths = record { records = t.records; places = t.places; ballots = refl; rounds = refl };
          moves = settled_moves g.rows n laws own lo {ok = ok} k lk 3 h.slots s;
        }

    pub below_moved : (m : ℕ) → m ≤ n → (h : Holding R C) → Sound g.rows n own h.slots → Moved h (taken_below g n own m h)
    unfolding taken_below
    below_moved zero top h s = moved_none s
    below_moved (suc m) top h s =
        let a = below_moved m (omega arith) h s in
        let b = sheets_moved m (omega arith) (taken_below g n own m h) a.moves.sound in
        moved_on a (moved_on b (votes_moved m _ b.moves.sound))

    -- after the steps of a slot's sheets
    pub rest_moved : (k : ℕ) (h : Holding R C) → Sound g.rows n own h.slots → Moved h (votes_or_proposal g n own k h)
    rest_moved k h s = cond_both (may_propose g n own k h) _ (votes_taken g n own k h) (λ (z : Holding R C). Moved h z)
        (λ _. let a = proposed_moved n h s in moved_on a (below_moved n (le_refl _) _ a.moves.sound)) (λ _. votes_moved k h s)

    pub slot_moved : (k : ℕ) → k < n → (h : Holding R C) → Sound g.rows n own h.slots → Moved h (slot_taken g n own k h)
    unfolding slot_taken
    slot_moved k lk h s = let a = sheets_moved k lk h s in moved_on a (rest_moved k _ a.moves.sound)

    pub looked_moved : (m : ℕ) → m ≤ n → (h : Holding R C) → Sound g.rows n own h.slots → Moved h (looked g n own m h)
    unfolding looked
    looked_moved zero top h s = moved_none s
    looked_moved (suc m) top h s = let a = looked_moved m (omega arith) h s in moved_on a (slot_moved m (omega arith) _ a.moves.sound)

module _ {R C : Type 0} (g : Setting R C) (laws : RowLaws g.rows g.size g.lawful) (n own : ℕ) (lo : own < n) where
  -- what may be taken in does not matter for what grows
  abbrev any : Phase → ℕ → ℕ → List ℕ → Type 0
  any ph k j x = Unit {0}

  abbrev Grown : Holding R C → Holding R C → Type 0
  Grown h h' = Grows g.rows n h.slots h'.slots

  looked_grown : (k m : ℕ) → k ≤ m → m ≤ n → (h : Holding R C) → Sound g.rows n own h.slots → Grown (looked g n own k h) (looked g n own m h)
  unfolding looked
  looked_grown k zero le top h s = subst (λ (z : ℕ). Grown (looked g n own z h) h) (sym (let z : k ≡ 0 = omega arith in z)) (moves_none g.rows n {ok = any} s).grows
  looked_grown k (suc m) le top h s = ⊎_elim
      (λ e. subst (λ (z : ℕ). Grown (looked g n own z h) (looked g n own (suc m) h)) (sym e) (moves_none g.rows n {ok = any} (looked_moved g n own any laws lo (suc m) top h s).moves.sound).grows)
      (λ ne. grows_on g.rows n (looked_grown k m (omega arith) (omega arith) h s) (slot_moved g n own any laws lo m (omega arith) _ (looked_moved g n own any laws lo m (omega arith) h s).moves.sound).moves.grows)
      (cases_eq k (suc m))

  -- where looking changes nothing every slot is settled
  pub looked_still : (h : Holding R C) → Sound g.rows n own h.slots → looked g n own n h ≡ h → (k : ℕ) → k < n → Settled g.rows n own k h.slots
  unfolding settled looked slot_taken
  looked_still h sound still k lk =
      let a = looked_moved g n own any laws lo k (omega arith) h sound in
      let u = (looked g n own k h).slots in
      let st = stepped g.rows n own k u in
      let v = go_on g.rows n own k u (next g.rows n own k u) in
      let b = step_moves g.rows n laws own lo {ok = any} k lk u v a.moves.sound st in
      let c = settled_moves g.rows n laws own lo {ok = any} k lk 2 v b.sound in
      let d = rest_moved g n own any laws lo k (sheets_taken g n own k (looked g n own k h)) c.sound in
      let back : Grown (looked g n own (suc k) h) h = subst (λ (z : Holding R C). Grown (looked g n own (suc k) h) z) still (looked_grown (suc k) n lk (omega arith) h sound) in
      let down : Grows g.rows n v h.slots = grows_on g.rows n c.grows (grows_on g.rows n d.moves.grows back) in
      settled_there g.rows n own k h.slots u lo lk a.moves.grows (grows_on g.rows n b.grows down) (still_settled g.rows n laws own lo k lk u v a.moves.sound st (grows_on g.rows n down a.moves.grows))
