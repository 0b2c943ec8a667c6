-- What each call of a replica does to its ballots and its coin. Assumes nothing.
use Rattle.std.proofs.Common.{ℕ, ◌<◌, ◌≤◌, ◌≢◌, List, Ok, Err, Result, arith}
use Rattle.std.proofs.lemmas.Bool.{cond_both}
use Rattle.basis.specs.Halls.{largest}
use Rattle.basis.specs.Refusals.{Refused}
use Rattle.coins.specs.Coins.{Keeps as CoinKeeps}
use Rattle.messages.specs.declared.message.Message.{Message}
use Rattle.messages.specs.declared.message.Message.TheVariants.{Sheet, Bit, Set, Share}
use Rattle.messages.specs.declared.message.Phase.TheVariants.{Send}
use Rattle.messages.specs.Reading.{Lawful, placed}
use Rattle.messages.specs.Writing.{slot_of}
use Rattle.rules.specs.Rounds.{Vote}
use Rattle.rules.specs.Laws.{Laws}
use Rattle.slots.specs.Steps.{noted}
use Rattle.outcomes.specs.Holdings.{Life, Running, Closed, Setting, Holding, syntax_of, sizes_ok, with_life, with_slots}
use Rattle.outcomes.specs.Taking.{slot_taken, looked}
use Rattle.outcomes.specs.Opening.{offer_after}
use Rattle.outcomes.specs.Hearing.{message_noted}
use Rattle.outcomes.specs.Closing.{closing_view, close_answer}
use Rattle.outcomes.specs.Calls.{look_after, close_after, if_accepted}
use Rattle.vote_turns.proofs.Known.{VotesWell, coin_none}
use Rattle.vote_turns.proofs.Moved.{Moved, moved_none, moved_then}
use Rattle.vote_turns.proofs.Delivering.{flags_moved}
use Rattle.vote_turns.proofs.Heard.{Allows, message_moved}
use Rattle.vote_turns.proofs.Taking.{slot_moved, looked_moved}
use Rattle.ballot_runs.proofs.Several.{no_turn}

-- a lawful message is of a slot of the hall
pub lawful_slot : {R C : Type 0} (g : Setting R C) (n : ℕ) (m : Message (List ℕ)) → Lawful (syntax_of g n) m → slot_of m < n
lawful_slot g n (Sheet ph k s) l = l.0
lawful_slot g n (Bit vote k r b) l = l.0
lawful_slot g n (Set tag k r v) l = l.0
lawful_slot g n (Share k r x) l = l.0

module _ {R C : Type 0} (g : Setting R C) (n own : ℕ) (ok : ℕ → ℕ → Vote → Type 0) (okc : ℕ → ℕ → ℕ → ℕ → Type 0) (laws : Laws g.rule n own) (keeps : CoinKeeps g.coins) (most : n ≤ largest) (own_low : own < n) where
  abbrev Moves : Holding R C → Holding R C → Type 0
  Moves h h' = Moved g n own ok okc h h'

  -- the state of a replica is nothing to its ballots
  pub life_moved : (l : Life) (h : Holding R C) → VotesWell g n own h → Moves h (with_life l h)
  life_moved l h w = record {
    turns = no_turn;
    well = record { rounds_room = w.rounds_room; ballots_room = w.ballots_room; coin = w.coin; well = w.well; alike = w.alike };
    later = λ k lk. omega arith;
    coin = coin_none g.coins own okc h.coin w.coin;
  }

  pub look_moved : (h : Holding R C) → VotesWell g n own h → Moves h (look_after g n own h)
  look_moved h w = cond_both (sizes_ok n h) (looked g n own n h) h (Moves h) (λ _. looked_moved g n own ok okc laws keeps most own_low n (omega arith) h w) (λ _. moved_none g n own ok okc h w)

  pub close_moved : (h : Holding R C) → VotesWell g n own h → Moves h (close_after g n own h)
  close_moved h w = go (close_answer g.rows n (closing_view h))
    where
      go : (r : Result (Unit {0}) Refused) → Moves h (if_accepted r (with_life Closed h) h)
      go (Ok x) = life_moved Closed h w
      go (Err e) = moved_none g n own ok okc h w

  pub offer_moved : (s : List ℕ) (h : Holding R C) → VotesWell g n own h → Moves h (offer_after g n own s h)
  offer_moved s h w =
      let t = noted g.rows n own own Send own h.slots s in
      let h1 = with_life Running h in
      let x = life_moved Running h w in
      let h2 = with_slots t h1 in
      let y = flags_moved g n own ok okc laws h1 t x.well (λ l e. e) in
      cond_both (sizes_ok n h) (slot_taken g n own own h2) h (Moves h)
      (λ _. moved_then g n own ok okc h h2 (slot_taken g n own own h2) (moved_then g n own ok okc h h1 h2 x y) (slot_moved g n own ok okc laws keeps most own_low own own_low h2 y.well))
      (λ _. moved_none g n own ok okc h w)

  -- a message that is taken in: it is recorded, and the steps of its slot are taken
  pub heard_moved : (j : ℕ) → j < n → (j ≢ own) → (m : Message (List ℕ)) → Lawful (syntax_of g n) m → Allows g n own ok okc j m → (h : Holding R C) → VotesWell g n own h →
      Moves h (slot_taken g n own (slot_of m) (message_noted g n own j (placed m) h))
  heard_moved j lj ne m l q h w =
      let h1 = message_noted g n own j (placed m) h in
      let x = message_moved g n own ok okc j laws keeps most own_low lj ne h w m l q in
      moved_then g n own ok okc h h1 (slot_taken g n own (slot_of m) h1) x (slot_moved g n own ok okc laws keeps most own_low (slot_of m) (lawful_slot g n m l) h1 x.well)
