-- What recording a message leaves, over the lent tables. Assumes nothing.
use Rattle.std.proofs.Common.{◌≡◌, ℕ, zero, suc, Bool, true, false, cond, not, ◌&&◌, List, map, Ok, Err, slice_index_or, slice_set, refl, ap, ◌∙◌, ap₂}
use Rattle.std.proofs.lemmas.List.{set-get_or}
use Rattle.basis.specs.declared.heard.Heard.TheVariants.{New, Known}
use Rattle.ballots.specs.Ballots.{with_opening}
use Rattle.ballots.specs.States.{Opened, place}
use Rattle.broadcast.specs.Calls.{if_new}
use Rattle.outcomes.specs.declared.opening_record.OpeningRecord.{OpeningRecord}
use Rattle.outcomes.specs.Hearing.{at_value, vote_answer, vote_noted}
use Rattle.outcomes.specs.Holdings.{Life, Setting, Holding, ballot_at, with_ballot, with_rounds}
use Rattle.outcomes.specs.Tables.{slots_in, ballots_in, holding}
use Rattle.phases.specs.Steps.{hears, records}
use Rattle.rules.proofs.News.{tested_twice}
use Rattle.rules.specs.Rounds.{Round, Vote, cleared, recorded, contradicts, is_new, hear_answer}
use Rattle.slots.specs.declared.slot.Slot.{Slot}
use Rattle.hearing.specs.Votes.{ballots_heard, rounds_heard}

-- a vote that is new is the one whose answer says so
by_news : {H : Type 0} (w : Vote) (m m' : Round) (f : Round → H) (h : H) → f m ≡ h → f (cond (is_new w m) m' m) ≡ if_new (at_value (hear_answer w m)) (f m') h
by_news {H = H} w m m' f h e = go (recorded w m) (contradicts w m)
  where
    go : (a b : Bool) → f (cond (not a && not b) m' m) ≡ if_new (at_value (cond a (Ok Known) (cond b (Err 13) (Ok New)))) (f m') h
    go true b = e
    go false true = e
    go false false = refl

module _ {R C Row : Type 0} (f : Row → Round) (g : Setting R C) (n own j : ℕ) (l : Life) (k : ℕ) (w : Vote) (rs rs' : List OpeningRecord) (ms ms' : List Row) (ps : List R) (c : C) where
  abbrev before : Holding R C
  before = holding f l rs ms ps c

  pub vote_left : (r : ℕ) → slots_in rs' ≡ slots_in rs → ballots_in rs' ≡ ballots_heard k r w (ballots_in rs) → map f ms' ≡ rounds_heard g.rule n own k r w (map f ms)
      → holding f l rs' ms' ps c ≡ if_new (vote_answer g n own j k r w before) (vote_noted g n own j k r w before) before
  vote_left r es eb em = parts ∙ go r
    where
      after : ℕ → Holding R C
      after r = record { life = l; slots = record { records = slots_in rs; places = ps }; ballots = ballots_heard k r w (ballots_in rs); rounds = rounds_heard g.rule n own k r w (map f ms); coin = c }

      parts : holding f l rs' ms' ps c ≡ after r
      parts = ap₂ (λ (t : List Slot) (os : List Opened). record { life = l; slots = record { records = t; places = ps }; ballots = os; rounds = map f ms'; coin = c }) es eb
          ∙ ap (λ (t : List Round). record { life = l; slots = record { records = slots_in rs; places = ps }; ballots = ballots_heard k r w (ballots_in rs); rounds = t; coin = c }) em

      go : (r : ℕ) → after r ≡ if_new (vote_answer g n own j k r w before) (vote_noted g n own j k r w before) before
      go zero =
          let o : Opened = ballot_at k before in
          let m : Round = o.opening in
          ap (λ (x : Round). with_ballot k (with_opening x o) before) (tested_twice (is_new w m) (records w.tag w.set w.sender m) m)
          ∙ by_news w m (hears w m) (λ (x : Round). with_ballot k (with_opening x o) before) before
          (ap (λ (os : List Opened). record { life = l; slots = record { records = slots_in rs; places = ps }; ballots = os; rounds = map f ms; coin = c }) (set-get_or (ballots_in rs) k _))
      go (suc r) =
          let m : Round = slice_index_or (map f ms) (place k r) cleared in
          by_news w m (g.rule.hear n own w m) (λ (x : Round). with_rounds (slice_set (map f ms) (place k r) x) before) before
          (ap (λ (t : List Round). with_rounds t before) (set-get_or (map f ms) (place k r) cleared))
