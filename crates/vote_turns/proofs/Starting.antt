-- The ballots of a replica as open leaves it. Assumes nothing.
use Rattle.std.proofs.Common.{◌≡◌, ℕ, zero, suc, ◌*◌, ◌<◌, length, nat_lt, nat_le, is_some, refl, sym, ap, subst, ⊎_elim, arith}
use Rattle.std.proofs.lemmas.Bool.{cond-false, cond_both, cases_lt, le-ltb, ltb-true, leb-true, and_parts}
use Rattle.rules.specs.Rounds.{Round, cleared}
use Rattle.rules.specs.Laws.{Acts, Reached, clear}
use Rattle.ballots.specs.States.{Opened as OpenedBallot, place, round_at}
use Rattle.outcomes.specs.Holdings.{Setting, Holding, is_delivered, state_of}
use Rattle.outcomes.specs.Opening.{Opened}
use Rattle.ballot_runs.specs.Views.{View, Fresh}
use Rattle.ballot_runs.proofs.Opens.{Opened as OpenedRound, unopened}
use Rattle.ballot_runs.proofs.Rounds.{ReachedAt}
use Rattle.ballot_runs.proofs.Moves.{Grounded}
use Rattle.vote_turns.proofs.Known.{view_at, round_in, no_ballot, view_of, Well, VotesWell, view_in}

pub fresh_grounded : (a : Acts) (n own : ℕ) (v : View) → Fresh v → Grounded a n own v
fresh_grounded a n own v f = record {
  reached = reach;
  onward = λ r lo. absurd (let z = ap (λ (m : Round). m.entered) (f.rounds (suc r)) in omega arith);
  cause = λ lo. absurd (let z = f.decided in omega arith);
}
  where
    reach : (r : ℕ) → ReachedAt a n own v.delivered r (v.rounds r)
    reach zero = subst (OpenedRound n own v.delivered) (sym (f.rounds 0)) unopened
    reach (suc r) = subst (Reached a n own) (sym (f.rounds (suc r))) clear

pub fresh_well : (a : Acts) (n own : ℕ) (v : View) → Fresh v → Well a n own v 0
fresh_well a n own v f = record {
  grounded = fresh_grounded a n own v f;
  low = omega arith;
  entered = λ r lt le. absurd (omega arith);
  unentered = λ r lt le. ap (λ (m : Round). m.entered) (f.rounds (suc r));
  verdicts = λ r lt le. absurd (omega arith);
}

module _ {R C : Type 0} (g : Setting R C) (n own : ℕ) (h : Holding R C) (o : Opened g n own h) where
  pub opened_fresh : (k : ℕ) → Fresh (view_of g n h k)
  opened_fresh k = ⊎_elim
      (λ lt. subst Fresh (sym (view_in g n h k lt)) (record { rounds = rounds lt; decided = ap (λ (b : OpenedBallot). b.decided) (o.tables.unopened_ballots k lt); delivered = ap is_some (o.tables.undelivered k lt) }))
      (λ ge. subst Fresh (sym (cond-false (nat_lt k n) (view_at g.coins k (is_delivered k h) (state_of k h)) no_ballot (le-ltb k n ge))) (record { rounds = λ r. refl; decided = refl; delivered = refl }))
      (cases_lt k n)
    where
      plain : k < n → (r : ℕ) → r < 16 → round_at k r (state_of k h) ≡ cleared
      plain lt zero sm = ap (λ (b : OpenedBallot). b.opening) (o.tables.unopened_ballots k lt)
      plain lt (suc r) sm = o.tables.cleared_rounds (place k r) (omega arith)

      rounds : k < n → (r : ℕ) → round_in k (state_of k h) r ≡ cleared
      rounds lt r = cond_both (nat_lt r 16) (round_at k r (state_of k h)) cleared (λ (m : Round). m ≡ cleared) (λ t. plain lt r (ltb-true r 16 t)) (λ _. refl)

  pub opened_well : VotesWell g n own h
  opened_well =
      let p = and_parts (nat_le n (length h.slots.records)) _ o.tables.sizes in
      let q = and_parts (nat_le (15 * n) (length h.rounds)) _ p.1 in
      record {
        rounds_room = leb-true (15 * n) (length h.rounds) q.0;
        ballots_room = (let e = o.tables.ballots in let l = leb-true n (length h.slots.records) p.0 in omega arith);
        coin = o.new_coin.sound;
        well = λ k lk. subst (Well g.rule n own (view_of g n h k)) (sym (ap (λ (b : OpenedBallot). b.stage) (o.tables.unopened_ballots k lk))) (fresh_well g.rule n own (view_of g n h k) (opened_fresh k));
        alike = λ k l lk ll z. ap (λ (b : OpenedBallot). b.opening.entered) (o.tables.unopened_ballots l ll);
      }
