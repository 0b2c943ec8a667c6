-- What a replica's ballots have stays over several turns. Assumes nothing.
use Rattle.std.proofs.Common.{ℕ, ◌≤◌, Bool, not, refl, ◌∙◌, arith}
use Rattle.basis.specs.Counts.{count}
use Rattle.basis.specs.Halls.{faults}
use Rattle.rules.specs.Rounds.{Round, Vote}
use Rattle.rules.specs.Laws.{Acts, Laws}
use Rattle.ballot_runs.specs.Views.{View}
use Rattle.ballot_runs.specs.Runs.{Ballots, Hall, Honest, Quoted, Run}
use Rattle.ballot_runs.specs.Claims.{RoundStays, Stays}
use Rattle.ballot_runs.proofs.Moves.{Grounded}
use Rattle.ballot_runs.proofs.Kept.{kept, turn_moves}
use Rattle.ballot_runs.proofs.Several.{Turns, no_turn, then_turn}

round_stays_then : (m m' m'' : Round) → RoundStays m m' → RoundStays m' m'' → RoundStays m m''
round_stays_then m m' m'' p q = record {
  entered = λ lo. let e = p.entered lo in q.entered (omega arith) ∙ e;
  votes = λ t v j h. q.votes t v j (p.votes t v j h);
  verdict = λ lo. let e = p.verdict lo in q.verdict (omega arith) ∙ e;
}

pub stays_same : (v : View) → Stays v v
stays_same v = record {
  rounds = λ r. record { entered = λ _. refl; votes = λ t x j h. h; verdict = λ _. refl };
  shown = λ r _. refl;
  decided = λ _. refl;
  delivered = λ h. h;
}

pub stays_then : (v v' v'' : View) → Stays v v' → Stays v' v'' → Stays v v''
stays_then v v' v'' p q = record {
  rounds = λ r. round_stays_then (v.rounds r) (v'.rounds r) (v''.rounds r) (p.rounds r) (q.rounds r);
  shown = λ r lo. let e = p.shown r lo in q.shown r (omega arith) ∙ e;
  decided = λ lo. let e = p.decided lo in q.decided (omega arith) ∙ e;
  delivered = λ h. q.delivered (p.delivered h);
}

module _ (a : Acts) (n : ℕ) (honest : ℕ → Bool) where
  all_stays : (ok : ℕ → ℕ → Vote → Type 0) (i : ℕ) → Laws a n i → (b b' : Ballots) → ((k : ℕ) → Grounded a n i (b k)) → Turns a n i ok b b' → (k : ℕ) → Stays (b k) (b' k)
  all_stays ok i laws b c g no_turn k = stays_same (b k)
  all_stays ok i laws b c g (then_turn {b'} t rest) k =
      let moves = turn_moves a n honest ok i b b' laws g t in
      stays_then (b k) (b' k) (c k) (moves k).stays (all_stays ok i laws b' c (λ l. (moves l).grounded) rest k)

  pub turns_stay : count n (λ j. not (honest j)) ≤ faults n → ((i : ℕ) → Honest n honest i → Laws a n i) → (s : Hall) → Run a n honest s → (i : ℕ) (b : Ballots) → Honest n honest i → Turns a n i (Quoted honest s) (s i) b → (k : ℕ) → Stays (s i k) (b k)
  turns_stay few laws s x i b gi turns = all_stays (Quoted honest s) i (laws i gi) (s i) b (λ k. (kept a n honest few laws x).grounded i k gi) turns
