-- At rest every round before the first unknown coin is over. Assumes nothing.
use Rattle.std.proofs.Common.{◌≡◌, ℕ, zero, suc, ◌<◌, ◌≤◌, Bool, true, not, ◌&&◌, T, ⊎_elim, arith, lit<}
use Rattle.std.proofs.lemmas.Bool.{cases_lt, and_parts, and_from}
use Rattle.basis.specs.Counts.{count}
use Rattle.basis.specs.Halls.{listed, faults}
use Rattle.basis.proofs.Counts.{count_some}
use Rattle.basis.proofs.Totals.{count_none}
use Rattle.rules.specs.Rounds.{Round}
use Rattle.rules.specs.Laws.{Acts, EndsRounds}
use Rattle.ballot_runs.specs.Runs.{Hall, Honest}
use Rattle.ballot_runs.specs.Rest.{Rest, Known, Over, RoundsEnd}
use Rattle.ballot_runs.proofs.Opens.{Sound}
use Rattle.ballot_runs.proofs.Opened.{sound}
use Rattle.ballot_runs.proofs.OpeningSettled.{still_idle}
use Rattle.ballot_runs.proofs.OpeningRest.{ends_delivered, ends_undelivered}
use Rattle.ballot_runs.proofs.Kept.{Kept, kept}

module _ (a : Acts) (n : ℕ) (honest : ℕ → Bool) (s : Hall) (li : T (listed n)) (few : count n (λ j. not (honest j)) ≤ faults n) (kp : Kept a n honest s) (k : ℕ) (rest : Rest a n honest s k) where
  abbrev Fine : ℕ → Type 0
  Fine i = Honest n honest i

  -- the opening round
  opening_ends : (i : ℕ) → Fine i → 0 < ((s i k).rounds 0).verdict
  opening_ends = ⊎_elim
      (λ some. let o = count_some n (λ l. honest l && (s l k).delivered) some in let p = and_parts _ _ o.2 in
      ends_delivered n honest li few m d hears authentic rest.proposed sounds (λ i gi. still_idle n i (m i) (rest.still i 0 gi (lit< tt) (rest.proposed i gi)))
      (λ j gj. rest.said_again j gj (rest.shared o.0 j (o.1, p.0) gj p.1)))
      (λ none. let nobody = λ (j : ℕ) (gj : Fine j) (t : (s j k).delivered ≡ true). count_none n (λ l. honest l && (s l k).delivered) (omega arith) j gj.0 (and_from _ _ gj.1 t) in
      ends_undelivered n honest li few m d hears authentic rest.proposed sounds (λ i gi. still_idle n i (m i) (rest.still i 0 gi (lit< tt) (rest.proposed i gi)))
      (λ j gj v. let o = kp.delivered j k gj v in nobody o.0 o.1 o.2)
      (λ j gj. ⊎_elim (λ less. let lo = rest.proposed j gj in omega arith) (λ ge. absurd (let b = (sounds j gj).bit in nobody j gj ((sounds j gj).delivered (omega arith)))) (cases_lt (m j).entered 2)))
      (cases_lt 0 (count n (λ l. honest l && (s l k).delivered)))
    where
      m : ℕ → Round
      m j = (s j k).rounds 0

      d : ℕ → Bool
      d j = (s j k).delivered

      hears : (i j t v : ℕ) → Fine i → Fine j → (m j).votes t v j ≡ true → (m i).votes t v j ≡ true
      hears i j t v gi gj = rest.heard i j 0 t v gi gj (lit< tt)

      authentic : (i j t v : ℕ) → Fine i → Fine j → (m i).votes t v j ≡ true → (m j).votes t v j ≡ true
      authentic i j t v gi gj = kp.authentic i j k 0 t v gi gj

      sounds : (i : ℕ) → Fine i → Sound n i (d i) (m i)
      sounds i gi = sound n i ((kp.grounded i k gi).reached 0)

  module _ (ends : EndsRounds a) (u : ℕ) (top : u ≤ 16) (known : Known a n honest s k u) where
    -- a later round that all have entered
    later_ends : (r : ℕ) → suc r < 16 → ((i : ℕ) → Fine i → 0 < ((s i k).rounds (suc r)).entered) → (i : ℕ) → Fine i → 0 < ((s i k).rounds (suc r)).verdict
    later_ends r lt all i gi = ends n honest (λ j. (s j k).rounds (suc r)) li few
        (record {
          reached = λ j low hj. (kp.grounded j k (low, hj)).reached (suc r);
          entered = λ j low hj. all j (low, hj);
          heard = λ j l t v lj ll hj hl. rest.heard j l (suc r) t v (lj, hj) (ll, hl) lt;
          authentic = λ j l t v lj ll hj hl. kp.authentic j l k (suc r) t v (lj, hj) (ll, hl);
          still = λ j low hj. rest.still j (suc r) (low, hj) lt (all j (low, hj));
        })
        i gi.0 gi.1

    -- each of these rounds is entered and has its verdict
    ended : (r : ℕ) → r < u → (i : ℕ) → Fine i → (0 < ((s i k).rounds r).entered) × (0 < ((s i k).rounds r).verdict)
    ended zero lt i gi = (rest.proposed i gi, opening_ends i gi)
    ended (suc r) lt i gi =
        let next : (j : ℕ) → Fine j → 0 < ((s j k).rounds (suc r)).entered = λ j gj. let e = ended r (omega arith) j gj in rest.gone_on j r gj (omega arith) e.0 e.1 (known j r gj (omega arith)) in
        (next i gi, later_ends r (omega arith) next i gi)

    pub over : (i r : ℕ) → Fine i → r < u → Over (s i k) r
    over i r gi lt = let e = ended r lt i gi in (e.1, λ small. rest.gone_on i r gi small e.0 e.1 (known i r gi lt))

pub rounds_end : RoundsEnd
rounds_end a keeps ends n honest s li few x k u rest top known i r gi lt = over a n honest s li few (kept a n honest few (λ j gj. keeps n j li gj.0) x) k rest ends u top known i r gi lt
