-- The claims about ballots hold in every run. Assumes nothing.
use Rattle.std.proofs.Common.{ℕ, suc, ⊎_elim, arith}
use Rattle.std.proofs.lemmas.Bool.{cases_lt}
use Rattle.rules.specs.Laws.{Laws}
use Rattle.ballot_runs.specs.Runs.{Honest, Quoted}
use Rattle.ballot_runs.specs.Claims.{BallotsHold}
use Rattle.ballot_runs.proofs.Kept.{Kept, kept, turn_moves}
use Rattle.ballot_runs.proofs.Agree.{facts_in, not_accused, agree}
use Rattle.ballot_runs.proofs.Proposing.{ones, together}
use Rattle.ballot_runs.proofs.Enough.{enough, one_delivered}

pub ballots_hold : BallotsHold
ballots_hold a keeps n honest s li few x = record {
  agreement = λ i j k gi gj coins. agree a n honest s li few laws kp k coins i j gi gj;
  enough_ones = λ i gi all. enough a n honest s li few laws kp (λ j gj. ones a n honest few laws x j gj) i gi all;
  ones_delivered = λ i k gi d. one_delivered a n honest s li few laws kp k i gi d;
  decided_one_bit = λ i k gi. ⊎_elim (λ lo. ((kp.grounded i k gi).cause lo).0) (λ none. omega arith) (cases_lt 0 (s i k).decided);
  authentic = kp.authentic;
  one_vote_a_tag = λ i k r t v w gi lt. (facts_in a n honest s li few laws kp k i r gi).single t v w lt;
  unaccused = λ i k r e w gi gw. not_accused a n honest s li few laws kp k i r e w gi gw;
  reached = λ i k r gi. (kp.grounded i k gi).reached (suc r);
  proposed_in_all = λ i k l gi. together a n honest x i gi k l;
  lasting = λ i k b gi turn. (turn_moves a n honest (Quoted honest s) i (s i) b (laws i gi) (λ l. kp.grounded i l gi) turn k).stays;
}
  where
    laws : (i : ℕ) → Honest n honest i → Laws a n i
    laws i gi = keeps n i li gi.0

    kp : Kept a n honest s
    kp = kept a n honest few laws x
