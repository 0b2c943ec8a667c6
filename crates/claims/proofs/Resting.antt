-- Nobody waits: at rest rounds are over up to the first unknown coin, and who has decided all can close. Assumes nothing.
use Rattle.std.proofs.Common.{◌≡◌, ℕ, zero, suc, ◌<◌, ◌≤◌, Bool, true, not, T, ◌⊎◌, List, is_some, Some, None, Ok, Option, sym, refl, ap, ◌∙◌, subst, inr, ⊎_elim, arith}
use Rattle.std.proofs.lemmas.Bool.{cases_eq, eqb-true, cond-true}
use Rattle.basis.specs.Counts.{count}
use Rattle.basis.specs.Halls.{listed, faults, quorum}
use Rattle.basis.proofs.Counts.{count_not}
use Rattle.basis.proofs.Thirds.{thirds, at_most_16}
use Rattle.basis.proofs.Totals.{count_below}
use Rattle.messages.specs.Tags.{uses, basic_tags}
use Rattle.rules.specs.Laws.{EndsRounds}
use Rattle.rules.specs.Rounds.{Round}
use Rattle.slots.specs.Places.{sheet_of}
use Rattle.ballots.specs.States.{round_at}
use Rattle.ballot_runs.specs.Views.{View, face}
use Rattle.ballot_runs.specs.Rest.{Rest, Over}
use Rattle.ballot_runs.proofs.Ending.{rounds_end}
use Rattle.outcomes.specs.Closing.{closing_view, sheet_of_slot, close_answer}
use Rattle.outcomes.specs.Holdings.{Closed, Setting, Holding, sizes_ok, is_delivered, ballot_at, state_of}
use Rattle.outcomes.specs.Taking.{looked}
use Rattle.evenings.specs.Evenings.{Replica, held}
use Rattle.evenings.specs.Claims.{Lawful, Sayable, SaysSayable, AtRest, NobodyWaits, Shown, RestIfRoundsEnd}
use Rattle.sheet_turns.proofs.Closing.{may_closed}
use Rattle.sheet_turns.proofs.Halls.{own_sheets_reach, sheets_reach}
use Rattle.vote_turns.proofs.Known.{view_of, stage_of}
use Rattle.vote_turns.proofs.Still.{Still, still}
use Rattle.claims.proofs.Halls.{Whole, ballots_of, QuotedBallot, QuotedShare}
use Rattle.claims.proofs.Views.{view_decided, view_delivered, view_round, shown_face}
use Rattle.claims.proofs.Agreeing.{ballots_claims}
use Rattle.claims.proofs.Calling.{evening_whole}
use Rattle.claims.proofs.Sayable.{opening_sayable, basic_used}
use Rattle.claims.proofs.Speaking.{vote_known}
use Rattle.std.specs.Prelude.{slice_index_or}
use Rattle.slots.specs.Steps.{cleared}
use Rattle.messages.specs.declared.message.Phase.TheVariants.{Ready}

some_from : {X : Type 0} (o : Option X) → is_some o ≡ true → (x : X) × (o ≡ Some x)
some_from None h = absurd (let z : ◌≡◌ {A = ℕ} 0 1 = cc in omega arith)
some_from (Some x) h = (x, refl)

module _ {R C Row : Type 0} (g : Setting R C) (meaning : Row → Round) (n : ℕ) (honest : ℕ → Bool) (laws : Lawful g) (ends : EndsRounds g.rule) (says : SaysSayable g.rule) (li : T (listed n)) (few : count n (λ j. not (honest j)) ≤ faults n)
    (s : ℕ → Replica R C Row) (w : Whole g meaning n honest laws.rows s) (rest : AtRest g meaning n honest s) where
  abbrev Fine : ℕ → Type 0
  Fine i = (i < n) × (honest i ≡ true)

  abbrev has : ℕ → Holding R C
  has i = held meaning (s i)

  abbrev view : ℕ → ℕ → View
  view i k = view_of g n (has i) k

  -- a sheet that is there is delivered, and a delivered one is there
  there_delivered : (i k : ℕ) (x : List ℕ) → sheet_of_slot g.rows n (closing_view (has i)) k ≡ Some x → is_delivered k (has i) ≡ true
  there_delivered i k x e = go (slice_index_or (has i).slots.records k cleared).delivered e
    where
      go : (o : Option ℕ) → sheet_of g.rows n (has i).slots.places Ready k o ≡ Some x → is_some o ≡ true
      go None h = absurd (let z : ◌≡◌ {A = ℕ} 0 1 = cc in omega arith)
      go (Some j) h = refl

  delivered_there : (i k : ℕ) → Fine i → k < n → is_delivered k (has i) ≡ true → (x : List ℕ) × (sheet_of_slot g.rows n (closing_view (has i)) k ≡ Some x)
  delivered_there i k gi lk e =
      let o = some_from (slice_index_or (has i).slots.records k cleared).delivered e in
      let b = (w.cast.well i gi).sound.got k o.0 lk o.1 in
      (b.1, ap (sheet_of g.rows n (has i).slots.places Ready k) o.1 ∙ b.2)

  -- what one honest replica has delivered all have
  shared : (i j k : ℕ) → Fine i → Fine j → k < n → is_delivered k (has i) ≡ true → is_delivered k (has j) ≡ true
  shared i j k gi gj lk e =
      let x = delivered_there i k gi lk e in
      there_delivered j k x.0 (sheets_reach g meaning n honest laws.rows few (thirds n li) s w.cast rest i j k x.0 gi gj lk x.1)

  -- a quorum of slots is delivered
  many : (i : ℕ) → Fine i → quorum n ≤ count n (λ k. is_delivered k (has i))
  many i gi =
      let b = count_below n honest (λ k. is_delivered k (has i)) (λ k lk hk. let x = own_sheets_reach g meaning n honest laws.rows few (thirds n li) s w.cast rest i k gi (lk, hk) in there_delivered i k x.0 x.2) in
      omega (arith, b, count_not n honest, thirds n li)

  quiet : (i k : ℕ) → Fine i → k < n → Still g n i (has i) k
  quiet i k gi lk = still g n i (QuotedBallot g meaning n honest laws.rows s) (QuotedShare g meaning n honest laws.rows s) (laws.rule n i li gi.0) laws.coins (at_most_16 n li) gi.0 (has i) (w.votes i gi)
      (sym (cond-true (sizes_ok n (has i)) (looked g n i n (has i)) (has i) (w.cast.well i gi).sizes) ∙ rest.still i gi) k lk

  -- what an honest replica says in a round are votes that others may hear, and so they have
  says_in : (j k r t v : ℕ) → Fine j → k < n → ((view j k).rounds r).votes t v j ≡ true → Sayable (uses g.rule.tags) t v × (34 ≤ t → 1 ≤ r)
  says_in j k zero t v gj lk h =
      let o = opening_sayable (uses basic_tags) j refl refl n (view j k).delivered ((view j k).rounds 0) (((w.votes j gj).well k lk).grounded.reached 0) t v h in
      basic_within o
    where
      basic_within : Sayable (uses basic_tags) t v → Sayable (uses g.rule.tags) t v × (34 ≤ t → 1 ≤ 0)
      basic_within x = basic_used g.rule.tags t v x
  says_in j k (suc r) t v gj lk h = (says n j ((view j k).rounds (suc r)) li gj.0 ((ballots_claims g meaning n honest laws li few s w).reached j k r gj) t v h, λ _. omega arith)

  heard : (k : ℕ) → k < n → (i j r t v : ℕ) → Fine i → Fine j → r < 16 → ((view j k).rounds r).votes t v j ≡ true → ((view i k).rounds r).votes t v j ≡ true
  heard k lk i j r t v gi gj lr h = ⊎_elim
      (λ e. subst (λ (z : ℕ). ((view z k).rounds r).votes t v j ≡ true) e h)
      (λ ne.
      let x = says_in j k r t v gj lk h in
      ap (λ (m : Round). m.votes t v j) (view_round g n (has i) k lk r lr)
      ∙ vote_known g n i j (has i) (has j) k r laws.rows lk lr t v x.0 x.1 (sym (ap (λ (m : Round). m.votes t v j) (view_round g n (has j) k lk r lr)) ∙ h) (λ xs d. rest.heard i j xs gi gj ne d))
      (cases_eq j i)

  ballot_rest : (k : ℕ) → k < n → Rest g.rule n honest (ballots_of g meaning n honest laws.rows s) k
  ballot_rest k lk = record {
    heard = heard k lk;
    still = λ i r gi lr lo. (quiet i k gi lk).steps r lr lo;
    gone_on = λ i r gi lr en ve fa. (quiet i k gi lk).gone_on r lr en ve fa;
    proposed = λ i gi. (quiet i k gi lk).proposed (many i gi);
    shared = λ i j gi gj d. view_delivered g n (has j) k lk ∙ shared i j k gi gj lk (sym (view_delivered g n (has i) k lk) ∙ d);
    said_again = λ i gi d. (quiet i k gi lk).said_again d ((quiet i k gi lk).proposed (many i gi));
  }

  known : (k u : ℕ) → k < n → u ≤ 16 → Shown g meaning n honest s k u → (i r : ℕ) → Fine i → r < u → 0 < face (view i k) r
  known k u lk top shown i zero gi lr = omega arith
  known k u lk top shown i (suc r) gi lr = let b = shown i (suc r) gi (omega arith) lr in shown_face g n (has i) k lk r (omega arith) b.0 b.1

  over : (k u : ℕ) → k < n → u ≤ 16 → Shown g meaning n honest s k u → (i r : ℕ) → Fine i → r < u → r < stage_of k (has i)
  over k u lk top shown i r gi lr =
      let all = rounds_end g.rule laws.rule ends n honest (ballots_of g meaning n honest laws.rows s) li few w.run k u (ballot_rest k lk) top (known k u lk top shown) in
      let o = all i r gi lr in
      let entered : 0 < ((view i k).rounds r).entered = before r lr (λ q lq. all i q gi lq) in
      (quiet i k gi lk).over r (omega arith) entered o.0 (known k u lk top shown i r gi lr)
    where
      before : (r : ℕ) → r < u → ((q : ℕ) → q < u → Over (view i k) q) → 0 < ((view i k).rounds r).entered
      before zero l each = (quiet i k gi lk).proposed (many i gi)
      before (suc q) l each = (each q (omega arith)).1 (omega arith)

  shares_said : (i k r v : ℕ) → Fine i → k < n → 1 ≤ r → r ≤ 15 → 0 < (round_at k r (state_of k (has i))).entered → 0 < (round_at k r (state_of k (has i))).verdict →
      g.coins.uses ≡ true → g.coins.own (has i).coin k r ≡ Some v → g.coins.taken_of (has i).coin k r i ≡ Some v
  shares_said i k zero v gi lk lo hi en ve u o = absurd (omega arith)
  shares_said i k (suc q) v gi lk lo hi en ve u o =
      let e = view_round g n (has i) k lk (suc q) (omega arith) in
      let x = some_from (g.coins.taken_of (has i).coin k (suc q) i) ((quiet i k gi lk).shared q (omega arith) (subst (λ (m : Round). 0 < m.entered) (sym e) en) (subst (λ (m : Round). 0 < m.verdict) (sym e) ve) u v o) in
      let most = at_most_16 n li in
      x.1 ∙ sym (w.own_shares i k (suc q) x.0 gi (record { ballot_below = omega (arith, most, lk); round_from = omega arith; round_to = hi }) (let z = gi.0 in omega (arith, most, z)) x.1) ∙ o

  can_close : (i : ℕ) → Fine i → ((k : ℕ) → k < n → 0 < (ballot_at k (has i)).decided) → ((s i).life ≡ Closed) ⊎ (close_answer g.rows n (closing_view (has i)) ≡ Ok tt)
  can_close i gi all = inr (may_closed g n i (has i) (record {
    sizes = (w.cast.well i gi).sizes;
    decided = all;
    sheets = λ k lk d.
        let o = (ballots_claims g meaning n honest laws li few s w).ones_delivered i k gi (view_decided g n (has i) k lk ∙ eqb-true (ballot_at k (has i)).decided 2 d) in
        delivered_there i k gi lk (shared o.0 i k o.1 gi lk (sym (view_delivered g n (has o.0) k lk) ∙ o.2));
  }))

  pub nobody_waits : NobodyWaits g meaning n honest s
  nobody_waits = record { rounds_over = over; shares_said = shares_said; can_close = can_close }

pub rest_if_rounds_end : {R C Row : Type 0} (g : Setting R C) (meaning : Row → Round) → Lawful g → RestIfRoundsEnd g meaning
rest_if_rounds_end g meaning laws ends says n honest s li few e rest = nobody_waits g meaning n honest laws ends says li few s (evening_whole g meaning n honest laws li few e) rest
