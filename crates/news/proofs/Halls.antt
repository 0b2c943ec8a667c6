-- What an evening adds to what its hall has recorded, and that it hears only so much that is new. Assumes nothing.
use Rattle.std.proofs.Common.{◌≡◌, ℕ, ◌+◌, ◌<◌, ◌≤◌, Bool, true, not, T, List, Ok, sym, ap, subst, arith}
use Rattle.basis.specs.Counts.{count}
use Rattle.basis.specs.Halls.{listed, faults}
use Rattle.basis.specs.declared.heard.Heard.TheVariants.{New}
use Rattle.basis.proofs.Thirds.{at_most_16}
use Rattle.rules.specs.Rounds.{Round}
use Rattle.outcomes.specs.Calls.{Call, hear, Allowed, call_after}
use Rattle.outcomes.specs.Hearing.{hear_answer_lem, hear_after}
use Rattle.outcomes.specs.Holdings.{Setting, Holding}
use Rattle.evenings.specs.Claims.{Lawful}
use Rattle.evenings.specs.Evenings.{Replica, held, upd, Leads, nothing, called, Evening}
use Rattle.claims.proofs.Halls.{Whole, at_upd, upd_here}
use Rattle.claims.proofs.Calling.{whole_begun, leads_after, evening_whole}
use Rattle.news.specs.Recorded.{recorded_in, most_recorded, most_in_hall, one_if_new, new_by, recorded_by_all, heard_new, Sweeps, no_sweep, swept, NewsAdd, NewsFew, SweepsEnd}
use Rattle.news.proofs.Sums.{total_gains, total_most}
use Rattle.news.proofs.Adding.{recorded_most}
use Rattle.news.proofs.Hearing.{recorded_stays, recorded_grows, news_added}

module _ {R C Row : Type 0} (g : Setting R C) (meaning : Row → Round) (n : ℕ) (honest : ℕ → Bool) (laws : Lawful g) (li : T (listed n)) (few : count n (λ j. not (honest j)) ≤ faults n) where
  abbrev Hall : Type 0
  Hall = ℕ → Replica R C Row

  abbrev Fine : ℕ → Type 0
  Fine i = (i < n) × (honest i ≡ true)

  abbrev holds : Hall → ℕ → Holding R C
  holds s i = held meaning (s i)

  abbrev WholeHall : Hall → Type 0
  WholeHall = Whole g meaning n honest laws.rows

  -- no hall has recorded more
  pub hall_most : (s : Hall) → recorded_by_all g meaning n s ≤ most_in_hall
  unfolding recorded_by_all
  hall_most s = let t = total_most n most_recorded (λ i. recorded_in g n (holds s i)) (λ i lt. recorded_most g n (at_most_16 n li) (holds s i)) in let m = at_most_16 n li in omega arith

  module _ (s : Hall) (w : WholeHall s) (i : ℕ) (gi : Fine i) where
    -- at one replica of an evening
    pub whole_stays : (c : Call) → Allowed g c (holds s i) → recorded_in g n (holds s i) ≤ recorded_in g n (call_after g n i c (holds s i))
    whole_stays = recorded_stays g n i laws li gi.0 (holds s i) (w.cast.well i gi) (w.votes i gi)

    pub whole_grows : (j : ℕ) (xs : List ℕ) → Allowed g (hear j xs) (holds s i) → hear_answer_lem g n i j xs (holds s i) ≡ Ok New → recorded_in g n (holds s i) < recorded_in g n (hear_after g n i j xs (holds s i))
    whole_grows j xs can = recorded_grows g n i laws li gi.0 (holds s i) (w.cast.well i gi) (w.votes i gi) j xs can.1 can.0

    -- where one replica alone has changed
    module _ (t : Replica R C Row) where
      others_mono : recorded_in g n (holds s i) ≤ recorded_in g n (held meaning t) → (j : ℕ) → j < n → recorded_in g n (holds s j) ≤ recorded_in g n (holds (upd s i t) j)
      others_mono le j lj = at_upd (λ (z : Replica R C Row). recorded_in g n (holds s j) ≤ recorded_in g n (held meaning z)) s i j t
          (λ e. subst (λ (z : ℕ). recorded_in g n (holds s z) ≤ recorded_in g n (held meaning t)) (sym e) le) (λ _. omega arith)

      all_gains : (d : ℕ) → d + recorded_in g n (holds s i) ≤ recorded_in g n (held meaning t) → d + recorded_by_all g meaning n s ≤ recorded_by_all g meaning n (upd s i t)
      unfolding recorded_by_all
      all_gains d more = total_gains n d _ _ (others_mono (omega arith)) i gi.0
          (subst (λ (z : Replica R C Row). d + recorded_in g n (holds s i) ≤ recorded_in g n (held meaning z)) (sym (upd_here s i t)) more)

    -- in the whole hall
    module _ (t : Replica R C Row) where
      pub hall_added : (c : Call) → Allowed g c (holds s i) → held meaning t ≡ call_after g n i c (holds s i) → new_by g n i c (holds s i) + recorded_by_all g meaning n s ≤ recorded_by_all g meaning n (upd s i t)
      hall_added c can e = all_gains t (new_by g n i c (holds s i))
          (subst (λ (z : Holding R C). new_by g n i c (holds s i) + recorded_in g n (holds s i) ≤ recorded_in g n z) (sym e) (news_added g n i laws li gi.0 (holds s i) (w.cast.well i gi) (w.votes i gi) c can))

      pub hall_stays : (c : Call) → Allowed g c (holds s i) → held meaning t ≡ call_after g n i c (holds s i) → recorded_by_all g meaning n s ≤ recorded_by_all g meaning n (upd s i t)
      hall_stays c can e = let m = hall_added c can e in omega arith

      pub hall_grows : (j : ℕ) (xs : List ℕ) → Allowed g (hear j xs) (holds s i) → hear_answer_lem g n i j xs (holds s i) ≡ Ok New → held meaning t ≡ hear_after g n i j xs (holds s i) →
          recorded_by_all g meaning n s < recorded_by_all g meaning n (upd s i t)
      hall_grows j xs can new e = let m = hall_added (hear j xs) can e in let o = ap one_if_new new in omega arith

  -- through calls in any order
  pub leads_added : {s s' : Hall} → WholeHall s → (r : Leads g meaning n honest s s') → heard_new g meaning n r + recorded_by_all g meaning n s ≤ recorded_by_all g meaning n s'
  leads_added w nothing = omega arith
  leads_added w (called {s'} r i c gi can au t e) =
      let before = leads_added w r in
      let here = hall_added s' (leads_after g meaning n honest laws li few w r).whole i gi t c can e in
      omega arith

  pub sweeps_added : {s s' : Hall} {m : ℕ} → WholeHall s → Sweeps g meaning n honest s m s' → WholeHall s' × (m + recorded_by_all g meaning n s ≤ recorded_by_all g meaning n s')
  sweeps_added w no_sweep = (w, omega arith)
  sweeps_added w (swept {m} rest r some) =
      let before = sweeps_added w rest in
      let here = leads_added before.0 r in
      ((leads_after g meaning n honest laws li few before.0 r).whole, omega (arith, before.1))

  -- in an evening
  module _ {s : Hall} (e : Evening g meaning n honest s) where
    evening_hall : WholeHall s
    evening_hall = evening_whole g meaning n honest laws li few e

    pub evening_stays : (i : ℕ) → Fine i → (c : Call) → Allowed g c (holds s i) → recorded_in g n (holds s i) ≤ recorded_in g n (call_after g n i c (holds s i))
    evening_stays i gi = whole_stays s evening_hall i gi

    pub evening_grows : (i : ℕ) → Fine i → (j : ℕ) (xs : List ℕ) → Allowed g (hear j xs) (holds s i) → hear_answer_lem g n i j xs (holds s i) ≡ Ok New → recorded_in g n (holds s i) < recorded_in g n (hear_after g n i j xs (holds s i))
    evening_grows i gi = whole_grows s evening_hall i gi

    -- the same of what all have recorded, by the replica that the call leaves
    module _ (i : ℕ) (gi : Fine i) (t : Replica R C Row) where
      pub evening_all_stay : (c : Call) → Allowed g c (holds s i) → held meaning t ≡ call_after g n i c (holds s i) → recorded_by_all g meaning n s ≤ recorded_by_all g meaning n (upd s i t)
      evening_all_stay = hall_stays s evening_hall i gi t

      pub evening_all_grow : (j : ℕ) (xs : List ℕ) → Allowed g (hear j xs) (holds s i) → hear_answer_lem g n i j xs (holds s i) ≡ Ok New → held meaning t ≡ hear_after g n i j xs (holds s i) →
          recorded_by_all g meaning n s < recorded_by_all g meaning n (upd s i t)
      evening_all_grow = hall_grows s evening_hall i gi t

    pub evening_added : {s' : Hall} → (r : Leads g meaning n honest s s') → heard_new g meaning n r + recorded_by_all g meaning n s ≤ recorded_by_all g meaning n s'
    evening_added = leads_added evening_hall

    -- the calls since the opening
    pub evening_heard : heard_new g meaning n e.calls ≤ recorded_by_all g meaning n s
    evening_heard = let m = leads_added (whole_begun g meaning n honest laws li few e.start e.opened) e.calls in omega arith

    pub evening_leads : {s' : Hall} → Leads g meaning n honest s s' → recorded_by_all g meaning n s ≤ recorded_by_all g meaning n s'
    evening_leads r = let m = evening_added r in omega arith

    pub evening_sweeps : {s' : Hall} {m : ℕ} → Sweeps g meaning n honest s m s' → m + recorded_by_all g meaning n s ≤ most_in_hall
    evening_sweeps {s'} x = let a = (sweeps_added evening_hall x).1 in let b = hall_most s' in omega arith

pub news_add : {R C Row : Type 0} (g : Setting R C) (meaning : Row → Round) → Lawful g → NewsAdd g meaning
news_add g meaning laws n honest s s' li few e r = (evening_added g meaning n honest laws li few e r, hall_most g meaning n honest laws li few s')

pub news_few : {R C Row : Type 0} (g : Setting R C) (meaning : Row → Round) → Lawful g → NewsFew g meaning
news_few g meaning laws n honest s li few e = let a = evening_heard g meaning n honest laws li few e in let b = hall_most g meaning n honest laws li few s in omega arith

pub sweeps_end : {R C Row : Type 0} (g : Setting R C) (meaning : Row → Round) → Lawful g → SweepsEnd g meaning
sweeps_end g meaning laws n honest s s' m li few e x = evening_sweeps g meaning n honest laws li few e x
