-- A hall's evening goes on by a call at one till. Assumes nothing.
use Rattle.std.proofs.Common.{◌≡◌, ℕ, ◌+◌, ◌<◌, ◌≤◌, ◌≢◌, Bool, true, false, ◌||◌, ◌⊎◌, List, Some, Ok, Err, Option, Result, length, sym, refl, ap, ◌∙◌, subst, subst₂, inl, inr, get_or, set, arith}
use Rattle.std.proofs.lemmas.List.{get_or-set_same, get_or-set_other, get_or_default}
use Rattle.basis.specs.Bytes.{Octets}
use Rattle.basis.specs.Members.{Numbers}
use Rattle.basis.specs.Refusals.{Refused}
use Rattle.basis.specs.declared.heard.Heard.{Heard}
use Rattle.basis.specs.declared.heard.Heard.TheVariants.{New, Known}
use Rattle.claims.proofs.Halls.{at_upd}
use Rattle.evenings.specs.Evenings.{held, upd, Leads, nothing, called, Authentic}
use Rattle.news.specs.Recorded.{one_if_new, new_by, heard_new}
use Rattle.outcomes.specs.Calls.{Said, Call, offer, hear, close, Allowed, call_after}
use Rattle.outcomes.specs.Hearing.{hear_answer_lem}
use Rattle.phases.specs.Records.{meaning_of}
use Rattle.scripts.specs.declared.command.RuleName.{RuleName}
use Rattle.sheets.specs.OfTakings.{takings_lawful}
use Rattle.halls.specs.Faults.{as_problem, heard_of}
use Rattle.halls.specs.States.{Held, setting_of, life_of, numbers_in, offer_left, hear_left, close_left}
use Rattle.halls.specs.Tills.{replica_of, held_by}
use Rattle.halls.specs.Plays.{all_honest, Replicas, Seated, Shows, Played, GoesOn, HearsNew, Continued, Progress, one_if}
use Rattle.halls.specs.Sweeps.{is_new}
use Rattle.halls.specs.declared.state.Active.TheVariants.{Running, Closed}
use Rattle.halls.specs.declared.state.State.{State}
use Rattle.halls.specs.declared.state.State.TheVariants as state
use Rattle.halls.specs.declared.till.Till.{Till}

pub same_some : {X : Type 0} {x y : X} → ◌≡◌ {A = Option X} (Some x) (Some y) → x ≡ y
same_some e = cc

module _ (rule : RuleName) (n : ℕ) where
  abbrev LeadsTo : Replicas → Replicas → Type 0
  LeadsTo s s' = Leads (setting_of rule) meaning_of n all_honest s s'

  pub leads_then : {s s' s'' : Replicas} → LeadsTo s s' → LeadsTo s' s'' → LeadsTo s s''
  leads_then a nothing = a
  leads_then a (called r i c hi can au t e) = called (leads_then a r) i c hi can au t e

  pub goes_none : (ts : List Till) → GoesOn rule n ts ts
  goes_none ts s sh = (s, nothing, sh)

  pub goes_then : (ts ts' ts'' : List Till) → GoesOn rule n ts ts' → GoesOn rule n ts' ts'' → GoesOn rule n ts ts''
  goes_then ts ts' ts'' a b s sh =
      let x = a s sh in
      let y = b x.0 x.2 in
      (y.0, leads_then x.1 y.1, y.2)

  pub played_on : (ts ts' : List Till) → Played rule n ts → GoesOn rule n ts ts' → Played rule n ts'
  played_on ts ts' p a =
      let x = a p.now p.shows in
      record { now = x.0; evening = record { start = p.evening.start; opened = p.evening.opened; calls = leads_then p.evening.calls x.1 }; shows = x.2; coin = p.coin; dealt = p.dealt }

  -- how many calls heard something new, on two ways one after the other
  news_then : {s s' s'' : Replicas} (a : LeadsTo s s') (b : LeadsTo s' s'') → heard_new (setting_of rule) meaning_of n (leads_then a b) ≡ heard_new (setting_of rule) meaning_of n a + heard_new (setting_of rule) meaning_of n b
  unfolding leads_then
  news_then a nothing = omega arith
  news_then a (called r i c hi can au t e) = let q = news_then a r in omega (arith, q)

  pub hears_none : (ts : List Till) → HearsNew rule n 0 ts ts
  hears_none ts s sh = (s, nothing, sh, omega arith)

  pub hears_then : (k k' : ℕ) (ts ts' ts'' : List Till) → HearsNew rule n k ts ts' → HearsNew rule n k' ts' ts'' → HearsNew rule n (k + k') ts ts''
  hears_then k k' ts ts' ts'' a b s sh =
      let x = a s sh in
      let y = b x.0 x.2 in
      (y.0, leads_then x.1 y.1, y.2, let q = news_then x.1 y.1 in let p = x.3 in let p' = y.3 in omega (arith, q, p, p'))

  pub hears_less : (k k' : ℕ) (ts ts' : List Till) → k' ≤ k → HearsNew rule n k ts ts' → HearsNew rule n k' ts ts'
  hears_less k k' ts ts' le a s sh =
      let x = a s sh in
      (x.0, x.1, x.2, let p = x.3 in omega (arith, p, le))

  pub goes_of : (k : ℕ) (ts ts' : List Till) → HearsNew rule n k ts ts' → GoesOn rule n ts ts'
  goes_of k ts ts' a s sh =
      let x = a s sh in
      (x.0, x.1, x.2)

  -- nothing changes, or by a call that the state allows
  abbrev pub ByCall : ℕ → Call → Held → Held → Type 0
  ByCall i c h h' = (h' ≡ h) ⊎ (Allowed (setting_of rule) c h × (h' ≡ call_after (setting_of rule) n i c h))

  -- the same, with how many messages at least were new
  abbrev CountedBy : ℕ → Call → ℕ → Held → Held → Type 0
  CountedBy i c k h h' = ((h' ≡ h) × (k ≡ 0)) ⊎ (Allowed (setting_of rule) c h × (h' ≡ call_after (setting_of rule) n i c h) × (k ≤ new_by (setting_of rule) n i c h))

  module _ (ts : List Till) (i : ℕ) (t : Till) (low : i < n) (inside : i < length ts) where
    abbrev old : Till
    old = get_or ts i t

    -- the tills show a hall in which replica i holds what the till t does
    shows_set : (s s' : Replicas) → Shows n ts s → held meaning_of (s' i) ≡ held_by t → ((j : ℕ) → (j ≢ i) → s' j ≡ s j) → (j : ℕ) (d : Till) → j < n → (j ≡ i) ⊎ (j ≢ i) → held meaning_of (s' j) ≡ held_by (get_or (set ts i t) j d)
    shows_set s s' sh here there j d lj (inl e) =
        subst (λ (z : ℕ). held meaning_of (s' z) ≡ held_by (get_or (set ts i t) z d)) (sym e) (here ∙ sym (ap held_by (get_or-set_same ts i t d inside)))
    shows_set s s' sh here there j d lj (inr ne) =
        ap (held meaning_of) (there j ne) ∙ sh j d lj ∙ sym (ap held_by (get_or-set_other ts i j t d ne))

    pub goes_by : (c : Call) → ByCall i c (held_by old) (held_by t) → ((s : Replicas) → Shows n ts s → Authentic (setting_of rule) meaning_of n all_honest s i c) → GoesOn rule n ts (set ts i t)
    goes_by c (inl same) au s sh =
        (s, nothing, λ j d lj. shows_set s s sh (sh i t low ∙ sym same) (λ k ne. refl) j d lj (Rattle.std.proofs.lemmas.Bool.cases_eq j i))
    goes_by c (inr call) au s sh = (
      upd s i (replica_of t),
      called nothing i c (low, refl) (subst (Allowed (setting_of rule) c) (sym (sh i t low)) call.0) (au s sh) (replica_of t) (call.1 ∙ ap (λ (z : Held). call_after (setting_of rule) n i c z) (sym (sh i t low))),
      λ j d lj. shows_set s (upd s i (replica_of t)) sh (ap (held meaning_of) (Rattle.claims.proofs.Halls.upd_here s i (replica_of t))) (λ k ne. Rattle.claims.proofs.Halls.upd_there s i k (replica_of t) ne) j d lj (Rattle.std.proofs.lemmas.Bool.cases_eq j i),
    )

    pub hears_by : (c : Call) (k : ℕ) → CountedBy i c k (held_by old) (held_by t) → ((s : Replicas) → Shows n ts s → Authentic (setting_of rule) meaning_of n all_honest s i c) → HearsNew rule n k ts (set ts i t)
    hears_by c k (inl none) au s sh =
        (s, nothing, (λ j d lj. shows_set s s sh (sh i t low ∙ sym none.0) (λ o ne. refl) j d lj (Rattle.std.proofs.lemmas.Bool.cases_eq j i)), (let z = none.1 in omega (arith, z)))
    hears_by c k (inr call) au s sh = (
      upd s i (replica_of t),
      called nothing i c (low, refl) (subst (Allowed (setting_of rule) c) (sym (sh i t low)) call.0) (au s sh) (replica_of t) (call.1 ∙ ap (λ (z : Held). call_after (setting_of rule) n i c z) (sym (sh i t low))),
      (λ j d lj. shows_set s (upd s i (replica_of t)) sh (ap (held meaning_of) (Rattle.claims.proofs.Halls.upd_here s i (replica_of t))) (λ o ne. Rattle.claims.proofs.Halls.upd_there s i o (replica_of t) ne) j d lj (Rattle.std.proofs.lemmas.Bool.cases_eq j i)),
      subst (λ (z : Held). k ≤ 0 + new_by (setting_of rule) n i c z) (sym (sh i t low)) (let z = call.2 in omega (arith, z)),
    )

  -- a new answer counts one
  one_new : (r : Result Heard Refused) → one_if (is_new (as_problem r)) ≤ one_if_new r
  one_new (Ok New) = omega arith
  one_new (Ok Known) = omega arith
  one_new (Err e) = omega arith

  module _ (i : ℕ) (h h' : Held) where
    -- the numbers of a till are those of its seat
    numbered : (c : Call) (a b : ℕ) → ◌≡◌ {A = Option Numbers} (Some (record { n = a; own = b })) (Some (record { n = n; own = i })) → h' ≡ call_after (setting_of rule) a b c h → h' ≡ call_after (setting_of rule) n i c h
    numbered c a b e q = q ∙ ap (λ (m : Numbers). call_after (setting_of rule) m.n m.own c h) (same_some e)

    pub by_offer : (st : State) (x : List ℕ) → h.life ≡ life_of st → numbers_in st ≡ Some (record { n = n; own = i }) → takings_lawful x ≡ true → Octets x → h' ≡ offer_left rule st x h → ByCall i (offer x) h h'
    by_offer (state.Fresh f) x life e law oct q = inr ((life, law, oct), numbered (offer x) f.member.n f.member.own e q)
    by_offer (state.Active a) x life e law oct q = inl q
    by_offer state.Gone x life e law oct q = inl q

    -- the new answers of a packet that is heard
    new_in : (a b : ℕ) (j : ℕ) (xs : List ℕ) → ◌≡◌ {A = Option Numbers} (Some (record { n = a; own = b })) (Some (record { n = n; own = i })) → one_if (is_new (as_problem (hear_answer_lem (setting_of rule) a b j xs h))) ≤ one_if_new (hear_answer_lem (setting_of rule) n i j xs h)
    new_in a b j xs e = subst (λ (m : Numbers). one_if (is_new (as_problem (hear_answer_lem (setting_of rule) a b j xs h))) ≤ one_if_new (hear_answer_lem (setting_of rule) m.n m.own j xs h)) (same_some e) (one_new (hear_answer_lem (setting_of rule) a b j xs h))

    pub counted_hear : (st : State) (j : ℕ) (xs : List ℕ) → h.life ≡ life_of st → numbers_in st ≡ Some (record { n = n; own = i }) → Octets xs → h' ≡ hear_left rule st j xs h → CountedBy i (hear j xs) (one_if (is_new (heard_of rule st j xs h))) h h'
    counted_hear (state.Fresh f) j xs life e oct q = inl (q, refl)
    counted_hear (state.Active (Running r)) j xs life e oct q = inr ((inl life, oct), numbered (hear j xs) r.member.n r.member.own e q, new_in r.member.n r.member.own j xs e)
    counted_hear (state.Active (Closed r)) j xs life e oct q = inr ((inr life, oct), numbered (hear j xs) r.member.n r.member.own e q, new_in r.member.n r.member.own j xs e)
    counted_hear state.Gone j xs life e oct q = inl (q, refl)

    pub by_close : (st : State) → h.life ≡ life_of st → numbers_in st ≡ Some (record { n = n; own = i }) → h' ≡ close_left rule st h → ByCall i close h h'
    by_close (state.Fresh f) life e q = inl q
    by_close (state.Active (Running r)) life e q = inr (life, numbered close r.member.n r.member.own e q)
    by_close (state.Active (Closed r)) life e q = inl q
    by_close state.Gone life e q = inl q

  -- a till in its seat is replaced by one of the same numbers
  pub seated_set : (ts : List Till) (i : ℕ) (t : Till) → i < length ts → Seated n ts → numbers_in t.state ≡ numbers_in (get_or ts i t).state → Seated n (set ts i t)
  seated_set ts i t inside sat same j d lj = go (Rattle.std.proofs.lemmas.Bool.cases_eq j i)
    where
      go : (j ≡ i) ⊎ (j ≢ i) → numbers_in (get_or (set ts i t) j d).state ≡ Some (record { n = n; own = j })
      go (inl e) = ap (λ (z : ℕ). numbers_in (get_or (set ts i t) z d).state) e ∙ ap (λ (z : Till). numbers_in z.state) (get_or-set_same ts i t d inside) ∙ same ∙ ap (λ (z : ℕ). numbers_in (get_or ts z t).state) (sym e) ∙ sat j t lj
      go (inr ne) = ap (λ (z : Till). numbers_in z.state) (get_or-set_other ts i j t d ne) ∙ sat j d lj

  -- a call at the till that stands in the place i, which leaves t
  module _ (ts : List Till) (i : ℕ) (told t : Till) (low : i < n) (counted : length ts ≡ n) (sat : Seated n ts) (was : told ≡ get_or ts i told) where
    inside : i < length ts
    inside = omega (arith, low, counted)

    stood : told ≡ get_or ts i t
    stood = was ∙ get_or_default ts i told t inside

    pub offer_goes : (x : List ℕ) → takings_lawful x ≡ true → Octets x → held_by t ≡ offer_left rule told.state x (held_by told) → GoesOn rule n ts (set ts i t)
    offer_goes x law oct e =
        goes_by ts i t low inside (offer x)
        (by_offer i (held_by (get_or ts i t)) (held_by t) (get_or ts i t).state x refl (sat i t low) law oct (subst (λ (z : Till). held_by t ≡ offer_left rule z.state x (held_by z)) stood e))
        (λ s sh. tt)

    pub hear_news : (j : ℕ) (xs : List ℕ) → Octets xs → ((d : Till) → j < n → Said (setting_of rule) n j (held_by (get_or ts j d)) xs) → held_by t ≡ hear_left rule told.state j xs (held_by told) →
        HearsNew rule n (one_if (is_new (heard_of rule told.state j xs (held_by told)))) ts (set ts i t)
    hear_news j xs oct said e =
        hears_by ts i t low inside (hear j xs) (one_if (is_new (heard_of rule told.state j xs (held_by told))))
        (subst (λ (z : Till). CountedBy i (hear j xs) (one_if (is_new (heard_of rule z.state j xs (held_by z)))) (held_by (get_or ts i t)) (held_by t)) (sym stood)
        (counted_hear i (held_by (get_or ts i t)) (held_by t) (get_or ts i t).state j xs refl (sat i t low) oct (subst (λ (z : Till). held_by t ≡ hear_left rule z.state j xs (held_by z)) stood e)))
        (λ s sh lj hon ne. subst (λ (z : Held). Said (setting_of rule) n j z xs) (sym (sh j t lj)) (said t lj))

    pub close_goes : held_by t ≡ close_left rule told.state (held_by told) → GoesOn rule n ts (set ts i t)
    close_goes e =
        goes_by ts i t low inside close
        (by_close i (held_by (get_or ts i t)) (held_by t) (get_or ts i t).state refl (sat i t low) (subst (λ (z : Till). held_by t ≡ close_left rule z.state (held_by z)) stood e))
        (λ s sh. tt)

    pub seated_then : numbers_in t.state ≡ numbers_in told.state → Seated n (set ts i t)
    seated_then e = seated_set ts i t inside sat (e ∙ ap (λ (z : Till). numbers_in z.state) stood)

-- a hall that nothing was done to, and one after another
pub continued_none : (rule : RuleName) (n : ℕ) (ts : List Till) → Continued rule n ts rule n ts
continued_none rule n ts = record { same_rule = refl; same_size = refl; goes_on = goes_none rule n ts }

pub progress_none : (rule : RuleName) (n : ℕ) (ts : List Till) → Progress 0 rule n ts rule n ts
progress_none rule n ts = record { same_rule = refl; same_size = refl; hears_new = hears_none rule n ts }

pub progress_then : (k k' : ℕ) (rule rule' rule'' : RuleName) (n n' n'' : ℕ) (ts ts' ts'' : List Till) → Progress k rule n ts rule' n' ts' → Progress k' rule' n' ts' rule'' n'' ts'' → Progress (k + k') rule n ts rule'' n'' ts''
progress_then k k' rule rule' rule'' n n' n'' ts ts' ts'' a b = record {
  same_rule = b.same_rule ∙ a.same_rule;
  same_size = b.same_size ∙ a.same_size;
  hears_new = hears_then rule n k k' ts ts' ts'' a.hears_new (subst₂ (λ (r : RuleName) (m : ℕ). HearsNew r m k' ts' ts'') a.same_rule a.same_size b.hears_new);
}

pub progress_less : (k k' : ℕ) (rule rule' : RuleName) (n n' : ℕ) (ts ts' : List Till) → k' ≤ k → Progress k rule n ts rule' n' ts' → Progress k' rule n ts rule' n' ts'
progress_less k k' rule rule' n n' ts ts' le a = record { same_rule = a.same_rule; same_size = a.same_size; hears_new = hears_less rule n k k' ts ts' le a.hears_new }

-- something was new in one of two, or in the other
pub progress_or : (a b : Bool) (rule rule' rule'' : RuleName) (n n' n'' : ℕ) (ts ts' ts'' : List Till) → Progress (one_if a) rule n ts rule' n' ts' → Progress (one_if b) rule' n' ts' rule'' n'' ts'' → Progress (one_if (a || b)) rule n ts rule'' n'' ts''
progress_or a b rule rule' rule'' n n' n'' ts ts' ts'' x y = progress_less (one_if a + one_if b) (one_if (a || b)) rule rule'' n n'' ts ts'' (either a b) (progress_then (one_if a) (one_if b) rule rule' rule'' n n' n'' ts ts' ts'' x y)
  where
    either : (a b : Bool) → one_if (a || b) ≤ one_if a + one_if b
    either true b = omega arith
    either false true = omega arith
    either false false = omega arith

pub continued_of : (k : ℕ) (rule rule' : RuleName) (n n' : ℕ) (ts ts' : List Till) → Progress k rule n ts rule' n' ts' → Continued rule n ts rule' n' ts'
continued_of k rule rule' n n' ts ts' a = record { same_rule = a.same_rule; same_size = a.same_size; goes_on = goes_of rule n k ts ts' a.hears_new }
