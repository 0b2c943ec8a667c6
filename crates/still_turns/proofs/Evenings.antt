-- In every evening looking changes nothing at an honest replica that has offered. Assumes nothing.
use Rattle.std.proofs.Common.{◌≡◌, ℕ, ◌<◌, ◌≤◌, Bool, true, not, T, ◌≢◌, List, Ok, sym, ◌∙◌, subst, ⊎_elim, arith}
use Rattle.basis.specs.Counts.{count}
use Rattle.basis.specs.Halls.{listed, faults}
use Rattle.basis.specs.declared.heard.Heard.TheVariants.{Known}
use Rattle.basis.proofs.Thirds.{at_most_16}
use Rattle.rules.specs.Rounds.{Round}
use Rattle.outcomes.specs.Calls.{HasOffered, Said}
use Rattle.outcomes.specs.Hearing.{hear_answer_lem}
use Rattle.outcomes.specs.Holdings.{Running, Closed, Setting, Holding}
use Rattle.outcomes.specs.Opening.{Opened}
use Rattle.evenings.specs.Evenings.{Replica, held, Honest, Leads, nothing, called, Evening}
use Rattle.evenings.specs.Claims.{AtRest, Lawful}
use Rattle.claims.proofs.Halls.{Whole, at_upd}
use Rattle.claims.proofs.Calling.{whole_begun, leads_after}
use Rattle.still_turns.specs.Still.{StepsSettle, AlwaysStill}
use Rattle.still_turns.proofs.Starting.{opened_done}
use Rattle.still_turns.proofs.Calling.{Left, still, call_left}

module _ {R C Row : Type 0} (g : Setting R C) (meaning : Row → Round) (n : ℕ) (honest : ℕ → Bool) (laws : Lawful g) (settles : StepsSettle g.rule) (li : T (listed n)) (few : count n (λ j. not (honest j)) ≤ faults n) where
  abbrev Hall : Type 0
  Hall = ℕ → Replica R C Row

  abbrev Fine : ℕ → Type 0
  Fine i = (i < n) × (honest i ≡ true)

  abbrev LeftAt : ℕ → Replica R C Row → Type 0
  LeftAt i t = Left g n i (held meaning t)

  opened_left : (i : ℕ) → Fine i → (h : Holding R C) → Opened g n i h → Left g n i h
  opened_left i gi h o = record { slots = λ k lk. opened_done g n i gi.0 h o k lk; proposed = λ e. absurd (⊎_elim running closed e) }
    where
      running : h.life ≡ Running → ⊥
      running e = let p = sym o.fresh ∙ e in let z : ◌≡◌ {A = ℕ} 0 1 = cc in omega arith

      closed : h.life ≡ Closed → ⊥
      closed e = let p = sym o.fresh ∙ e in let z : ◌≡◌ {A = ℕ} 0 1 = cc in omega arith

  -- every call at an honest replica leaves no step there, and changes nothing at the others
  leads_left : {s s' : Hall} → Whole g meaning n honest laws.rows s → ((i : ℕ) → Fine i → LeftAt i (s i)) → Leads g meaning n honest s s' → (i : ℕ) → Fine i → LeftAt i (s' i)
  leads_left w x nothing i gi = x i gi
  leads_left w x (called {s'} r j c gj can au t e) i gi =
      let a = (leads_after g meaning n honest laws li few w r).whole in
      let before = leads_left w x r in
      at_upd (LeftAt i) s' j i t
      (λ q. subst (λ (z : ℕ). LeftAt z t) (sym q) (subst (Left g n j) (sym e)
      (call_left g n j (laws.rule n j li gj.0) laws.coins (at_most_16 n li) gj.0 laws.rows (λ m reached. settles n j m li gj.0 reached) c (held meaning (s' j)) (a.cast.well j gj) (a.votes j gj) can (before j gj))))
      (λ _. before i gi)

  pub evening_left : {s : Hall} → Evening g meaning n honest s → (i : ℕ) → Fine i → LeftAt i (s i)
  evening_left e i gi = leads_left (whole_begun g meaning n honest laws li few e.start e.opened) (λ j gj. opened_left j gj (held meaning (e.start j)) (e.opened j gj)) e.calls i gi

-- whatever the coin, under a rule whose steps taken twice are steps taken once
pub always_still : {R C Row : Type 0} (g : Setting R C) (meaning : Row → Round) → Lawful g → AlwaysStill g meaning
always_still g meaning laws settles n honest s li few e i gi o = still g n i (held meaning (s i)) (evening_left g meaning n honest laws settles li few e i gi) o

-- So a hall is at rest once all honest replicas have offered and heard what the others said.
pub heard_rests : {R C Row : Type 0} (g : Setting R C) (meaning : Row → Round) → Lawful g → StepsSettle g.rule → (n : ℕ) (honest : ℕ → Bool) (s : ℕ → Replica R C Row) → T (listed n) → count n (λ j. not (honest j)) ≤ faults n →
    Evening g meaning n honest s → ((i : ℕ) → Honest g meaning n honest i → HasOffered (s i).life) →
    ((i j : ℕ) (xs : List ℕ) → Honest g meaning n honest i → Honest g meaning n honest j → (j ≢ i) → Said g n j (held meaning (s j)) xs → hear_answer_lem g n i j xs (held meaning (s i)) ≡ Ok Known) →
    AtRest g meaning n honest s
heard_rests g meaning laws settles n honest s li few e offered heard = record { offered = offered; heard = heard; still = λ i gi. always_still g meaning laws settles n honest s li few e i gi (offered i gi) }
