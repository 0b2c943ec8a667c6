-- An evening in which no replica is faulty is one in which some are, that are quoted with what they would have said. Assumes nothing.
use Rattle.std.proofs.Common.{◌≡◌, ℕ, Bool, true, sym, refl, ap, ◌∙◌, subst, ⊎_elim}
use Rattle.std.proofs.lemmas.Bool.{cases_Bool, cases_eq, both_ways}
use Rattle.outcomes.specs.Calls.{Call, offer, hear, look, say, close, list, write, Allowed, Said, call_after}
use Rattle.outcomes.specs.Holdings.{Setting}
use Rattle.rules.specs.Rounds.{Round}
use Rattle.evenings.specs.Evenings.{Replica, held, upd, Authentic, Leads, nothing, called}
use Rattle.sheet_turns.proofs.Halls.{upd_here, upd_there}
use Rattle.evening_witness.specs.Witness.{everyone}

module _ {R C Row : Type 0} (g : Setting R C) (meaning : Row → Round) (n : ℕ) (honest : ℕ → Bool) (start : ℕ → Replica R C Row) where
  abbrev Hall : Type 0
  Hall = ℕ → Replica R C Row

  -- the honest replicas are the same
  abbrev Same : Hall → Hall → Type 0
  Same s u = (i : ℕ) → honest i ≡ true → u i ≡ s i

  still_authentic : (s u : Hall) → Same s u → (i : ℕ) (c : Call) → Authentic g meaning n everyone s i c → Authentic g meaning n honest u i c
  still_authentic s u same i (offer x) a = tt
  still_authentic s u same i (hear j xs) a = λ lj hj ne. subst (λ (t : Replica R C Row). Said g n j (held meaning t) xs) (sym (same j hj)) (a lj refl ne)
  still_authentic s u same i look a = tt
  still_authentic s u same i (say from) a = tt
  still_authentic s u same i close a = tt
  still_authentic s u same i (list index) a = tt
  still_authentic s u same i write a = tt

  pub fewer : (s : Hall) → Leads g meaning n everyone start s → (u : Hall) × Leads g meaning n honest start u × ((i : ℕ) → honest i ≡ true → u i ≡ s i)
  fewer s nothing = (start, nothing, λ i h. refl)
  fewer s (called {s'} r i c low can au t e) = go (fewer s' r)
    where
      go : (u : Hall) × Leads g meaning n honest start u × Same s' u → (u : Hall) × Leads g meaning n honest start u × Same (upd s' i t) u
      go (u, ru, same) = ⊎_elim
          (λ h. (
            upd u i t,
            called ru i c (low.0, h) (subst (λ (y : Replica R C Row). Allowed g c (held meaning y)) (sym (same i h)) can) (still_authentic s' u same i c au) t (e ∙ ap (λ (y : Replica R C Row). call_after g n i c (held meaning y)) (sym (same i h))),
            λ l hl. ⊎_elim (λ d. subst (λ (z : ℕ). upd u i t z ≡ upd s' i t z) (sym d) (upd_here u i t ∙ sym (upd_here s' i t))) (λ ne. upd_there u i l t ne ∙ same l hl ∙ sym (upd_there s' i l t ne)) (cases_eq l i),
          ))
          (λ f. (u, ru, λ l hl. same l hl ∙ sym (upd_there s' i l t (λ d. both_ways (honest i) f (ap honest (sym d) ∙ hl))))) (cases_Bool (honest i))
