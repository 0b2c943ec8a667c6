-- A slot's listed steps, first those of its sheets and then those of its ballot. Assumes nothing.
use Rattle.std.proofs.Common.{◌≡◌, ℕ, zero, suc, ◌+◌, ◌<◌, ◌≤◌, Bool, true, false, cond, List, [], ◌∷◌, length, Some, None, Option, is_some, refl, sym, ap, ap₂, ◌∙◌, subst, arith, get_or-set_same, true≢false}
use Rattle.std.proofs.lemmas.List.{set-set, set-get_or}
use Rattle.std.specs.Option.{option_map}
use Rattle.basis.specs.Steps.{Step, stepped, settled, Idle}
use Rattle.ballots.specs.Listed.{Taking}
use Rattle.ballots.specs.States.{Opened, unopened}
use Rattle.ballots.proofs.Listing.{idle_settled}
use Rattle.messages.specs.declared.message.Phase.TheVariants.{Echo, Ready}
use Rattle.slots.specs.Places.{or_else}
use Rattle.slots.specs.Steps.{Slots, noted, echo_due, ready_due, delivery_due, delivered_by, next, go_on, settled as sheets_settled}
use Rattle.outcomes.specs.Holdings.{Setting, Holding, is_delivered, state_of, with_state}
use Rattle.outcomes.specs.SlotSteps.{Turn, with_sheets, ballot_of, with_taking, in_ballot, in_ballots, echo, ready, deliver}

module _ {M : Type 0} (ss : List (Step M)) where
  -- by the listed steps x comes to y in so many turns, and stays there
  abbrev pub Comes : ℕ → M → M → Type 0
  Comes u x y = (k : ℕ) → u ≤ k → settled ss k x ≡ y

  pub comes_idle : (u : ℕ) (x : M) → Idle ss x → Comes u x x
  comes_idle u x i k le = idle_settled ss k x i

  pub comes_turn : (u v : ℕ) (x t y : M) → u < v → stepped ss x ≡ t → Comes u t y → Comes v x y
  unfolding settled
  comes_turn u v x t y lt e h zero le = absurd (omega arith)
  comes_turn u v x t y lt e h (suc k) le = ap (λ (z : M). settled ss k z) e ∙ h k (omega arith)

  -- more turns change nothing once none applies
  pub settled_on : (u k : ℕ) (x : M) → u ≤ k → Idle ss (settled ss u x) → settled ss k x ≡ settled ss u x
  unfolding settled
  settled_on zero k x le i = idle_settled ss k x i
  settled_on (suc u) zero x le i = absurd (omega arith)
  settled_on (suc u) (suc k) x le i = settled_on u k (stepped ss x) (omega arith) i

cond_out : {X Y : Type 0} (f : X → Y) (b : Bool) (x y : X) → cond b (f x) (f y) ≡ f (cond b x y)
cond_out f true x y = refl
cond_out f false x y = refl

module _ {R C : Type 0} (g : Setting R C) (n own k : ℕ) where
  -- the three steps of the slot's sheets, by what they leave
  abbrev echoed : Slots R → Option (Slots R)
  echoed t = option_map (noted g.rows n own k Echo own t) (echo_due g.rows n own k t)

  abbrev readied : Slots R → Option (Slots R)
  readied t = option_map (noted g.rows n own k Ready own t) (ready_due g.rows n own k t)

  abbrev got : Slots R → Option (Slots R)
  got t = option_map (delivered_by g.rows n own k t) (delivery_due g.rows n own k t)

  -- the three before others
  abbrev pub sheets_first : List (Step (Turn R C)) → List (Step (Turn R C))
  sheets_first rest = echo g n own k ∷ (ready g n own k ∷ (deliver g n own k ∷ rest))

  abbrev turned : Turn R C → Turn R C → Option (Slots R) → Turn R C
  turned x z None = z
  turned x z (Some t) = with_sheets t x

  abbrev gone : Turn R C → Option (Slots R) → Turn R C
  gone x o = with_sheets (go_on g.rows n own k x.holding.slots o) x

  first_of : (x z : Turn R C) (a b c : Option (Slots R)) → cond (is_some a) (gone x a) (cond (is_some b) (gone x b) (cond (is_some c) (gone x c) z)) ≡ turned x z (or_else a (or_else b c))
  first_of x z (Some t) b c = refl
  first_of x z None (Some t) c = refl
  first_of x z None None (Some t) = refl
  first_of x z None None None = refl

  -- the first of the three that applies is taken, and else the rest is looked at
  sheets_turn : (rest : List (Step (Turn R C))) (x : Turn R C) → stepped (sheets_first rest) x ≡ turned x (stepped rest x) (next g.rows n own k x.holding.slots)
  sheets_turn rest x = let t = x.holding.slots in first_of x (stepped rest x) (echoed t) (readied t) (got t)

  none_of : (a b c : Option (Slots R)) → or_else a (or_else b c) ≡ None → (is_some a ≡ false) × (is_some b ≡ false) × (is_some c ≡ false)
  none_of (Some t) b c e = absurd (true≢false (ap (λ (o : Option (Slots R)). is_some o) e))
  none_of None (Some t) c e = absurd (true≢false (ap (λ (o : Option (Slots R)). is_some o) e))
  none_of None None (Some t) e = absurd (true≢false (ap (λ (o : Option (Slots R)). is_some o) e))
  none_of None None None e = (refl, refl, refl)

  pub sheets_idle : (rest : List (Step (Turn R C))) (x : Turn R C) → next g.rows n own k x.holding.slots ≡ None → Idle rest x → Idle (sheets_first rest) x
  sheets_idle rest x e i = let t = x.holding.slots in let z = none_of (echoed t) (readied t) (got t) e in (z.0, (z.1, (z.2, i)))

  -- where none of the three applies
  pub sheets_skipped : (rest : List (Step (Turn R C))) (x : Turn R C) → next g.rows n own k x.holding.slots ≡ None → stepped (sheets_first rest) x ≡ stepped rest x
  sheets_skipped rest x e = sheets_turn rest x ∙ ap (turned x (stepped rest x)) e

  pub stays : (fuel : ℕ) (t : Slots R) → next g.rows n own k t ≡ None → sheets_settled g.rows n own k fuel t ≡ t
  unfolding sheets_settled
  stays zero t e = refl
  stays (suc fuel) t e = ap (λ (o : Option (Slots R)). sheets_settled g.rows n own k fuel (go_on g.rows n own k t o)) e ∙ stays fuel t e

  -- the sheets take their steps, then the rest goes on
  pub sheets_come : (rest : List (Step (Turn R C))) (fuel u v : ℕ) (x y : Turn R C) → v ≡ fuel + u
      → Comes (sheets_first rest) u (with_sheets (sheets_settled g.rows n own k fuel x.holding.slots) x) y → Comes (sheets_first rest) v x y
  unfolding sheets_settled
  sheets_come rest zero u v x y q h = λ j le. h j (omega arith)
  sheets_come rest (suc fuel) u v x y q h = go (λ t. sheets_come rest fuel u (fuel + u) (with_sheets t x) y refl) (next g.rows n own k x.holding.slots) refl
    where
      Later : Slots R → Type 0
      Later t = Comes (sheets_first rest) u (with_sheets (sheets_settled g.rows n own k fuel t) x) y → Comes (sheets_first rest) (fuel + u) (with_sheets t x) y

      go : ((t : Slots R) → Later t) → (o : Option (Slots R)) → next g.rows n own k x.holding.slots ≡ o → Comes (sheets_first rest) v x y
      go further None e = λ j le. ap (λ (t : Slots R). settled (sheets_first rest) j (with_sheets t x)) (sym (stays (suc fuel) x.holding.slots e)) ∙ h j (omega arith)
      go further (Some t) e = comes_turn (sheets_first rest) (fuel + u) v x (with_sheets t x) y (omega arith) (sheets_turn rest x ∙ ap (turned x (stepped rest x)) e)
          (further t (subst (λ (z : Slots R). Comes (sheets_first rest) u (with_sheets (sheets_settled g.rows n own k fuel z) x) y) (ap (go_on g.rows n own k x.holding.slots) e) h))

  -- from here on the sheets of the slot have taken their steps, and the steps of its ballot are taken, in h
  module _ (h : Holding R C) (room : k < length h.ballots) where
    abbrev d : Bool
    d = is_delivered k h

    -- h with the slot's ballot and the markers changed
    abbrev pub put : Taking C → Turn R C
    put t = record { holding = with_state k t.state h; called = t.called; passed = t.passed }

    pub read_put : (t : Taking C) → ballot_of k (put t) ≡ t
    read_put t = ap (λ (o : Opened). record { state = record { ballot = o; rounds = t.state.rounds; coin = t.state.coin }; called = t.called; passed = t.passed }) (get_or-set_same h.ballots k t.state.ballot unopened room)

    put_put : (t u : Taking C) → with_taking k u (put t) ≡ put u
    put_put t u = ap (λ (os : List Opened). record { holding = record { life = h.life; slots = h.slots; ballots = os; rounds = u.state.rounds; coin = u.state.coin }; called = u.called; passed = u.passed })
        (set-set h.ballots k t.state.ballot u.state.ballot)

    pub put_same : (c p : ℕ) → put (record { state = state_of k h; called = c; passed = p }) ≡ record { holding = h; called = c; passed = p }
    put_same c p = ap (λ (os : List Opened). record { holding = record { life = h.life; slots = h.slots; ballots = os; rounds = h.rounds; coin = h.coin }; called = c; passed = p }) (set-get_or h.ballots k unopened)

    -- a turn of the slot is one of its ballot
    pub one_turn : (f : Bool → Step (Taking C)) (fs : List (Step (Turn R C))) (ts : List (Step (Taking C))) (t : Taking C) → stepped fs (put t) ≡ put (stepped ts t) → stepped (in_ballot k f ∷ fs) (put t) ≡ put (stepped (f d ∷ ts) t)
    one_turn f fs ts t e =
        ap (λ (z : Taking C). cond ((f d).applies z) (with_taking k ((f d).leaves z) (put t)) (stepped fs (put t))) (read_put t)
        ∙ ap₂ (λ (y z : Turn R C). cond ((f d).applies t) y z) (put_put t ((f d).leaves t)) e
        ∙ cond_out put ((f d).applies t) ((f d).leaves t) (stepped ts t)

    pub turns : (ts : List (Step (Taking C))) (t : Taking C) → stepped (in_ballots k ts) (put t) ≡ put (stepped ts t)
    turns [] t = refl
    turns (s ∷ ts) t = one_turn (λ b. s) (in_ballots k ts) ts t (turns ts t)

    pub one_idle : (f : Bool → Step (Taking C)) (t : Taking C) → (f d).applies t ≡ false → (in_ballot k f).applies (put t) ≡ false
    one_idle f t off = ap (λ (z : Taking C). (f d).applies z) (read_put t) ∙ off

    pub idles : (ts : List (Step (Taking C))) (t : Taking C) → Idle ts t → Idle (in_ballots k ts) (put t)
    idles [] t i = tt
    idles (s ∷ ts) t i = (one_idle (λ b. s) t i.0, idles ts t i.1)
