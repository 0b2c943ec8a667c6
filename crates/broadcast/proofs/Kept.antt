-- What joins the tables of a hall's replicas, kept however honest replicas move. Assumes nothing.
use Rattle.std.proofs.Common.{◌≡◌, ℕ, ◌<◌, ◌≤◌, Bool, true, not, ◌&&◌, eqb, List, Some, None, sym, refl, subst, ⊎_elim, arith}
use Rattle.std.proofs.lemmas.Bool.{and_parts}
use Rattle.basis.specs.Counts.{count}
use Rattle.basis.specs.Halls.{faults, quorum}
use Rattle.basis.proofs.Counts.{one_honest}
use Rattle.messages.specs.declared.message.Phase.{Phase}
use Rattle.messages.specs.declared.message.Phase.TheVariants.{Echo, Ready}
use Rattle.sheets.specs.Holds.{Rows, holds}
use Rattle.slots.specs.Steps.{Slots}
use Rattle.broadcast.specs.Calls.{may_send}
use Rattle.broadcast.proofs.Tables.{other_not, holds_some, none_some}
use Rattle.broadcast.proofs.Moves.{at, many, many_grow, Sound, Moves}

module _ {R : Type 0} (rows : Rows R) (n : ℕ) (honest : ℕ → Bool) where
  abbrev pub Good : ℕ → Type 0
  Good i = (i < n) × (honest i ≡ true)

  -- some honest replica has a quorum of echoes
  abbrev pub Echoed : (ℕ → Slots R) → ℕ → List ℕ → Type 0
  Echoed s k x = (l : ℕ) × Good l × (quorum n ≤ many rows n (s l) Echo k x)

  -- an honest sender's messages are those that it has said, and a ready goes back to a quorum of echoes
  pub record Kept (s : ℕ → Slots R) : Type 0 where
    pub sound : (i : ℕ) → Good i → Sound rows n i (s i)
    pub authentic : (i j : ℕ) (ph : Phase) (k : ℕ) (x : List ℕ) → Good i → Good j → k < n → may_send ph k j ≡ true → at rows n (s i) ph k j ≡ Some x → at rows n (s j) ph k j ≡ Some x
    pub origin : (i k : ℕ) (x : List ℕ) → Good i → k < n → at rows n (s i) Ready k i ≡ Some x → Echoed s k x

  -- what an honest sender may be quoted with
  abbrev pub Quoted : (ℕ → Slots R) → Phase → ℕ → ℕ → List ℕ → Type 0
  Quoted s ph k j x = honest j ≡ true → at rows n (s j) ph k j ≡ Some x

  pub kept_moved : count n (λ j. not (honest j)) ≤ faults n → (s s' : ℕ → Slots R) → ((j : ℕ) → Good j → Moves rows n j (Quoted s) (s j) (s' j)) → Kept s → Kept s'
  kept_moved few s s' moves kp = record {
    sound = λ j gj. (moves j gj).sound;
    authentic = λ l j ph k x gl gj lk m h. ⊎_elim (λ old. (moves j gj).grows.sheets ph k j x lk gj.0 (kp.authentic l j ph k x gl gj lk m old))
        (⊎_elim (λ own. subst (λ (z : ℕ). at rows n (s' z) ph k j ≡ Some x) (sym own) h) (λ ok. (moves j gj).grows.sheets ph k j x lk gj.0 (ok gj.1))) ((moves l gl).only ph k j x lk gj.0 m h);
    origin = λ l k x gl lk h. ⊎_elim (λ enough. (l, gl, enough))
        (λ enough.
        let o = one_honest (faults n) n (λ j. holds x (at rows n (s' l) Ready k j) && not (eqb j l)) honest few enough in
        let p = and_parts _ _ o.2 in
        let go : Good o.0 = (o.1, o.3) in
        later k x lk (kp.origin o.0 k x go lk (⊎_elim (λ old. kp.authentic l o.0 Ready k x gl go lk refl old) (⊎_elim (λ own. absurd (other_not l o.0 p.1 own)) (λ ok. ok o.3))
        ((moves l gl).only Ready k o.0 x lk o.1 refl (holds_some x _ p.0)))))
        ((moves l gl).sound.ready k x lk h);
  }
    where
      later : (k : ℕ) (x : List ℕ) → k < n → Echoed s k x → Echoed s' k x
      later k x lk o = let m = many_grow rows n (moves o.0 o.1).grows Echo k x lk in (o.0, o.1, omega (arith, o.2))

  pub kept_empty : (s : ℕ → Slots R) → ((i : ℕ) → Good i → Sound rows n i (s i)) → ((i : ℕ) (ph : Phase) (k j : ℕ) → Good i → k < n → j < n → at rows n (s i) ph k j ≡ None) → Kept s
  kept_empty s sound nothing = record {
    sound = sound;
    authentic = λ i j ph k x gi gj lk m h. absurd (none_some (nothing i ph k j gi lk gj.0) h);
    origin = λ i k x gi lk h. absurd (none_some (nothing i Ready k i gi lk gi.0) h);
  }
