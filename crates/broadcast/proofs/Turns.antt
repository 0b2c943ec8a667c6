-- Every call keeps what is known of a replica, and takes in only what it may. Assumes nothing.
use Rattle.std.proofs.Common.{◌≡◌, ℕ, ◌*◌, ◌<◌, ◌≤◌, true, List, Some, None, Ok, Err, Result, sym, refl, ap, ◌∙◌, subst, inl, inr, le_refl, arith}
use Rattle.std.proofs.lemmas.Bool.{and_parts, and_from, leb-true, le-leb, eq-eqb, cond-true}
use Rattle.basis.specs.Refusals.{Refused}
use Rattle.basis.specs.Bytes.{Octets}
use Rattle.messages.specs.declared.message.Phase.{Phase}
use Rattle.messages.specs.declared.message.Phase.TheVariants.{Send, Echo, Ready}
use Rattle.messages.specs.Reading.{Syntax, reading}
use Rattle.slots.proofs.Positions.{place_within}
use Rattle.sheets.specs.Holds.{Rows}
use Rattle.slots.specs.Places.{place}
use Rattle.slots.specs.Steps.{Slots}
use Rattle.broadcast.specs.Calls.{Life, Fresh, Running, Holding, sizes_ok, hear_answer, taken, if_new, hear_after, offer_after, look_after, Opened}
use Rattle.basis.specs.declared.heard.Heard.{Heard}
use Rattle.basis.specs.declared.heard.Heard.TheVariants.{New, Known}
use Rattle.broadcast.specs.Claims.{RowLaws}
use Rattle.broadcast.proofs.Tables.{none_some, some_inj, noted_here}
use Rattle.broadcast.proofs.Moves.{at, Sound, Grows, Moves, moves_none, moves_on, note_moves}
use Rattle.broadcast.proofs.Settling.{settled_moves, looked_moves}
use Rattle.broadcast.proofs.Hearing.{Takes, takes}

module _ {R : Type 0} (rows : Rows R) (y : Syntax) where
  -- what is known of a replica
  pub record Well (own : ℕ) (t : Holding R) : Type 0 where
    pub rounds_fit : 15 * y.replicas ≤ t.rounds
    pub sound : Sound rows y.replicas own t.slots
    pub began : t.life ≡ Running → (x : List ℕ) × (at rows y.replicas t.slots Send own own ≡ Some x)
    pub fresh : t.life ≡ Fresh → at rows y.replicas t.slots Send own own ≡ None

  pub well_sizes : {own : ℕ} {t : Holding R} → Well own t → sizes_ok y.replicas t ≡ true
  well_sizes w = and_from _ _ (le-leb _ _ w.sound.records_fit) (and_from _ _ (le-leb _ _ w.rounds_fit) (le-leb _ _ w.sound.places_fit))

  pub record Turn (own : ℕ) (ok : Phase → ℕ → ℕ → List ℕ → Type 0) (t t' : Holding R) : Type 0 where
    pub well : Well own t'
    pub moves : Moves rows y.replicas own ok t.slots t'.slots

  pub turn_none : {own : ℕ} {ok : Phase → ℕ → ℕ → List ℕ → Type 0} {t : Holding R} → Well own t → Turn own ok t t
  turn_none w = record { well = w; moves = moves_none rows y.replicas w.sound }

  fresh_running : {l : Life} → l ≡ Fresh → l ≡ Running → ⊥
  fresh_running p q = let z : ◌≡◌ {A = ℕ} 0 1 = cc in omega arith

  -- a running replica's tables change
  turn_running : {own : ℕ} {ok : Phase → ℕ → ℕ → List ℕ → Type 0} {t : Holding R} {u : Slots R} → own < y.replicas → Well own t → t.life ≡ Running → Moves rows y.replicas own ok t.slots u → Turn own ok t (record { life = t.life; slots = u; rounds = t.rounds })
  turn_running {own} lo w live m = record {
    well = record { rounds_fit = w.rounds_fit; sound = m.sound; began = λ e. let b = w.began e in (b.0, m.grows.sheets Send own own b.0 lo lo b.1); fresh = λ e. absurd (fresh_running e live) };
    moves = m;
  }

  -- a running replica sends nothing more
  pub running_sent : {own : ℕ} {t : Holding R} {u : Slots R} {x : List ℕ} → own < y.replicas → Well own t → t.life ≡ Running → Grows rows y.replicas t.slots u → at rows y.replicas u Send own own ≡ Some x → at rows y.replicas t.slots Send own own ≡ Some x
  running_sent {own} lo w live g h = let b = w.began live in b.1 ∙ ap Some (some_inj (g.sheets Send own own b.0 lo lo b.1) h)

  module _ (laws : RowLaws rows y.size y.lawful) (own : ℕ) (lo : own < y.replicas) (ok : Phase → ℕ → ℕ → List ℕ → Type 0) (t : Holding R) (w : Well own t) where
    pub offer_turn : (s : List ℕ) → t.life ≡ Fresh → y.lawful s ≡ true → Octets s → Turn own ok t (offer_after rows y own s t) × (at rows y.replicas (offer_after rows y own s t).slots Send own own ≡ Some s)
    offer_turn s new law oct =
        let n = y.replicas in
        let a = note_moves rows n laws own lo t.slots w.sound own lo Send own s lo (eq-eqb own own refl) law oct (w.fresh new) ok (λ _. tt) (inl refl) in
        let b = settled_moves rows n laws own lo {ok = ok} own lo 3 _ a.sound in
        let here = b.grows.sheets Send own own s lo lo (noted_here rows n own own Send own t.slots s laws lo lo w.sound.places_fit law oct) in
        subst (λ (z : Holding R). Turn own ok t z × (at rows n z.slots Send own own ≡ Some s)) (sym (cond-true (sizes_ok n t) _ t (well_sizes w))) (
          record {
            well = record { rounds_fit = w.rounds_fit; sound = b.sound; began = λ _. (s, here); fresh = λ e. absurd (fresh_running e refl) };
            moves = moves_on rows n a b;
          },
          here,
        )

    pub look_turn : t.life ≡ Running → Turn own ok t (look_after rows y own t)
    look_turn live = subst (λ (z : Holding R). Turn own ok t z) (sym (cond-true (sizes_ok y.replicas t) _ t (well_sizes w))) (turn_running lo w live (looked_moves rows y laws own lo y.replicas (le_refl _) t.slots w.sound))

    -- what is taken in may be taken in
    abbrev Vouched : ℕ → List ℕ → Type 0
    Vouched j xs = (m : Takes rows y own j xs t.slots) → ok m.phase m.slot j m.sheet

    pub hear_turn : (j : ℕ) (xs : List ℕ) → t.life ≡ Running → Octets xs → Vouched j xs → Turn own ok t (hear_after rows y own j xs t)
    hear_turn j xs live oct vouched = go (hear_answer rows y own j xs t) refl
      where
        go : (r : Result Heard Refused) → hear_answer rows y own j xs t ≡ r → Turn own ok t (if_new r (record { life = t.life; slots = taken rows y own j t.slots (reading y xs); rounds = t.rounds }) t)
        go (Ok New) e =
            let n = y.replicas in
            let m = takes rows y laws own j xs t oct e in
            let a = note_moves rows n laws own lo t.slots w.sound m.slot m.low m.phase j m.sheet m.sender m.allowed m.lawful m.octets m.free ok (λ q. absurd (m.other q)) (inr (vouched m)) in
            let b = settled_moves rows n laws own lo {ok = ok} m.slot m.low 3 _ a.sound in
            turn_running lo w live (subst (λ (z : Slots R). Moves rows n own ok t.slots z) (sym (ap (taken rows y own j t.slots) m.read)) (moves_on rows n a b))
        go (Ok Known) e = turn_none w
        go (Err r) e = turn_none w

  -- what open leaves
  pub opened_well : (own : ℕ) (t : Holding R) → own < y.replicas → Opened rows y t → Well own t
  opened_well own t lo o =
      let p = and_parts _ _ o.sizes in
      let q = and_parts _ _ p.1 in
      record {
        rounds_fit = leb-true _ _ q.0;
        sound = record {
          records_fit = leb-true _ _ p.0;
          places_fit = leb-true _ _ q.1;
          echo = λ k x lk e. absurd (none_some (nothing Echo k lk) e);
          ready = λ k x lk e. absurd (none_some (nothing Ready k lk) e);
          got = λ k j lk e. absurd (none_some (o.undelivered k lk) e);
        };
        began = λ e. absurd (fresh_running o.fresh e);
        fresh = λ _. nothing Send own lo;
      }
    where
      nothing : (ph : Phase) (k : ℕ) → k < y.replicas → at rows y.replicas t.slots ph k own ≡ None
      nothing ph k lk = o.empty (place y.replicas ph k own) (place_within y.replicas ph k own lk lo)
