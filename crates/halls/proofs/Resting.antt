-- After a sweep that brings nothing new a hall is at rest, and there are not so many sweeps that bring something. Assumes nothing.
use Rattle.std.proofs.Common.{◌≡◌, ℕ, suc, ◌+◌, ◌-◌, ◌<◌, ◌≤◌, ◌≢◌, true, false, T, List, Ok, Err, Result, length, refl, sym, ap, ap₂, ◌∙◌, subst, ⊎_elim, rules, arith}
use Rattle.std.proofs.Math.Logic.{∥∥₁_elim, ∥∥₁_map}
use Rattle.std.proofs.lemmas.Bool.{cond-true, cond-false, false≢true}
use Rattle.std.proofs.lemmas.List.{get_or-map}
use Rattle.basis.proofs.Thirds.{at_most_16}
use Rattle.basis.specs.Halls.{listed}
use Rattle.basis.specs.Refusals.{Refused}
use Rattle.basis.specs.declared.heard.Heard.{Heard}
use Rattle.basis.specs.declared.heard.Heard.TheVariants.{New, Known}
use Rattle.claims.proofs.Calling.{evening_whole}
use Rattle.evenings.specs.Evenings.{held, nothing}
use Rattle.messages.specs.Reading.{PositionsApart}
use Rattle.messages.specs.Writing.{written}
use Rattle.news.proofs.Halls.{news_add}
use Rattle.outcomes.specs.Calls.{Said, HasSaid, HasOffered, look_after}
use Rattle.outcomes.specs.Hearing.{hear_answer_lem}
use Rattle.outcomes.specs.Holdings.{Life, Fresh, Running, Closed, sizes_ok}
use Rattle.phases.specs.Records.{meaning_of}
use Rattle.scripts.specs.declared.command.RuleName.{RuleName}
use Rattle.still_turns.proofs.Evenings.{always_still}
use Rattle.still_turns.proofs.Rules.{either_settles}
use Rattle.halls.specs.Faults.{misplaced, as_problem}
use Rattle.halls.specs.Halls.{HallRests}
use Rattle.halls.specs.Plays.{all_honest, Replicas, Shows, Played, HearsNew}
use Rattle.halls.specs.Scenes.{Scene, shown, till, nobody, if_offered, hearing}
use Rattle.halls.specs.States.{Held, setting_of, is_three}
use Rattle.halls.specs.Sweeps.{is_new, sweep, rested, most_sweeps}
use Rattle.halls.specs.Tills.{held_by}
use Rattle.halls.specs.declared.till.Till.{Till}
use Rattle.halls.proofs.Agreeing.{agreement, few}
use Rattle.halls.proofs.Beginning.{some_till}
use Rattle.halls.proofs.Settings.{lawful_setting}
use Rattle.halls.proofs.Sweeping.{sweep_same, sweep_old}

pub positions_apart : PositionsApart
positions_apart = search rules

-- what is not new and not refused is known
known_then : (r : Result Heard Refused) → is_new (as_problem r) ≡ false → ((e : Refused) → r ≢ Err e) → r ≡ Ok Known
known_then (Ok New) old fine = absurd (false≢true (sym old))
known_then (Ok Known) old fine = refl
known_then (Err e) old fine = absurd (fine e refl)

-- a till that has offered hears
hears_if : (l : Life) (r : Result Heard Refused) → HasOffered l → is_new (if_offered l (as_problem r) (Err misplaced)) ≡ false → is_new (as_problem r) ≡ false
hears_if Fresh r o e = absurd (⊎_elim (λ z. let y : ◌≡◌ {A = ℕ} 0 1 = cc in omega arith) (λ z. let y : ◌≡◌ {A = ℕ} 0 1 = cc in omega arith) o)
hears_if Running r o e = e
hears_if Closed r o e = e

module _ (rule : RuleName) (n : ℕ) (ts : List Till) (li : T (listed n)) (counted : length ts ≡ n) where
  -- the tills show what the replicas hold
  seen : (s : Replicas) → Shows n ts s → (i : ℕ) → i < n → till i (shown ts) ≡ held meaning_of (s i)
  seen s sh i lt = let inside : i < length ts = omega (arith, counted, lt) in let d = some_till ts i inside in get_or-map held_by ts i d nobody inside ∙ sym (sh i d lt)

  module _ (quiet_sweep : (sweep rule n (shown ts)).news ≡ false) (p : Played rule n ts) (s : Replicas) (sh : Shows n ts s) where
    -- any replicas that the tills show hold what those of the evening do
    same : (i : ℕ) → i < n → held meaning_of (p.now i) ≡ held meaning_of (s i)
    same i lt = sym (seen p.now p.shows i lt) ∙ seen s sh i lt

    fits : (j : ℕ) → j < n → sizes_ok n (till j (shown ts)) ≡ true
    fits j lt = subst (λ (h : Held). sizes_ok n h ≡ true) (sym (seen p.now p.shows j lt)) ((evening_whole (setting_of rule) meaning_of n all_honest (lawful_setting rule) li (few rule n li) p.evening).cast.well j (lt, refl)).sizes

    heard : (i j : ℕ) (xs : List ℕ) → i < n → j < n → (j ≢ i) → HasOffered (s i).life → HasOffered (s j).life → Said (setting_of rule) n j (held meaning_of (s j)) xs → hear_answer_lem (setting_of rule) n i j xs (held meaning_of (s i)) ≡ Ok Known
    heard i j xs li' lj ne oi oj said = known_then _ old fine
      where
        offers : (k : ℕ) → k < n → HasOffered (s k).life → HasOffered (till k (shown ts)).life
        offers k lt o = subst (λ (h : Held). HasOffered h.life) (sym (seen s sh k lt)) o

        unheard : is_new (hearing rule n i j (written said.message) (till i (shown ts))) ≡ false
        unheard = sweep_old rule n (at_most_16 n li) positions_apart (shown ts) quiet_sweep i j li' lj (λ e. ne (sym e)) (offers j lj oj) (fits j lj) said.message said.lawful (subst (λ (h : Held). HasSaid (setting_of rule) n j h said.message) (sym (seen s sh j lj)) said.has_said)

        old : is_new (as_problem (hear_answer_lem (setting_of rule) n i j xs (held meaning_of (s i)))) ≡ false
        old = hears_if (s i).life _ oi (ap₂ (λ (xs : List ℕ) (h : Held). is_new (hearing rule n i j xs h)) said.bytes (sym (seen s sh i li')) ∙ unheard)

        fine : (e : Refused) → hear_answer_lem (setting_of rule) n i j xs (held meaning_of (s i)) ≢ Err e
        fine e q =
            (agreement rule n li ts p p.now nothing).no_accusation i j xs e (li', refl) (lj, refl) ne
            (subst (λ (h : Held). Said (setting_of rule) n j h xs) (sym (same j lj)) said)
            (ap (hear_answer_lem (setting_of rule) n i j xs) (same i li') ∙ q)

    still : (i : ℕ) → i < n → HasOffered (s i).life → look_after (setting_of rule) n i (held meaning_of (s i)) ≡ held meaning_of (s i)
    still i lt o = subst (λ (h : Held). look_after (setting_of rule) n i h ≡ h) (same i lt)
        (always_still (setting_of rule) meaning_of (lawful_setting rule) (either_settles (is_three rule)) n all_honest p.now li (few rule n li) p.evening i (lt, refl) (subst (λ (h : Held). HasOffered h.life) (sym (same i lt)) o))

  pub hall_rests : (sweep rule n (shown ts)).news ≡ false → ∥ Played rule n ts ∥₁ → HallRests rule n ts
  hall_rests none p s sh offered all = ∥∥₁_map p (λ (q : Played rule n ts). record {
    offered = λ i gi. all i gi.0 gi.1;
    heard = λ i j xs gi gj ne said. heard none q s sh i j xs gi.0 gj.0 ne (all i gi.0 gi.1) (all j gj.0 gj.1) said;
    still = λ i gi. still none q s sh i gi.0 (all i gi.0 gi.1);
  })

  -- so many messages cannot be new
  pub too_many : {P : Type 0} (k : ℕ) (ts' : List Till) → most_sweeps ≤ k → ∥ Played rule n ts ∥₁ → HearsNew rule n k ts ts' → P
  too_many k ts' many p x = absurd (∥∥₁_elim p (λ a b. absurd a) (λ (q : Played rule n ts).
      let y = x q.now q.shows in
      let z = news_add (setting_of rule) meaning_of (lawful_setting rule) n all_honest q.now y.0 li (few rule n li) q.evening y.1 in
      let a = z.0 in let b = z.1 in let c = y.3 in omega (arith, a, b, c, many)))

-- scenes of the same parts
pub scene_is : (rule rule' : RuleName) (n n' : ℕ) (hs hs' : List Held) → rule ≡ rule' → n ≡ n' → hs ≡ hs' → ◌≡◌ {A = Scene} (record { rule = rule; n = n; tills = hs }) (record { rule = rule'; n = n'; tills = hs' })
scene_is rule rule' n n' hs hs' a b e = λ i. record { rule = a i; n = b i; tills = e i }

-- the sweeps that are left
module _ (rule : RuleName) (n : ℕ) where
  next : (t : ℕ) → t < most_sweeps → most_sweeps - t ≡ suc (most_sweeps - (t + 1))
  next t lt = omega (arith, lt)

  pub rested_more : (t : ℕ) (hs hs' ys : List Held) → t < most_sweeps → record { news = true; tills = hs' } ≡ sweep rule n hs → rested rule n (most_sweeps - t) hs ≡ ys → rested rule n (most_sweeps - (t + 1)) hs' ≡ ys
  unfolding rested
  rested_more t hs hs' ys lt swept e =
      sym (cond-true (sweep rule n hs).news (rested rule n (most_sweeps - (t + 1)) (sweep rule n hs).tills) (sweep rule n hs).tills (sym (ap (λ (z : Rattle.halls.specs.Sweeps.Hearing). z.news) swept))
      ∙ ap (λ (z : Rattle.halls.specs.Sweeps.Hearing). rested rule n (most_sweeps - (t + 1)) z.tills) (sym swept))
      ∙ ap (λ (k : ℕ). rested rule n k hs) (sym (next t lt)) ∙ e

  pub rested_end : (t : ℕ) (hs hs' ys : List Held) → t < most_sweeps → record { news = false; tills = hs' } ≡ sweep rule n hs → rested rule n (most_sweeps - t) hs ≡ ys → hs' ≡ ys
  unfolding rested
  rested_end t hs hs' ys lt swept e =
      sym (cond-false (sweep rule n hs).news (rested rule n (most_sweeps - (t + 1)) (sweep rule n hs).tills) (sweep rule n hs).tills (sym (ap (λ (z : Rattle.halls.specs.Sweeps.Hearing). z.news) swept))
      ∙ ap (λ (z : Rattle.halls.specs.Sweeps.Hearing). z.tills) (sym swept))
      ∙ ap (λ (k : ℕ). rested rule n k hs) (sym (next t lt)) ∙ e

  -- a sweep that brought nothing new would bring nothing again
  pub again_none : (hs hs' : List Held) → n ≤ 16 → record { news = false; tills = hs' } ≡ sweep rule n hs → (sweep rule n hs').news ≡ false
  again_none hs hs' small swept =
      let none = sym (ap (λ (z : Rattle.halls.specs.Sweeps.Hearing). z.news) swept) in
      subst (λ (ys : List Held). (sweep rule n ys).news ≡ false) (sym (sweep_same rule n small positions_apart hs none) ∙ sym (ap (λ (z : Rattle.halls.specs.Sweeps.Hearing). z.tills) swept)) none
