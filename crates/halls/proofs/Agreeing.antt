-- The closing records of a hall are alike, and stay. Assumes nothing.
use Rattle.std.proofs.Common.{◌≡◌, ℕ, zero, suc, ◌<◌, ◌≤◌, T, true, Bool, not, List, Some, sym, refl, ap, ◌∙◌, subst, get_or, arith}
use Rattle.std.proofs.Math.Logic.{∥∥₁_elim}
use Rattle.std.proofs.Props.{props}
use Rattle.basis.specs.Counts.{count}
use Rattle.basis.specs.Halls.{listed, faults}
use Rattle.basis.proofs.Thirds.{at_most_16}
use Rattle.coins.specs.Coins.{Tossed}
use Rattle.coins.specs.Dealt.{dealt_acts, dealt_bit_lem}
use Rattle.coins.specs.declared.dealt.DealtCoin.{DealtCoin}
use Rattle.claims.proofs.Calling.{turned_by, leads_after, whole_begun, evening_whole}
use Rattle.claims.proofs.Filling.{evenings_agree}
use Rattle.claims.proofs.Halls.{at_upd, Whole}
use Rattle.evenings.specs.Claims.{CoinsAgree, Agreement}
use Rattle.evenings.specs.Evenings.{Replica, Leads, nothing, called}
use Rattle.outcomes.specs.Closing.{closing_view, closing_record}
use Rattle.outcomes.specs.Holdings.{Closed as IsClosed}
use Rattle.phases.specs.Records.{meaning_of}
use Rattle.phases.specs.declared.round.PhasedRound.{PhasedRound}
use Rattle.scripts.specs.declared.command.RuleName.{RuleName}
use Rattle.sheets.specs.OfTakings.{takings_rows}
use Rattle.sheets.specs.declared.kinds.TakingsRow.{TakingsRow}
use Rattle.halls.specs.States.{Held, setting_of, life_of, is_closed}
use Rattle.halls.specs.Plays.{all_honest, Replicas, Shows, Played, GoesOn, Alike, RecordsStay}
use Rattle.halls.specs.declared.state.Active.TheVariants.{Running, Closed}
use Rattle.halls.specs.declared.state.State.{State}
use Rattle.halls.specs.declared.state.State.TheVariants as state
use Rattle.halls.specs.declared.till.Till.{Till}
use Rattle.halls.proofs.Playing.{leads_then, same_some}
use Rattle.halls.proofs.Settings.{lawful_setting}

no_faulty : (n : ℕ) → count n (λ j. not (all_honest j)) ≡ 0
unfolding count
no_faulty zero = refl
no_faulty (suc n) = let z = no_faulty n in omega (arith, z)

closed_life : (st : State) → is_closed st ≡ true → life_of st ≡ IsClosed
closed_life (state.Fresh f) e = absurd (let z : ◌≡◌ {A = ℕ} 0 1 = cc in omega arith)
closed_life (state.Active (Running r)) e = absurd (let z : ◌≡◌ {A = ℕ} 0 1 = cc in omega arith)
closed_life (state.Active (Closed c)) e = refl
closed_life state.Gone e = absurd (let z : ◌≡◌ {A = ℕ} 0 1 = cc in omega arith)

pub life_closed : (st : State) → life_of st ≡ IsClosed → is_closed st ≡ true
life_closed (state.Fresh f) e = absurd (let z : ◌≡◌ {A = ℕ} 0 1 = cc in omega arith)
life_closed (state.Active (Running r)) e = absurd (let z : ◌≡◌ {A = ℕ} 0 1 = cc in omega arith)
life_closed (state.Active (Closed c)) e = refl
life_closed state.Gone e = absurd (let z : ◌≡◌ {A = ℕ} 0 1 = cc in omega arith)

module _ (rule : RuleName) (n : ℕ) (li : T (listed n)) where
  pub few : count n (λ j. not (all_honest j)) ≤ faults n
  few = let z = no_faulty n in omega arith

  abbrev LeadsTo : Replicas → Replicas → Type 0
  LeadsTo s s' = Leads (setting_of rule) meaning_of n all_honest s s'

  abbrev IsWhole : Replicas → Type 0
  IsWhole s = Whole (setting_of rule) meaning_of n all_honest (lawful_setting rule).rows s

  -- a bit that a coin shows stays
  shown_stays : {s s' : Replicas} → IsWhole s → LeadsTo s s' → (i k r : ℕ) → i < n → Tossed k r → (b : Bool) → dealt_acts.shown (s i).coin k r ≡ Some b → dealt_acts.shown (s' i).coin k r ≡ Some b
  shown_stays w nothing i k r lt to b e = e
  shown_stays w (called {s'} d j c hj can au t q) i k r lt to b e =
      let was = shown_stays w d i k r lt to b e in
      at_upd (λ (z : Replica TakingsRow DealtCoin PhasedRound). dealt_acts.shown z.coin k r ≡ Some b) s' j i t
      (λ same. (turned_by (setting_of rule) meaning_of n all_honest (lawful_setting rule) li few s' (leads_after (setting_of rule) meaning_of n all_honest (lawful_setting rule) li few w d).whole j hj c can au t q).coin.shown k r to b
      (subst (λ (z : ℕ). dealt_acts.shown (s' z).coin k r ≡ Some b) same was))
      (λ _. was)

  module _ (ts : List Till) (p : Played rule n ts) where
    coins_agree : (s' : Replicas) → LeadsTo p.now s' → CoinsAgree (setting_of rule) meaning_of n all_honest s'
    coins_agree s' l i j k r b c gi gj lk lo hi eb ec = same_some (sym eb ∙ shows i gi.0 ∙ sym (shows j gj.0) ∙ ec)
      where
        to : Tossed k r
        to = record { ballot_below = omega (arith, at_most_16 n li, lk); round_from = lo; round_to = hi }

        shows : (i : ℕ) → i < n → dealt_acts.shown (s' i).coin k r ≡ Some (dealt_bit_lem p.coin k r)
        shows i lt =
            shown_stays (whole_begun (setting_of rule) meaning_of n all_honest (lawful_setting rule) li few p.evening.start p.evening.opened) (leads_then rule n p.evening.calls l) i k r lt to (dealt_bit_lem p.coin k r)
            (ap (λ (z : DealtCoin). dealt_acts.shown z k r) (p.dealt i lt))

    pub agreement : (s' : Replicas) → LeadsTo p.now s' → Agreement (setting_of rule) meaning_of n all_honest p.now s'
    agreement s' l = evenings_agree (setting_of rule) meaning_of (lawful_setting rule) n all_honest p.now s' li few p.evening l (coins_agree s' l)

    abbrev held_record : Held → List ℕ
    held_record h = closing_record takings_rows n (closing_view h) 12 1

    closed_at : (i : ℕ) (d : Till) → i < n → is_closed (get_or ts i d).state ≡ true → (p.now i).life ≡ IsClosed
    closed_at i d lt c = ap (λ (h : Held). h.life) (p.shows i d lt) ∙ closed_life (get_or ts i d).state c

    pub alike : Alike n ts
    alike i j d lt lt' ci cj =
        ap held_record (sym (p.shows i d lt))
        ∙ (agreement p.now nothing).same_records i j (lt, refl) (lt', refl) (closed_at i d lt ci) (closed_at j d lt' cj)
        ∙ ap held_record (p.shows j d lt')

    pub records_stay : (ts' : List Till) → GoesOn rule n ts ts' → RecordsStay n ts ts'
    records_stay ts' goes i d lt c = (
      life_closed (get_or ts' i d).state (sym (ap (λ (h : Held). h.life) (x.2 i d lt)) ∙ closed_then),
      ap held_record (sym (x.2 i d lt)) ∙ sym ((agreement x.0 x.1).same_records i i (lt, refl) (lt, refl) (closed_at i d lt c) closed_then) ∙ ap held_record (p.shows i d lt),
    )
      where
        x : (s' : Replicas) × LeadsTo p.now s' × Shows n ts' s'
        x = goes p.now p.shows

        closed_then : (x.0 i).life ≡ IsClosed
        closed_then =
            ((leads_after (setting_of rule) meaning_of n all_honest (lawful_setting rule) li few (evening_whole (setting_of rule) meaning_of n all_honest (lawful_setting rule) li few p.evening) x.1).grown i (lt, refl)).closed (closed_at i d lt c)

pub alike_of : (rule : RuleName) (n : ℕ) (ts : List Till) → T (listed n) → ∥ Played rule n ts ∥₁ → Alike n ts
alike_of rule n ts li p i j d lt lt' ci cj = ∥∥₁_elim p (search props) (λ (q : Played rule n ts). alike rule n li ts q i j d lt lt' ci cj)

pub stays_of : (rule : RuleName) (n : ℕ) (ts : List Till) → T (listed n) → ∥ Played rule n ts ∥₁ → (ts' : List Till) → GoesOn rule n ts ts' → RecordsStay n ts ts'
stays_of rule n ts li p ts' goes i d lt c = (
  ∥∥₁_elim p (search props) (λ (q : Played rule n ts). (records_stay rule n li ts q ts' goes i d lt c).0),
  ∥∥₁_elim p (search props) (λ (q : Played rule n ts). (records_stay rule n li ts q ts' goes i d lt c).1),
)
