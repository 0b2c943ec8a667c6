-- A hall whose tills are all opened begins an evening. Assumes nothing.
use Rattle.std.proofs.Common.{◌≡◌, ℕ, zero, suc, ◌+◌, ◌<◌, ◌≢◌, ◌⊎◌, List, [], ◌∷◌, ◌++◌, Some, length, replicate, sym, refl, ap, ap₂, ◌∙◌, subst, inl, inr, get_or, arith}
use Rattle.std.proofs.lemmas.Bool.{cases_eq}
use Rattle.std.proofs.lemmas.List.{get_or_append_left, get_or_push, length-append, map-append, replicate_more}
use Rattle.coins.specs.declared.dealt.DealtCoin.{DealtCoin}
use Rattle.evenings.specs.Evenings.{Replica, held, nothing}
use Rattle.outcomes.specs.Holdings.{Fresh}
use Rattle.outcomes.specs.Opening.{Opened}
use Rattle.phases.specs.Records.{meaning_of}
use Rattle.phases.specs.declared.round.PhasedRound.{PhasedRound}
use Rattle.scripts.specs.declared.command.RuleName.{RuleName}
use Rattle.sheets.specs.declared.kinds.TakingsRow.{TakingsRow}
use Rattle.halls.specs.Scenes.{newly_opened}
use Rattle.halls.specs.States.{Held, setting_of, numbers_in}
use Rattle.halls.specs.Tills.{replica_of, held_by}
use Rattle.halls.specs.Plays.{Replicas, Played, OpenedTo}
use Rattle.halls.specs.declared.till.Till.{Till}

pub none_opened : (n coin : ℕ) → OpenedTo n coin 0 []
none_opened n coin = record { shows = refl; counted = refl; seated = λ i d lt. absurd (omega arith); fresh = λ rule i d lt. absurd (omega arith); dealt = λ i d lt. absurd (omega arith) }

-- one more till is opened, the next
module _ (n coin m : ℕ) (ts : List Till) (t : Till) (o : OpenedTo n coin m ts) where
  -- what holds of the tills before and of the next holds of all
  more : (P : ℕ → Till → Type 0) → ((i : ℕ) (d : Till) → i < m → P i (get_or ts i d)) → P m t → (i : ℕ) (d : Till) → i < m + 1 → (i ≡ m) ⊎ (i ≢ m) → P i (get_or (ts ++ t ∷ []) i d)
  more P old new i d lt (inl e) = subst (λ (z : ℕ). P z (get_or (ts ++ t ∷ []) z d)) (sym e) (subst (P m) (sym (get_or_push ts t d m o.counted)) new)
  more P old new i d lt (inr ne) = let inside : i < m = omega (arith, lt, ne) in subst (P i) (sym (get_or_append_left ts (t ∷ []) d i (subst (λ (z : ℕ). i < z) (sym o.counted) inside))) (old i d inside)

  pub one_opened : numbers_in t.state ≡ Some (record { n = n; own = m }) → ((rule : RuleName) → Opened (setting_of rule) n m (held_by t)) → t.coin ≡ record { numbers = replicate 16 coin } → held_by t ≡ newly_opened n coin → OpenedTo n coin (m + 1) (ts ++ t ∷ [])
  one_opened numbers fresh dealt holds = record {
    shows = map-append held_by ts (t ∷ []) ∙ ap₂ (λ (hs : List Held) (h : Held). hs ++ h ∷ []) o.shows holds ∙ replicate_more m (newly_opened n coin);
    counted = length-append ts (t ∷ []) ∙ ap (λ (z : ℕ). z + 1) o.counted;
    seated = λ i d lt. more (λ k x. numbers_in x.state ≡ Some (record { n = n; own = k })) o.seated numbers i d lt (cases_eq i m);
    fresh = λ rule i d lt. more (λ k x. Opened (setting_of rule) n k (held_by x)) (o.fresh rule) (fresh rule) i d lt (cases_eq i m);
    dealt = λ i d lt. more (λ k x. x.coin ≡ record { numbers = replicate 16 coin }) o.dealt dealt i d lt (cases_eq i m);
  }

-- a till of a list that has one
pub some_till : (us : List Till) (i : ℕ) → i < length us → Till
some_till [] i lt = absurd (omega arith)
some_till (t ∷ us) i lt = t

-- the replica of till i, and any beyond
replica_at : DealtCoin → List Till → Replicas
replica_at coin [] i = record { life = Fresh; records = []; rounds = []; places = []; coin = coin }
replica_at coin (t ∷ ts) zero = replica_of t
replica_at coin (t ∷ ts) (suc i) = replica_at coin ts i

stands_at : (coin : DealtCoin) (ts : List Till) (i : ℕ) (d : Till) → i < length ts → replica_at coin ts i ≡ replica_of (get_or ts i d)
unfolding replica_at
stands_at coin [] i d lt = absurd (omega arith)
stands_at coin (t ∷ ts) zero d lt = refl
stands_at coin (t ∷ ts) (suc i) d lt = stands_at coin ts i d (omega (arith, lt))

pub begun : (rule : RuleName) (n number : ℕ) (ts : List Till) → OpenedTo n number n ts → Played rule n ts
begun rule n number ts o = record {
  now = replica_at coin ts;
  evening = record { start = replica_at coin ts; opened = λ i fine. opened i fine.0; calls = nothing };
  shows = λ i d lt. ap (held meaning_of) (stands_at coin ts i d (within i lt));
  coin = coin;
  dealt = λ i lt. dealt ts i o.dealt lt (within i lt);
}
  where
    coin : DealtCoin
    coin = record { numbers = replicate 16 number }

    within : (i : ℕ) → i < n → i < length ts
    within i lt = subst (λ (z : ℕ). i < z) (sym o.counted) lt

    opened_of : (us : List Till) (i : ℕ) → ((d : Till) → Opened (setting_of rule) n i (held_by (get_or us i d))) → i < length us → (d : Till) → Opened (setting_of rule) n i (held meaning_of (replica_at coin us i))
    opened_of us i f lt d = subst (λ (z : Replica TakingsRow DealtCoin PhasedRound). Opened (setting_of rule) n i (held meaning_of z)) (sym (stands_at coin us i d lt)) (f d)

    opened : (i : ℕ) → i < n → Opened (setting_of rule) n i (held meaning_of (replica_at coin ts i))
    opened i lt = opened_of ts i (λ d. o.fresh rule i d lt) (within i lt) (some_till ts i (within i lt))

    dealt : (us : List Till) (i : ℕ) → ((j : ℕ) (d : Till) → j < n → (get_or us j d).coin ≡ coin) → i < n → (inside : i < length us) → (replica_at coin us i).coin ≡ coin
    dealt us i f lt inside = ap (λ (z : Replica TakingsRow DealtCoin PhasedRound). z.coin) (stands_at coin us i (some_till us i inside) inside) ∙ f i (some_till us i inside) lt
