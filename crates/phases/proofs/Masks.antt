-- A vote recorded in the masks is a vote added to the meaning. Assumes nothing.
use Rattle.std.proofs.Common.{◌≡◌, ℕ, ◌^◌, ◌≤◌, Bool, true, false, cond, ◌&&◌, ◌||◌, eqb, leb, nat_lt, Option, None, Some, Ok, sym, refl, ap, ◌∙◌, ap₂, arith}
use mathlib.Core.Path.{fun_ext}
use lib.Bits.{bit_or}
use Rattle.std.proofs.lemmas.Bool.{eqb-true, leb-true, cond-false, both_ways}
use Rattle.std.proofs.lemmas.Option.{none-some}
use Rattle.basis.specs.declared.heard.Heard.TheVariants.{New}
use Rattle.basis.specs.Counts.{has, count}
use Rattle.basis.specs.Halls.{beyond_faults}
use Rattle.basis.proofs.Counts.{has_or, has_one, has_none, count_some}
use Rattle.messages.specs.declared.message.BitSet.{BitSet}
use Rattle.messages.specs.declared.message.BitSet.TheVariants.{Zero, One, Both}
use Rattle.messages.specs.Tags.{bits_number}
use Rattle.rules.specs.Rounds.{Round, Vote, cleared, adding, voted, recorded, contradicts, hear_answer}
use Rattle.phases.specs.declared.votes.Votes.{Votes}
use Rattle.phases.specs.declared.round.PhasedRound.{PhasedRound}
use Rattle.phases.specs.declared.vote_phase.VotePhase.TheVariants.{First, Second, Third}
use Rattle.phases.specs.Phases.{phase_at}
use Rattle.phases.specs.Records.{no_votes, for_set, with_vote, under, meaning_of, empty_round}
use Rattle.phases.specs.Steps.{says}

or_none : (b : Bool) → b ≡ (b || false)
or_none true = refl
or_none false = refl

-- of several tests of one number for different numbers only one is passed
apart : (x a b : ℕ) (q : Bool) → eqb x a ≡ true → eqb a b ≡ false → (eqb x b && q) ≡ false
apart x a b q h ne = ap (λ (y : ℕ). eqb y b && q) (eqb-true x a h) ∙ ap (λ (z : Bool). z && q) ne

member : (z j i : ℕ) → has (bit_or z (2 ^ j)) i ≡ (has z i || eqb i j)
member z j i = has_or z (2 ^ j) i ∙ ap (λ (b : Bool). has z i || b) (has_one j i)

module _ (v j i : ℕ) where
  -- one member more where the choice falls on it
  here : (a : Bool) (z r : ℕ) → has (cond a (bit_or z (2 ^ j)) r) i ≡ (has (cond a z r) i || (a && eqb i j))
  here true z r = member z j i
  here false z r = or_none _

  later : (x u : ℕ) (p r r' : ℕ) → eqb x u ≡ false → has r i ≡ (has r' i || (eqb v u && eqb i j)) → has (cond (eqb v x) p r) i ≡ (has (cond (eqb v x) p r') i || (eqb v u && eqb i j))
  later x u p r r' ne h = go (eqb v x) refl
    where
      go : (a : Bool) → eqb v x ≡ a → has (cond a p r) i ≡ (has (cond a p r') i || (eqb v u && eqb i j))
      go true e = or_none (has p i) ∙ ap (λ (z : Bool). has p i || z) (sym (apart v x u (eqb i j) e ne))
      go false e = h

pub cast_more : (vs : Votes) (b : BitSet) (j v i : ℕ) → has (for_set (with_vote vs (bits_number b) j) v) i ≡ (has (for_set vs v) i || (eqb v (bits_number b) && eqb i j))
cast_more vs Zero j v i = here v j i (eqb v 1) vs.zero (cond (eqb v 2) vs.one (cond (eqb v 3) vs.both 0))
cast_more vs One j v i = later v j i 1 2 vs.zero _ _ refl (here v j i (eqb v 2) vs.one (cond (eqb v 3) vs.both 0))
cast_more vs Both j v i = later v j i 1 3 vs.zero _ _ refl (later v j i 2 3 vs.one _ _ refl (here v j i (eqb v 3) vs.both 0))

module _ (b : BitSet) (j t v i : ℕ) where
  -- the same for the votes under a tag
  there : (a : Bool) (vs rest : Votes) → has (for_set (cond a (with_vote vs (bits_number b) j) rest) v) i ≡ (has (for_set (cond a vs rest) v) i || (a && (eqb v (bits_number b) && eqb i j)))
  there true vs rest = cast_more vs b j v i
  there false vs rest = or_none _

  past : (x u : ℕ) (p r r' : Votes) → eqb x u ≡ false → has (for_set r v) i ≡ (has (for_set r' v) i || (eqb t u && (eqb v (bits_number b) && eqb i j))) →
      has (for_set (cond (eqb t x) p r) v) i ≡ (has (for_set (cond (eqb t x) p r') v) i || (eqb t u && (eqb v (bits_number b) && eqb i j)))
  past x u p r r' ne h = go (eqb t x) refl
    where
      go : (a : Bool) → eqb t x ≡ a → has (for_set (cond a p r) v) i ≡ (has (for_set (cond a p r') v) i || (eqb t u && (eqb v (bits_number b) && eqb i j)))
      go true e = or_none _ ∙ ap (λ (z : Bool). has (for_set p v) i || z) (sym (apart t x u (eqb v (bits_number b) && eqb i j) e ne))
      go false e = h

module _ (r : PhasedRound) (b : BitSet) (j : ℕ) where
  added : (votes : ℕ → ℕ → ℕ → Bool) (u : ℕ) → ((t v i : ℕ) → votes t v i ≡ adding u (bits_number b) j (meaning_of r).votes t v i) →
      ◌≡◌ {A = Round} (record { entered = (meaning_of r).entered; votes = votes; verdict = (meaning_of r).verdict }) (says u (bits_number b) j (meaning_of r))
  added votes u h = ap (λ (w : ℕ → ℕ → ℕ → Bool). record { entered = (meaning_of r).entered; votes = w; verdict = (meaning_of r).verdict }) (fun_ext (λ t. fun_ext (λ v. fun_ext (λ i. h t v i))))

  pub added_first : (vs : Votes) → vs ≡ with_vote r.first (bits_number b) j →
      meaning_of (record { entered = r.entered; first = vs; second = r.second; third = r.third; verdict = r.verdict }) ≡ says 32 (bits_number b) j (meaning_of r)
  added_first vs e = ap (λ (x : Votes). meaning_of (record { entered = r.entered; first = x; second = r.second; third = r.third; verdict = r.verdict })) e
      ∙ added _ 32 (λ t v i. there b j t v i (eqb t 32) r.first _)

  pub added_second : (vs : Votes) → vs ≡ with_vote r.second (bits_number b) j →
      meaning_of (record { entered = r.entered; first = r.first; second = vs; third = r.third; verdict = r.verdict }) ≡ says 33 (bits_number b) j (meaning_of r)
  added_second vs e = ap (λ (x : Votes). meaning_of (record { entered = r.entered; first = r.first; second = x; third = r.third; verdict = r.verdict })) e
      ∙ added _ 33 (λ t v i. past b j t v i 32 33 r.first _ _ refl (there b j t v i (eqb t 33) r.second _))

  pub added_third : (vs : Votes) → vs ≡ with_vote r.third (bits_number b) j →
      meaning_of (record { entered = r.entered; first = r.first; second = r.second; third = vs; verdict = r.verdict }) ≡ says 34 (bits_number b) j (meaning_of r)
  added_third vs e = ap (λ (x : Votes). meaning_of (record { entered = r.entered; first = r.first; second = r.second; third = x; verdict = r.verdict })) e
      ∙ added _ 34 (λ t v i. past b j t v i 32 34 r.first _ _ refl (past b j t v i 33 34 r.second _ _ refl (there b j t v i (eqb t 34) r.third _)))

none_in : (v i : ℕ) → has (for_set no_votes v) i ≡ false
none_in v i = go (eqb v 1) (eqb v 2) (eqb v 3)
  where
    go : (a b c : Bool) → has (cond a 0 (cond b 0 (cond c 0 0))) i ≡ false
    go true b c = has_none i
    go false true c = has_none i
    go false false true = has_none i
    go false false false = has_none i

pub none_cast : meaning_of empty_round ≡ cleared
none_cast = ap (λ (w : ℕ → ℕ → ℕ → Bool). record { entered = 0; votes = w; verdict = 0 }) (fun_ext (λ t. fun_ext (λ v. fun_ext (λ i. go t v i (eqb t 32) (eqb t 33) (eqb t 34)))))
  where
    go : (t v i : ℕ) (a b c : Bool) → has (for_set (cond a no_votes (cond b no_votes (cond c no_votes no_votes))) v) i ≡ false
    go t v i true b c = none_in v i
    go t v i false true c = none_in v i
    go t v i false false true = none_in v i
    go t v i false false false = none_in v i

-- a round of defaults is cleared
abbrev NoVotes : Votes → Type 0
NoVotes v = (v.zero ≡ 0) × ((v.one ≡ 0) × (v.both ≡ 0))

pub default_cleared : (r : PhasedRound) → (r.entered ≡ None) × (NoVotes r.first × (NoVotes r.second × (NoVotes r.third × (r.verdict ≡ None)))) → meaning_of r ≡ cleared
default_cleared r h = ap meaning_of empty ∙ none_cast
  where
    none : (v : Votes) → NoVotes v → v ≡ no_votes
    none v k = ap₂ (λ (a b : ℕ). record { zero = a; one = b; both = v.both }) k.0 k.1.0 ∙ ap (λ (d : ℕ). record { zero = 0; one = 0; both = d }) k.1.1

    empty : r ≡ empty_round
    empty = ap₂ (λ (a : Option Bool) (b : Votes). record { entered = a; first = b; second = r.second; third = r.third; verdict = r.verdict }) h.0 (none r.first h.1.0)
        ∙ ap₂ (λ (a b : Votes). record { entered = None; first = no_votes; second = a; third = b; verdict = r.verdict }) (none r.second h.1.1.0) (none r.third h.1.1.1.0)
        ∙ ap (λ (a : Option BitSet). record { entered = None; first = no_votes; second = no_votes; third = no_votes; verdict = a }) h.1.1.1.1

-- a tag of no phase has no votes
pub no_phase : (r : PhasedRound) (t v j : ℕ) → phase_at t ≡ None → has (for_set (under r t) v) j ≡ false
no_phase r t v j h = go (eqb t 32) (eqb t 33) (eqb t 34) h
  where
    go : (a b c : Bool) → cond a (Some First) (cond b (Some Second) (cond c (Some Third) None)) ≡ None → has (for_set (cond a r.first (cond b r.second (cond c r.third no_votes))) v) j ≡ false
    go true b c e = absurd (none-some _ (sym e))
    go false true c e = absurd (none-some _ (sym e))
    go false false true e = absurd (none-some _ (sym e))
    go false false false e = none_in v j

-- nor is there a mask under it
pub none_under : (r : PhasedRound) (t : ℕ) → phase_at t ≡ None → under r t ≡ no_votes
none_under r t h = go (eqb t 32) (eqb t 33) (eqb t 34) h
  where
    go : (a b c : Bool) → cond a (Some First) (cond b (Some Second) (cond c (Some Third) None)) ≡ None → cond a r.first (cond b r.second (cond c r.third no_votes)) ≡ no_votes
    go true b c e = absurd (none-some _ (sym e))
    go false true c e = absurd (none-some _ (sym e))
    go false false true e = absurd (none-some _ (sym e))
    go false false false e = refl

-- and a vote under it is new
pub unheard : (r : PhasedRound) (w : Vote) → phase_at w.tag ≡ None → hear_answer w (meaning_of r) ≡ Ok New
unheard r w h = cond-false (recorded w (meaning_of r)) _ _ (no_phase r w.tag w.set w.sender h) ∙ cond-false (contradicts w (meaning_of r)) _ _ (off (nat_lt 32 w.tag) _ none)
  where
    none : voted w.tag w.sender (meaning_of r) ≡ false
    none = ap₂ (λ (a b : Bool). a || b) (no_phase r w.tag 1 w.sender h) (ap₂ (λ (a b : Bool). a || b) (no_phase r w.tag 2 w.sender h) (no_phase r w.tag 3 w.sender h))

    off : (a b : Bool) → b ≡ false → (a && b) ≡ false
    off true b e = e
    off false b e = refl

-- members of a set where a flag is set, and of two such sets
pub where_has : (f : Bool) (x j : ℕ) → has (cond f x 0) j ≡ (has x j && f)
where_has true x j = and_true (has x j)
  where
    and_true : (p : Bool) → p ≡ (p && true)
    and_true true = refl
    and_true false = refl
where_has false x j = has_none j ∙ and_false (has x j)
  where
    and_false : (p : Bool) → false ≡ (p && false)
    and_false true = refl
    and_false false = refl

pub chosen : (a b : Bool) (y z j : ℕ) → has (bit_or (cond a y 0) (cond b z 0)) j ≡ ((has y j && a) || (has z j && b))
chosen a b y z j = has_or (cond a y 0) (cond b z 0) j ∙ ap₂ (λ (p q : Bool). p || q) (where_has a y j) (where_has b z j)

-- f + 1 are not in an empty set
pub none_honest : (n z : ℕ) → z ≡ 0 → leb (beyond_faults n) (count n (has z)) ≡ false
none_honest n z h = go (leb (beyond_faults n) (count n (has z))) refl
  where
    go : (b : Bool) → leb (beyond_faults n) (count n (has z)) ≡ b → b ≡ false
    go false e = refl
    go true e =
        let lo : beyond_faults n ≤ count n (has z) = leb-true _ _ e in
        let first = count_some n (has z) (omega arith) in
        absurd (both_ways (has z first.0) (ap (λ (x : ℕ). has x first.0) h ∙ has_none first.0) first.2)
