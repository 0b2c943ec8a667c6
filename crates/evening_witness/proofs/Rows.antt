-- Round records that mean what the steps of rounds leave. Assumes nothing.
use Rattle.std.proofs.Common.{◌≡◌, ℕ, zero, suc, ◌<◌, Bool, true, false, cond, ◌||◌, eqb, leb, List, [], ◌∷◌, Some, None, Option, sym, refl, ap, ◌∙◌, subst, arith}
use Rattle.std.proofs.lemmas.Bool.{eqb-true, cond_both, and_parts}
use Rattle.basis.specs.Counts.{count}
use Rattle.basis.specs.Halls.{quorum}
use Rattle.basis.specs.Steps.{Step, stepped, settled}
use Rattle.messages.specs.declared.message.BitSet.{BitSet}
use Rattle.messages.specs.declared.message.BitSet.TheVariants.{Zero, One, Both}
use Rattle.messages.specs.Tags.{bits_number}
use Rattle.rules.specs.Rounds.{Round, cleared, voted, bit_set, set_if_any, is_new}
use Rattle.rules.specs.Laws.{Acts, Single}
use Rattle.phases.specs.declared.round.PhasedRound.{PhasedRound}
use Rattle.phases.specs.Records.{with_vote, meaning_of, empty_round}
use Rattle.phases.specs.Steps.{says, begun, ends, is_entered_lem, admitted, lowest_admitted, union, hears, enough, third, two_steps, three_steps, two_phase, three_phase}
use Rattle.phases.specs.Unions.{union_small, union_some}
use Rattle.phases.proofs.Masks.{added_first, added_second, added_third, none_cast}
use Rattle.openings.specs.Openings.{once_second, proposed, again, tally, opening_settled, opening_steps, supports}

-- some record means the round
abbrev pub Written : Round → Type 0
Written m = (r : PhasedRound) × (meaning_of r ≡ m)

pub cleared_written : Written cleared
cleared_written = (empty_round, none_cast)

-- votes under the three tags
first_written : (b : BitSet) (j : ℕ) (m : Round) → Written m → Written (says 32 (bits_number b) j m)
first_written b j m (r, e) = (record { entered = r.entered; first = with_vote r.first (bits_number b) j; second = r.second; third = r.third; verdict = r.verdict }, added_first r b j _ refl ∙ ap (says 32 (bits_number b) j) e)

second_written : (b : BitSet) (j : ℕ) (m : Round) → Written m → Written (says 33 (bits_number b) j m)
second_written b j m (r, e) = (record { entered = r.entered; first = r.first; second = with_vote r.second (bits_number b) j; third = r.third; verdict = r.verdict }, added_second r b j _ refl ∙ ap (says 33 (bits_number b) j) e)

third_written : (b : BitSet) (j : ℕ) (m : Round) → Written m → Written (says 34 (bits_number b) j m)
third_written b j m (r, e) = (record { entered = r.entered; first = r.first; second = r.second; third = with_vote r.third (bits_number b) j; verdict = r.verdict }, added_third r b j _ refl ∙ ap (says 34 (bits_number b) j) e)

pub heard_written : (t : ℕ) (b : BitSet) (j : ℕ) (m : Round) → Written m → Written (hears (record { tag = t; set = bits_number b; sender = j }) m)
heard_written t b j m w = cond_both (is_new (record { tag = t; set = bits_number b; sender = j }) m) _ m Written (λ _. go (eqb t 32) (eqb t 33) (eqb t 34) (λ h. eqb-true t 32 h) (λ h. eqb-true t 33 h) (λ h. eqb-true t 34 h)) (λ _. w)
  where
    at : (u : ℕ) → t ≡ u → Written (says u (bits_number b) j m) → Written (says t (bits_number b) j m)
    at u e h = subst (λ (z : ℕ). Written (says z (bits_number b) j m)) (sym e) h

    go : (p q r : Bool) → (p ≡ true → t ≡ 32) → (q ≡ true → t ≡ 33) → (r ≡ true → t ≡ 34) → Written (cond (p || (q || r)) (says t (bits_number b) j m) m)
    go true q r a b' c = at 32 (a refl) (first_written b j m w)
    go false true r a b' c = at 33 (b' refl) (second_written b j m w)
    go false false true a b' c = at 34 (c refl) (third_written b j m w)
    go false false false a b' c = w

begun_written : (b : Bool) (m : Round) → Written m → Written (begun (bit_set b) m)
begun_written b m (r, e) = (record { entered = Some b; first = r.first; second = r.second; third = r.third; verdict = r.verdict }, ap (begun (bit_set b)) e)

ended_written : (v : Option BitSet) (m : Round) → Written m → Written (ends (set_if_any v) m)
ended_written v m (r, e) = (record { entered = r.entered; first = r.first; second = r.second; third = r.third; verdict = v }, ap (ends (set_if_any v)) e)

-- sets by their numbers
pub set_named : (v : ℕ) → v < 4 → (o : Option BitSet) × (set_if_any o ≡ v)
set_named zero h = (None, refl)
set_named (suc zero) h = (Some Zero, refl)
set_named (suc (suc zero)) h = (Some One, refl)
set_named (suc (suc (suc zero))) h = (Some Both, refl)
set_named (suc (suc (suc (suc v)))) h = absurd (omega arith)

some_named : (v : ℕ) → 0 < v → v < 4 → (b : BitSet) × (bits_number b ≡ v)
some_named zero lo h = absurd (omega arith)
some_named (suc zero) lo h = (Zero, refl)
some_named (suc (suc zero)) lo h = (One, refl)
some_named (suc (suc (suc zero))) lo h = (Both, refl)
some_named (suc (suc (suc (suc v)))) lo h = absurd (omega arith)

pub bit_named : (x : ℕ) → Single x → (b : Bool) × (bit_set b ≡ x)
bit_named zero h = absurd (omega (arith, h.0))
bit_named (suc zero) h = (false, refl)
bit_named (suc (suc zero)) h = (true, refl)
bit_named (suc (suc (suc x))) h = absurd (omega (arith, h.1))

ends_written : (v : ℕ) → v < 4 → (m : Round) → Written m → Written (ends v m)
ends_written v lt m w = let o = set_named v lt in subst (λ (z : ℕ). Written (ends z m)) o.1 (ended_written o.0 m w)

of_bit : Bool → BitSet
of_bit true = One
of_bit false = Zero

bit_first : (b : Bool) (j : ℕ) (m : Round) → Written m → Written (says 32 (bit_set b) j m)
bit_first true j m w = first_written One j m w
bit_first false j m w = first_written Zero j m w

once_written : (own : ℕ) (m : Round) → Written m → Written (once_second own 2 m)
once_written own m w = cond_both (voted 33 own m) m (says 33 2 own m) Written (λ _. w) (λ _. second_written One own m w)

pub proposed_written : (own : ℕ) (b : Bool) (m : Round) → Written m → Written (proposed own (bit_set b) m)
proposed_written own b m w =
    let p = bit_first b own _ (begun_written b m w) in
    cond_both (eqb (bit_set b) 2) _ (says 32 (bit_set b) own (begun (bit_set b) m)) Written (λ _. once_written own _ p) (λ _. p)

pub again_written : (own : ℕ) (m : Round) → Written m → Written ((again own).leaves m)
again_written own m w = first_written One own m w

-- steps each of which leaves a round that is written
abbrev Writes : List (Step Round) → Type 0
Writes [] = Unit {0}
Writes (s ∷ ss) = ((m : Round) → s.applies m ≡ true → Written m → Written (s.leaves m)) × Writes ss

stepped_written : (ss : List (Step Round)) → Writes ss → (m : Round) → Written m → Written (stepped ss m)
stepped_written [] k m w = w
stepped_written (s ∷ ss) k m w = cond_both (s.applies m) (s.leaves m) (stepped ss m) Written (λ t. k.0 m t w) (λ _. stepped_written ss k.1 m w)

settled_written : (ss : List (Step Round)) → Writes ss → (fuel : ℕ) (m : Round) → Written m → Written (settled ss fuel m)
unfolding settled
settled_written ss k zero m w = w
settled_written ss k (suc fuel) m w = settled_written ss k fuel (stepped ss m) (stepped_written ss k m w)

tally_small : (n : ℕ) (m : Round) → tally n m < 4
unfolding tally
tally_small n m = cond_both (leb (quorum n) (count n (supports n m 1))) 1 _ (λ (y : ℕ). y < 4) (λ _. omega arith) (λ _. cond_both (leb (quorum n) (count n (supports n m 2))) 2 3 (λ (y : ℕ). y < 4) (λ _. omega arith) (λ _. omega arith))

pub opening_written : (n own : ℕ) (m : Round) → Written m → Written (opening_settled n own m)
opening_written n own m w = settled_written (opening_steps n own) ((λ m t w. first_written Zero own m w), ((λ m t w. once_written own _ (first_written One own m w)), ((λ m t w. second_written Zero own m w), ((λ m t w. second_written One own m w), ((λ m t w. ends_written (tally n m) (tally_small n m) m w), tt))))) 5 m w

-- a rule whose rounds can be written
pub record Writable (a : Acts) : Type 0 where
  pub enter : (n own : ℕ) (b : Bool) (m : Round) → Written m → Written (a.enter n own (bit_set b) m)
  pub hear : (n own t : ℕ) (b : BitSet) (j : ℕ) (m : Round) → Written m → Written (a.hear n own (record { tag = t; set = bits_number b; sender = j }) m)
  pub steps : (n own : ℕ) (m : Round) → Written m → Written (a.steps n own m)

second_named : (n own : ℕ) (m : Round) → Written m → Written (says 33 (lowest_admitted n m) own m)
second_named n own m w = cond_both (admitted n m 1) 1 2 (λ (x : ℕ). Written (says 33 x own m)) (λ _. second_written Zero own m w) (λ _. second_written One own m w)

pub two_written : Writable two_phase
two_written = record {
  enter = λ n own b m w. cond_both (is_entered_lem m) m _ Written (λ _. w) (λ _. bit_first b own _ (begun_written b m w));
  hear = λ n own t b j m w. heard_written t b j m w;
  steps = λ n own m w. settled_written (two_steps n own) ((λ m t w. first_written Zero own m w), ((λ m t w. first_written One own m w), ((λ m t w. second_named n own m w), ((λ m t w. ends_written (union n m 33) (union_small n m 33) m w), tt)))) 5 m w;
}

-- the third vote is a set that is not empty
third_named : (n own : ℕ) (m : Round) → (third n own).applies m ≡ true → Written m → Written (says 34 (union n m 33) own m)
third_named n own m t w =
    let o = some_named (union n m 33) (union_some n m 33 (and_parts (enough n m 33) _ (and_parts (is_entered_lem m) _ t).1).0) (union_small n m 33) in
    subst (λ (v : ℕ). Written (says 34 v own m)) o.1 (third_written o.0 own m w)

pub three_written : Writable three_phase
three_written = record {
  enter = λ n own b m w. cond_both (is_entered_lem m) m _ Written (λ _. w) (λ _. bit_first b own _ (begun_written b m w));
  hear = λ n own t b j m w. heard_written t b j m w;
  steps = λ n own m w. settled_written (three_steps n own) ((λ m t w. first_written Zero own m w), ((λ m t w. first_written One own m w), ((λ m t w. second_named n own m w), ((λ m t w. third_named n own m t w), ((λ m t w. ends_written (union n m 34) (union_small n m 34) m w), tt))))) 5 m w;
}
