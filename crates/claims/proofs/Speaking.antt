-- A vote that a replica has said is a message, and where it is known it is recorded. Assumes nothing.
use Rattle.std.proofs.Common.{◌≡◌, ℕ, zero, suc, ◌<◌, ◌≤◌, Bool, true, false, ◌||◌, List, eqb, Ok, sym, refl, subst, ⊎_elim, arith}
use Rattle.std.proofs.lemmas.Bool.{or_cases, and_parts, eqb-true, leb-true}
use Rattle.basis.specs.declared.heard.Heard.TheVariants.{Known}
use Rattle.broadcast.specs.Claims.{RowLaws}
use Rattle.messages.specs.declared.message.BitSet.{BitSet}
use Rattle.messages.specs.declared.message.BitSet.TheVariants.{Zero, One, Both}
use Rattle.messages.specs.declared.message.Message.{Message}
use Rattle.messages.specs.declared.message.Message.TheVariants.{Bit, Set}
use Rattle.messages.specs.declared.message.Vote.TheVariants.{First, Second}
use Rattle.messages.specs.Reading.{Lawful}
use Rattle.messages.specs.Tags.{uses, is_set_tag, bits_number}
use Rattle.messages.specs.Writing.{written}
use Rattle.rules.specs.Rounds.{bit_set}
use Rattle.ballots.specs.States.{round_at}
use Rattle.outcomes.specs.Calls.{Said, HasSaid}
use Rattle.outcomes.specs.Hearing.{hear_answer_lem}
use Rattle.outcomes.specs.Holdings.{Setting, Holding, syntax_of, state_of}
use Rattle.sheet_turns.proofs.Messages.{Stands, said_known}
use Rattle.evenings.specs.Claims.{Sayable}

-- the set that a number names
set_for : (v : ℕ) → 0 < v → v < 4 → (b : BitSet) × (bits_number b ≡ v)
set_for zero lo hi = absurd (omega arith)
set_for (suc zero) lo hi = (Zero, refl)
set_for (suc (suc zero)) lo hi = (One, refl)
set_for (suc (suc (suc zero))) lo hi = (Both, refl)
set_for (suc (suc (suc (suc v)))) lo hi = absurd (omega arith)

bit_for : (v : ℕ) → 0 < v → v < 3 → (b : Bool) × (bit_set b ≡ v)
bit_for zero lo hi = absurd (omega arith)
bit_for (suc zero) lo hi = (false, refl)
bit_for (suc (suc zero)) lo hi = (true, refl)
bit_for (suc (suc (suc v))) lo hi = absurd (omega arith)

module _ {R C : Type 0} (g : Setting R C) (n own j : ℕ) (here there : Holding R C) (k r : ℕ) where
  abbrev votes_at : Holding R C → ℕ → ℕ → ℕ → Bool
  votes_at h = (round_at k r (state_of k h)).votes

  -- the message of a vote: it is said there, and where it stands here the vote is recorded
  pub record Spoken (t v : ℕ) : Type 0 where
    pub message : Message (List ℕ)
    pub lawful : Lawful (syntax_of g n) message
    pub said : HasSaid g n j there message
    pub back : Stands g n own j here (written message) message → votes_at here t v j ≡ true

  spoken : k < n → r < 16 → (t v : ℕ) → (uses g.rule.tags t ≡ true) × (0 < v) × (v < 4) × (t < 34 → v < 3) → (34 ≤ t → 1 ≤ r) → votes_at there t v j ≡ true → Spoken t v
  spoken lk lr t v s late h = ⊎_elim (λ low. ⊎_elim (λ e. first (eqb-true t 32 e)) (λ e. second (eqb-true t 33 e)) (or_cases (eqb t 32) (eqb t 33) low)) (λ high. later (and_parts (is_set_tag t) _ high).0) (or_cases (eqb t 32 || eqb t 33) _ s.0)
    where
      first : t ≡ 32 → Spoken t v
      first e =
          let b = bit_for v s.1 (s.3 (omega arith)) in
          record {
            message = Bit First k r b.0;
            lawful = (lk, omega arith);
            said = subst (λ (z : ℕ). votes_at there 32 z j ≡ true) (sym b.1) (subst (λ (z : ℕ). votes_at there z v j ≡ true) e h);
            back = λ x. subst (λ (z : ℕ). votes_at here z v j ≡ true) (sym e) (subst (λ (z : ℕ). votes_at here 32 z j ≡ true) b.1 x);
          }

      second : t ≡ 33 → Spoken t v
      second e =
          let b = bit_for v s.1 (s.3 (omega arith)) in
          record {
            message = Bit Second k r b.0;
            lawful = (lk, omega arith);
            said = subst (λ (z : ℕ). votes_at there 33 z j ≡ true) (sym b.1) (subst (λ (z : ℕ). votes_at there z v j ≡ true) e h);
            back = λ x. subst (λ (z : ℕ). votes_at here z v j ≡ true) (sym e) (subst (λ (z : ℕ). votes_at here 33 z j ≡ true) b.1 x);
          }

      later : is_set_tag t ≡ true → Spoken t v
      later high =
          let b = set_for v s.1 s.2 in
          let top = leb-true 34 t (and_parts _ _ high).0 in
          record {
            message = Set t k r b.0;
            lawful = (lk, late top, omega arith, high, s.0);
            said = subst (λ (z : ℕ). votes_at there t z j ≡ true) (sym b.1) h;
            back = λ x. subst (λ (z : ℕ). votes_at here t z j ≡ true) b.1 x;
          }

  -- so a vote that was said there, and is known wherever it is heard, is recorded here
  pub vote_known : RowLaws g.rows g.size g.lawful → k < n → r < 16 → (t v : ℕ) → Sayable (uses g.rule.tags) t v → (34 ≤ t → 1 ≤ r) → votes_at there t v j ≡ true → ((xs : List ℕ) → Said g n j there xs → hear_answer_lem g n own j xs here ≡ Ok Known) → votes_at here t v j ≡ true
  vote_known laws lk lr t v s late h all =
      let p = spoken lk lr t v s late h in
      let d : Said g n j there (written p.message) = record { message = p.message; lawful = p.lawful; has_said = p.said; bytes = refl } in
      p.back (said_known g n own j here (written p.message) laws there d (all (written p.message) d))
