-- What such a replica hears of another is recorded. Assumes nothing.
use Rattle.std.proofs.Common.{◌≡◌, ℕ, zero, suc, ◌<◌, ◌≤◌, true, false, List, [], Some, Ok, Err, Result, sym, refl, ap, ◌∙◌, subst, arith, get_or-set_same}
use Rattle.std.proofs.lemmas.Bool.{cond-true}
use Rattle.basis.specs.Bytes.{Octets}
use Rattle.basis.specs.Halls.{faults}
use Rattle.basis.specs.Refusals.{Refused}
use Rattle.basis.specs.declared.heard.Heard.{Heard}
use Rattle.basis.specs.declared.heard.Heard.TheVariants.{New, Known}
use Rattle.ballots.specs.States.{Opened, unopened}
use Rattle.broadcast.specs.Calls.{may_send}
use Rattle.broadcast.specs.Claims.{RowLaws}
use Rattle.broadcast.proofs.Moves.{at}
use Rattle.broadcast.proofs.Tables.{noted_here}
use Rattle.messages.specs.declared.message.Message.{Message}
use Rattle.messages.specs.declared.message.Message.TheVariants.{Sheet, Bit, Set, Share}
use Rattle.messages.specs.declared.message.Vote.{Vote}
use Rattle.messages.specs.declared.message.Vote.TheVariants.{First, Second}
use Rattle.messages.specs.Reading.{Lawful, placed}
use Rattle.messages.specs.Tags.{vote_tag}
use Rattle.messages.specs.Writing.{written, slot_of}
use Rattle.phases.specs.Steps.{says, hears}
use Rattle.phases.specs.Turns.{says_has}
use Rattle.rules.specs.Rounds.{Round, is_new}
use Rattle.outcomes.specs.Calls.{Said, HasSaid}
use Rattle.outcomes.specs.Hearing.{bit_vote, message_answer, message_noted, hear_answer_lem, hear_after}
use Rattle.outcomes.specs.Holdings.{Setting, Holding, syntax_of, sizes_ok, ballot_at}
use Rattle.sheet_turns.proofs.Messages.{Stands, Alone, said_read, said_answer, message_new, said_known, said_unrefused, new_taken, known_left}
use Rattle.evening_witness.proofs.Turning.{ReplicaWell, Later, later_none, later_on, slot_later, Ours, noted_later}

-- a new vote is recorded
vote_there : (vote : Vote) (j : ℕ) (m : Round) → is_new (bit_vote j (vote_tag vote) true) m ≡ true → (hears (bit_vote j (vote_tag vote) true) m).votes (vote_tag vote) 2 j ≡ true
vote_there First j m e = ap (λ (x : Round). x.votes 32 2 j) (cond-true (is_new (bit_vote j 32 true) m) (says 32 2 j m) m e) ∙ says_has 32 2 j m
vote_there Second j m e = ap (λ (x : Round). x.votes 33 2 j) (cond-true (is_new (bit_vote j 33 true) m) (says 33 2 j m) m e) ∙ says_has 33 2 j m

-- a message that its sender may say
abbrev pub May : ℕ → Message (List ℕ) → Type 0
May j (Sheet ph k s) = may_send ph k j ≡ true
May j (Bit vote k r b) = Unit {0}
May j (Set tag k r v) = Unit {0}
May j (Share k r x) = Unit {0}

module _ {R C : Type 0} (g : Setting R C) (laws : RowLaws g.rows g.size g.lawful) (n : ℕ) (some : 1 ≤ faults n) (x : List ℕ) (law : g.lawful x ≡ true) (oct : Octets x) where
  -- a message of a sender is recorded
  abbrev pub Has : ℕ → Holding R C → Message (List ℕ) → Type 0
  Has j h m = Stands g n j j h [] m

  pub has_said : (j : ℕ) (h : Holding R C) (m : Message (List ℕ)) → May j m → Has j h m → HasSaid g n j h m
  has_said j h (Sheet ph k s) may has = (may, has)
  has_said j h (Bit vote k r b) may has = has
  has_said j h (Set tag k r v) may has = has
  has_said j h (Share k r v) may has = has

  module _ (own : ℕ) (lo : own < n) where
    abbrev E : Holding R C → Type 0
    E h = ReplicaWell g laws n some x own lo h

    abbrev L : Holding R C → Holding R C → Type 0
    L h h' = Later g laws n some x own lo h h'

    pub has_stays : (j : ℕ) → j < n → (h h' : Holding R C) → L h h' → (m : Message (List ℕ)) → Ours x m → slot_of m < n → Has j h m → Has j h' m
    has_stays j lj h h' l (Sheet ph k s) our low has = l.moved.moves.grows.sheets ph k j s low lj has
    has_stays j lj h h' l (Bit vote k zero true) our low has = (l.grown k low).round.votes (vote_tag vote) 2 j has
    has_stays j lj h h' l (Bit vote k zero false) our low has = absurd (let q = our.1 in let z : ◌≡◌ {A = ℕ} 0 1 = cc in omega arith)
    has_stays j lj h h' l (Bit vote k (suc r) b) our low has = absurd (let q = our.0 in omega arith)
    has_stays j lj h h' l (Set tag k r v) our low has = absurd our
    has_stays j lj h h' l (Share k r v) our low has = absurd our

    noted_has : (j : ℕ) → j < n → (h : Holding R C) → E h → (m : Message (List ℕ)) → Ours x m → slot_of m < n → message_answer g n own j h (placed m) ≡ Ok New → Has j (message_noted g n own j (placed m) h) m
    noted_has j lj h e (Sheet ph k s) our low new =
        subst (λ (z : List ℕ). at g.rows n (message_noted g n own j (placed (Sheet ph k z)) h).slots ph k j ≡ Some z) (sym our) (noted_here g.rows n own k ph j h.slots x laws low lj e.sound.places_fit law oct)
    noted_has j lj h e (Bit vote k zero true) our low new =
        subst (λ (o : Opened). o.opening.votes (vote_tag vote) 2 j ≡ true) (sym (get_or-set_same h.ballots k _ unopened (let r = e.room in omega arith)))
        (vote_there vote j (ballot_at k h).opening (message_new g n own j h [] (Bit vote k zero true) new))
    noted_has j lj h e (Bit vote k zero false) our low new = absurd (let q = our.1 in let z : ◌≡◌ {A = ℕ} 0 1 = cc in omega arith)
    noted_has j lj h e (Bit vote k (suc r) b) our low new = absurd (let q = our.0 in omega arith)
    noted_has j lj h e (Set tag k r v) our low new = absurd our
    noted_has j lj h e (Share k r v) our low new = absurd our

    -- nothing of the sender stands against it
    alone : (j : ℕ) → j < n → (h : Holding R C) → E h → (m : Message (List ℕ)) → Ours x m → slot_of m < n → May j m → Alone g n own j h (written m) m
    alone j lj h e (Sheet ph k s) our low may = λ r q. e.same ph k j r low lj may q ∙ sym our
    alone j lj h e (Bit First k zero true) our low may = λ l v q. absurd (omega arith)
    alone j lj h e (Bit Second k zero true) our low may = λ l v q. (e.ballots_well k low).for_one.one v j q
    alone j lj h e (Bit vote k zero false) our low may = absurd (let q = our.1 in let z : ◌≡◌ {A = ℕ} 0 1 = cc in omega arith)
    alone j lj h e (Bit vote k (suc r) b) our low may = absurd (let q = our.0 in omega arith)
    alone j lj h e (Set tag k r v) our low may = absurd our
    alone j lj h e (Share k r v) our low may = absurd our

    pub record Hears (j : ℕ) (m : Message (List ℕ)) (h h' : Holding R C) : Type 0 where
      pub later : L h h'
      pub has : Has j h' m

    pub hears_it : (j : ℕ) → j < n → (j ≡ own → ⊥) → (h u : Holding R C) → sizes_ok n h ≡ true → E h → (m : Message (List ℕ)) → Ours x m → Lawful (syntax_of g n) m → slot_of m < n → Octets (written m) → May j m → Has j u m → Hears j m h (hear_after g n own j (written m) h)
    hears_it j lj ne h u sizes e m our lawful low octets may has = go (hear_answer_lem g n own j (written m) h) refl
      where
        said : Said g n j u (written m)
        said = record { message = m; lawful = lawful; has_said = has_said j u m may has; bytes = refl }

        go : (r : Result Heard Refused) → hear_answer_lem g n own j (written m) h ≡ r → Hears j m h (hear_after g n own j (written m) h)
        go (Ok New) a =
            let new : message_answer g n own j h (placed m) ≡ Ok New = sym (said_answer g n own j h (written m) laws u said sizes lj ne) ∙ a in
            let b = noted_later g laws n some x own lo j lj ne h e m our lawful octets new in
            let c = slot_later g laws n some x own lo (slot_of m) low (message_noted g n own j (placed m) h) b.well in
            subst (Hears j m h) (sym (new_taken g n own j h (written m) a m (said_read g n laws j u (written m) said))) (record { later = later_on g laws n some x own lo b c; has = has_stays j lj _ _ c m our low (noted_has j lj h e m our low new) })
        go (Ok Known) a = subst (Hears j m h) (sym (known_left g n own j h (written m) a)) (record { later = later_none g laws n some x own lo h e; has = said_known g n own j h (written m) laws u said a })
        go (Err r) a = absurd (said_unrefused g n own j h (written m) laws u said sizes lj ne (alone j lj h e m our low may) r a)
