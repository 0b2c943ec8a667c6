-- What hear answers to a message of any shape, and what it then leaves. Assumes nothing.
use Rattle.std.proofs.Common.{◌≡◌, ℕ, ◌<◌, Bool, true, false, cond, not, ◌&&◌, ◌||◌, eqb, ltb, List, Some, None, Ok, Err, Option, Result, sym, refl, ap, ◌∙◌, subst, ⊎_elim, arith}
use Rattle.std.proofs.lemmas.Bool.{and_parts, and_from, or_cases, ltb-true, lt-ltb, ne_eqb, eq-eqb, eqb-true, not_from_false, true≢false, both_ways}
use Rattle.std.specs.Str.{bytes_eq}
use Rattle.basis.specs.Bytes.{Octets}
use Rattle.basis.specs.Refusals.{Refused, refused}
use Rattle.basis.specs.declared.heard.Heard.{Heard}
use Rattle.basis.specs.declared.heard.Heard.TheVariants.{New, Known}
use Rattle.broadcast.specs.Calls.{may_send, compared, if_new}
use Rattle.broadcast.specs.Claims.{RowLaws}
use Rattle.broadcast.proofs.Hearing.{compared_new, compared_known}
use Rattle.broadcast.proofs.Tables.{other_not, bytes_same}
use Rattle.coins.specs.Coins.{answer_by}
use Rattle.messages.specs.declared.message.Message.{Message}
use Rattle.messages.specs.declared.message.Message.TheVariants.{Sheet, Bit, Set, Share}
use Rattle.messages.specs.Reading.{Syntax, Placed, and_then, reading, Lawful, placed, Exact}
use Rattle.messages.specs.Tags.{vote_tag, bits_number}
use Rattle.messages.specs.Writing.{on_sheet, written, slot_of}
use Rattle.messages.proofs.Fit.{exact}
use Rattle.messages.proofs.Lists.{passed}
use Rattle.ballots.specs.States.{round_at}
use Rattle.rules.specs.Rounds.{Round, Vote, bit_set, voted, contradicts, is_new, hear_answer}
use Rattle.slots.specs.Places.{recorded}
use Rattle.outcomes.specs.Calls.{Said, HasSaid}
use Rattle.outcomes.specs.Hearing.{at_value, bit_vote, set_vote, message_answer, message_noted, message_taken, hear_answer_lem, hear_after}
use Rattle.outcomes.specs.Holdings.{Setting, Holding, syntax_of, sizes_ok, state_of}
use Rattle.outcomes.specs.Taking.{slot_taken}

pub slot_placed : (m : Message (List ℕ)) → slot_of (placed m) ≡ slot_of m
slot_placed (Sheet ph k s) = refl
slot_placed (Bit vote k r b) = refl
slot_placed (Set tag k r v) = refl
slot_placed (Share k r x) = refl

pub lawful_low : (y : Syntax) (m : Message (List ℕ)) → Lawful y m → slot_of m < y.replicas
lawful_low y (Sheet ph k s) l = l.0
lawful_low y (Bit vote k r b) l = l.0
lawful_low y (Set tag k r v) l = l.0
lawful_low y (Share k r x) l = l.0

-- a placed message is placed once
bytes_back : (m : Message (List ℕ)) → on_sheet (λ (p : Placed). p.bytes) (placed m) ≡ m
bytes_back (Sheet ph k s) = refl
bytes_back (Bit vote k r b) = refl
bytes_back (Set tag k r v) = refl
bytes_back (Share k r x) = refl

pub placed_inj : (m m' : Message (List ℕ)) → placed m ≡ placed m' → m ≡ m'
placed_inj m m' e = sym (bytes_back m) ∙ ap (on_sheet (λ (p : Placed). p.bytes)) e ∙ bytes_back m'

ok_inj : {X Y : Type 0} {r : Result X Y} {x x' : X} → r ≡ Ok x → r ≡ Ok x' → x ≡ x'
ok_inj p q = cc

-- what an answer to a vote tells: the vote is recorded, or it is new
vote_known : (a b : Bool) → at_value (cond a (Ok Known) (cond b (Err 13) (Ok New))) ≡ Ok Known → a ≡ true
vote_known true b e = refl
vote_known false true e = absurd (let z : ◌≡◌ {A = ℕ} 0 1 = cc in omega arith)
vote_known false false e = absurd (let z : ◌≡◌ {A = ℕ} 0 1 = cc in omega arith)

vote_new : (a b : Bool) → at_value (cond a (Ok Known) (cond b (Err 13) (Ok New))) ≡ Ok New → (not a && not b) ≡ true
vote_new true b e = absurd (let z : ◌≡◌ {A = ℕ} 0 1 = cc in omega arith)
vote_new false true e = absurd (let z : ◌≡◌ {A = ℕ} 0 1 = cc in omega arith)
vote_new false false e = refl

-- and refused it is where it is not recorded and contradicts
vote_refused : (a b : Bool) (e : Refused) → at_value (cond a (Ok Known) (cond b (Err 13) (Ok New))) ≡ Err e → (a ≡ false) × (b ≡ true)
vote_refused true b e q = absurd (let z : ◌≡◌ {A = ℕ} 0 1 = cc in omega arith)
vote_refused false true e q = (refl, refl)
vote_refused false false e q = absurd (let z : ◌≡◌ {A = ℕ} 0 1 = cc in omega arith)

-- some vote of the sender is recorded under the tag
voted_some : (t j : ℕ) (m : Round) → voted t j m ≡ true → (v : ℕ) × (m.votes t v j ≡ true)
voted_some t j m h = ⊎_elim (λ a. (1, a)) (λ r. ⊎_elim (λ a. (2, a)) (λ a. (3, a)) (or_cases (m.votes t 2 j) (m.votes t 3 j) r)) (or_cases (m.votes t 1 j) (m.votes t 2 j || m.votes t 3 j) h)

-- a vote is not refused where all of its sender's under its tag are for its set
vote_unrefused : (w : Vote) (m : Round) → (32 < w.tag → (v : ℕ) → m.votes w.tag v w.sender ≡ true → v ≡ w.set) → (e : Refused) → at_value (hear_answer w m) ≡ Err e → ⊥
vote_unrefused w m alone e q =
    let p = vote_refused (m.votes w.tag w.set w.sender) (contradicts w m) e q in
    let b = and_parts (ltb 32 w.tag) (voted w.tag w.sender m) p.1 in
    let v = voted_some w.tag w.sender m b.1 in
    both_ways (m.votes w.tag w.set w.sender) p.0 (sym (ap (λ (x : ℕ). m.votes w.tag x w.sender) (alone (ltb-true _ _ b.0) v.0 v.1)) ∙ v.1)

-- the same of a share
share_known : (o : Option ℕ) (x : ℕ) → at_value (answer_by o x) ≡ Ok Known → o ≡ Some x
share_known None x e = absurd (let z : ◌≡◌ {A = ℕ} 0 1 = cc in omega arith)
share_known (Some w) x e = go (eqb w x) refl e
  where
    go : (b : Bool) → eqb w x ≡ b → at_value (cond b (Ok Known) (Err 13)) ≡ Ok Known → Some w ≡ Some x
    go true h q = ap Some (eqb-true w x h)
    go false h q = absurd (let z : ◌≡◌ {A = ℕ} 0 1 = cc in omega arith)

share_new : (o : Option ℕ) (x : ℕ) → at_value (answer_by o x) ≡ Ok New → o ≡ None
share_new None x e = refl
share_new (Some w) x e = go (eqb w x) e
  where
    go : (b : Bool) → at_value (cond b (Ok Known) (Err 13)) ≡ Ok New → Some w ≡ None
    go true q = absurd (let z : ◌≡◌ {A = ℕ} 0 1 = cc in omega arith)
    go false q = absurd (let z : ◌≡◌ {A = ℕ} 0 1 = cc in omega arith)

share_unrefused : (o : Option ℕ) (x : ℕ) → ((w : ℕ) → o ≡ Some w → w ≡ x) → (e : Refused) → at_value (answer_by o x) ≡ Err e → ⊥
share_unrefused None x alone e q = let z : ◌≡◌ {A = ℕ} 0 1 = cc in omega arith
share_unrefused (Some w) x alone e q = go (eqb w x) (eq-eqb w x (alone w refl)) q
  where
    go : (b : Bool) → b ≡ true → at_value (cond b (Ok Known) (Err 13)) ≡ Err e → ⊥
    go true h q = let z : ◌≡◌ {A = ℕ} 0 1 = cc in omega arith
    go false h q = true≢false (sym h)

compared_unrefused : (o : Option (List ℕ)) (s : List ℕ) → ((r : List ℕ) → o ≡ Some r → r ≡ s) → (e : Refused) → compared o s ≡ Err e → ⊥
compared_unrefused None s alone e q = let z : ◌≡◌ {A = ℕ} 0 1 = cc in omega arith
compared_unrefused (Some r) s alone e q = go (bytes_eq r s) (subst (λ (v : List ℕ). bytes_eq r v ≡ true) (alone r refl) (bytes_same r)) q
  where
    go : (b : Bool) → b ≡ true → cond b (Ok Known) (refused 13 4) ≡ Err e → ⊥
    go true h q = let z : ◌≡◌ {A = ℕ} 0 1 = cc in omega arith
    go false h q = true≢false (sym h)

module _ {R C : Type 0} (g : Setting R C) (n : ℕ) where
  pub fits : RowLaws g.rows g.size g.lawful → Exact (syntax_of g n)
  fits laws = exact (syntax_of g n) laws.sized laws.short

  -- what somebody has said reads as itself
  pub said_read : RowLaws g.rows g.size g.lawful → (j : ℕ) (u : Holding R C) (xs : List ℕ) → (d : Said g n j u xs) → reading (syntax_of g n) xs ≡ Ok (placed d.message)
  said_read laws j u xs d = ap (reading (syntax_of g n)) d.bytes ∙ (fits laws).back d.message d.lawful

  module _ (own j : ℕ) (h : Holding R C) (xs : List ℕ) where
    -- checks 4 and 5 are passed, or pass
    pub heard_passed : (a : Heard) → hear_answer_lem g n own j xs h ≡ Ok a → (sizes_ok n h ≡ true) × (j < n) × (j ≡ own → ⊥) × (and_then (reading (syntax_of g n) xs) (message_answer g n own j h) ≡ Ok a)
    heard_passed a e =
        let p = passed (sizes_ok n h) _ (record { number = 4; place = 0 }) a e in
        let q = passed (ltb j n && not (eqb j own)) _ (record { number = 5; place = 0 }) a p.1 in
        let b = and_parts _ _ q.0 in
        (p.0, ltb-true _ _ b.0, other_not own j b.1, q.1)

    pub heard_read : sizes_ok n h ≡ true → j < n → (j ≡ own → ⊥) → hear_answer_lem g n own j xs h ≡ and_then (reading (syntax_of g n) xs) (message_answer g n own j h)
    heard_read sizes lj ne =
        let from : (ltb j n && not (eqb j own)) ≡ true = and_from _ _ (lt-ltb _ _ lj) (not_from_false _ (ne_eqb j own ne)) in
        ap (λ (b : Bool). cond b (cond (ltb j n && not (eqb j own)) (and_then (reading (syntax_of g n) xs) (message_answer g n own j h)) (refused 5 0)) (refused 4 0)) sizes
        ∙ ap (λ (b : Bool). cond b (and_then (reading (syntax_of g n) xs) (message_answer g n own j h)) (refused 5 0)) from

    -- the answer to what somebody has said
    pub said_answer : RowLaws g.rows g.size g.lawful → (u : Holding R C) → (d : Said g n j u xs) → sizes_ok n h ≡ true → j < n → (j ≡ own → ⊥) → hear_answer_lem g n own j xs h ≡ message_answer g n own j h (placed d.message)
    said_answer laws u d sizes lj ne = heard_read sizes lj ne ∙ ap (λ r. and_then r (message_answer g n own j h)) (said_read laws j u xs d)

    -- a message of the sender is recorded
    abbrev pub Stands : Message (List ℕ) → Type 0
    Stands (Sheet ph k s) = recorded g.rows n h.slots.places ph k j ≡ Some s
    Stands (Bit vote k r b) = (round_at k r (state_of k h)).votes (vote_tag vote) (bit_set b) j ≡ true
    Stands (Set tag k r v) = (round_at k r (state_of k h)).votes tag (bits_number v) j ≡ true
    Stands (Share k r x) = g.coins.taken_of h.coin k r j ≡ Some x

    -- a message is new: none of the sender is recorded that it repeats or contradicts
    abbrev pub Unheard : Message (List ℕ) → Type 0
    Unheard (Sheet ph k s) = (may_send ph k j ≡ true) × (recorded g.rows n h.slots.places ph k j ≡ None)
    Unheard (Bit vote k r b) = is_new (bit_vote j (vote_tag vote) b) (round_at k r (state_of k h)) ≡ true
    Unheard (Set tag k r v) = is_new (set_vote j tag (bits_number v)) (round_at k r (state_of k h)) ≡ true
    Unheard (Share k r x) = g.coins.taken_of h.coin k r j ≡ None

    -- nothing of the sender is recorded that differs from a message where one alone may stand
    abbrev pub Alone : Message (List ℕ) → Type 0
    Alone (Sheet ph k s) = (r : List ℕ) → recorded g.rows n h.slots.places ph k j ≡ Some r → r ≡ s
    Alone (Bit vote k r b) = 32 < vote_tag vote → (v : ℕ) → (round_at k r (state_of k h)).votes (vote_tag vote) v j ≡ true → v ≡ bit_set b
    Alone (Set tag k r v) = 32 < tag → (w : ℕ) → (round_at k r (state_of k h)).votes tag w j ≡ true → w ≡ bits_number v
    Alone (Share k r x) = (w : ℕ) → g.coins.taken_of h.coin k r j ≡ Some w → w ≡ x

    -- what is known is recorded
    pub message_known : (m : Message (List ℕ)) → message_answer g n own j h (placed m) ≡ Ok Known → Stands m
    message_known (Sheet ph k s) e = compared_known _ s (passed (may_send ph k j) (compared (recorded g.rows n h.slots.places ph k j) s) (record { number = 12; place = 3 }) Known e).1
    message_known (Bit vote k r b) e = vote_known _ (contradicts (bit_vote j (vote_tag vote) b) (round_at k r (state_of k h))) e
    message_known (Set tag k r v) e = vote_known _ (contradicts (set_vote j tag (bits_number v)) (round_at k r (state_of k h))) e
    message_known (Share k r x) e = share_known (g.coins.taken_of h.coin k r j) x e

    pub message_new : (m : Message (List ℕ)) → message_answer g n own j h (placed m) ≡ Ok New → Unheard m
    message_new (Sheet ph k s) e = let p = passed (may_send ph k j) (compared (recorded g.rows n h.slots.places ph k j) s) (record { number = 12; place = 3 }) New e in (p.0, compared_new _ s p.1)
    message_new (Bit vote k r b) e = vote_new _ (contradicts (bit_vote j (vote_tag vote) b) (round_at k r (state_of k h))) e
    message_new (Set tag k r v) e = vote_new _ (contradicts (set_vote j tag (bits_number v)) (round_at k r (state_of k h))) e
    message_new (Share k r x) e = share_new (g.coins.taken_of h.coin k r j) x e

    -- what its sender may send is not refused where nothing else of that sender stands
    pub message_unrefused : (u : Holding R C) (m : Message (List ℕ)) → HasSaid g n j u m → Alone m → (e : Refused) → message_answer g n own j h (placed m) ≡ Err e → ⊥
    message_unrefused u (Sheet ph k s) has alone e q = compared_unrefused _ s alone e (sym (ap (λ (b : Bool). cond b (compared (recorded g.rows n h.slots.places ph k j) s) (refused 12 3)) has.0) ∙ q)
    message_unrefused u (Bit vote k r b) has alone e q = vote_unrefused (bit_vote j (vote_tag vote) b) (round_at k r (state_of k h)) alone e q
    message_unrefused u (Set tag k r v) has alone e q = vote_unrefused (set_vote j tag (bits_number v)) (round_at k r (state_of k h)) alone e q
    message_unrefused u (Share k r x) has alone e q = share_unrefused (g.coins.taken_of h.coin k r j) x alone e q

    -- so what somebody has said is recorded where it is known, and not refused
    pub said_known : RowLaws g.rows g.size g.lawful → (u : Holding R C) → (d : Said g n j u xs) → hear_answer_lem g n own j xs h ≡ Ok Known → Stands d.message
    said_known laws u d e = let p = heard_passed Known e in message_known d.message (sym (said_answer laws u d p.0 p.1 p.2) ∙ e)

    pub said_unrefused : RowLaws g.rows g.size g.lawful → (u : Holding R C) → (d : Said g n j u xs) → sizes_ok n h ≡ true → j < n → (j ≡ own → ⊥) → Alone d.message → (e : Refused) → hear_answer_lem g n own j xs h ≡ Err e → ⊥
    said_unrefused laws u d sizes lj ne alone e q = message_unrefused u d.message d.has_said alone e (sym (said_answer laws u d sizes lj ne) ∙ q)

    -- a packet was heard without refusal: it is a lawful message of another replica
    pub record Accepted (a : Heard) : Type 0 where
      pub message : Message (List ℕ)
      pub lawful : Lawful (syntax_of g n) message
      pub sender : j < n
      pub other : j ≡ own → ⊥
      pub sizes : sizes_ok n h ≡ true
      pub bytes : xs ≡ written message
      pub read : reading (syntax_of g n) xs ≡ Ok (placed message)
      pub answer : message_answer g n own j h (placed message) ≡ Ok a

    pub accepted : RowLaws g.rows g.size g.lawful → Octets xs → (a : Heard) → hear_answer_lem g n own j xs h ≡ Ok a → Accepted a
    accepted laws oct a e = let p = heard_passed a e in go p.0 p.1 p.2 (reading (syntax_of g n) xs) refl p.3
      where
        go : sizes_ok n h ≡ true → j < n → (j ≡ own → ⊥) → (r : Result (Message Placed) Refused) → reading (syntax_of g n) xs ≡ r → and_then r (message_answer g n own j h) ≡ Ok a → Accepted a
        go sizes lj ne (Err e) o q = absurd (let z : ◌≡◌ {A = ℕ} 0 1 = cc in omega arith)
        go sizes lj ne (Ok p) o q =
            let f = (fits laws).only xs oct p o in
            record {
              message = f.0;
              lawful = f.1;
              sender = lj;
              other = ne;
              sizes = sizes;
              bytes = f.2;
              read = o ∙ ap Ok f.3;
              answer = ap (message_answer g n own j h) (sym f.3) ∙ q;
            }

    -- what is new is recorded, and the steps of its slot are taken
    pub new_taken : hear_answer_lem g n own j xs h ≡ Ok New → (m : Message (List ℕ)) → reading (syntax_of g n) xs ≡ Ok (placed m) → hear_after g n own j xs h ≡ slot_taken g n own (slot_of m) (message_noted g n own j (placed m) h)
    new_taken e m q =
        ap (λ (r : Result Heard Refused). if_new r (message_taken g n own j h (reading (syntax_of g n) xs)) h) e
        ∙ ap (message_taken g n own j h) q
        ∙ ap (λ (k : ℕ). slot_taken g n own k (message_noted g n own j (placed m) h)) (slot_placed m)

    pub known_left : hear_answer_lem g n own j xs h ≡ Ok Known → hear_after g n own j xs h ≡ h
    known_left e = ap (λ (r : Result Heard Refused). if_new r (message_taken g n own j h (reading (syntax_of g n) xs)) h) e

    pub refused_left : (e : Refused) → hear_answer_lem g n own j xs h ≡ Err e → hear_after g n own j xs h ≡ h
    refused_left e q = ap (λ (r : Result Heard Refused). if_new r (message_taken g n own j h (reading (syntax_of g n) xs)) h) q

    -- the message that was said is the one that is read
    pub said_message : RowLaws g.rows g.size g.lawful → (u : Holding R C) → (d : Said g n j u xs) → (m : Message (List ℕ)) → reading (syntax_of g n) xs ≡ Ok (placed m) → m ≡ d.message
    said_message laws u d m e = placed_inj m d.message (ok_inj e (said_read laws j u xs d))
