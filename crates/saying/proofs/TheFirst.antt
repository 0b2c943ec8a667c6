-- Say finds the lowest of the lawful messages that are said. Assumes nothing.
use Rattle.std.proofs.Common.{◌≡◌, ℕ, zero, suc, ◌+◌, ◌-◌, ◌<◌, ◌≤◌, inl, inr, Bool, true, false, cond, ◌&&◌, List, ◌++◌, length, drop, Some, None, Option, Ok, refl, sym, ap, ◌∙◌, subst, ap₂, ⊎_elim, arith}
use Rattle.std.specs.Prelude.{nat_le, nat_lt, ◌==◌}
use Rattle.std.specs.Option.{option_map}
use Rattle.std.proofs.lemmas.Bool.{and_parts, leb-true, leb-false, ltb-true, le-leb, lt-leb}
use Rattle.basis.specs.Refusals.{refused}
use Rattle.ballots.specs.States.{round_at}
use Rattle.broadcast.specs.Saying.{told_position, put_message}
use Rattle.coins.specs.Coins.{Keeps}
use Rattle.messages.specs.declared.message.BitSet.{BitSet}
use Rattle.messages.specs.declared.message.BitSet.TheVariants.{Zero, One, Both}
use Rattle.messages.specs.declared.message.Message.{Message}
use Rattle.messages.specs.declared.message.Message.TheVariants.{Sheet, Bit, Set, Share}
use Rattle.messages.specs.declared.message.Vote.{Vote}
use Rattle.messages.specs.declared.message.Vote.TheVariants.{First, Second}
use Rattle.messages.specs.Tags.{uses, vote_of, bits_number}
use Rattle.messages.specs.Writing.{written, position}
use Rattle.rules.specs.Rounds.{bit_set}
use Rattle.outcomes.specs.Holdings.{Setting, Holding, sizes_ok, state_of}
use Rattle.outcomes.specs.Saying.{vote_message, may_be_cast, vote_said, share_message, next_message}
use Rattle.saying.specs.SaysTheFirst.{ToSay, Tells, SaysTheFirst}
use Rattle.saying.proofs.Lowest.{IsLowest, lowest_same}
use Rattle.saying.proofs.SaidVotes.{vote_tag_of, said_parts}
use Rattle.saying.proofs.SaidShares.{share_parts, tossed}
use Rattle.saying.proofs.AllSaid.{LawfulShares, VoteUnder, AnyVote, AnyShare, Sheets, Any, any_lowest}
use Rattle.saying.proofs.SaidSheets.{sheet_parts}

module _ {R C : Type 0} (g : Setting R C) (lawful : (r : R) (s : List ℕ) → g.rows.held r ≡ Some s → g.lawful s ≡ true) (n own from : ℕ) (h : Holding R C) (most : n ≤ 16) (shares : LawfulShares g own h) where
  -- what is found is to be said
  abbrev Due : Message (List ℕ) → Type 0
  Due m = ToSay g n own h from m

  sheet_due : (m : Message (List ℕ)) → Sheets g n own from h m → Due m
  sheet_due m s =
      let p = sheet_parts g.rows n own from h.slots.places s.0 s.1.0 m s.1.2.0 in
      subst Due (sym p.3) (record { lawful = (s.1.1, lawful _ p.0 p.2); said = (p.1, p.2); after = subst (λ x. from ≤ position x) p.3 s.1.2.1 })

  bit_same : (v : BitSet) → nat_le (bits_number v) 2 ≡ true → bit_set (bits_number v == 2) ≡ bits_number v
  bit_same Zero e = refl
  bit_same One e = refl
  bit_same Both e = absurd (let z : ◌≡◌ {A = ℕ} 0 1 = cc in omega arith)

  vote_due_by : (t k r : ℕ) (v : BitSet) → 32 ≤ t → t < 48 → uses g.rule.tags t ≡ true → k < n → r < 16 → may_be_cast t r v ≡ true → (round_at k r (state_of k h)).votes t (bits_number v) own ≡ true → from ≤ position {P = List ℕ} (vote_message t k r v) → Due (vote_message t k r v)
  vote_due_by t k r v low high used lk lr cast said after = go (nat_le t 33) refl cast after
    where
      go : (b : Bool) → nat_le t 33 ≡ b → cond b (nat_le (bits_number v) 2) (nat_le 1 r) ≡ true → from ≤ position {P = List ℕ} (cond b (Bit (vote_of t) k r (bits_number v == 2)) (Set t k r v)) → Due (cond b (Bit (vote_of t) k r (bits_number v == 2)) (Set t k r v))
      go true e cast after = record {
        lawful = (lk, omega arith);
        said = ap₂ (λ a b. (round_at k r (state_of k h)).votes a b own) (vote_tag_of t low (leb-true t 33 e)) (bit_same v cast) ∙ said;
        after = after;
      }
      go false e cast after = record {
        lawful = (lk, leb-true 1 r cast, omega arith, ap₂ (λ a b. a && b) (le-leb 34 t (leb-false t 33 e)) (le-leb t 47 (omega arith)), used);
        said = said;
        after = after;
      }

  vote_due : (m : Message (List ℕ)) → AnyVote g n own from h m → Due m
  vote_due m v =
      let t = 32 + v.0 in
      let p = v.2 in
      let k = p.1.0 in
      let r = p.1.2.0 in
      let x = p.1.2.2 in
      let s = said_parts own h from t k r x.0 m x.1.0 in
      let c = and_parts _ _ s.1 in
      subst Due (sym s.0) (vote_due_by t k r x.0 (omega arith) (let z = v.1 in omega arith) p.0 p.1.1 p.1.2.1 c.0 c.1 (subst (λ x. from ≤ position x) s.0 x.1.1))

  share_due_is : (m : Message (List ℕ)) → AnyShare g n own from h m → Due m
  share_due_is m s =
      let p = s.1 in
      let k = p.0 in
      let r = p.2.0 in
      let x = share_parts g.coins own from h.coin k (suc r) m p.2.2.0 in
      let t = tossed g.coins own from h.coin shares k r (let z = p.1 in omega arith) p.2.1 in
      subst Due (sym x.2) (record { lawful = (p.1, omega arith, (let z = p.2.1 in omega arith), shares k (suc r) x.0 t x.1, s.0); said = x.1; after = subst (λ x. from ≤ position x) x.2 p.2.2.1 })

  -- what is to be said is among them
  bit_any : (vote : Vote) (k r : ℕ) (b : Bool) → Due (Bit vote k r b) → AnyVote g n own from h (Bit vote k r b)
  bit_any First k r false t = (0, omega arith, (refl, (k, t.lawful.0, (r, (let z = t.lawful.1 in omega arith), (Zero, (ap (λ c. cond c (Some (Bit First k r false)) None) t.said, t.after))))))
  bit_any First k r true t = (0, omega arith, (refl, (k, t.lawful.0, (r, (let z = t.lawful.1 in omega arith), (One, (ap (λ c. cond c (Some (Bit First k r true)) None) t.said, t.after))))))
  bit_any Second k r false t = (1, omega arith, (refl, (k, t.lawful.0, (r, (let z = t.lawful.1 in omega arith), (Zero, (ap (λ c. cond c (Some (Bit Second k r false)) None) t.said, t.after))))))
  bit_any Second k r true t = (1, omega arith, (refl, (k, t.lawful.0, (r, (let z = t.lawful.1 in omega arith), (One, (ap (λ c. cond c (Some (Bit Second k r true)) None) t.said, t.after))))))

  set_any : (tag k r : ℕ) (v : BitSet) → Due (Set tag k r v) → AnyVote g n own from h (Set tag k r v)
  set_any tag k r v t =
      let l = t.lawful in
      let bounds = and_parts _ _ l.3 in
      let low = leb-true 34 tag bounds.0 in
      let high = leb-true tag 47 bounds.1 in
      let at : tag ≡ 32 + (tag - 32) = omega arith in
      let votes = (round_at k r (state_of k h)).votes tag (bits_number v) own in
      let here : vote_said own h tag k r v ≡ Some (Set tag k r v) =
      ap (λ c. cond (cond c (nat_le (bits_number v) 2) (nat_le 1 r) && votes) (Some (cond c (Bit (vote_of tag) k r (bits_number v == 2)) (Set tag k r v))) None) (lt-leb tag 33 low)
      ∙ ap₂ (λ a b. cond (a && b) (Some (Set tag k r v)) None) (le-leb 1 r l.1) t.said in
      let under : VoteUnder g n own from h tag (Set tag k r v) = (l.4, (k, l.0, (r, (let z = l.2 in omega arith), (v, (here, t.after))))) in
      (tag - 32, omega arith, subst (λ x. VoteUnder g n own from h x (Set tag k r v)) at under)

  any_of : (m : Message (List ℕ)) → Due m → Any g n own from h m
  any_of (Sheet ph k s) t = inl (ph, (k, t.lawful.0, (ap₂ (λ b o. cond b (option_map (Sheet ph k) o) None) t.said.0 t.said.1, t.after)))
  any_of (Bit vote k r b) t = inr (inl (bit_any vote k r b t))
  any_of (Set tag k r v) t = inr (inl (set_any tag k r v t))
  any_of (Share k zero x) t = absurd (let z = t.lawful.1 in omega arith)
  any_of (Share k (suc r) x) t = inr (inr (t.lawful.4, (k, t.lawful.0, (r, (let z = t.lawful.2 in omega arith), (ap (share_message k (suc r)) t.said, t.after)))))

  due_of : (m : Message (List ℕ)) → Any g n own from h m → Due m
  due_of m s = ⊎_elim (sheet_due m) (λ x. ⊎_elim (vote_due m) (share_due_is m) x) s

  pub due_lowest : IsLowest Due (next_message g n own h from)
  due_lowest = lowest_same (Any g n own from h) Due (next_message g n own h from) due_of any_of (any_lowest g n own from h most shares)

-- what say answers and leaves, by the message that it found
tells_by : {R C : Type 0} (g : Setting R C) (n own from : ℕ) (h : Holding R C) (out : List ℕ) (o : Option (Message (List ℕ))) → IsLowest (ToSay g n own h from) o → (large : Bool) → sizes_ok n h ≡ large → Tells g n own h from out (cond large (told_position o out) (refused 4 0)) (cond large (put_message o out) out)
tells_by g n own from h out o l false e = (refl, inl (refl, e))
tells_by g n own from h out None l true e = (l, refl)
tells_by g n own from h out (Some m) l true e = go (nat_lt (length out) (length (written m))) refl
  where
    go : (b : Bool) → nat_lt (length out) (length (written m)) ≡ b → Tells g n own h from out (cond b (refused 16 0) (Ok (Some (position m)))) (cond b out (written m ++ drop (length (written m)) out))
    go true short = (refl, inr (refl, (m, record { to_say = l.0; lowest = l.1; longer = ltb-true (length out) (length (written m)) short })))
    go false enough = (m, record { to_say = l.0; lowest = l.1; told = refl; bytes = refl })

-- for every kind of sheet whose rows hold lawful sheets, and every coin that keeps its laws
pub says_the_first : {R C : Type 0} (g : Setting R C) → ((r : R) (s : List ℕ) → g.rows.held r ≡ Some s → g.lawful s ≡ true) → Keeps g.coins → SaysTheFirst g
says_the_first g lawful keeps n own from h out most low sound =
    let shares : LawfulShares g own h = λ k r x t e. keeps.taken_lawful h.coin sound k r own t (omega arith) x e in
    tells_by g n own from h out (next_message g n own h from) (due_lowest g lawful n own from h most shares) (sizes_ok n h) refl
