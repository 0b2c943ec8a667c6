-- An entry that is sent is received as it was. Assumes nothing.
use Rattle.std.proofs.Common.{◌≡◌, ℕ, ◌^◌, ◌<◌, Bool, true, false, cond, ltb, List, ◌++◌, length, take, drop, Some, None, Ok, Option, Result, sym, refl, ap, ◌∙◌, ap₂, arith}
use Rattle.std.proofs.lemmas.Bool.{ltb-true, cond-true, cond-false, and_parts, eqb-true}
use Rattle.basis.specs.Refusals.{Refused, refused}
use Rattle.messages.specs.Reading.{and_then, body_reading}
use Rattle.messages.specs.Writing.{write_answer}
use Rattle.messages.specs.declared.message.Message.TheVariants.{Sheet}
use Rattle.messages.specs.declared.message.Phase.TheVariants.{Send}
use Rattle.messages.specs.declared.message.Shape.TheVariants as shape
use Rattle.messages.proofs.Fit.{exact, headed_reading}
use Rattle.sheets.specs.Holds.{if_lawful}
use Rattle.sheets.specs.OfTakings.{in_range_lem, amount_bytes, takings_bytes, takings_lawful, takings_row}
use Rattle.sheets.specs.declared.kinds.Takings.{Takings}
use Rattle.sheets.specs.OfTakingsLemmas.{row_of, in_range_of, amount_lawful}
use Rattle.sends.specs.Entries.{carried, sent, received, send_bytes, send_answer, send_output, trip_answer, wire}
use Rattle.sends.specs.declared.entry.Entry.{Entry}

abbrev entry : ℕ → Takings → Entry
entry slot x = record { till = slot; cents = x.cents; receipts = x.receipts }

-- takings that were read from lawful bytes have the fields that these bytes stand for
pub carries : (slot : ℕ) (s : List ℕ) (x : Takings) → Some (takings_bytes x) ≡ if_lawful takings_lawful s → Some (entry slot x) ≡ carried slot s
carries slot s x e = go (takings_lawful s) e
  where
    go : (b : Bool) → Some (takings_bytes x) ≡ cond b (Some s) None → Some (entry slot x) ≡ cond b (Some (record { till = slot; cents = (takings_row s).cents; receipts = (takings_row s).receipts })) None
    go true e =
        let q : takings_bytes x ≡ s = cc in
        let r = row_of x.cents x.receipts (in_range_of x) x.fits ∙ ap takings_row q in
        ap (λ f. Some (record { till = slot; cents = f.cents; receipts = f.receipts })) r
    go false e = absurd (let z : ◌≡◌ {A = ℕ} 0 1 = cc in omega arith)

module _ (e : Entry) (i : in_range_lem e.cents ≡ true) (f : e.receipts < 2 ^ 32) where
  law : takings_lawful (amount_bytes e.cents e.receipts) ≡ true
  law = amount_lawful e.cents e.receipts i

  -- the bytes of an entry's sheet carry the entry
  whole : carried e.till (amount_bytes e.cents e.receipts) ≡ Some e
  whole = cond-true (takings_lawful (amount_bytes e.cents e.receipts)) _ _ law ∙ ap (λ r. Some (record { till = e.till; cents = r.cents; receipts = r.receipts })) (sym (row_of e.cents e.receipts i f))

  -- what was sent is received, unless its till is beyond the hall
  pub comes_back : received (send_bytes e) ≡ cond (ltb e.till 4) (Ok (Some e)) (refused 9 3)
  comes_back = go (ltb e.till 4) refl
    where
      go : (b : Bool) → ltb e.till 4 ≡ b → received (send_bytes e) ≡ cond b (Ok (Some e)) (refused 9 3)
      go true lt =
          ap (λ r. and_then r (λ m. Ok (sent m))) ((exact wire (λ s l. eqb-true _ _ (and_parts _ _ l).0) (omega arith)).back (Sheet Send e.till (amount_bytes e.cents e.receipts)) (ltb-true _ _ lt, law))
          ∙ ap Ok whole
      go false lt =
          let beyond : body_reading wire (send_bytes e) shape.Sheet ≡ refused 9 3 = rw lt in
          ap (λ r. and_then r (λ m. Ok (sent m))) (headed_reading wire shape.Sheet (send_bytes e) (omega arith) refl refl refl ∙ beyond)

  -- what a send that was not refused leaves begins with the message
  pub left_bytes : (len : ℕ) (out : List ℕ) → Ok len ≡ send_answer e out → (take len (send_output e out) ≡ send_bytes e) × (ltb (length out) 16 ≡ false)
  left_bytes len out a = go (ltb (length out) 16) refl (a ∙ cond-true (in_range_lem e.cents) _ _ i)
    where
      go : (b : Bool) → ltb (length out) 16 ≡ b → Ok len ≡ cond b (refused 16 0) (Ok 16) → (take len (send_output e out) ≡ send_bytes e) × (ltb (length out) 16 ≡ false)
      go true t a = absurd (let z : ◌≡◌ {A = ℕ} 0 1 = cc in omega arith)
      go false t a =
          let n : len ≡ 16 = cc in
          let o : send_output e out ≡ send_bytes e ++ drop 16 out = cond-true (in_range_lem e.cents) _ _ i ∙ cond-false (ltb (length out) 16) _ _ t in
          (ap₂ take n o, t)

  -- so the way of an entry is what it should be
  pub trip : (len : ℕ) (out xs : List ℕ) (r : Result (Option Entry) Refused) → Ok len ≡ send_answer e out → xs ≡ take len (send_output e out) → r ≡ received xs → r ≡ trip_answer e out
  trip len out xs r a x q =
      let l = left_bytes len out a in
      q ∙ ap received (x ∙ l.0) ∙ comes_back ∙ sym (cond-false (ltb (length out) 16) _ _ l.1) ∙ sym (cond-true (in_range_lem e.cents) _ _ i)

-- a send that was not refused was of an amount in range
pub sent_in_range : (e : Entry) (len : ℕ) (out : List ℕ) → Ok len ≡ send_answer e out → in_range_lem e.cents ≡ true
sent_in_range e len out a = go (in_range_lem e.cents) refl a
  where
    go : (b : Bool) → in_range_lem e.cents ≡ b → Ok len ≡ cond b (write_answer (send_bytes e) out) (refused 1 0) → in_range_lem e.cents ≡ true
    go true t a = t
    go false t a = absurd (let z : ◌≡◌ {A = ℕ} 0 1 = cc in omega arith)
