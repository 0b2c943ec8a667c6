-- What a till says from a position on: the lowest message that it has said, written at the start of the output. Assumes nothing.
use Rattle.std.proofs.Common.{◌≡◌, ℕ, suc, ◌+◌, ◌*◌, ◌/◌, ◌%◌, ◌<◌, ◌≤◌, Bool, true, false, inl, inr, List, ◌++◌, Some, None, Ok, Err, Option, Result, length, sym, ap, ◌∙◌, ⊎_elim, arith}
use Rattle.std.specs.Prelude.{nat_le}
use Rattle.std.proofs.lemmas.Bool.{eqb-true, leb-true, and_parts, false≢true}
use Rattle.std.proofs.lemmas.List.{take_at}
use Rattle.basis.specs.Refusals.{Refused}
use Rattle.coins.specs.Dealt.{dealt_keeps}
use Rattle.messages.specs.declared.message.BitSet.{BitSet}
use Rattle.messages.specs.declared.message.BitSet.TheVariants.{Zero, One, Both}
use Rattle.messages.specs.declared.message.Message.{Message}
use Rattle.messages.specs.declared.message.Message.TheVariants.{Sheet, Bit, Set, Share}
use Rattle.messages.specs.declared.message.Phase.{Phase}
use Rattle.messages.specs.declared.message.Phase.TheVariants.{Send, Echo, Ready}
use Rattle.messages.specs.declared.message.Vote.{Vote}
use Rattle.messages.specs.declared.message.Vote.TheVariants.{First, Second}
use Rattle.messages.specs.Reading.{Lawful, declared}
use Rattle.messages.specs.Tags.{phase_tag, vote_tag, bits_number}
use Rattle.messages.specs.Writing.{written, body, position, bit_number}
use Rattle.outcomes.specs.Calls.{Said, HasOffered}
use Rattle.outcomes.specs.Holdings.{Life, Fresh, Running, Closed, syntax_of, sizes_ok}
use Rattle.outcomes.specs.Saying.{say_answer, say_output}
use Rattle.saying.specs.SaysTheFirst.{ToSay, Why, Tells}
use Rattle.saying.proofs.TheFirst.{says_the_first}
use Rattle.scripts.specs.declared.command.RuleName.{RuleName}
use Rattle.sheets.specs.OfTakings.{takings_lawful}
use Rattle.sheets.specs.OfTakingsLemmas.{kept_of}
use Rattle.halls.specs.Packets.{first_message}
use Rattle.halls.specs.Scenes.{if_offered}
use Rattle.halls.specs.States.{Held, setting_of}
use Rattle.halls.specs.Sweeps.{Spoken, blank, positions, spoken, said_from}
use Rattle.halls.proofs.Playing.{same_some}

two_bytes : (k : ℕ) → k < 65536 → k / 256 % 256 * 256 + k / 1 % 256 ≡ k
two_bytes k lt = omega arith

-- a message that is written at the start is the first message
pub first_written : (m : Message (List ℕ)) (rest : List ℕ) → length (body m) < 65536 → first_message (written m ++ rest) ≡ written m
first_written m rest lt = take_at (written m) rest (3 + declared (written m ++ rest)) whole
  where
    whole : suc (suc (suc (length (body m)))) ≡ 3 + (length (body m) / 256 % 256 * 256 + length (body m) / 1 % 256)
    whole = let e = two_bytes (length (body m)) lt in omega (arith, e)

sized : (s : List ℕ) → takings_lawful s ≡ true → length s ≡ 12
sized s h = eqb-true _ _ (and_parts _ _ h).0

-- a lawful message is short
short_body : (rule : RuleName) (n : ℕ) (m : Message (List ℕ)) → Lawful (syntax_of (setting_of rule) n) m → length (body m) < 65536
short_body rule n (Sheet ph k s) law = let e = sized s law.1 in omega (arith, e)
short_body rule n (Bit v k r b) law = omega arith
short_body rule n (Set t k r v) law = omega arith
short_body rule n (Share k r x) law = omega arith

-- at most 16 bytes
short_written : (rule : RuleName) (n : ℕ) (m : Message (List ℕ)) → Lawful (syntax_of (setting_of rule) n) m → length (written m) ≤ 16
short_written rule n (Sheet ph k s) law = let e = sized s law.1 in omega (arith, e)
short_written rule n (Bit v k r b) law = omega arith
short_written rule n (Set t k r v) law = omega arith
short_written rule n (Share k r x) law = omega arith

phase_low : (ph : Phase) → phase_tag ph ≤ 18
phase_low Send = omega arith
phase_low Echo = omega arith
phase_low Ready = omega arith

vote_low : (v : Vote) → vote_tag v ≤ 33
vote_low First = omega arith
vote_low Second = omega arith

bit_low : (b : Bool) → bit_number b ≤ 1
bit_low true = omega arith
bit_low false = omega arith

bits_low : (v : BitSet) → bits_number v ≤ 3
bits_low Zero = omega arith
bits_low One = omega arith
bits_low Both = omega arith

-- and in a hall of at most 16 its position is one of those that there are
pub position_low : (rule : RuleName) (n : ℕ) (m : Message (List ℕ)) → n ≤ 16 → Lawful (syntax_of (setting_of rule) n) m → position m < positions
position_low rule n (Sheet ph k s) small law = let t = phase_low ph in let l = law.0 in omega (arith, t, l, small)
position_low rule n (Bit v k r b) small law = let t = vote_low v in let l = law.0 in let q = law.1 in let x = bit_low b in omega (arith, t, l, q, x, small)
position_low rule n (Set t k r v) small law = let u = leb-true t 47 (and_parts (nat_le 34 t) (nat_le t 47) law.3).1 in let l = law.0 in let q = law.2 in let x = bits_low v in omega (arith, u, l, q, x, small)
position_low rule n (Share k r x) small law = let l = law.0 in let q = law.2 in let y = law.3 in omega (arith, l, q, y, small)

module _ (rule : RuleName) (n i p : ℕ) (h : Held) (small : n ≤ 16) (low : i < n) where
  abbrev answer : Result (Option ℕ) Refused
  answer = say_answer (setting_of rule) n i h p blank

  abbrev output : List ℕ
  output = say_output (setting_of rule) n i h p blank

  tells : Tells (setting_of rule) n i h p blank answer output
  tells = says_the_first (setting_of rule) (λ r s e. (kept_of r s e).0) dealt_keeps n i p h blank small low tt

  -- the message that is spoken: the lowest that is said at or after the position
  pub record Lowest (s : Spoken) : Type 0 where
    pub message : Message (List ℕ)
    pub to_say : ToSay (setting_of rule) n i h p message
    pub lowest : (m : Message (List ℕ)) → ToSay (setting_of rule) n i h p m → position message ≤ position m
    pub place : s.position ≡ position message
    pub bytes : s.packet ≡ written message

  spoken_lowest : (r : Result (Option ℕ) Refused) (out : List ℕ) → Tells (setting_of rule) n i h p blank r out → (s : Spoken) → spoken r out ≡ Some s → Lowest s
  spoken_lowest (Ok None) out t s e = absurd (let z : ◌≡◌ {A = ℕ} 0 1 = cc in omega arith)
  spoken_lowest (Err x) out t s e = absurd (let z : ◌≡◌ {A = ℕ} 0 1 = cc in omega arith)
  spoken_lowest (Ok (Some q)) out t s e = record {
    message = t.0;
    to_say = t.1.to_say;
    lowest = t.1.lowest;
    place = sym (ap (λ (x : Spoken). x.position) (same_some e)) ∙ t.1.told;
    bytes = sym (ap (λ (x : Spoken). x.packet) (same_some e)) ∙ ap first_message t.1.bytes ∙ first_written t.0 _ (short_body rule n t.0 t.1.to_say.lawful);
  }

  pub said_lowest : (s : Spoken) → said_from rule n i p h ≡ Some s → Lowest s
  said_lowest s e = go h.life e
    where
      go : (l : Life) → if_offered l (spoken answer output) None ≡ Some s → Lowest s
      go Fresh q = absurd (let z : ◌≡◌ {A = ℕ} 0 1 = cc in omega arith)
      go Running q = spoken_lowest answer output tells s q
      go Closed q = spoken_lowest answer output tells s q

  -- none is said at or after it
  spoken_none : (r : Result (Option ℕ) Refused) (out : List ℕ) → Tells (setting_of rule) n i h p blank r out → sizes_ok n h ≡ true → spoken r out ≡ None → (m : Message (List ℕ)) → ToSay (setting_of rule) n i h p m → ⊥
  spoken_none (Ok None) out t fits e m to = t.0 m to
  spoken_none (Ok (Some q)) out t fits e m to = absurd (let z : ◌≡◌ {A = ℕ} 0 1 = cc in omega arith)
  spoken_none (Err x) out t fits e m to = why t.1
    where
      why : Why (setting_of rule) n i h p blank x → ⊥
      why (inl small_tables) = let z = false≢true (sym small_tables.1 ∙ fits) in z
      why (inr long) = let y = long.1.1 in let w = short_written rule n long.1.0 y.to_say.lawful in let l = y.longer in absurd (omega (arith, w, l))

  pub said_none : HasOffered h.life → sizes_ok n h ≡ true → said_from rule n i p h ≡ None → (m : Message (List ℕ)) → ToSay (setting_of rule) n i h p m → ⊥
  said_none o fits e m to = go h.life o e
    where
      go : (l : Life) → HasOffered l → if_offered l (spoken answer output) None ≡ None → ⊥
      go Fresh x q = absurd (⊎_elim (λ z. let y : ◌≡◌ {A = ℕ} 0 1 = cc in omega arith) (λ z. let y : ◌≡◌ {A = ℕ} 0 1 = cc in omega arith) x)
      go Running x q = spoken_none answer output tells fits q m to
      go Closed x q = spoken_none answer output tells fits q m to

  -- what is spoken has been said
  pub spoken_said : (s : Spoken) → said_from rule n i p h ≡ Some s → Said (setting_of rule) n i h s.packet
  spoken_said s e = let l = said_lowest s e in record { message = l.message; lawful = l.to_say.lawful; has_said = l.to_say.said; bytes = l.bytes }

  pub spoken_low : (s : Spoken) → said_from rule n i p h ≡ Some s → s.position < positions
  spoken_low s e = let l = said_lowest s e in let q = position_low rule n l.message small l.to_say.lawful in let z = l.place in omega (arith, q, z)
