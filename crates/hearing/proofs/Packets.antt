-- What a packet that was read is known to be, and what hearing a new message leaves. Assumes nothing.
use Rattle.std.proofs.Common.{◌≡◌, ℕ, ◌<◌, Bool, true, cond, not, ◌&&◌, List, Ok, Result, ◌==◌, nat_lt, refl, sym, ap, ◌∙◌, subst}
use Rattle.basis.specs.Bytes.{Octets}
use Rattle.basis.specs.declared.heard.Heard.{Heard}
use Rattle.basis.specs.declared.heard.Heard.TheVariants.{New, Known}
use Rattle.basis.specs.Refusals.{Refused, refused}
use Rattle.broadcast.specs.Calls.{if_new}
use Rattle.messages.specs.declared.message.Message.{Message}
use Rattle.messages.specs.declared.message.Message.TheVariants.{Sheet, Bit, Set, Share}
use Rattle.messages.specs.declared.message.Part.{Part}
use Rattle.messages.specs.Reading.{Syntax, Placed, part_placed, placed, and_then, reading, Lawful, Exact}
use Rattle.messages.specs.Writing.{on_sheet, slot_of}
use Rattle.outcomes.specs.Hearing.{message_answer, message_noted, message_taken, hear_after}
use Rattle.outcomes.specs.Holdings.{Setting, Holding, syntax_of, sizes_ok}
use Rattle.outcomes.specs.Taking.{slot_taken}

-- a message by its sheet's bytes
abbrev pub by_bytes : Message Part → Message (List ℕ)
by_bytes m = on_sheet (λ (p : Part). p.bytes.now) m

without_place : (m : Message Part) → on_sheet (λ (p : Placed). p.bytes) (on_sheet part_placed m) ≡ by_bytes m
without_place (Sheet ph k p) = refl
without_place (Bit v k r b) = refl
without_place (Set t k r v) = refl
without_place (Share k r x) = refl

unplaced : (m : Message (List ℕ)) → on_sheet (λ (p : Placed). p.bytes) (placed m) ≡ m
unplaced (Sheet ph k s) = refl
unplaced (Bit v k r b) = refl
unplaced (Set t k r v) = refl
unplaced (Share k r x) = refl

-- what was read is lawful
pub read_lawful : (y : Syntax) → Exact y → (xs : List ℕ) → Octets xs → (m : Message Part) → reading y xs ≡ Ok (on_sheet part_placed m) → Lawful y (by_bytes m)
read_lawful y fit xs octets m e =
    let o = fit.only xs octets (on_sheet part_placed m) e in
    subst (Lawful y) (sym (sym (without_place m) ∙ ap (λ x. on_sheet (λ (p : Placed). p.bytes) x) o.3 ∙ unplaced o.0)) o.1

-- and is for a slot of the hall
pub slot_low : (y : Syntax) (m : Message Part) → Lawful y (by_bytes m) → slot_of m < y.replicas
slot_low y (Sheet ph k p) l = l.0
slot_low y (Bit v k r b) l = l.0
slot_low y (Set t k r v) l = l.0
slot_low y (Share k r x) l = l.0

pub slot_placed : (m : Message Part) → slot_of m ≡ slot_of (on_sheet part_placed m)
slot_placed (Sheet ph k p) = refl
slot_placed (Bit v k r b) = refl
slot_placed (Set t k r v) = refl
slot_placed (Share k r x) = refl

module _ {R C : Type 0} (g : Setting R C) (n own j : ℕ) (xs : List ℕ) (h : Holding R C) (m : Message Placed) where
  abbrev left_by : Bool → Bool → Result (Message Placed) Refused → Holding R C
  left_by a b r = if_new (cond a (cond b (and_then r (message_answer g n own j h)) (refused 5 0)) (refused 4 0)) (message_taken g n own j h r) h

  -- what is left of a message that was read and answered, by what is left of recording it
  pub heard_left : (k : ℕ) (t : Holding R C) (x : Heard) → sizes_ok n h ≡ true → (nat_lt j n && not (j == own)) ≡ true → reading (syntax_of g n) xs ≡ Ok m → Ok x ≡ message_answer g n own j h m
      → k ≡ slot_of m → t ≡ if_new (message_answer g n own j h m) (message_noted g n own j m h) h
      → if_new (Ok x) (slot_taken g n own k t) t ≡ hear_after g n own j xs h
  heard_left k t x ea eb er ex ek et = ap (λ (u : Holding R C). if_new (Ok x) (slot_taken g n own k u) u) recorded ∙ cases x ∙ sym whole
    where
      noted : Holding R C
      noted = message_noted g n own j m h

      whole : hear_after g n own j xs h ≡ if_new (Ok x) (slot_taken g n own (slot_of m) noted) h
      whole = ap (λ (a : Bool). left_by a (nat_lt j n && not (j == own)) (reading (syntax_of g n) xs)) ea
          ∙ ap (λ (b : Bool). left_by true b (reading (syntax_of g n) xs)) eb
          ∙ ap (left_by true true) er
          ∙ ap (λ (r : Result Heard Refused). if_new r (slot_taken g n own (slot_of m) noted) h) (sym ex)

      recorded : t ≡ if_new (Ok x) noted h
      recorded = et ∙ ap (λ (r : Result Heard Refused). if_new r noted h) (sym ex)

      cases : (y : Heard) → if_new (Ok y) (slot_taken g n own k (if_new (Ok y) noted h)) (if_new (Ok y) noted h) ≡ if_new (Ok y) (slot_taken g n own (slot_of m) noted) h
      cases New = ap (λ (i : ℕ). slot_taken g n own i noted) ek
      cases Known = refl
