-- The first message among slots. Assumes nothing.
use Rattle.std.proofs.Common.{◌≡◌, ℕ, zero, suc, ◌+◌, ◌*◌, ◌<◌, ◌≤◌, Bool, true, false, cond, List, Some, None, Option, refl, sym, ap, ◌∙◌, ap₂, ⊎_elim, add-one, arith}
use Rattle.std.specs.Option.{option_map}
use Rattle.std.proofs.lemmas.Bool.{cases_eq, lt-leb}
use Rattle.messages.specs.Tags.{phase_tag}
use Rattle.messages.specs.Writing.{position}
use Rattle.messages.specs.declared.message.Message.{Message}
use Rattle.messages.specs.declared.message.Message.TheVariants.{Sheet}
use Rattle.messages.specs.declared.message.Phase.{Phase}
use Rattle.sheets.specs.Holds.{Rows}
use Rattle.slots.specs.Places.{or_else, recorded}
use Rattle.broadcast.specs.Calls.{may_send}
use Rattle.broadcast.specs.Saying.{said_message_lem, at_or_after, earliest}

module _ {R : Type 0} (rows : Rows R) (n own : ℕ) (ps : List R) (ph : Phase) (from : ℕ) where
  -- none so far, and none for this slot
  pub none_more : (i : ℕ) → earliest rows n own ps ph from i ≡ None → None ≡ at_or_after from (said_message_lem rows n own ps ph i) → earliest rows n own ps ph from (i + 1) ≡ None
  unfolding earliest
  none_more i none here = rw (add-one i) (ap₂ or_else none (sym here))

  -- none before, and this one: it is the first, however many come after
  pub this_one : (i m : ℕ) (x : Message (List ℕ)) → i < m → earliest rows n own ps ph from i ≡ None → Some x ≡ at_or_after from (said_message_lem rows n own ps ph i) → Some x ≡ earliest rows n own ps ph from m
  unfolding earliest
  this_one i zero x lt none here = absurd (omega arith)
  this_one i (suc m) x lt none here = ⊎_elim
      (λ e. here ∙ sym (ap₂ or_else (ap (earliest rows n own ps ph from) (sym e) ∙ none) (ap (λ k. at_or_after from (said_message_lem rows n own ps ph k)) (sym e))))
      (λ ne. ap (λ a. or_else a (at_or_after from (said_message_lem rows n own ps ph m))) (this_one i m x (omega arith) none here))
      (cases_eq i m)

  -- none of the slots below i
  pub none_all : (i : ℕ) → ((k : ℕ) → k < i → at_or_after from (said_message_lem rows n own ps ph k) ≡ None) → earliest rows n own ps ph from i ≡ None
  unfolding earliest
  none_all zero none = refl
  none_all (suc i) none = ap₂ or_else (none_all i (λ k l. none k (omega arith))) (none i (omega arith))

  -- none of a slot that lies wholly below the position
  pub none_below : (k : ℕ) → (phase_tag ph * 16 + k) * 4096 + 4096 ≤ from → at_or_after from (said_message_lem rows n own ps ph k) ≡ None
  none_below k below = go (may_send ph k own) (recorded rows n ps ph k own)
    where
      go : (b : Bool) (o : Option (List ℕ)) → at_or_after from (cond b (option_map (Sheet ph k) o) None) ≡ None
      go false o = refl
      go true None = refl
      go true (Some s) = ap (λ b. cond b (Some (Sheet ph k s)) None) (lt-leb from (position (Sheet ph k s)) (omega arith))
