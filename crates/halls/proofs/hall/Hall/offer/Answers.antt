-- The evening goes on by the call.
use Rattle.std.proofs.Common.{w64}
use Rattle.std.proofs.Math.Logic.{∥∥₁_map}
use Rattle.std.proofs.lemmas.Int.{to_z-of_z}
use Rattle.halls.specs.Halls.{scene_of}
use Rattle.halls.specs.Plays.{Played}
use Rattle.halls.proofs.Asking.{no_till_left, offered_told, offered_left}
use Rattle.halls.proofs.Playing.{played_on, continued_none}
use Rattle.halls.proofs.hall.Hall.offer.Goals as goal

pub invariant_of-self : goal.invariant_of-self
invariant_of-self c =
    let h = c.args.self.now in
    record {
      listed = h.listed;
      counted = c.offer_at.ensures.counted;
      seated = c.offer_at.ensures.seated;
      played = ∥∥₁_map h.played (λ (p : Played h.rule h.n h.tills.items). played_on h.rule h.n h.tills.items c.offer_at.new.tills.items p c.offer_at.ensures.goes_on);
    }

pub returns-in_err-sheet-clause-continued : goal.returns-in_err-sheet-clause-continued
returns-in_err-sheet-clause-continued c = continued_none c.args.self.now.rule c.args.self.now.n c.args.self.now.tills.items

pub returns-then-number-self-clause-left : goal.returns-then-number-self-clause-left
returns-then-number-self-clause-left c = no_till_left (scene_of c.args.self.now) c.args.number c.args.receipts c.args.cents _ _ (to_z-of_z w64 c.args.cents c.ranges.cents) c.in_ok-sheet.ensures c.if-number-self.true

pub returns-then-number-self-clause-continued : goal.returns-then-number-self-clause-continued
returns-then-number-self-clause-continued c = continued_none c.args.self.now.rule c.args.self.now.n c.args.self.now.tills.items

pub returns-clause-answer : goal.returns-clause-answer
returns-clause-answer c = offered_told (scene_of c.args.self.now) c.args.number c.args.receipts c.args.cents _ _ (to_z-of_z w64 c.args.cents c.ranges.cents) c.in_ok-sheet.ensures c.if-number-self.false _ c.offer_at.ensures.answer

pub returns-clause-left : goal.returns-clause-left
returns-clause-left c = offered_left (scene_of c.args.self.now) c.args.number c.args.receipts c.args.cents _ _ (to_z-of_z w64 c.args.cents c.ranges.cents) c.in_ok-sheet.ensures c.if-number-self.false _ c.offer_at.ensures.left
