-- The evening goes on by the call.
use Rattle.std.proofs.Math.Logic.{∥∥₁_map}
use Rattle.halls.specs.Plays.{Played}
use Rattle.halls.proofs.Playing.{played_on, continued_none}
use Rattle.halls.proofs.hall.Hall.close.Goals as goal

pub invariant_of-self : goal.invariant_of-self
invariant_of-self c =
    let h = c.args.self.now in
    record {
      listed = h.listed;
      counted = c.close_at.ensures.counted;
      seated = c.close_at.ensures.seated;
      played = ∥∥₁_map h.played (λ (p : Played h.rule h.n h.tills.items). played_on h.rule h.n h.tills.items c.close_at.new.tills.items p c.close_at.ensures.goes_on);
    }

pub returns-then-number-self-clause-continued : goal.returns-then-number-self-clause-continued
returns-then-number-self-clause-continued c = continued_none c.args.self.now.rule c.args.self.now.n c.args.self.now.tills.items
