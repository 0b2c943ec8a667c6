-- The evening goes on by the call.
use Rattle.std.proofs.Math.Logic.{∥∥₁_map}
use Rattle.halls.specs.Plays.{Played}
use Rattle.halls.proofs.Playing.{played_on, goes_of}
use Rattle.halls.proofs.hall.Hall.pass.Goals as goal

pub invariant_of-self : goal.invariant_of-self
invariant_of-self c =
    let h = c.args.self.now in
    record {
      listed = h.listed;
      counted = c.pass_at.ensures.counted;
      seated = c.pass_at.ensures.seated;
      played = ∥∥₁_map h.played (λ (p : Played h.rule h.n h.tills.items). played_on h.rule h.n h.tills.items c.pass_at.new.tills.items p (goes_of h.rule h.n _ h.tills.items c.pass_at.new.tills.items c.pass_at.ensures.hears_new));
    }
