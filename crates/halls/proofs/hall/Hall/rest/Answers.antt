-- The evening goes on from sweep to sweep; there are not so many that bring something new, and after one that brings nothing the hall is at rest.
use Rattle.std.proofs.Common.{ℕ, ap₂, ◌∙◌, refl}
use Rattle.basis.proofs.Thirds.{at_most_16}
use Rattle.scripts.specs.declared.command.RuleName.{RuleName}
use Rattle.halls.specs.Scenes.{shown}
use Rattle.halls.specs.Sweeps.{sweep}
use Rattle.halls.proofs.Playing.{progress_none, progress_then, continued_of}
use Rattle.halls.proofs.Resting.{scene_is, hall_rests, too_many, rested_more, rested_end, again_none}
use Rattle.halls.proofs.hall.Hall.rest.Goals as goal

pub loop-turn-init : goal.loop-turn-init
loop-turn-init c = (progress_none c.args.self.now.rule c.args.self.now.n c.args.self.now.tills.items, refl)

pub loop-turn-preserved : goal.loop-turn-preserved
loop-turn-preserved c =
    let p = c.loop-turn.invariant.0 in
    let h = c.loop-turn.self in (
      progress_then c.loop-turn._turn 1 _ _ _ _ _ _ _ _ _ p c.if-not-sweep.ensures.progress,
      rested_more c.args.self.now.rule c.args.self.now.n c.loop-turn._turn (shown h.tills.items) (shown c.sweep.new.self.tills.items) _ c.loop-turn-test.true (c.if-not-sweep.ensures.heard ∙ ap₂ (λ (r : RuleName) (m : ℕ). sweep r m (shown h.tills.items)) p.same_rule p.same_size) c.loop-turn.invariant.1,
    )

pub returns-then-not-sweep-clause-left : goal.returns-then-not-sweep-clause-left
returns-then-not-sweep-clause-left c =
    let p = c.loop-turn.invariant.0 in
    let f = c.if-not-sweep.ensures.progress in
    let h = c.loop-turn.self in
    scene_is _ _ _ _ _ _ (f.same_rule ∙ p.same_rule) (f.same_size ∙ p.same_size)
    (rested_end c.args.self.now.rule c.args.self.now.n c.loop-turn._turn (shown h.tills.items) (shown c.sweep.new.self.tills.items) _ c.loop-turn-test.true (c.if-not-sweep.ensures.heard ∙ ap₂ (λ (r : RuleName) (m : ℕ). sweep r m (shown h.tills.items)) p.same_rule p.same_size) c.loop-turn.invariant.1)

pub returns-then-not-sweep-clause-nothing_new : goal.returns-then-not-sweep-clause-nothing_new
returns-then-not-sweep-clause-nothing_new c =
    let f = c.if-not-sweep.ensures.progress in
    let h = c.loop-turn.self in
    let h' = c.sweep.new.self in
    ap₂ (λ (r : RuleName) (m : ℕ). (sweep r m (shown h'.tills.items)).news) f.same_rule f.same_size
    ∙ again_none h.rule h.n (shown h.tills.items) (shown h'.tills.items) (at_most_16 h.n h.listed) c.if-not-sweep.ensures.heard

pub returns-then-not-sweep-clause-continued : goal.returns-then-not-sweep-clause-continued
returns-then-not-sweep-clause-continued c = continued_of _ _ _ _ _ _ _ (progress_then _ _ _ _ _ _ _ _ _ _ _ c.loop-turn.invariant.0 c.if-not-sweep.ensures.progress)

pub returns-then-not-sweep-clause-at_rest : goal.returns-then-not-sweep-clause-at_rest
returns-then-not-sweep-clause-at_rest c =
    let f = c.if-not-sweep.ensures.progress in
    let h = c.loop-turn.self in
    let h' = c.sweep.new.self in
    hall_rests h'.rule h'.n h'.tills.items h'.listed h'.counted
    (ap₂ (λ (r : RuleName) (m : ℕ). (sweep r m (shown h'.tills.items)).news) f.same_rule f.same_size
    ∙ again_none h.rule h.n (shown h.tills.items) (shown h'.tills.items) (at_most_16 h.n h.listed) c.if-not-sweep.ensures.heard)
    h'.played

pub returns-clause-left : goal.returns-clause-left
returns-clause-left c = let h = c.args.self.now in too_many h.rule h.n h.tills.items h.listed h.counted c.loop-turn._turn _ c.loop-turn-test.false h.played c.loop-turn.invariant.0.hears_new

pub returns-clause-nothing_new : goal.returns-clause-nothing_new
returns-clause-nothing_new c = let h = c.args.self.now in too_many h.rule h.n h.tills.items h.listed h.counted c.loop-turn._turn _ c.loop-turn-test.false h.played c.loop-turn.invariant.0.hears_new

pub returns-clause-at_rest : goal.returns-clause-at_rest
returns-clause-at_rest c = let h = c.args.self.now in too_many h.rule h.n h.tills.items h.listed h.counted c.loop-turn._turn _ c.loop-turn-test.false h.played c.loop-turn.invariant.0.hears_new
