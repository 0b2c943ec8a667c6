-- The evening goes on from turn to turn, and what is left to hear gives the whole.
use Rattle.std.proofs.Common.{◌≡◌, ℕ, ◌-◌, refl, ◌∙◌, sym, ap, arith}
use Rattle.halls.specs.Scenes.{shown}
use Rattle.halls.specs.Sweeps.{positions, heard_from}
use Rattle.halls.proofs.Playing.{progress_none, progress_then, progress_less, progress_or}
use Rattle.halls.proofs.Turning.{heard_more, heard_end, heard_last}
use Rattle.halls.proofs.hall.Hall.pass_all.Goals as goal

pub loop-turn-init : goal.loop-turn-init
loop-turn-init c = (progress_none c.args.self.now.rule c.args.self.now.n c.args.self.now.tills.items, refl)

pub loop-turn-preserved : goal.loop-turn-preserved
loop-turn-preserved c =
    let p = c.loop-turn.invariant.0 in
    let h = c.loop-turn.self in (
      progress_or c.loop-turn.any_new c.in-Some.passed.news _ _ _ _ _ _ _ _ _ p c.in-Some.ensures.progress,
      heard_more c.args.self.now.rule h.rule c.args.self.now.n h.n p.same_rule p.same_size c.loop-turn._turn c.args.from c.args.to c.loop-turn.position c.loop-turn.any_new (shown h.tills.items) (shown c.pass.new.self.tills.items) c.in-Some.passed _ c.loop-turn-test.true c.in-Some.ensures.answer c.in-Some.ensures.left c.loop-turn.invariant.1,
    )

pub pass-requires-clause-from_low : goal.pass-requires-clause-from_low
pass-requires-clause-from_low c = let e = c.loop-turn.invariant.0.same_size in omega (arith, e, c.requires.from_low)

pub pass-requires-clause-to_low : goal.pass-requires-clause-to_low
pass-requires-clause-to_low c = let e = c.loop-turn.invariant.0.same_size in omega (arith, e, c.requires.to_low)

pub returns-after-loop-turn-clause-heard : goal.returns-after-loop-turn-clause-heard
returns-after-loop-turn-clause-heard c =
    let h = c.loop-turn.self in
    let zero : positions - c.loop-turn._turn ≡ 0 = omega (arith, c.loop-turn-test.false) in
    heard_last c.args.self.now.rule c.args.self.now.n c.args.from c.args.to c.loop-turn.position _ _
    (ap (λ (k : ℕ). heard_from c.args.self.now.rule c.args.self.now.n k c.args.from c.args.to c.loop-turn.position (record { news = c.loop-turn.any_new; tills = shown h.tills.items })) (sym zero) ∙ c.loop-turn.invariant.1)

pub returns-after-loop-turn-clause-progress : goal.returns-after-loop-turn-clause-progress
returns-after-loop-turn-clause-progress c = c.loop-turn.invariant.0

pub returns-in_default-clause-heard : goal.returns-in_default-clause-heard
returns-in_default-clause-heard c =
    let p = c.loop-turn.invariant.0 in
    let h = c.loop-turn.self in
    heard_end c.args.self.now.rule h.rule c.args.self.now.n h.n p.same_rule p.same_size c.loop-turn._turn c.args.from c.args.to c.loop-turn.position c.loop-turn.any_new (shown h.tills.items) (shown c.pass.new.self.tills.items) _ c.loop-turn-test.true c.in_default.ensures.answer c.in_default.ensures.left c.loop-turn.invariant.1

pub returns-in_default-clause-progress : goal.returns-in_default-clause-progress
returns-in_default-clause-progress c = progress_less _ _ _ _ _ _ _ _ (omega arith) (progress_then _ _ _ _ _ _ _ _ _ _ _ c.loop-turn.invariant.0 c.in_default.ensures.progress)
