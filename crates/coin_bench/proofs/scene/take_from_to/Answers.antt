-- One share more is taken.
use Rattle.std.proofs.Common.{◌≡◌, ℕ, ◌-◌, sym, ap, ◌∙◌, arith}
use Rattle.coins.specs.declared.share_coin.ShareCoin.{ShareCoin}
use Rattle.coins.specs.Coins.{take_after}
use Rattle.coins.specs.Shared.{share_acts}
use Rattle.coin_bench.specs.Scenes.{dealt_share, so_many_taken}
use Rattle.coin_bench.proofs.Dealing.{one_taken}
use Rattle.coin_bench.proofs.scene.take_from_to.Goals as goal

pub loop-sender-init : goal.loop-sender-init
unfolding so_many_taken
loop-sender-init c =
    let e : c.args.from - c.args.from ≡ 0 = omega arith in
    sym (ap (λ (x : ℕ). so_many_taken c.args.n c.args.at.ballot c.args.at.round c.args.from x c.args.coin.now) e)

pub loop-sender-preserved : goal.loop-sender-preserved
loop-sender-preserved c =
    c.take.ensures.left
    ∙ ap (λ (v : ℕ). take_after share_acts c.loop-sender.coin (record { ballot = c.args.at.ballot; round = c.args.at.round; sender = c.loop-sender.sender; value = v })) c.value_of-value.ensures
    ∙ ap (λ (x : ShareCoin). take_after share_acts x (dealt_share c.args.n c.args.at.ballot c.args.at.round c.loop-sender.sender)) c.loop-sender.invariant
    ∙ sym (one_taken c.args.n c.args.at.ballot c.args.at.round c.args.from c.loop-sender.sender c.args.coin.now (omega arith))
