-- The share's toss alone is changed, and only by a new share.
use Rattle.std.proofs.Common.{ℕ, get_or, ap, ◌∙◌}
use Rattle.coins.specs.Coins.{answer_by}
use Rattle.coins.specs.Tosses.{blank, taken_from}
use Rattle.coins.specs.Keeping.{put_back}
use Rattle.coins.proofs.share_coin.ShareCoinCoin.take.Goals as goal

pub returns : goal.returns
returns c =
    let coin = c.args.self.now in
    let share = c.args.share in
    record {
      answer = c.take.ensures.answer ∙ ap (λ (i : ℕ). answer_by (taken_from (get_or coin.tosses i blank) share.sender) share.value) c.toss_place-place.ensures.value;
      left = put_back coin share c.toss_place-place.result c.take.new.self c.toss_place-place.ensures.value c.take.ensures.left;
    }
