-- What a sound toss shows is exact.
use Rattle.std.proofs.Common.{◌≡◌, Bool, Option, sym, ap, subst}
use Rattle.coins.specs.declared.toss.Toss.{Toss}
use Rattle.coins.specs.Shared.{toss_at, ShowsExactly}
use Rattle.coins.specs.Keeping.{shows_exactly}
use Rattle.coins.proofs.share_coin.ShareCoin.shown.Goals as goal

pub returns : goal.returns
returns c =
    let e : c.toss.result.shown ≡ (toss_at c.args.self.now c.args.at.ballot c.args.at.round).shown = ap (λ (t : Toss). t.shown) c.toss.ensures in
    record { value = e; exact = λ h. subst (λ (o : Option Bool). ShowsExactly c.args.self.now c.args.at.ballot c.args.at.round o) (sym e) (shows_exactly c.args.self.now c.args.at.ballot c.args.at.round c.args.at.tossed h) }
