-- The first of all slots that passes is the lowest.
use Rattle.std.proofs.Common.{◌≡◌, true, false, rules}
use Rattle.std.proofs.lemmas.Iterator.{first_from_Range}
use Rattle.outcomes.specs.Tables.{viewed}
use Rattle.outcomes.specs.Closing.{is_undecided}
use Rattle.closing.proofs.Lowest.{first_lowest}
use Rattle.closing.proofs.view.ClosingView.lowest_undecided.Goals as goal

pub returns : goal.returns
returns g c =
    let m = g.S.Sheet in
    let s = c.args.self.now in
    let p = is_undecided m.rows s.member.n (viewed s.records.now s.rounds s.places.now) in
    first_lowest p s.member.n c.find.result
    (first_from_Range _ _ _ _ (λ j. p j ≡ true) (λ j. p j ≡ false) c.find.ensures.ran (λ x q k. search rules) (λ x q k. search rules))
