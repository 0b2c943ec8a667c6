-- A later round is the one after that of its number.
use Rattle.std.proofs.Common.{◌≡◌, suc, ◌<◌, length, ap, ◌∙◌, subst, arith}
use Rattle.ballots.proofs.Rows.{row_at}
use Rattle.ballots.specs.States.{place, round_at}
use Rattle.outcomes.specs.Holdings.{Running, state_of}
use Rattle.outcomes.specs.Tables.{holding}
use Rattle.rules.specs.Rounds.{vote_of, recorded}
use Rattle.saying.proofs.view.SayingView.has_recorded.Goals as goal

pub returns-in-Some : goal.returns-in-Some
returns-in-Some g c =
    let s = c.args.self.now in
    let f = g.R.Rule.meaning in
    let h = holding f Running s.records.now s.rounds.now s.places.now s.coin.now in
    let k = c.args.slot in
    let r = c.in-Some.later in
    let e : suc r ≡ c.args.round = omega (arith, c.in-Some.ensures) in
    let within : place k r < length s.rounds.now = omega (arith, s.rows, c.requires.slot, c.requires.round, e) in
    let here : c.has_recorded-in-Some.result ≡ recorded (vote_of c.args.vote) (round_at k (suc r) (state_of k h)) =
    c.has_recorded-in-Some.ensures ∙ ap (recorded (vote_of c.args.vote)) (row_at f s.rounds.now c.row_of.result (place k r) c.index-self-row_of.result c.row_of.ensures within) in
    subst (λ x. c.has_recorded-in-Some.result ≡ recorded (vote_of c.args.vote) (round_at k x (state_of k h))) e here
