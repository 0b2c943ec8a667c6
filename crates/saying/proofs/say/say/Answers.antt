-- The law, from those of a kind of sheet and of a coin.
use Rattle.outcomes.specs.Tables.{setting}
use Rattle.saying.proofs.TheFirst.{says_the_first}
use Rattle.saying.proofs.say.say.Goals as goal

pub returns-then-not-are_large_enough-clause-law : goal.returns-then-not-are_large_enough-clause-law
returns-then-not-are_large_enough-clause-law g c =
    let m = g.S.Sheet in
    let met = g.met.S.Sheet in
    says_the_first (setting m.rows m.LEN m.KIND m.lawful g.R.Rule.acts g.C.Coin.acts) (λ r s e. (met.kept r s e).0) g.met.C.Coin.keeps

pub returns-in_default-clause-law : goal.returns-in_default-clause-law
returns-in_default-clause-law g c =
    let m = g.S.Sheet in
    let met = g.met.S.Sheet in
    says_the_first (setting m.rows m.LEN m.KIND m.lawful g.R.Rule.acts g.C.Coin.acts) (λ r s e. (met.kept r s e).0) g.met.C.Coin.keeps

pub returns-in_err-write-clause-law : goal.returns-in_err-write-clause-law
returns-in_err-write-clause-law g c =
    let m = g.S.Sheet in
    let met = g.met.S.Sheet in
    says_the_first (setting m.rows m.LEN m.KIND m.lawful g.R.Rule.acts g.C.Coin.acts) (λ r s e. (met.kept r s e).0) g.met.C.Coin.keeps

pub returns-clause-law : goal.returns-clause-law
returns-clause-law g c =
    let m = g.S.Sheet in
    let met = g.met.S.Sheet in
    says_the_first (setting m.rows m.LEN m.KIND m.lawful g.R.Rule.acts g.C.Coin.acts) (λ r s e. (met.kept r s e).0) g.met.C.Coin.keeps
