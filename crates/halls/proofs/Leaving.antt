-- What an offer and a heard packet answer and leave, by the state of the till. Assumes nothing.
use Rattle.std.proofs.Common.{◌≡◌, ℕ, List, Result, sym, ap, ◌∙◌}
use Rattle.basis.specs.declared.heard.Heard.{Heard}
use Rattle.basis.specs.Refusals.{Refused}
use Rattle.coins.specs.declared.dealt.DealtCoin.{DealtCoin}
use Rattle.outcomes.specs.declared.opening_record.OpeningRecord.{OpeningRecord}
use Rattle.outcomes.specs.Hearing.{hear_answer_lem, hear_after}
use Rattle.outcomes.specs.Holdings.{Life}
use Rattle.outcomes.specs.Opening.{offer_after}
use Rattle.outcomes.specs.Tables.{holding}
use Rattle.phases.specs.Records.{meaning_of}
use Rattle.phases.specs.declared.round.PhasedRound.{PhasedRound}
use Rattle.replica.specs.declared.states.Fresh.{Fresh}
use Rattle.scripts.specs.declared.command.RuleName.{RuleName}
use Rattle.sheets.specs.declared.kinds.TakingsRow.{TakingsRow}
use Rattle.halls.specs.Actives.{active_member}
use Rattle.halls.specs.Faults.{as_problem, heard_of}
use Rattle.halls.specs.States.{Held, setting_of, offer_left, hear_left}
use Rattle.halls.specs.declared.state.Active.{Active}
use Rattle.halls.specs.declared.state.State.{State}
use Rattle.halls.specs.declared.state.State.TheVariants as state

-- the same tables are held alike
pub same_held : (l : Life) (c : DealtCoin) (r r' : List OpeningRecord) (s s' : List PhasedRound) (p p' : List TakingsRow) → r ≡ r' → s ≡ s' → p ≡ p' → holding meaning_of l r s p c ≡ holding meaning_of l r' s' p' c
same_held l c r r' s s' p p' a b d =
    ap (λ (z : List OpeningRecord). holding meaning_of l z s p c) a
    ∙ ap (λ (z : List PhasedRound). holding meaning_of l r' z p c) b
    ∙ ap (λ (z : List TakingsRow). holding meaning_of l r' s' z c) d

module _ (rule : RuleName) (st : State) (h h' x : Held) (same : h' ≡ h) where
  pub offers_left : (f : Fresh) (s : List ℕ) → state.Fresh f ≡ st → x ≡ offer_after (setting_of rule) f.member.n f.member.own s h' → x ≡ offer_left rule st s h
  offers_left f s is e = e ∙ ap (λ (z : Held). offer_after (setting_of rule) f.member.n f.member.own s z) same ∙ ap (λ (z : State). offer_left rule z s h) is

  pub hears_left : (a : Active) (j : ℕ) (xs : List ℕ) → st ≡ state.Active a → x ≡ hear_after (setting_of rule) (active_member a).n (active_member a).own j xs h' → x ≡ hear_left rule st j xs h
  hears_left a j xs is e = e ∙ ap (λ (z : Held). hear_after (setting_of rule) (active_member a).n (active_member a).own j xs z) same ∙ sym (ap (λ (z : State). hear_left rule z j xs h) is)

pub hears_told : (rule : RuleName) (st : State) (h h' : Held) → h' ≡ h → (a : Active) (j : ℕ) (xs : List ℕ) (r : Result Heard Refused) → st ≡ state.Active a → r ≡ hear_answer_lem (setting_of rule) (active_member a).n (active_member a).own j xs h' → as_problem r ≡ heard_of rule st j xs h
hears_told rule st h h' same a j xs r is e =
    ap as_problem (e ∙ ap (λ (z : Held). hear_answer_lem (setting_of rule) (active_member a).n (active_member a).own j xs z) same) ∙ sym (ap (λ (z : State). heard_of rule z j xs h) is)
