-- What the calls of a till come to in each of its states, under either rule. Assumes nothing.
use Rattle.std.specs.Prelude.{ℕ, Bool, true, false, List, Some, None, Option}
use Rattle.basis.specs.Members.{Numbers}
use Rattle.coins.specs.Dealt.{dealt_acts}
use Rattle.coins.specs.declared.dealt.DealtCoin.{DealtCoin}
use Rattle.outcomes.specs.Calls.{offer, hear, close, call_after}
use Rattle.outcomes.specs.Holdings.{Life, Fresh as IsFresh, Setting, Holding}
use Rattle.outcomes.specs.Tables.{setting}
use Rattle.phases.specs.Steps.{acts_of}
use Rattle.replica.specs.Told.{numbers_of}
use Rattle.scripts.specs.declared.command.RuleName.{RuleName}
use Rattle.scripts.specs.declared.command.RuleName.TheVariants.{Two, Three}
use Rattle.sheets.specs.OfTakings.{takings_rows, takings_lawful}
use Rattle.sheets.specs.declared.kinds.TakingsRow.{TakingsRow}
use Rattle.halls.specs.Actives.{active_member, active_life}
use Rattle.halls.specs.declared.state.Active.TheVariants.{Running, Closed}
use Rattle.halls.specs.declared.state.State.{State}
use Rattle.halls.specs.declared.state.State.TheVariants as state

-- whether the rule is the three-phase one
abbrev pub is_three : RuleName → Bool
is_three Two = false
is_three Three = true

-- what a hall's calls go by: takings, the rule, the dealt coin
abbrev pub setting_of : RuleName → Setting TakingsRow DealtCoin
setting_of rule = setting takings_rows 12 1 takings_lawful (acts_of (is_three rule)) dealt_acts

-- what a till holds
abbrev pub Held : Type 0
Held = Holding TakingsRow DealtCoin

-- the state and the numbers of a till's replica; while there is none, those of no replica
abbrev pub life_of : State → Life
life_of (state.Fresh f) = IsFresh
life_of (state.Active a) = active_life a
life_of state.Gone = IsFresh

abbrev pub numbers_in : State → Option Numbers
numbers_in (state.Fresh f) = Some (numbers_of f.member)
numbers_in (state.Active a) = Some (numbers_of (active_member a))
numbers_in state.Gone = None

abbrev pub is_active : State → Bool
is_active (state.Fresh f) = false
is_active (state.Active a) = true
is_active state.Gone = false

abbrev pub is_closed : State → Bool
is_closed (state.Fresh f) = false
is_closed (state.Active (Running r)) = false
is_closed (state.Active (Closed c)) = true
is_closed state.Gone = false

module _ (rule : RuleName) where
  -- what is left by an offer: only a fresh replica offers
  abbrev pub offer_left : State → List ℕ → Held → Held
  offer_left (state.Fresh f) s h = call_after (setting_of rule) f.member.n f.member.own (offer s) h
  offer_left (state.Active a) s h = h
  offer_left state.Gone s h = h

  -- by hearing a packet: only a replica that has offered hears
  abbrev pub hear_left : State → ℕ → List ℕ → Held → Held
  hear_left (state.Fresh f) j xs h = h
  hear_left (state.Active a) j xs h = call_after (setting_of rule) (active_member a).n (active_member a).own (hear j xs) h
  hear_left state.Gone j xs h = h

  -- by closing: only a running replica closes
  abbrev pub close_left : State → Held → Held
  close_left (state.Fresh f) h = h
  close_left (state.Active (Running r)) h = call_after (setting_of rule) r.member.n r.member.own close h
  close_left (state.Active (Closed c)) h = h
  close_left state.Gone h = h
