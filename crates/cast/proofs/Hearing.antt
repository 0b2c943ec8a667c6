-- What a running replica answers to a packet, and what it leaves, is what its till answers and leaves. Assumes nothing.
use Rattle.std.proofs.Common.{◌≡◌, ℕ, false, List, Result, sym, ap, ◌∙◌, ap₂}
use Rattle.basis.specs.Refusals.{Refused}
use Rattle.messages.specs.Reading.{syntax}
use Rattle.messages.specs.Tags.{basic_tags}
use Rattle.messages.specs.declared.tags.VoteTags.{VoteTags}
use Rattle.sheets.specs.OfTakings.{takings_lawful}
use Rattle.sheets.specs.declared.kinds.TakingsRow.{TakingsRow}
use Rattle.broadcast.specs.Calls.{hear_answer, hear_after}
use Rattle.broadcast.specs.Calls as calls
use Rattle.basis.specs.declared.heard.Heard.{Heard}
use Rattle.slots.specs.Steps.{Slots}
use Rattle.slots.specs.declared.slot.Slot.{Slot}
use Rattle.broadcast.specs.declared.states.Running.{Running}
use Rattle.cast.specs.States.{as_problem, heard_of, heard_left}
use Rattle.sheets.specs.OfTakings.{takings_rows}
use Rattle.cast.specs.declared.till.State.{State}
use Rattle.cast.specs.declared.till.State.TheVariants as state

-- tables of the same rows
pub same_slots : (a b : List Slot) (p q : List TakingsRow) → a ≡ b → p ≡ q → ◌≡◌ {A = Slots TakingsRow} (record { records = a; places = p }) (record { records = b; places = q })
same_slots a b p q e f = ap₂ (λ (c : List Slot) (d : List TakingsRow). record { records = c; places = d }) e f

module _ (r : Running) (j : ℕ) (xs : List ℕ) (rounds : ℕ) where
  -- the replica's answer under some tags, over some tables
  abbrev answer : VoteTags → List Slot → List TakingsRow → Result Heard Refused
  answer v rs ps = hear_answer takings_rows (syntax 12 takings_lawful (record { n = r.member.n; tags = v; shares = false })) r.member.own j xs (record { life = calls.Running; slots = record { records = rs; places = ps }; rounds = rounds })

  -- and what it leaves
  abbrev after : VoteTags → List Slot → List TakingsRow → Slots TakingsRow
  after v rs ps = (hear_after takings_rows (syntax 12 takings_lawful (record { n = r.member.n; tags = v; shares = false })) r.member.own j xs (record { life = calls.Running; slots = record { records = rs; places = ps }; rounds = rounds })).slots

  pub hears : (s : State) (v : VoteTags) (a b : List Slot) (p q : List TakingsRow) (x : Result Heard Refused) → s ≡ state.Running r → v ≡ basic_tags → a ≡ b → p ≡ q → x ≡ answer v a p → as_problem x ≡ heard_of s j xs rounds (record { records = b; places = q })
  hears s v a b p q x is tags e f h =
      ap as_problem (h ∙ ap (λ w. answer w a p) tags ∙ ap₂ (λ c d. answer basic_tags c d) e f)
      ∙ sym (ap (λ z. heard_of z j xs rounds (record { records = b; places = q })) is)

  pub leaves : (s : State) (v : VoteTags) (a b : List Slot) (p q : List TakingsRow) (x : Slots TakingsRow) → s ≡ state.Running r → v ≡ basic_tags → a ≡ b → p ≡ q → x ≡ after v a p → x ≡ heard_left s j xs rounds (record { records = b; places = q })
  leaves s v a b p q x is tags e f h =
      h ∙ ap (λ w. after w a p) tags ∙ ap₂ (λ c d. after basic_tags c d) e f
      ∙ sym (ap (λ z. heard_left z j xs rounds (record { records = b; places = q })) is)
