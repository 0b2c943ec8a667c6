-- A hall as its calls see it, and how its evening goes on while its tills hear each other. Assumes nothing.
use Rattle.std.specs.Prelude.{◌≡◌, ℕ, ◌<◌, ◌⊎◌, Bool, true, List, Ok, Err, Result}
use Rattle.evenings.specs.Claims.{AtRest}
use Rattle.outcomes.specs.Calls.{HasOffered}
use Rattle.phases.specs.Records.{meaning_of}
use Rattle.scripts.specs.declared.command.RuleName.{RuleName}
use Rattle.halls.specs.Faults.{Problem, memory}
use Rattle.halls.specs.Plays.{Replicas, Shows}
use Rattle.halls.specs.Scenes.{Scene, shown}
use Rattle.halls.specs.States.{setting_of}
use Rattle.halls.specs.declared.hall.Hall.{Hall}
use Rattle.halls.specs.declared.till.Till.{Till}

abbrev pub scene_of : Hall → Scene
scene_of h = record { rule = h.rule; n = h.n; tills = shown h.tills.items }

abbrev pub scene_told : Result Hall Problem → Result Scene Problem
scene_told (Ok h) = Ok (scene_of h)
scene_told (Err e) = Err e

-- an answer is the one expected; where that is no problem, memory may have run out instead
abbrev pub OrMemory : {X : Type 0} → Result X Problem → Result X Problem → Type 0
OrMemory r (Ok x) = (r ≡ Ok x) ⊎ (r ≡ Err memory)
OrMemory r (Err e) = r ≡ Err e

-- whoever of its tills has offered has heard all that the others of them have said, unrefused, and looking changes nothing at
-- any of them
abbrev pub HallRests : RuleName → ℕ → List Till → Type 0
HallRests rule n ts = (s : Replicas) → Shows n ts s → (offered : ℕ → Bool) → ((i : ℕ) → i < n → offered i ≡ true → HasOffered (s i).life) → ∥ AtRest (setting_of rule) meaning_of n offered s ∥₁
