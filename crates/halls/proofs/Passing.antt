-- A message that one till says and another hears. Assumes nothing.
use Rattle.std.proofs.Common.{◌≡◌, ℕ, ◌<◌, ◌≤◌, Bool, List, Some, None, Ok, Err, Option, Result, length, sym, ap, ◌∙◌, subst, get_or, set, arith}
use Rattle.std.specs.Option.{option_map}
use Rattle.std.proofs.lemmas.List.{get_or-map}
use Rattle.outcomes.specs.Calls.{Said}
use Rattle.scripts.specs.declared.command.RuleName.{RuleName}
use Rattle.halls.specs.Faults.{Problem, fault_told, said_of, said_output}
use Rattle.halls.specs.Packets.{first_message}
use Rattle.halls.specs.Plays.{Seated}
use Rattle.halls.specs.Scenes.{shown, till, nobody, hearing, hearing_left}
use Rattle.halls.specs.States.{Held, setting_of}
use Rattle.halls.specs.Sweeps.{blank, positions, is_new, said_from, passed_on, pass_answer, passed_left, pass_left}
use Rattle.halls.specs.Tills.{held_by}
use Rattle.halls.specs.declared.till.Fault.{Fault}
use Rattle.halls.specs.declared.till.Till.{Till}
use Rattle.halls.proofs.Saying.{spoken_said, spoken_low}
use Rattle.halls.proofs.Seats.{spoken_by, say_answered}

-- the till with the number j says from position p to that with the number i
module _ (rule : RuleName) (n : ℕ) (ts : List Till) (place j : ℕ) (seat : place ≡ j) (told : Till) (low : j < n) (counted : length ts ≡ n) (sat : Seated n ts) (was : told ≡ get_or ts place told) (i p : ℕ) where
  module _ (r : Result (Option ℕ) Fault) (out : List ℕ) (answered : fault_told r ≡ said_of rule told.state p blank (held_by told)) (left : out ≡ said_output rule told.state p blank (held_by told)) where
    -- what it says, by what the call of say answered and left
    spoken_is : said_from rule n j p (till j (shown ts)) ≡ spoken_by (fault_told r) out
    spoken_is =
        sym (say_answered rule n ts place j seat told low counted sat was p)
        ∙ ap (λ (z : Result (Option ℕ) Problem). spoken_by z (said_output rule told.state p blank (held_by told))) (sym answered)
        ∙ ap (spoken_by (fault_told r)) (sym left)

    none_is : (e : Fault) → r ≡ Err e → said_from rule n j p (till j (shown ts)) ≡ None
    none_is e is = spoken_is ∙ ap (λ (z : Result (Option ℕ) Fault). spoken_by (fault_told z) out) is

    end_is : r ≡ Ok None → said_from rule n j p (till j (shown ts)) ≡ None
    end_is is = spoken_is ∙ ap (λ (z : Result (Option ℕ) Fault). spoken_by (fault_told z) out) is

    said_is : (q : ℕ) → r ≡ Ok (Some q) → said_from rule n j p (till j (shown ts)) ≡ Some (record { position = q; packet = first_message out })
    said_is q is = spoken_is ∙ ap (λ (z : Result (Option ℕ) Fault). spoken_by (fault_told z) out) is

    pub failed_answer : (e : Fault) → r ≡ Err e → None ≡ pass_answer rule n j i p (shown ts)
    failed_answer e is = sym (ap (option_map (passed_on rule n j i (shown ts))) (none_is e is))

    pub failed_left : (e : Fault) → r ≡ Err e → shown ts ≡ pass_left rule n j i p (shown ts)
    failed_left e is = sym (ap (passed_left rule n j i (shown ts)) (none_is e is))

    pub ended_answer : r ≡ Ok None → None ≡ pass_answer rule n j i p (shown ts)
    ended_answer is = sym (ap (option_map (passed_on rule n j i (shown ts))) (end_is is))

    pub ended_left : r ≡ Ok None → shown ts ≡ pass_left rule n j i p (shown ts)
    ended_left is = sym (ap (passed_left rule n j i (shown ts)) (end_is is))

    module _ (q : ℕ) (is : r ≡ Ok (Some q)) (xs : List ℕ) (read : xs ≡ first_message out) where
      spoken : said_from rule n j p (till j (shown ts)) ≡ Some (record { position = q; packet = xs })
      spoken = said_is q is ∙ ap (λ (z : List ℕ). Some (record { position = q; packet = z })) (sym read)

      pub passed_answer : (news : Bool) → news ≡ is_new (hearing rule n i j xs (till i (shown ts))) → Some (record { position = q; news = news }) ≡ pass_answer rule n j i p (shown ts)
      passed_answer news e = ap (λ (z : Bool). Some (record { position = q; news = z })) e ∙ sym (ap (option_map (passed_on rule n j i (shown ts))) spoken)

      pub passed_shown : (hs : List Held) → hs ≡ set (shown ts) i (hearing_left rule n i j xs (till i (shown ts))) → hs ≡ pass_left rule n j i p (shown ts)
      passed_shown hs e = e ∙ sym (ap (passed_left rule n j i (shown ts)) spoken)

      pub passed_low : n ≤ 16 → q < positions
      passed_low small = spoken_low rule n j p (till j (shown ts)) small low (record { position = q; packet = xs }) spoken

      pub passed_said : n ≤ 16 → (d : Till) → Said (setting_of rule) n j (held_by (get_or ts j d)) xs
      passed_said small d = subst (λ (z : Held). Said (setting_of rule) n j z xs) (get_or-map held_by ts j d nobody (omega (arith, low, counted))) (spoken_said rule n j p (till j (shown ts)) small low (record { position = q; packet = xs }) spoken)
