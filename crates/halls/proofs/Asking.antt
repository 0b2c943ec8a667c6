-- Which of the checks of offer, close and open is the first to fail. Assumes nothing.
use Rattle.std.proofs.Common.{◌≡◌, ℕ, ◌<◌, ◌≤◌, Bool, true, false, cond, List, Ok, Err, Result, ℤ, inl, inr, refl, sym, ap, ◌∙◌, subst, replicate, set, arith}
use Rattle.std.specs.Prelude.{nat_lt, ◌&&◌}
use Rattle.std.proofs.lemmas.Bool.{cond-true, cond-false, lt-ltb, le-ltb, and_from, and_right}
use Rattle.basis.specs.Halls.{listed}
use Rattle.basis.specs.Refusals.{refused as refused_at}
use Rattle.scripts.specs.declared.command.RuleName.{RuleName}
use Rattle.sheets.specs.OfTakings.{in_range_lem, takings_made, amount_bytes}
use Rattle.sheets.specs.declared.kinds.TakingsRow.{TakingsRow}
use Rattle.halls.specs.Faults.{Problem, misplaced, memory}
use Rattle.halls.specs.Halls.{OrMemory}
use Rattle.halls.specs.Scenes.{Scene, till, offering, offering_left, offer_told, offer_left, opening_told, newly_opened, with_tills}
use Rattle.halls.specs.States.{Held}

-- takings that were made have an amount in range, and are those asked for
made_parts : (z : ℤ) (k : ℕ) (t : TakingsRow) → Ok t ≡ takings_made z k → (in_range_lem z ≡ true) × (t ≡ record { cents = z; receipts = k })
made_parts z k t e = go (in_range_lem z) refl e
  where
    go : (b : Bool) → in_range_lem z ≡ b → Ok t ≡ cond b (Ok (record { cents = z; receipts = k })) (refused_at 1 0) → (in_range_lem z ≡ true) × (t ≡ record { cents = z; receipts = k })
    go true r q = (r, same q)
      where
        same : {X E : Type 0} {a b : X} → ◌≡◌ {A = Result X E} (Ok a) (Ok b) → a ≡ b
        same q = cc
    go false r q = absurd (let w : ◌≡◌ {A = ℕ} 0 1 = cc in omega arith)

-- an offer of takings t, which were made of z cents and k receipts
module _ (x : Scene) (i k : ℕ) (z z' : ℤ) (t : TakingsRow) (same : z' ≡ z) (made : Ok t ≡ takings_made z' k) where
  in_range : in_range_lem z ≡ true
  in_range = ap in_range_lem (sym same) ∙ (made_parts z' k t made).0

  bytes : amount_bytes t.cents t.receipts ≡ amount_bytes z k
  bytes = ap (λ (r : TakingsRow). amount_bytes r.cents r.receipts) (made_parts z' k t made).1 ∙ ap (λ (y : ℤ). amount_bytes y k) same

  pub no_till_told : x.n ≤ i → Err misplaced ≡ offer_told x i z
  no_till_told high = sym (cond-true (in_range_lem z) _ _ in_range ∙ cond-false (nat_lt i x.n) _ _ (le-ltb i x.n high))

  pub no_till_left : x.n ≤ i → x ≡ offer_left x i z k
  no_till_left high = sym (cond-false (in_range_lem z && nat_lt i x.n) _ _ (and_right (in_range_lem z) (nat_lt i x.n) (le-ltb i x.n high)))

  pub offered_told : i < x.n → (r : Result (Unit {0}) Problem) → r ≡ offering x.rule x.n i (till i x.tills) → r ≡ offer_told x i z
  offered_told low r e = e ∙ sym (cond-true (in_range_lem z) _ _ in_range ∙ cond-true (nat_lt i x.n) _ _ (lt-ltb i x.n low))

  pub offered_left : i < x.n → (hs : List Held) → hs ≡ set x.tills i (offering_left x.rule x.n i (amount_bytes t.cents t.receipts) (till i x.tills)) → with_tills x hs ≡ offer_left x i z k
  offered_left low hs e =
      ap (with_tills x) (e ∙ ap (λ (s : List ℕ). set x.tills i (offering_left x.rule x.n i s (till i x.tills))) bytes)
      ∙ sym (cond-true (in_range_lem z && nat_lt i x.n) _ _ (and_from (in_range_lem z) (nat_lt i x.n) in_range (lt-ltb i x.n low)))

-- a hall of a listed size is opened, or memory ran out
module _ (rule : RuleName) (n coin : ℕ) (li : listed n ≡ true) where
  opens : opening_told rule n coin ≡ Ok (record { rule = rule; n = n; tills = replicate n (newly_opened n coin) })
  opens = cond-true (listed n) _ _ li

  pub opened_or : (hs : List Held) → hs ≡ replicate n (newly_opened n coin) → OrMemory (Ok (record { rule = rule; n = n; tills = hs })) (opening_told rule n coin)
  opened_or hs e = subst (λ (r : Result Scene Problem). OrMemory (Ok (record { rule = rule; n = n; tills = hs })) r) (sym opens) (inl (ap (λ (ys : List Held). Ok (record { rule = rule; n = n; tills = ys })) e))

  pub ran_out : (r : Result Scene Problem) → r ≡ Err memory → OrMemory r (opening_told rule n coin)
  ran_out r e = subst (OrMemory r) (sym opens) (inr e)
