-- What is checked of a replica's two numbers. Assumes nothing.
use Rattle.std.specs.Prelude.{ℕ, cond, Ok, Err, Result, nat_lt}
use Rattle.basis.specs.declared.member.Member.{Member}
use Rattle.basis.specs.declared.refusal.Refusal.{Refusal}
use Rattle.basis.specs.Halls.{listed}
use Rattle.basis.specs.Refusals.{Refused, refused, told}

-- a hall size and a number
pub record Numbers : Type 0 where
  pub n : ℕ
  pub own : ℕ

-- a listed size, else 2; a number below it, else 3
abbrev pub member_made : ℕ → ℕ → Result Numbers Refused
member_made n own = cond (listed n) (cond (nat_lt own n) (Ok (record { n = n; own = own })) (refused 3 0)) (refused 2 0)

abbrev pub member_told : Result Member Refusal → Result Numbers Refused
member_told (Ok m) = Ok (record { n = m.n; own = m.own })
member_told (Err e) = told (Err e)
