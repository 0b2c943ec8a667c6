-- The dealt coin: bit r of its ballot's number, from the start and always; it uses no shares. Assumes nothing.
use Rattle.std.specs.Prelude.{ℕ, Bool, false, replicate, Some, None, slice_index, refl}
use Rattle.std.proofs.lemmas.Bool.{false≢true}
use Rattle.std.proofs.lemmas.Option.{none-some}
use Rattle.basis.specs.Counts.{has}
use Rattle.coins.specs.declared.dealt.DealtCoin.{DealtCoin}
use Rattle.coins.specs.Coins.{Acts, Keeps}

-- bit r, counted from the lowest, which is bit 0, of ballot k's number
abbrev pub dealt_bit_lem : DealtCoin → ℕ → ℕ → Bool
dealt_bit_lem c k r = has (slice_index c.numbers k) r

abbrev pub dealt_acts : Acts DealtCoin
dealt_acts = record {
  sound = λ _. Unit {0};
  shown = λ c k r. Some (dealt_bit_lem c k r);
  uses = false;
  own = λ _ _ _. None;
  taken_of = λ _ _ _ _. None;
  taken = λ c _. c;
}

pub dealt_keeps : Keeps dealt_acts
dealt_keeps = record {
  some_new = (record { numbers = replicate 16 0 }, record { sound = tt; none_taken = λ k r j t l. refl });
  stays_sound = λ c s h. tt;
  shown_stays = λ c s h b e. e;
  shown_elsewhere = λ c s h k r t e. refl;
  adds_one = λ c s h k r j t l. absurd (false≢true h.used);
  taken_lawful = λ c h k r j t l v e. absurd (none-some v e);
  own_fixed = λ c s h k r t. refl;
  own_lawful = λ c h k r t v e. absurd (none-some v e);
  own_all_or_none = λ c h k r k' r' t t'. refl;
  own_only_used = λ c h k r t e. refl;
}
