-- Takings, either rule and the dealt coin keep their laws. Assumes nothing.
use Rattle.std.proofs.Common.{rules}
use Rattle.broadcast.specs.Claims.{RowLaws}
use Rattle.coins.specs.Dealt.{dealt_keeps}
use Rattle.evenings.specs.Claims.{Lawful}
use Rattle.phases.specs.Keeping.{either_keeps}
use Rattle.scripts.specs.declared.command.RuleName.{RuleName}
use Rattle.sheets.specs.OfTakings.{takings_rows, takings_lawful}
use Rattle.sheets.specs.OfTakingsLemmas.{held_row, kept_of}
use Rattle.halls.specs.States.{setting_of, is_three}

pub takings_laws : RowLaws takings_rows 12 takings_lawful
takings_laws = record {
  short = search rules;
  sized = λ s h. Rattle.std.proofs.lemmas.Bool.eqb-true _ _ (Rattle.std.proofs.lemmas.Bool.and_parts _ _ h).0;
  restored = λ s h l. held_row s h l;
  kept = λ r s e. kept_of r s e;
}

pub lawful_setting : (rule : RuleName) → Lawful (setting_of rule)
lawful_setting rule = record { rows = takings_laws; rule = either_keeps (is_three rule); coins = dealt_keeps }
