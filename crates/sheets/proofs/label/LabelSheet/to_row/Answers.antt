-- The row has the label's fields.
use Rattle.sheets.specs.OfLabelsLemmas.{row_of}
use Rattle.sheets.proofs.label.LabelSheet.to_row.Goals as goal

pub returns : goal.returns
returns c = row_of c.args.self.now
