-- The five numbers, one after the other.
use Rattle.std.proofs.Common.{get_or, ◌∙◌}
use Rattle.basis.proofs.Digits.{be4, be8}
use Rattle.sheets.specs.OfLabelsLemmas.{put_five}
use Rattle.sheets.proofs.label.LabelSheet.encode.Goals as goal

pub returns : goal.returns
returns c =
    let p = c.args.self.now.fingerprint in
    put_five c.args.out.now c.copy_from_slice.new.self c.copy_from_slice-2.new.self c.copy_from_slice-3.new.self c.copy_from_slice-4.new.self c.copy_from_slice-5.new.self
    (get_or p 0 0) (get_or p 1 0) (get_or p 2 0) (get_or p 3 0) c.args.self.now.size
    (c.copy_from_slice.ensures.after ∙ c.to_be_bytes.ensures ∙ be8 _) (c.copy_from_slice-2.ensures.after ∙ c.to_be_bytes-2.ensures ∙ be8 _)
    (c.copy_from_slice-3.ensures.after ∙ c.to_be_bytes-3.ensures ∙ be8 _) (c.copy_from_slice-4.ensures.after ∙ c.to_be_bytes-4.ensures ∙ be8 _)
    (c.copy_from_slice-5.ensures.after ∙ c.to_be_bytes-5.ensures ∙ be4 _)
