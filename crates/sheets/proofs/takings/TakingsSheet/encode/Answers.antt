-- The two numbers, one after the other.
use Rattle.std.proofs.Common.{ap, ◌∙◌, w64, of_z}
use Rattle.std.proofs.lemmas.Int.{to_z-of_z}
use Rattle.basis.proofs.Digits.{be4, be8}
use Rattle.basis.specs.Bytes.{be}
use Rattle.sheets.specs.OfTakingsLemmas.{put_both, range_fits, in_range_of}
use Rattle.sheets.proofs.takings.TakingsSheet.encode.Goals as goal

pub returns : goal.returns
returns c =
    let x = c.args.self.now in
    let back = to_z-of_z w64 x.cents (range_fits x.cents (in_range_of x)) in
    put_both c.args.out.now c.copy_from_slice.new.self c.copy_from_slice-2.new.self (of_z w64 x.cents) x.receipts
    (c.copy_from_slice.ensures.after ∙ c.to_be_bytes.ensures ∙ be8 _ ∙ ap (λ z. be 8 (of_z w64 z)) back)
    (c.copy_from_slice-2.ensures.after ∙ c.to_be_bytes-2.ensures ∙ be4 _)
