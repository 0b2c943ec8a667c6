-- The piece ends where the search for a separator ends.
use Rattle.std.proofs.Common.{◌+◌, ◌-◌, length, take, drop, unwrap_or, ap, ◌∙◌}
use Rattle.std.proofs.lemmas.List.{take_rest}
use Rattle.text.proofs.Splits.{piece_length, position_is, piece_end_from}
use Rattle.text.proofs.words.piece_end.Goals as goal

pub returns-clause-value : goal.returns-clause-value
returns-clause-value c =
    let s = c.args.text.now in
    let start = c.min-start.result in
    let rest = take (length s - start) (drop start s) in
    ap (λ n. start + n) (c.unwrap_or.ensures ∙ ap (λ o. unwrap_or o (length rest)) c.separator_in.ensures ∙ position_is c.args.separator rest ∙ ap (piece_length c.args.separator) (take_rest s start))
    ∙ piece_end_from c.args.separator s start c.args.from c.min-start.ensures
