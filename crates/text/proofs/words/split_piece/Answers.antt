-- The text is cut where its first piece ends.
use Rattle.text.proofs.Splits.{piece_is, rest_is, pieces_from}
use Rattle.text.proofs.words.split_piece.Goals as goal

pub returns-clause-piece : goal.returns-clause-piece
returns-clause-piece c = piece_is c.args.separator c.args.text.now c.piece_end-end.result c.piece_end-end.ensures.value

pub returns-clause-rest : goal.returns-clause-rest
returns-clause-rest c =
    rest_is c.args.separator c.args.text.now c.piece_end-end.result c.piece_end-end.ensures.value c.get.result c.get.ensures.lookup.0

pub returns-clause-pieces : goal.returns-clause-pieces
returns-clause-pieces c = pieces_from c.args.separator c.args.text.now _ _ (returns-clause-piece c) (returns-clause-rest c)
