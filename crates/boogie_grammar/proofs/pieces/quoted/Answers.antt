use Rattle.boogie_grammar.proofs.PieceLaws.{text_piece}
use Rattle.boogie_grammar.proofs.pieces.quoted.Goals as goal

pub returns : goal.returns
returns c = text_piece c.args.rest.now c.unquoted_len-len.result c.in_ok-label.label c.unquoted_len-len.ensures c.if-len-rest.false c.in_ok-label.ensures
