use Rattle.boogie_grammar.proofs.PieceLaws.{name_piece}
use Rattle.boogie_grammar.proofs.pieces.name.Goals as goal

pub returns : goal.returns
returns c = name_piece c.args.text.now c.in_ok-name.name c.name_len-len.result c.name_len-len.ensures c.in_ok-name.ensures
