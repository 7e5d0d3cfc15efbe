use Rattle.std.proofs.Common.{sym}
use Rattle.boogie_grammar.proofs.PieceLaws.{blank_piece}
use Rattle.boogie_grammar.proofs.pieces.piece.Goals as goal

pub returns-then-is_blank : goal.returns-then-is_blank
returns-then-is_blank c = blank_piece c.args.text.now c.in-Some.first.now c.in-Some.rest.now c.in-Some.ensures.cases.0 (sym c.if-is_blank.ensures)
