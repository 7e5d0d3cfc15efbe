use Rattle.std.proofs.Common.{length}
use Rattle.boogie_grammar.proofs.LexLaws.{IsReached}
use Rattle.boogie_grammar.proofs.lexer.cut.Given as goal

abbrev pub invariant-loop-rest : goal.invariant-loop-rest
invariant-loop-rest l = IsReached l.before l.bytes l.rest l.at.line l.at.col l.tokens.items

abbrev pub decreases-loop-rest : goal.decreases-loop-rest
decreases-loop-rest l = length l.rest
