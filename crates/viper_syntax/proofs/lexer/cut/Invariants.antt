use Rattle.std.proofs.Common.{length}
use Rattle.viper_syntax.proofs.CutLaws.{IsReached}
use Rattle.viper_syntax.proofs.lexer.cut.Given as goal

abbrev pub invariant-loop-rest : goal.invariant-loop-rest
invariant-loop-rest l = IsReached l.bytes l.rest l.at.0 l.at.1.0 l.tokens.items

abbrev pub decreases-loop-rest : goal.decreases-loop-rest
decreases-loop-rest l = length l.rest
