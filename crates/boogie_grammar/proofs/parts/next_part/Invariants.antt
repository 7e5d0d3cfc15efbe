use Rattle.std.proofs.Common.{length}
use Rattle.boogie_grammar.proofs.PartLaws.{IsBegun}
use Rattle.boogie_grammar.proofs.parts.next_part.Given as goal

abbrev pub invariant-loop-rest : goal.invariant-loop-rest
invariant-loop-rest l = IsBegun l.before l.text l.rest l.count l.tokens.items

abbrev pub decreases-loop-rest : goal.decreases-loop-rest
decreases-loop-rest l = length l.rest
