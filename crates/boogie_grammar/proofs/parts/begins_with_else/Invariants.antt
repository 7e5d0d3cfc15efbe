use Rattle.std.proofs.Common.{length}
use Rattle.boogie_grammar.proofs.parts.begins_with_else.Given as goal

abbrev pub invariant-loop-found : goal.invariant-loop-found
invariant-loop-found l = Unit {0}

abbrev pub decreases-loop-found : goal.decreases-loop-found
decreases-loop-found l = length l.rest
