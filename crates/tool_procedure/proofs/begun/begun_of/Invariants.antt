use Rattle.std.proofs.Common.{length}
use Rattle.boogie_tree.specs.Whole.{locals_of}
use Rattle.tool_procedure.proofs.BegunLaws.{IsBegunTo}
use Rattle.tool_procedure.proofs.begun.begun_of.Given as goal

abbrev pub invariant-loop-locals : goal.invariant-loop-locals
invariant-loop-locals l = IsBegunTo l.text l.rest (locals_of l.locals.items) l.names

abbrev pub decreases-loop-locals : goal.decreases-loop-locals
decreases-loop-locals l = length l.rest
