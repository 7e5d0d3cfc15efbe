use Rattle.std.proofs.Common.{List, length}
use Rattle.boogie_tree.specs.Stmt.{BStmt}
use Rattle.boogie_tree.specs.Whole.{locals_of}
use Rattle.tool_procedure.proofs.BegunLaws.{IsGone}
use Rattle.tool_procedure.proofs.bodies.passed.Given as goal

abbrev pub invariant-loop-after : goal.invariant-loop-after
invariant-loop-after l = (body : List BStmt) × IsGone (locals_of l.begun.proc.locals.items) l.begun.rest.now l.rest body

abbrev pub decreases-loop-after : goal.decreases-loop-after
decreases-loop-after l = length l.rest
