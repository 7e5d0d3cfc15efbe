use Rattle.std.proofs.Common.{length, map}
use Rattle.boogie_tree.specs.Whole.{locals_of, stmt_of}
use Rattle.tool_procedure.proofs.BegunLaws.{IsGone}
use Rattle.tool_procedure.proofs.bodies.body.Given as goal

abbrev pub invariant-loop-after : goal.invariant-loop-after
invariant-loop-after l = IsGone (locals_of l.begun.proc.locals.items) l.begun.rest.now l.rest (map stmt_of l.stmts.items)

abbrev pub decreases-loop-after : goal.decreases-loop-after
decreases-loop-after l = length l.rest
