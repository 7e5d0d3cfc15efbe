use Rattle.std.proofs.Common.{length}
use Rattle.boogie_run.specs.Stepped.{run_in}
use Rattle.boogie_tree.specs.Whole.{locals_of, run_of}
use Rattle.tool_procedure.proofs.RunBodyLaws.{IsRun}
use Rattle.tool_procedure.proofs.bodies.run_body.Given as goal

abbrev pub invariant-loop-running : goal.invariant-loop-running
invariant-loop-running l = IsRun (locals_of l.begun.proc.locals.items) l.begun.rest.now l.rest (run_of l.run) (run_in l.running)

abbrev pub decreases-loop-running : goal.decreases-loop-running
decreases-loop-running l = length l.rest
