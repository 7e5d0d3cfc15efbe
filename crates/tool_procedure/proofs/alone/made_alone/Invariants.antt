use Rattle.std.proofs.Common.{length}
use Rattle.tool_procedure.proofs.AloneLaws.{IsReadTo}
use Rattle.tool_procedure.proofs.alone.made_alone.Given as goal
use Rattle.tool_procedure.specs.Parts.{IsMade}

abbrev pub invariant-loop-kept : goal.invariant-loop-kept
invariant-loop-kept l = IsReadTo (IsMade l.task) l.text l.name l.rest l.names l.kept

abbrev pub decreases-loop-kept : goal.decreases-loop-kept
decreases-loop-kept l = length l.rest
