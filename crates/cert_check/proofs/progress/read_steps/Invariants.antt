use Rattle.std.proofs.Common.{length}
use Rattle.boogie_formula.specs.View.{conditions_of}
use Rattle.cert_terms.specs.Lawful.{terms_of, types_of}
use Rattle.cert_check.specs.Shown.{IsRight}
use Rattle.cert_check.proofs.progress.read_steps.Given as goal

abbrev pub invariant-loop-line : goal.invariant-loop-line
invariant-loop-line l = IsRight (conditions_of l.conditions) (terms_of l.scope.table.now) (types_of l.scope.table.now) l.shown

abbrev pub decreases-loop-line : goal.decreases-loop-line
decreases-loop-line l = length l.rest
