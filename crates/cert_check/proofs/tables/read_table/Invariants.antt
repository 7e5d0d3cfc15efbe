use Rattle.std.proofs.Common.{length}
use Rattle.boogie_formula.specs.View.{conditions_of}
use Rattle.cert_terms.specs.Lawful.{terms_of, types_of}
use Rattle.cert_check.specs.Shown.{IsTableOf}
use Rattle.cert_check.proofs.tables.read_table.Given as goal

abbrev pub invariant-loop-line : goal.invariant-loop-line
invariant-loop-line l = IsTableOf (conditions_of l.conditions) (terms_of l.table) (types_of l.table)

abbrev pub decreases-loop-line : goal.decreases-loop-line
decreases-loop-line l = length l.rest
