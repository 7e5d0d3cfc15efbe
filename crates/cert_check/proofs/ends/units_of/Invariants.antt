use Rattle.std.proofs.Common.{take}
use Rattle.cert_check.specs.Ends.{AreAlone}
use Rattle.cert_check.proofs.ends.units_of.Given as goal

abbrev pub invariant-loop-clause : goal.invariant-loop-clause
invariant-loop-clause l = AreAlone l.units (take l.clause-index l.clauses)
