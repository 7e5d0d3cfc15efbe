use Rattle.cert_terms.specs.Lawful.{types_of}
use Rattle.cert_rules.specs.Refutes.{AreFalse, FollowsUnless}
use Rattle.cert_rules.proofs.refuting.refute.Given as goal

abbrev pub invariant-loop-hint : goal.invariant-loop-hint
invariant-loop-hint l = FollowsUnless (types_of l.table) l.clauses l.clause (AreFalse l.known)
