use Rattle.cert_terms.specs.Lawful.{types_of}
use Rattle.std.proofs.Common.{take}
use Rattle.cert_rules.specs.Refutes.{AreFalse, HoldsUnless}
use Rattle.cert_rules.proofs.refuting.begin.Given as goal

abbrev pub invariant-loop-literal : goal.invariant-loop-literal
invariant-loop-literal l = HoldsUnless (types_of l.table) (take l.literal-index l.clause) (AreFalse l.known)
