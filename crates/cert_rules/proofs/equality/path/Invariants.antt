use Rattle.cert_terms.specs.Lawful.{terms_of, types_of}
use Rattle.std.proofs.Common.{◌≡◌}
use Rattle.cert_rules.specs.Reasons.{value_of, IsLawUnless}
use Rattle.cert_rules.proofs.equality.path.Given as goal

abbrev pub invariant-loop-hint : goal.invariant-loop-hint
invariant-loop-hint l = IsLawUnless (terms_of l.table) (types_of l.table) l.clause.items (λ values. value_of values l.sides.left ≡ value_of values l.at)
