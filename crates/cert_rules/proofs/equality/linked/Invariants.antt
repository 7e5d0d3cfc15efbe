use Rattle.cert_terms.specs.Lawful.{terms_of, types_of}
use Rattle.std.proofs.Common.{◌≡◌, take}
use Rattle.cert_rules.specs.Reasons.{values_of, IsLawUnless}
use Rattle.cert_rules.proofs.equality.linked.Given as goal

abbrev pub invariant-loop-place : goal.invariant-loop-place
invariant-loop-place l = IsLawUnless (terms_of l.table) (types_of l.table) l.clause.items (λ values. values_of values (take l.place l.left) ≡ values_of values (take l.place l.right))
