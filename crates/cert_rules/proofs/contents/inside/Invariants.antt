use Rattle.cert_terms.specs.Lawful.{terms_of, types_of}
use Rattle.cert_rules.proofs.ContentLaws.{AreBelow}
use Rattle.cert_rules.proofs.contents.inside.Given as goal

abbrev pub invariant-loop-place : goal.invariant-loop-place
invariant-loop-place l = AreBelow (terms_of l.table) (types_of l.table) l.sides.right l.at l.place-index
