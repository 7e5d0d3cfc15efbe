-- What contracts see of the names of a table: the lists of their terms and types.
use Rattle.std.specs.Prelude.{List, map}
use Rattle.boogie_tree.specs.Program.{BType}
use Rattle.boogie_tree.specs.Whole.{type_of}
use Rattle.cert_terms.specs.declared.terms.TypedTerm.{TypedTerm}
use Rattle.cert_terms.specs.declared.terms.CertificateTerm.{CertificateTerm}

abbrev pub terms_in : List TypedTerm → List CertificateTerm
terms_in names = map (λ x. x.term) names

abbrev pub types_in : List TypedTerm → List BType
types_in names = map (λ x. type_of x.ty) names
