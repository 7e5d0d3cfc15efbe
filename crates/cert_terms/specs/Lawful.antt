-- What contracts say of a whole table.
use Rattle.std.specs.Prelude.{List}
use Rattle.boogie_tree.specs.Program.{BType}
use Rattle.cert_terms.specs.declared.table.TermTable.{TermTable}
use Rattle.cert_terms.specs.declared.terms.ClauseLiteral.{ClauseLiteral}
use Rattle.cert_terms.specs.declared.terms.CertificateTerm.{CertificateTerm}
use Rattle.cert_terms.specs.Terms.{IsLaw}
use Rattle.cert_terms.specs.Tables.{Grows}
use Rattle.cert_terms.specs.View.{terms_in, types_in}

abbrev pub terms_of : TermTable → List CertificateTerm
terms_of t = terms_in t.names.items

abbrev pub types_of : TermTable → List BType
types_of t = types_in t.names.items

-- the clause holds at all values of the table's names at which each is what its term says
abbrev pub IsLawOf : TermTable → List ClauseLiteral → Type 0
IsLawOf t clause = IsLaw (terms_of t) (types_of t) clause

-- it has the terms that it had, and maybe more
abbrev pub HasGrown : TermTable → TermTable → Type 0
HasGrown old new = Grows (terms_of old) (types_of old) (terms_of new) (types_of new)
