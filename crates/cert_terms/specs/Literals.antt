-- The other sign of a literal.
use Rattle.std.specs.Prelude.{not}
use Rattle.cert_terms.specs.declared.terms.ClauseLiteral.{ClauseLiteral}

-- the negation of a literal
abbrev pub turned : ClauseLiteral → ClauseLiteral
turned l = record { name = l.name; negated = not l.negated }
