-- What contracts see of a reading: the terms so far, and what names are told to be.
use Rattle.std.specs.Prelude.{Bool as Truth, false, List, Option, Some, None, slice_get, if◌then◌else◌}
use Rattle.cert_terms.specs.Lawful.{terms_of, types_of}
use Rattle.cert_terms.specs.declared.table.TermTable.{TermTable}
use Rattle.cert_terms.specs.declared.terms.ClauseLiteral.{ClauseLiteral}
use Rattle.cert_terms.specs.declared.terms.CertificateTerm.{CertificateTerm}
use Rattle.cert_definitions.specs.Texts.{Told}
use Rattle.cert_definitions.specs.declared.parts.TwoParts.{TwoParts}
use Rattle.cert_definitions.specs.declared.parts.ChoiceParts.{ChoiceParts}

abbrev pub told_of : TermTable → List (Option ClauseLiteral) → Option (List ClauseLiteral) → Told
told_of table aliases keys = record { terms = terms_of table; types = types_of table; aliases = aliases; keys = keys }

-- the keys of a `forall`, inside of one
abbrev pub keys_of : Truth → List ClauseLiteral → Option (List ClauseLiteral)
keys_of inside keys = if inside then Some keys else None

-- the term that a literal is, if it is no negation
abbrev pub own_of : TermTable → ClauseLiteral → Option CertificateTerm
own_of table l = if l.negated then None else slice_get (terms_of table) l.name

-- what is told of parts, if there are any
abbrev pub two_text : Option TwoParts → (ClauseLiteral → ClauseLiteral → Truth) → Truth
two_text (Some s) go = go s.left s.right
two_text None go = false

abbrev pub three_text : Option ChoiceParts → (ClauseLiteral → ClauseLiteral → ClauseLiteral → Truth) → Truth
three_text (Some c) go = go c.condition c.then c.other
three_text None go = false
