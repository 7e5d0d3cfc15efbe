-- Tables: the terms of a certificate with their types.
use Rattle.std.specs.Prelude.{◌≡◌, Bool as Truth, true, false, ◌&&◌, List, [], ◌∷◌, ◌++◌, Option, Some, None}
use Rattle.boogie_tree.specs.Program.{BType}
use Rattle.boogie_meaning.specs.Types.{is_type}
use Rattle.boogie_formula.specs.Formula.{FExpr}
use Rattle.boogie_formula.specs.Types.{whole_type}
use Rattle.cert_terms.specs.declared.terms.CertificateTerm.{CertificateTerm}
use Rattle.cert_terms.specs.declared.terms.CertificateTerm.TheVariants as term
use Rattle.cert_terms.specs.Terms.{meaning}

-- whether what a name means, if anything is said of it, has this type over the names before it
abbrev pub is_of_type : Option FExpr → List BType → BType → Truth
is_of_type None before u = true
is_of_type (Some e) before u = is_type (whole_type before e) (Some u)

-- the same of each term, one after the other
abbrev pub are_of_types : List BType → List CertificateTerm → List BType → Truth
are_of_types before [] [] = true
are_of_types before (t ∷ ts) (u ∷ us) = is_of_type (meaning t) before u && are_of_types (before ++ u ∷ []) ts us
are_of_types before _ _ = false

-- there is a type for each term, which is that of its meaning over the names before it
abbrev pub IsTable : List CertificateTerm → List BType → Type 0
IsTable terms types = are_of_types [] terms types ≡ true

-- the names of the conditions, of which nothing is said
abbrev pub givens : List BType → List CertificateTerm
givens [] = []
givens (u ∷ us) = term.Given ∷ givens us

-- the one table is the other one with further terms behind
pub record Grows (old : List CertificateTerm) (olds : List BType) (new : List CertificateTerm) (news : List BType) : Type 0 where
  pub terms : List CertificateTerm
  pub types : List BType
  pub is_longer : new ≡ old ++ terms
  pub are_longer : news ≡ olds ++ types

-- the one table is the other one with this term behind, of this type
pub record Adds (old : List CertificateTerm) (olds : List BType) (t : CertificateTerm) (u : BType) (new : List CertificateTerm) (news : List BType) : Type 0 where
  pub terms : new ≡ old ++ t ∷ []
  pub types : news ≡ olds ++ u ∷ []
