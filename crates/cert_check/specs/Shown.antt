-- What a certificate shows of conditions. Its names are those of the conditions, variables and then definitions, and its terms
-- behind them.
use Rattle.std.specs.Prelude.{◌≡◌, true, List, All, Some, slice_get}
use Rattle.std.specs.declared.alloc.Global.{Global}
use Rattle.std.specs.declared.vec.Vec.{Vec}
use Rattle.vb_base.specs.declared.labels.Label.{Label}
use Rattle.boogie_tree.specs.Program.{BType}
use Rattle.boogie_tree.specs.Value.{BValue, One, Bool}
use Rattle.boogie_tree.specs.Values.{IsEnvironment}
use Rattle.boogie_formula.specs.Formula.{Conditions}
use Rattle.boogie_formula.specs.Value.{CanFail}
use Rattle.boogie_formula.specs.Types.{defined_types}
use Rattle.boogie_formula.specs.declared.formulas.Fail.{Fail}
use Rattle.cert_terms.specs.Tables.{Grows, givens}
use Rattle.cert_terms.specs.Terms.{IsModel}
use Rattle.cert_terms.specs.declared.terms.ClauseLiteral.{ClauseLiteral}
use Rattle.cert_terms.specs.declared.terms.CertificateTerm.{CertificateTerm}
use Rattle.cert_definitions.specs.Told.{AreDefined, AreTold, HoldsDefined}
use Rattle.cert_check.specs.declared.progress.Progress.{Progress}

-- the clause holds at all values of these names at which terms and definitions have theirs
abbrev pub IsShown : Conditions → List CertificateTerm → List BType → List ClauseLiteral → Type 0
IsShown x terms types clause = HoldsDefined x terms types clause

abbrev pub AreShown : Conditions → List CertificateTerm → List BType → List (Vec ClauseLiteral Global) → Type 0
AreShown x terms types clauses = All (λ (c : Vec ClauseLiteral Global). IsShown x terms types c.items) clauses

-- the table has grown from the names of the conditions
abbrev pub IsTableOf : Conditions → List CertificateTerm → List BType → Type 0
IsTableOf x terms types = (all : List BType) → defined_types x.lets x.vars ≡ Some all → Grows (givens all) all terms types

-- what says that the assertion fails is true at no such values
abbrev pub IsRefuted : Conditions → List CertificateTerm → List BType → Fail → Type 0
IsRefuted x terms types a =
    (values : List BValue) → IsEnvironment types values → IsModel terms values → AreDefined x values → slice_get values a.name ≡ Some (One (Bool true)) → ⊥

-- what is shown so far is so
pub record IsRight (x : Conditions) (terms : List CertificateTerm) (types : List BType) (shown : Progress) : Type 0 where
  pub clauses : AreShown x terms types shown.clauses.items
  pub aliases : AreTold x terms types shown.aliases.items

-- no assertion can fail, whatever its label
abbrev pub NoneCanFail : Conditions → Type 0
NoneCanFail x = (label : Label) → CanFail x label → ⊥
