-- What names of conditions are told to be, and the clauses of their definitions, at values at which terms and definitions have theirs.
use Rattle.std.specs.Prelude.{◌≡◌, ◌+◌, ℕ, List, Option, Some, slice_get, length}
use Rattle.boogie_tree.specs.Program.{BType}
use Rattle.boogie_tree.specs.Value.{BValue}
use Rattle.boogie_tree.specs.Values.{IsEnvironment}
use Rattle.boogie_formula.specs.Formula.{FExpr, Conditions}
use Rattle.cert_terms.specs.Terms.{IsModel, HoldsIn}
use Rattle.cert_terms.specs.declared.terms.ClauseLiteral.{ClauseLiteral}
use Rattle.cert_terms.specs.declared.terms.CertificateTerm.{CertificateTerm}
use Rattle.cert_definitions.specs.Defined.{Holds, IsToldRightly}

-- each definition has its value, at these values of all names
abbrev pub AreDefined : Conditions → List BValue → Type 0
AreDefined x values = (j : ℕ) (e : FExpr) → slice_get x.lets j ≡ Some e → Holds (length x.vars + j) e values

-- at all values at which terms and definitions have theirs, each name that is told to be a literal has the literal's value
abbrev pub AreTold : Conditions → List CertificateTerm → List BType → List (Option ClauseLiteral) → Type 0
AreTold x terms types aliases = (values : List BValue) → IsEnvironment types values → IsModel terms values → AreDefined x values
    → (i : ℕ) (l : ClauseLiteral) → slice_get aliases i ≡ Some (Some l) → IsToldRightly i l values

-- at all these values the name has the literal's value
abbrev pub IsTold : Conditions → List CertificateTerm → List BType → ℕ → ClauseLiteral → Type 0
IsTold x terms types i l = (values : List BValue) → IsEnvironment types values → IsModel terms values → AreDefined x values → IsToldRightly i l values

-- at all these values the clause holds
abbrev pub HoldsDefined : Conditions → List CertificateTerm → List BType → List ClauseLiteral → Type 0
HoldsDefined x terms types clause = (values : List BValue) → IsEnvironment types values → IsModel terms values → AreDefined x values → HoldsIn values clause
