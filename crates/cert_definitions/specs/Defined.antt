-- Values at which definitions hold.
use Rattle.std.specs.Prelude.{◌≡◌, ℕ, List, slice_get}
use Rattle.boogie_tree.specs.Value.{BValue}
use Rattle.boogie_meaning.specs.Ends.{found}
use Rattle.boogie_formula.specs.Formula.{FExpr}
use Rattle.boogie_formula.specs.Value.{whole}
use Rattle.cert_terms.specs.Terms.{operand}
use Rattle.cert_terms.specs.declared.terms.ClauseLiteral.{ClauseLiteral}

-- the name has the value of this definition
abbrev pub Holds : ℕ → FExpr → List BValue → Type 0
Holds i e values = whole e values ≡ found (slice_get values i)

-- the literal has the value of the name
abbrev pub IsToldRightly : ℕ → ClauseLiteral → List BValue → Type 0
IsToldRightly i l values = whole (operand l) values ≡ found (slice_get values i)
