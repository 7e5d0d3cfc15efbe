-- What types do not say of a part of a program whose code has a text: its literals are literals of Boogie, where a permission
-- stands for its numerator.
use Rattle.viper_core.specs.Expr as e
use Rattle.viper_core.specs.Literals.{AllLiterals, AllAssertionLiterals}
use Rattle.boogie_tree.specs.Literals.{IsLiteral}

abbrev pub ViperLiteralsFit : e.Expr → Type 0
ViperLiteralsFit = AllLiterals IsLiteral (λ q. IsLiteral q.num)

abbrev pub AssertionLiteralsFit : e.Assertion → Type 0
AssertionLiteralsFit = AllAssertionLiterals IsLiteral (λ q. IsLiteral q.num)
