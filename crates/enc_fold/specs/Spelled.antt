-- What types do not say of a `fold` or `unfold` whose code has a text: its literals are literals of Boogie.
use Rattle.viper_core.specs.Literals.{AllExprsLiterals}
use Rattle.viper_core.specs.Stmt.{FoldStmt}
use Rattle.boogie_tree.specs.Literals.{IsLiteral}
use Rattle.enc_expr.specs.Literals.{ViperLiteralsFit}

pub record FoldLiteralsFit (f : FoldStmt) : Type 0 where
  pub args : AllExprsLiterals IsLiteral (λ q. IsLiteral q.num) f.args
  pub amount : ViperLiteralsFit f.amount
