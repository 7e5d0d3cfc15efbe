-- Which pieces of code have a text.
use Rattle.std.specs.Prelude.{◌+◌, ℕ, false, length}
use Rattle.boogie_tree.specs.Fits.{FitsExpr, FitStmts}
use Rattle.enc_expr.specs.Code.{Code}
use Rattle.enc_expr.specs.Pieces.{Operand}

-- behind so many locals, and its own behind them, the statements of a piece can be spelled
abbrev pub FitsPiece : ℕ → {X : Type 0} → Code X → Type 0
FitsPiece n m = FitStmts (n + length m.locals) m.stmts

-- the same of an expression, whose value can be spelled too
pub record FitsCode (n : ℕ) (m : Code Operand) : Type 0 where
  pub stmts : FitsPiece n m
  pub value : FitsExpr (n + length m.locals) false m.value.expr
