-- What is written for an expression that always counts.
use Rattle.std.specs.Prelude.{◌≡◌, length, None}
use Rattle.viper_core.specs.Expr as e
use Rattle.boogie_tree.specs.Expr as t
use Rattle.enc_expr.specs.Place.{Place}
use Rattle.enc_expr.specs.Kinds.{Kinds}
use Rattle.enc_expr.specs.Encoding.{code}
use Rattle.enc_expr.specs.Emits.{Emit, Emits}

-- the code of the expression was written, and the answer is the expression of its operand
pub record Checks (k : Kinds) (p : Place) (a : e.Expr) (old new : Emit) (x : t.BExpr) : Type 0 where
  pub emits : let c = code k p None a (length old.locals) in Emits c old new c.value
  pub value : x ≡ (code k p None a (length old.locals)).value.expr
