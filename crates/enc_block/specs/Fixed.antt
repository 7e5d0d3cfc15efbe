-- What is written for one argument of a call.
use Rattle.std.specs.Prelude.{ℕ, None, length}
use Rattle.boogie_tree.specs.Stmt as s
use Rattle.boogie_tree.specs.Values.{plain_type}
use Rattle.enc_expr.specs.Code.{declares, puts}
use Rattle.enc_expr.specs.Emits.{Emit, Emits}
use Rattle.enc_expr.specs.Pieces.{Operand, one}

-- a new local was declared, and it got the value
pub record Fixes (x : Operand) (old new : Emit) (local : ℕ) : Type 0 where
  pub mid : Emit
  pub declared : Emits (declares (plain_type x.base) (length old.locals)) old mid local
  pub set : Emits (puts None (one (s.Assign local x.expr)) (length mid.locals)) mid new tt
