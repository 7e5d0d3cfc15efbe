-- How deep the brackets of code are nested.
use Rattle.std.specs.Prelude.{ℕ, ◌+◌, ◌≤◌, max}
use Rattle.vb_base.specs.Limits.{max_term_depth}
use Rattle.vb_value.specs.declared.values.Ty.{Ty}
use Rattle.vb_value.specs.declared.values.Ty.TheVariants as ty
use Rattle.boogie_tree.specs.Nested.{expr_depth, stmts_depth}
use Rattle.enc_expr.specs.Code.{Code}
use Rattle.enc_expr.specs.Pieces.{Operand}

-- the brackets of `real(..)`, which an Int may get yet
abbrev pub reserve : Ty → ℕ
reserve ty.Int = 1
reserve ty.Bool = 0
reserve ty.Ref = 0
reserve ty.Perm = 0

-- Of what has this depth, or of a body that it opens, the statements have one bracket more at most.
pub record IsShallow (d : ℕ) {X : Type 0} (m : Code X) : Type 0 where
  pub stmts : stmts_depth m.stmts ≤ 1 + max max_term_depth d

-- the value of an expression of this depth and type has no more brackets than the expression, and that of an Int one fewer
pub record IsShallowExpression (d : ℕ) (u : Ty) (m : Code Operand) : Type 0 where
  pub piece : IsShallow d m
  pub value : expr_depth m.value.expr + reserve u ≤ d
