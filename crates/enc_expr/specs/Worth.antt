-- When an expression without checks stands for a value, or for what an assertion contains.
use Rattle.std.specs.Prelude.{◌≡◌, true}
use Rattle.vb_value.specs.Bound.{Bound, IfBounded}
use Rattle.vb_value.specs.Content.{Content}
use Rattle.vb_value.specs.Value.{type_of}
use Rattle.vb_value.specs.declared.values.Ty.{Ty}
use Rattle.vb_value.specs.declared.values.Value.{Value}
use Rattle.viper_meaning.specs.Contents.{is_small}
use Rattle.boogie_tree.specs.Expr as t
use Rattle.boogie_tree.specs.Value.{Snap}
use Rattle.boogie_meaning.specs.Ends as end
use Rattle.boogie_meaning.specs.Quantified.{bvalue}
use Rattle.moves.specs.Scalars.{scalar}
use Rattle.enc_expr.specs.Pieces.{Operand}
use Rattle.enc_expr.specs.Coupling.{Env}

-- the operand has this value, which has this type
pub record IsPlain (b : Bound) (u : Ty) (x : Operand) (E : Env) (z : Value) : Type 0 where
  pub typed : type_of z ≡ u
  pub here : bvalue b x.expr E ≡ end.Is (scalar z)

-- the expression is this content, which with the bound must be small enough
abbrev pub IsContent : Bound → Env → t.BExpr → Content → Type 0
IsContent b E x d = IfBounded b (is_small d ≡ true) → bvalue b x E ≡ end.Is (Snap d)
