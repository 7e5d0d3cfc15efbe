-- The types of the locals that a place names.
use Rattle.std.specs.Prelude.{⊤, ◌≡◌, ℕ, List, [], ◌∷◌, ◌++◌, slice_get, Some, None, Contains}
use Rattle.vb_value.specs.Layout.{Layout}
use Rattle.vb_value.specs.declared.values.Ty.{Ty}
use Rattle.viper_core.specs.Typing.{Context}
use Rattle.boogie_tree.specs.Program.{BType}
use Rattle.boogie_tree.specs.declared.exprs.BBase.TheVariants as base
use Rattle.boogie_tree.specs.Values.{plain_type}
use Rattle.boogie_meaning.specs.Programs.{HaveKeys}
use Rattle.boogie_meaning.specs.Types.{HasType, IsTyped}
use Rattle.enc_expr.specs.Place.{Maps, Place, number}
use Rattle.moves.specs.Scalars.{base_for, variable_type}
use Rattle.moves.specs.Maps.{heap_type, mask_type, amount_type, content_type}
use Rattle.enc_expr.specs.Code.{Code, Guard}
use Rattle.enc_expr.specs.Pieces.{Operand}

-- of the maps of a state
pub record HasStateTypes (layout : Layout) (m : Maps) (ts : List BType) : Type 0 where
  pub heap : (f : ℕ) (u : Ty) → slice_get layout.fields f ≡ Some u → slice_get ts (number m.heap f) ≡ Some (heap_type u)
  pub mask : (f : ℕ) (u : Ty) → slice_get layout.fields f ≡ Some u → slice_get ts (number m.mask f) ≡ Some (mask_type u)
  pub amount : (q : ℕ) (us : List Ty) → slice_get layout.keys q ≡ Some us → slice_get ts (number m.amount q) ≡ Some (amount_type us)
  pub content : (q : ℕ) (us : List Ty) → slice_get layout.keys q ≡ Some us → slice_get ts (number m.content q) ≡ Some (content_type us)

-- of the variables that can be named, and of both states
pub record HasPlaceTypes (c : Context) (p : Place) (ts : List BType) : Type 0 where
  pub vars : (x : ℕ) (u : Ty) → Contains c.visible x → slice_get c.vars x ≡ Some u → slice_get ts (number p.vars x) ≡ Some (variable_type u)
  pub now : HasStateTypes c.program.layout p.now ts
  pub old : HasStateTypes c.program.layout p.old ts

-- a guard is a truth value
abbrev pub HasGuardType : Guard → List BType → Type 0
HasGuardType None ts = ⊤
HasGuardType (Some h) ts = slice_get ts h ≡ Some (plain_type base.Bool)

-- the expression has the type that the operand says, which is that of Viper's
pub record IsOperand (ts : List BType) (u : Ty) (x : Operand) : Type 0 where
  pub typed : HasType ts None x.expr (base_for u)
  pub base : x.base ≡ base_for u

-- the same of arguments
pub data AreOperands (ts : List BType) : List Ty → List Operand → Type 0 where
  none : AreOperands ts [] []
  more : {u : Ty} {us : List Ty} {x : Operand} {xs : List Operand} → IsOperand ts u x → AreOperands ts us xs → AreOperands ts (u ∷ us) (x ∷ xs)

-- Behind these locals, and its own behind them, the statements of a piece are well-typed, and the indices of its own maps have
-- key types.
pub record IsTypedPiece (ts : List BType) {X : Type 0} (m : Code X) : Type 0 where
  pub keys : HaveKeys m.locals
  pub stmts : IsTyped (ts ++ m.locals) m.stmts

-- of an expression, whose operand has the type
pub record IsTypedExpression (ts : List BType) (u : Ty) (m : Code Operand) : Type 0 where
  pub piece : IsTypedPiece ts m
  pub value : IsOperand (ts ++ m.locals) u m.value
