-- What a call adds to the locals and statements that are written so far.
use Rattle.std.specs.Prelude.{◌≡◌, ℕ, ◌+◌, List, [], ◌∷◌, ◌++◌, codes, length}
use Rattle.std.specs.List.{range_with_len}
use Rattle.std.specs.Fmt.{decimal}
use Rattle.boogie_tree.specs.Expr as t
use Rattle.boogie_tree.specs.Program.{BType, Local}
use Rattle.boogie_tree.specs.Stmt.{BStmts}
use Rattle.boogie_tree.specs.Whole.{locals_of, stmts_of}
use Rattle.boogie_tree.specs.Values.{plain_type}
use Rattle.boogie_tree.specs.declared.exprs.BBase.TheVariants as base
use Rattle.enc_expr.specs.declared.emits.Emit as emit
use Rattle.enc_expr.specs.Code.{Code, join, Guard, declares, puts, guards}
use Rattle.enc_expr.specs.Encoding.{pair_code}
use Rattle.enc_expr.specs.Pieces.{Operand, Located, located_from}

pub record Emit : Type 0 where
  pub locals : List Local
  pub stmts : BStmts

abbrev pub emit_of : emit.Emit → Emit
emit_of x = record { locals = locals_of x.locals.items; stmts = stmts_of x.code.items }

-- a temporary, whose name is made from its own number
abbrev pub temporary : ℕ → BType → Local
temporary n u = record { name = codes "t$" ++ decimal n; ty = u }

abbrev pub temporaries : ℕ → List BType → List Local
temporaries n [] = []
temporaries n (u ∷ us) = temporary n u ∷ temporaries (n + 1) us

-- between the two the code was written, and this is handed on
pub record Emits {X : Type 0} (c : Code X) (old new : Emit) (x : X) : Type 0 where
  pub locals : new.locals ≡ old.locals ++ temporaries (length old.locals) c.locals
  pub next : length new.locals ≡ c.next
  pub stmts : new.stmts ≡ join old.stmts c.stmts
  pub value : x ≡ c.value

-- new locals of these types were declared, and these are their numbers
pub record Declares (us : List BType) (old new : Emit) (numbers : List ℕ) : Type 0 where
  pub locals : new.locals ≡ old.locals ++ temporaries (length old.locals) us
  pub stmts : new.stmts ≡ old.stmts
  pub in_a_row : numbers ≡ range_with_len (length old.locals) (length us)

-- One more operand, of this expression, was located. It stands for itself where it is a variable.
pub record Locates (x : Operand) (a : t.BExpr) (old new : Emit) (before after : Located) : Type 0 where
  pub emits : Emits (located_from x a (length old.locals)) old new (located_from x a (length old.locals)).value
  pub locals : after.locals ≡ before.locals ++ (located_from x a (length old.locals)).value.locals
  pub sets : after.sets ≡ join before.sets (located_from x a (length old.locals)).value.sets

-- A content was taken apart: two new locals have its parts.
pub record Splits (g : Guard) (content left right : ℕ) (old new : Emit) : Type 0 where
  pub one : Emit
  pub two : Emit
  pub first : Emits (declares (plain_type base.Snap) (length old.locals)) old one left
  pub second : Emits (declares (plain_type base.Snap) (length one.locals)) one two right
  pub taken : Emits (puts g (pair_code content left right) (length two.locals)) two new tt

-- A choice got a guard for each of its sides.
pub record Sides (g : Guard) (condition : t.BExpr) (old new : Emit) (so otherwise : ℕ) : Type 0 where
  pub mid : Emit
  pub first : Emits (guards g condition (length old.locals)) old mid so
  pub second : Emits (guards g (t.Not (t.Var so)) (length mid.locals)) mid new otherwise
