-- What an accessibility predicate speaks of, in code: the field of a reference, or the instance whose arguments are in locals.
use Rattle.std.specs.Prelude.{ℕ, List}
use Rattle.boogie_tree.specs.Expr as t
use Rattle.boogie_tree.specs.Stmt as s
use Rattle.enc_expr.specs.Place.{Maps, number}
use Rattle.enc_expr.specs.Pieces.{index}

pub data AccessTarget : Type 0 where
  Field : ℕ → t.BExpr → AccessTarget
  Instance : ℕ → List ℕ → AccessTarget

-- the local of its mask or amounts
abbrev pub held_in : Maps → AccessTarget → ℕ
held_in m (Field f x) = number m.mask f
held_in m (Instance p is) = number m.amount p

-- its index there
abbrev pub key_of : AccessTarget → t.BExprs
key_of (Field f x) = t.more x t.none
key_of (Instance p is) = index is

-- and the statements that set what it names
pub record Aimed : Type 0 where
  pub target : AccessTarget
  pub sets : s.BStmts
