-- The trees of statements as plain data. A loop and the statements of a block stand in a cycle with statements.
use Rattle.std.specs.Prelude.{ℕ, List, [], ◌∷◌, Option}
use Rattle.vb_base.specs.declared.places.Pos.{Pos}
use Rattle.viper_core.specs.Expr.{Expr, Exprs, Assertion}

-- the instance of a `fold` or `unfold`
pub record FoldStmt : Type 0 where
  pub at : Pos
  pub predicate : ℕ
  pub args : Exprs
  pub amount : Expr
  pub place : Pos

mutual
  pub data Stmt : Type 0 where
    Var : Pos → ℕ → Option Expr → Stmt
    Assign : Pos → ℕ → Expr → Stmt
    Write : Pos → Expr → ℕ → Pos → Expr → Stmt
    New : Pos → ℕ → List ℕ → List ℕ → Stmt
    Call : Pos → List ℕ → ℕ → Exprs → Stmt
    Inhale : Pos → Assertion → Stmt
    Exhale : Pos → Assertion → Stmt
    Assert : Pos → Assertion → Stmt
    Fold : FoldStmt → Stmt
    Unfold : FoldStmt → Stmt
    If : Pos → Expr → Stmts → Stmts → Stmt
    While : Loop → Stmt

  -- its place, the guard, the invariants, the body, the place of the `{`, and the loop targets
  pub data Loop : Type 0 where
    loop : Pos → Expr → List Assertion → Stmts → Pos → List ℕ → Loop

  -- the statements of a block
  pub data Stmts : Type 0 where
    skip : Stmts
    next : Stmt → Stmts → Stmts

-- a list of statements as those of a block
abbrev pub stmts : List Stmt → Stmts
stmts [] = skip
stmts (s ∷ ss) = next s (stmts ss)
