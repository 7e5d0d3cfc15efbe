-- The trees of statements as plain data. The statements of a block stand in a cycle with statements.
use Rattle.std.specs.Prelude.{ℕ, List, [], ◌∷◌}
use Rattle.vb_base.specs.declared.labels.Label.{Label}
use Rattle.boogie_tree.specs.Expr.{BExpr, BExprs}

mutual
  pub data BStmt : Type 0 where
    Assign : ℕ → BExpr → BStmt
    Put : ℕ → BExprs → BExpr → BStmt
    Havoc : ℕ → BStmt
    Assume : BExpr → BStmt
    Assert : Label → BExpr → BStmt
    If : BExpr → BStmts → BStmts → BStmt
    Either : BStmts → BStmts → BStmt

  -- the statements of a block
  pub data BStmts : Type 0 where
    skip : BStmts
    first : BStmt → BStmts → BStmts

-- a list of statements as those of a block
abbrev pub stmts : List BStmt → BStmts
stmts [] = skip
stmts (s ∷ ss) = first s (stmts ss)
