-- The trees of programs with loops, calls and contracts, as plain data.
use Rattle.std.specs.Prelude.{ℕ, List, Option}
use Rattle.vb_base.specs.declared.labels.Label.{Label}
use Rattle.boogie_tree.specs.Expr.{BExpr, BExprs}
use Rattle.boogie_tree.specs.Program.{Local}

-- a condition with its label
pub record Clause : Type 0 where
  pub label : Label
  pub e : BExpr

mutual
  pub data WStmt : Type 0 where
    Assign : ℕ → BExpr → WStmt
    Put : ℕ → BExprs → BExpr → WStmt
    Havoc : ℕ → WStmt
    Assume : BExpr → WStmt
    Assert : Label → BExpr → WStmt
    If : BExpr → WStmts → WStmts → WStmt
    Either : WStmts → WStmts → WStmt
    -- the guard, which is none for `*`, the invariants and the body
    While : Option BExpr → List Clause → WStmts → WStmt
    -- the targets, the name of the procedure and the arguments
    Call : List ℕ → List ℕ → BExprs → WStmt

  -- the statements of a block
  pub data WStmts : Type 0 where
    skip : WStmts
    first : WStmt → WStmts → WStmts

-- The locals begin with the parameters and the returns, of which there are so many. One that has no body is only called.
pub record WProc : Type 0 where
  pub name : List ℕ
  pub params : ℕ
  pub returns : ℕ
  pub locals : List Local
  pub preconditions : List Clause
  pub postconditions : List Clause
  pub body : Option WStmts

pub record WProgram : Type 0 where
  pub procs : List WProc
