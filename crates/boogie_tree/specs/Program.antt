-- Programs as plain data.
use Rattle.std.specs.Prelude.{ℕ, List}
use Rattle.boogie_tree.specs.Stmt.{BStmts}
use Rattle.boogie_tree.specs.declared.exprs.BBase.{BBase}

pub record BType : Type 0 where
  pub keys : List BBase
  pub base : BBase

pub record Local : Type 0 where
  pub name : List ℕ
  pub ty : BType

pub record Proc : Type 0 where
  pub name : List ℕ
  pub locals : List Local
  pub body : BStmts

pub record BProgram : Type 0 where
  pub procs : List Proc
