-- What is numbered is fewer than 2^63, so that no two numerals are the same: the variables that a `forall` binds, and the
-- locals whose names bound variables might have.
use Rattle.std.specs.Prelude.{◌^◌, ◌<◌, ℤ, List, length, filter, All, ⊤}
use Rattle.boogie_tree.specs.Expr as t
use Rattle.boogie_tree.specs.Literals.{ExprHas, IndexHas, StmtHas, BlockHas}
use Rattle.boogie_tree.specs.Stmt as s
use Rattle.boogie_tree.specs.Program.{Proc, BProgram}
use Rattle.boogie_tree.specs.declared.exprs.BBase.{BBase}
use Rattle.boogie_grammar.specs.Grammar.{local_names}
use Rattle.boogie_grammar.specs.Printed.{is_q}

-- whatever a literal is
abbrev AnyNumber : ℤ → Type 0
AnyNumber n = ⊤

abbrev pub AreFewBound : List BBase → Type 0
AreFewBound us = length us < 2 ^ 63

abbrev pub ShortExpr : t.BExpr → Type 0
ShortExpr = ExprHas AnyNumber AreFewBound

abbrev pub ShortExprs : t.BExprs → Type 0
ShortExprs = IndexHas AnyNumber AreFewBound

abbrev pub ShortStmt : s.BStmt → Type 0
ShortStmt = StmtHas AnyNumber AreFewBound

abbrev pub ShortStmts : s.BStmts → Type 0
ShortStmts = BlockHas AnyNumber AreFewBound

pub record ShortProc (p : Proc) : Type 0 where
  pub locals : length (filter is_q (local_names p.locals)) < 2 ^ 63
  pub body : ShortStmts p.body

-- so it is in each procedure
abbrev pub IsShort : BProgram → Type 0
IsShort program = All ShortProc program.procs
