-- How many brackets the text of a tree has unclosed at once, at most, besides those around it.
use Rattle.std.specs.Prelude.{◌+◌, max, ℕ, List, [], ◌∷◌}
use Rattle.boogie_tree.specs.Expr as t
use Rattle.boogie_tree.specs.Stmt as s
use Rattle.boogie_tree.specs.Program.{Proc, BProgram}

abbrev mutual
  pub expr_depth : t.BExpr → ℕ
  expr_depth (t.Var i) = 0
  expr_depth (t.Int n) = 0
  expr_depth (t.Real n) = 0
  expr_depth (t.Bool b) = 0
  expr_depth t.Null = 0
  expr_depth t.Unit = 0
  expr_depth (t.Neg a) = 1 + expr_depth a
  expr_depth (t.Not a) = 1 + expr_depth a
  expr_depth (t.Bin o a b) = 1 + max (expr_depth a) (expr_depth b)
  expr_depth (t.If a b c) = 1 + max (expr_depth a) (max (expr_depth b) (expr_depth c))
  expr_depth (t.Forall us a) = 1 + expr_depth a
  expr_depth (t.ToReal a) = 1 + expr_depth a
  expr_depth (t.SInt a) = 1 + expr_depth a
  expr_depth (t.SBool a) = 1 + expr_depth a
  expr_depth (t.SRef a) = 1 + expr_depth a
  expr_depth (t.SPerm a) = 1 + expr_depth a
  expr_depth (t.Pair a b) = 1 + max (expr_depth a) (expr_depth b)
  expr_depth (t.At i es) = 1 + exprs_depth es
  expr_depth (t.AtBound i) = 1

  pub exprs_depth : t.BExprs → ℕ
  exprs_depth t.none = 0
  exprs_depth (t.more a es) = max (expr_depth a) (exprs_depth es)

-- an `assert` has the brackets of its mark, and an `if` those of its condition and its blocks
abbrev mutual
  pub stmt_depth : s.BStmt → ℕ
  stmt_depth (s.Assign i e) = expr_depth e
  stmt_depth (s.Put i es e) = max (1 + exprs_depth es) (expr_depth e)
  stmt_depth (s.Havoc i) = 0
  stmt_depth (s.Assume e) = expr_depth e
  stmt_depth (s.Assert l e) = max 1 (expr_depth e)
  stmt_depth (s.If e a b) = 1 + max (expr_depth e) (max (stmts_depth a) (stmts_depth b))
  stmt_depth (s.Either a b) = 1 + max (stmts_depth a) (stmts_depth b)

  pub stmts_depth : s.BStmts → ℕ
  stmts_depth s.skip = 0
  stmts_depth (s.first a rest) = max (stmt_depth a) (stmts_depth rest)

-- inside its braces a procedure has the brackets of its types, one at once, and those of its statements
abbrev pub proc_depth : Proc → ℕ
proc_depth p = 1 + max 1 (stmts_depth p.body)

abbrev pub procs_depth : List Proc → ℕ
procs_depth [] = 0
procs_depth (p ∷ ps) = max (proc_depth p) (procs_depth ps)

abbrev pub program_depth : BProgram → ℕ
program_depth program = procs_depth program.procs
