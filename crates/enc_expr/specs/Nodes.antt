-- How many nodes expressions and statements of Boogie have.
use Rattle.std.specs.Prelude.{ℕ, ◌+◌, length}
use Rattle.boogie_tree.specs.Expr as t
use Rattle.boogie_tree.specs.Stmt as s
use Rattle.enc_expr.specs.Code.{Code}

abbrev mutual
  pub expr_nodes : t.BExpr → ℕ
  expr_nodes (t.Var i) = 1
  expr_nodes (t.Int n) = 1
  expr_nodes (t.Real n) = 1
  expr_nodes (t.Bool b) = 1
  expr_nodes t.Null = 1
  expr_nodes t.Unit = 1
  expr_nodes (t.Neg a) = 1 + expr_nodes a
  expr_nodes (t.Not a) = 1 + expr_nodes a
  expr_nodes (t.Bin o a b) = 1 + expr_nodes a + expr_nodes b
  expr_nodes (t.If a b c) = 1 + expr_nodes a + expr_nodes b + expr_nodes c
  expr_nodes (t.Forall us a) = 1 + expr_nodes a
  expr_nodes (t.ToReal a) = 1 + expr_nodes a
  expr_nodes (t.SInt a) = 1 + expr_nodes a
  expr_nodes (t.SBool a) = 1 + expr_nodes a
  expr_nodes (t.SRef a) = 1 + expr_nodes a
  expr_nodes (t.SPerm a) = 1 + expr_nodes a
  expr_nodes (t.Pair a b) = 1 + expr_nodes a + expr_nodes b
  expr_nodes (t.At i es) = 1 + exprs_nodes es
  expr_nodes (t.AtBound i) = 1

  pub exprs_nodes : t.BExprs → ℕ
  exprs_nodes t.none = 0
  exprs_nodes (t.more a es) = expr_nodes a + exprs_nodes es

abbrev mutual
  pub stmt_nodes : s.BStmt → ℕ
  stmt_nodes (s.Assign i e) = 1 + expr_nodes e
  stmt_nodes (s.Put i es e) = 1 + exprs_nodes es + expr_nodes e
  stmt_nodes (s.Havoc i) = 1
  stmt_nodes (s.Assume e) = 1 + expr_nodes e
  stmt_nodes (s.Assert l e) = 1 + expr_nodes e
  stmt_nodes (s.If e a b) = 1 + expr_nodes e + stmts_nodes a + stmts_nodes b
  stmt_nodes (s.Either a b) = 1 + stmts_nodes a + stmts_nodes b

  pub stmts_nodes : s.BStmts → ℕ
  stmts_nodes s.skip = 0
  stmts_nodes (s.first a rest) = stmt_nodes a + stmts_nodes rest

-- what a piece of code writes, where each new local counts too
abbrev pub written : {X : Type 0} → Code X → ℕ
written m = stmts_nodes m.stmts + length m.locals
