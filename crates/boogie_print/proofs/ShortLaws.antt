-- The lists of a tree that code holds are no longer than can be numbered.
use Rattle.std.proofs.Common.{◌≡◌, ◌<◌, ◌^◌, ap, refl, arith, suc, List, [], ◌∷◌, length, map}
use Rattle.std.specs.Prelude.{All}
use Rattle.std.specs.declared.alloc.Global.{Global}
use Rattle.std.specs.declared.vec.Vec.{Vec}
use Rattle.boogie_tree.specs.Whole.{expr_of, expr_row, exprs_of, stmt_of, stmt_row, stmts_of, local_of, proc_of}
use Rattle.boogie_tree.specs.declared.exprs.BExpr as expr
use Rattle.boogie_tree.specs.declared.exprs.BBase.{BBase}
use Rattle.boogie_tree.specs.declared.stmts.BStmt as stmt
use Rattle.boogie_tree.specs.declared.programs.Local.{Local}
use Rattle.boogie_tree.specs.declared.programs.Proc.{Proc}
use Rattle.boogie_grammar.specs.Grammar.{local_names}
use Rattle.boogie_print.specs.Short.{ShortExpr, ShortExprs, ShortStmt, ShortStmts, ShortProc}
use Rattle.boogie_print.proofs.ExprShown.{all_cons, all_none}
use Rattle.boogie_print.proofs.FreshLaws.{fewer}

pub few_bases : (v : Vec BBase Global) → length v.items < 2 ^ 63
few_bases v = omega arith

few_locals : (v : Vec Local Global) → length v.items < 2 ^ 63
few_locals v = omega arith

mutual
  short_expr : (e : expr.BExpr) → ShortExpr (expr_of e)
  short_expr (expr.Var i) = tt
  short_expr (expr.Int n) = tt
  short_expr (expr.Real n) = tt
  short_expr (expr.Bool b) = tt
  short_expr expr.Null = tt
  short_expr expr.Unit = tt
  short_expr (expr.Neg' o a) = short_expr a
  short_expr (expr.Not' o a) = short_expr a
  short_expr (expr.Bin' op o a r b) = (short_expr a, short_expr b)
  short_expr (expr.If' o a r b u c) = (short_expr a, short_expr b, short_expr c)
  short_expr (expr.Forall' us o a) = (few_bases us, short_expr a)
  short_expr (expr.ToReal' o a) = short_expr a
  short_expr (expr.SInt' o a) = short_expr a
  short_expr (expr.SBool' o a) = short_expr a
  short_expr (expr.SRef' o a) = short_expr a
  short_expr (expr.SPerm' o a) = short_expr a
  short_expr (expr.Pair' o a r b) = (short_expr a, short_expr b)
  short_expr (expr.At' i shape es) = short_row es
  short_expr (expr.AtBound i) = tt

  short_row : {n : _} (r : expr.Row_of-BExpr n) → ShortExprs (expr_row r)
  short_row expr.end_of-BExpr = tt
  short_row (expr.more_of-BExpr a rest) = (short_expr a, short_row rest)

short_exprs : (es : List expr.BExpr) → ShortExprs (exprs_of es)
short_exprs [] = tt
short_exprs (e ∷ es) = (short_expr e, short_exprs es)

mutual
  short_stmt : (a : stmt.BStmt) → ShortStmt (stmt_of a)
  short_stmt (stmt.Assign i e) = short_expr e
  short_stmt (stmt.Put i es e) = (short_exprs es.items, short_expr e)
  short_stmt (stmt.Havoc i) = tt
  short_stmt (stmt.Assume e) = short_expr e
  short_stmt (stmt.Assert l e) = short_expr e
  short_stmt (stmt.If' e shape a shape_b b) = (short_expr e, short_stmt_row a, short_stmt_row b)
  short_stmt (stmt.Either' shape a shape_b b) = (short_stmt_row a, short_stmt_row b)

  short_stmt_row : {n : _} (r : stmt.Row_of-BStmt n) → ShortStmts (stmt_row r)
  short_stmt_row stmt.end_of-BStmt = tt
  short_stmt_row (stmt.more_of-BStmt a rest) = (short_stmt a, short_stmt_row rest)

short_stmts : (ss : List stmt.BStmt) → ShortStmts (stmts_of ss)
short_stmts [] = tt
short_stmts (a ∷ rest) = (short_stmt a, short_stmts rest)

same_number : (ls : List Local) → length (local_names (map local_of ls)) ≡ length ls
same_number [] = refl
same_number (l ∷ ls) = ap suc (same_number ls)

short_proc : (p : Proc) → ShortProc (proc_of p)
short_proc p = record {
  locals =
      let e = same_number p.locals.items in let f = few_locals p.locals in let g = fewer (local_names (map local_of p.locals.items)) in omega (arith, e, f, g);
  body = short_stmts p.body.items;
}

pub short_procs : (ps : List Proc) → All ShortProc (map proc_of ps)
short_procs [] = all_none ShortProc
short_procs (p ∷ ps) = all_cons ShortProc (proc_of p) (map proc_of ps) (short_proc p) (short_procs ps)
