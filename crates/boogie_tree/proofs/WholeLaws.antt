-- The views of the variants that hold a `Vec` in a cycle, where code builds or matches them.
use Rattle.std.proofs.Common.{◌≡◌, ◌∙◌, refl, ap, List, [], ◌∷◌, map, Vec}
use Rattle.std.specs.declared.alloc.Global.{Global}
use Rattle.boogie_tree.specs.Expr as t
use Rattle.boogie_tree.specs.Stmt as s
use Rattle.boogie_tree.specs.Whole.{expr_of, expr_row, exprs_of, stmt_of, stmt_row, stmts_of}
use Rattle.boogie_tree.specs.declared.exprs.BExpr as expr
use Rattle.boogie_tree.specs.declared.exprs.BExpr.TheBlock as eb
use Rattle.boogie_tree.specs.declared.stmts.BStmt as stmt
use Rattle.boogie_tree.specs.declared.stmts.BStmt.TheBlock as sb

-- expressions

expr_row-items : {n : _} (k : expr.Row_of-BExpr n) → expr_row k ≡ exprs_of (expr.items-the_row-BExpr n k)
expr_row-items expr.end_of-BExpr = refl
expr_row-items (expr.more_of-BExpr e rest) = ap (t.more (expr_of e)) (expr_row-items rest)

hidden_exprs : (v : Vec expr.BExpr Global) → expr_row (eb.hidden-the_row-BExpr-0 v) ≡ exprs_of v.items
hidden_exprs v = expr_row-items (eb.hidden-the_row-BExpr-0 v) ∙ ap exprs_of (expr.items_hidden-the_row-BExpr-0 v)

pub expr_of-At : (i : _) (v : Vec expr.BExpr Global) → expr_of (expr.At i v) ≡ t.At i (exprs_of v.items)
expr_of-At i v = ap (t.At i) (hidden_exprs v)

-- the items of a slice or a `Vec` are those of `exprs` over the views
pub exprs_of-map : (v : List expr.BExpr) → exprs_of v ≡ t.exprs (map expr_of v)
exprs_of-map [] = refl
exprs_of-map (e ∷ es) = ap (t.more (expr_of e)) (exprs_of-map es)

-- statements

stmt_row-items : {n : _} (k : stmt.Row_of-BStmt n) → stmt_row k ≡ stmts_of (stmt.items-the_row-BStmt n k)
stmt_row-items stmt.end_of-BStmt = refl
stmt_row-items (stmt.more_of-BStmt a rest) = ap (s.first (stmt_of a)) (stmt_row-items rest)

hidden_stmts : (v : Vec stmt.BStmt Global) → stmt_row (sb.hidden-the_row-BStmt-0 v) ≡ stmts_of v.items
hidden_stmts v = stmt_row-items (sb.hidden-the_row-BStmt-0 v) ∙ ap stmts_of (stmt.items_hidden-the_row-BStmt-0 v)

pub stmt_of-If : (e : _) (a b : Vec stmt.BStmt Global) → stmt_of (stmt.If e a b) ≡ s.If (expr_of e) (stmts_of a.items) (stmts_of b.items)
stmt_of-If e a b = ap (λ x. s.If (expr_of e) x (stmt_row (sb.hidden-the_row-BStmt-0 b))) (hidden_stmts a) ∙ ap (s.If (expr_of e) (stmts_of a.items)) (hidden_stmts b)

pub stmt_of-Either : (a b : Vec stmt.BStmt Global) → stmt_of (stmt.Either a b) ≡ s.Either (stmts_of a.items) (stmts_of b.items)
stmt_of-Either a b = ap (λ x. s.Either x (stmt_row (sb.hidden-the_row-BStmt-0 b))) (hidden_stmts a) ∙ ap (s.Either (stmts_of a.items)) (hidden_stmts b)

pub stmts_of-map : (v : List stmt.BStmt) → stmts_of v ≡ s.stmts (map stmt_of v)
stmts_of-map [] = refl
stmts_of-map (a ∷ as') = ap (s.first (stmt_of a)) (stmts_of-map as')
