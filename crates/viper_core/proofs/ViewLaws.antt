-- The views of the variants that hold a `Vec` in a cycle, where code builds or matches them.
use Rattle.std.proofs.Common.{◌≡◌, ◌∙◌, refl, ap, List, [], ◌∷◌, map, Vec}
use Rattle.std.specs.declared.boxed.Box.{Box}
use Rattle.std.specs.declared.alloc.Global.{Global}
use Rattle.viper_core.specs.Expr as t
use Rattle.viper_core.specs.Stmt as s
use Rattle.viper_core.specs.View.{expr_of, expr_row, exprs_of, amt_of, assertion_of, assertions_of, opened_of, stmt_of, stmt_row, stmts_of, loop_of}
use Rattle.viper_core.specs.declared.exprs.Expr as expr
use Rattle.viper_core.specs.declared.exprs.Opened.{Opened}
use Rattle.viper_core.specs.declared.exprs.Assertion as assertion
use Rattle.viper_core.specs.declared.exprs.Amt.TheBlock as tb
use Rattle.viper_core.specs.declared.stmts.Stmt as stmt
use Rattle.viper_core.specs.declared.stmts.Stmt.TheBlock as sb
use Rattle.viper_core.specs.declared.stmts.Loop.{Loop}

-- expressions and assertions

expr_row-items : {n : _} (k : expr.Row_of-Expr n) → expr_row k ≡ exprs_of (expr.items-the_row-Expr n k)
expr_row-items expr.end_of-Expr = refl
expr_row-items (expr.more_of-Expr e rest) = ap (t.more (expr_of e)) (expr_row-items rest)

hidden_exprs : (v : Vec expr.Expr Global) → expr_row (tb.hidden-the_row-Expr-0 v) ≡ exprs_of v.items
hidden_exprs v = expr_row-items (tb.hidden-the_row-Expr-0 v) ∙ ap exprs_of (expr.items_hidden-the_row-Expr-0 v)

pub expr_of-Unfolding : (o : Box Opened Global) → expr_of (expr.Unfolding o) ≡ t.Unfolding (opened_of o.value)
expr_of-Unfolding o =
    ap (λ args. t.Unfolding (t.opened o.value.predicate args (expr_of o.value.amount) (assertion_of o.value.body) (expr_of o.value.inner) o.value.place)) (hidden_exprs o.value.args)

pub assertion_of-Inst : (p : _) (v : Vec expr.Expr Global) (m : _) (at : _) → assertion_of (assertion.Inst p v m at) ≡ t.Inst p (exprs_of v.items) (amt_of m) at
assertion_of-Inst p v m at = ap (λ args. t.Inst p args (amt_of m) at) (hidden_exprs v)

-- the items of a slice or a `Vec` are those of `exprs` over the views
pub exprs_of-map : (v : List expr.Expr) → exprs_of v ≡ t.exprs (map expr_of v)
exprs_of-map [] = refl
exprs_of-map (e ∷ es) = ap (t.more (expr_of e)) (exprs_of-map es)

-- statements

stmt_row-items : {n : _} (k : stmt.Row_of-Stmt n) → stmt_row k ≡ stmts_of (stmt.items-the_row-Stmt n k)
stmt_row-items stmt.end_of-Stmt = refl
stmt_row-items (stmt.more_of-Stmt a rest) = ap (s.next (stmt_of a)) (stmt_row-items rest)

hidden_stmts : (v : Vec stmt.Stmt Global) → stmt_row (sb.hidden-the_row-Stmt-0 v) ≡ stmts_of v.items
hidden_stmts v = stmt_row-items (sb.hidden-the_row-Stmt-0 v) ∙ ap stmts_of (stmt.items_hidden-the_row-Stmt-0 v)

pub stmt_of-If : (at : _) (e : _) (a b : Vec stmt.Stmt Global) → stmt_of (stmt.If at e a b) ≡ s.If at (expr_of e) (stmts_of a.items) (stmts_of b.items)
stmt_of-If at e a b =
    ap (λ ss. s.If at (expr_of e) ss (stmt_row (sb.hidden-the_row-Stmt-0 b))) (hidden_stmts a) ∙
    ap (s.If at (expr_of e) (stmts_of a.items)) (hidden_stmts b)

pub stmt_of-While : (w : Loop) → stmt_of (stmt.While w) ≡ s.While (loop_of w)
stmt_of-While w = ap (λ ss. s.While (s.loop w.at (expr_of w.guard) (assertions_of w.invariants.items) ss w.turn w.targets.items)) (hidden_stmts w.body)

pub stmts_of-map : (v : List stmt.Stmt) → stmts_of v ≡ s.stmts (map stmt_of v)
stmts_of-map [] = refl
stmts_of-map (a ∷ rest) = ap (s.next (stmt_of a)) (stmts_of-map rest)
