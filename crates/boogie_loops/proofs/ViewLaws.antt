-- The views of the variants that hold a `Vec` in a cycle, where code builds or matches them.
use Rattle.std.proofs.Common.{◌≡◌, ◌∙◌, refl, ap, map, Option, Vec}
use Rattle.std.specs.Option.{option_map}
use Rattle.std.specs.declared.alloc.Global.{Global}
use Rattle.boogie_tree.specs.Whole.{expr_of}
use Rattle.boogie_tree.specs.declared.exprs.BExpr.{BExpr}
use Rattle.boogie_loops.specs.Wide as w
use Rattle.boogie_loops.specs.View.{clause_of, wstmt_of, wstmt_row, wstmts_of}
use Rattle.boogie_loops.specs.declared.wide.Clause.{Clause}
use Rattle.boogie_loops.specs.declared.wide.WStmt as stmt
use Rattle.boogie_loops.specs.declared.wide.WStmt.TheBlock as block

wstmt_row-items : {n : _} (k : stmt.Row_of-WStmt n) → wstmt_row k ≡ wstmts_of (stmt.items-the_row-WStmt n k)
wstmt_row-items stmt.end_of-WStmt = refl
wstmt_row-items (stmt.more_of-WStmt a rest) = ap (w.first (wstmt_of a)) (wstmt_row-items rest)

hidden_stmts : (v : Vec stmt.WStmt Global) → wstmt_row (block.hidden-the_row-WStmt-0 v) ≡ wstmts_of v.items
hidden_stmts v = wstmt_row-items (block.hidden-the_row-WStmt-0 v) ∙ ap wstmts_of (stmt.items_hidden-the_row-WStmt-0 v)

pub wstmt_of-If : (e : _) (a b : Vec stmt.WStmt Global) → wstmt_of (stmt.If e a b) ≡ w.If (expr_of e) (wstmts_of a.items) (wstmts_of b.items)
wstmt_of-If e a b = ap (λ x. w.If (expr_of e) x (wstmt_row (block.hidden-the_row-WStmt-0 b))) (hidden_stmts a) ∙ ap (w.If (expr_of e) (wstmts_of a.items)) (hidden_stmts b)

pub wstmt_of-Either : (a b : Vec stmt.WStmt Global) → wstmt_of (stmt.Either a b) ≡ w.Either (wstmts_of a.items) (wstmts_of b.items)
wstmt_of-Either a b = ap (λ x. w.Either x (wstmt_row (block.hidden-the_row-WStmt-0 b))) (hidden_stmts a) ∙ ap (w.Either (wstmts_of a.items)) (hidden_stmts b)

pub wstmt_of-While : (g : Option BExpr) (invariants : Vec Clause Global) (a : Vec stmt.WStmt Global) →
    wstmt_of (stmt.While g invariants a) ≡ w.While (option_map expr_of g) (map clause_of invariants.items) (wstmts_of a.items)
wstmt_of-While g invariants a = ap (w.While (option_map expr_of g) (map clause_of invariants.items)) (hidden_stmts a)
