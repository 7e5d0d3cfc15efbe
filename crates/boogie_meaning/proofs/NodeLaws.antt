-- What a node of the program is as plain data, given what its parts were borrowed as.
use Rattle.std.proofs.Common.{◌≡◌, sym, ap, ◌∙◌, ℕ, List, Vec}
use Rattle.std.specs.declared.boxed.Box.{Box}
use Rattle.std.specs.declared.alloc.Global.{Global}
use Rattle.boogie_tree.specs.Expr as t
use Rattle.boogie_tree.specs.Whole.{expr_of, exprs_of, stmt_of, stmts_of}
use Rattle.boogie_tree.specs.declared.exprs.BExpr as expr
use Rattle.boogie_tree.specs.Stmt as s
use Rattle.boogie_tree.specs.declared.stmts.BStmt as stmt
use Rattle.boogie_tree.proofs.WholeLaws.{expr_of-At, stmt_of-If, stmt_of-Either}

module _ {e : expr.BExpr} where
  pub if_is : {a b c : expr.BExpr} {x y z : Box expr.BExpr Global} → e ≡ expr.If x y z → a ≡ x.value → b ≡ y.value → c ≡ z.value → expr_of e ≡ t.If (expr_of a) (expr_of b) (expr_of c)
  if_is is first second third = ap expr_of is ∙ (λ i. t.If (expr_of (sym first i)) (expr_of (sym second i)) (expr_of (sym third i)))

  pub at_is : {m : ℕ} (v : Vec expr.BExpr Global) {es : List expr.BExpr} → e ≡ expr.At m v → es ≡ v.items → expr_of e ≡ t.At m (exprs_of es)
  at_is {m = m} v is same = ap expr_of is ∙ expr_of-At m v ∙ ap (λ es. t.At m (exprs_of es)) (sym same)

module _ {x : stmt.BStmt} where
  pub put_is : {i : ℕ} {e : expr.BExpr} (v : Vec expr.BExpr Global) {es : List expr.BExpr} → x ≡ stmt.Put i v e → es ≡ v.items → stmt_of x ≡ s.Put i (exprs_of es) (expr_of e)
  put_is {i = i} {e = e} v is same = ap stmt_of is ∙ ap (λ es. s.Put i (exprs_of es) (expr_of e)) (sym same)

  pub if_stmt_is : {e : expr.BExpr} (v w : Vec stmt.BStmt Global) {xs ys : List stmt.BStmt} → x ≡ stmt.If e v w → xs ≡ v.items → ys ≡ w.items → stmt_of x ≡ s.If (expr_of e) (stmts_of xs) (stmts_of ys)
  if_stmt_is {e = e} v w is same other = ap stmt_of is ∙ stmt_of-If e v w ∙ (λ i. s.If (expr_of e) (stmts_of (sym same i)) (stmts_of (sym other i)))

  pub either_is : (v w : Vec stmt.BStmt Global) {xs ys : List stmt.BStmt} → x ≡ stmt.Either v w → xs ≡ v.items → ys ≡ w.items → stmt_of x ≡ s.Either (stmts_of xs) (stmts_of ys)
  either_is v w is same other = ap stmt_of is ∙ stmt_of-Either v w ∙ (λ i. s.Either (stmts_of (sym same i)) (stmts_of (sym other i)))
