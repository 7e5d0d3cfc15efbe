-- What a statement of the program is as plain data, given what its parts were borrowed as.
use Rattle.std.proofs.Common.{◌≡◌, sym, ap, ◌∙◌, ℕ, List, Vec}
use Rattle.std.specs.declared.alloc.Global.{Global}
use Rattle.vb_base.specs.declared.places.Pos.{Pos}
use Rattle.viper_core.specs.Stmt as s
use Rattle.viper_core.specs.View.{expr_of, exprs_of, stmt_of, stmts_of, loop_of}
use Rattle.viper_core.specs.declared.exprs.Expr as expr
use Rattle.viper_core.specs.declared.stmts.Loop.{Loop}
use Rattle.viper_core.specs.declared.stmts.Stmt as stmt
use Rattle.viper_core.proofs.ViewLaws.{stmt_of-If, stmt_of-While}

module _ {a : stmt.Stmt} where
  pub new_is : {fs rs : List ℕ} {at : Pos} {x : ℕ} (fields refs : Vec ℕ Global) → a ≡ stmt.New at x fields refs → fs ≡ fields.items → rs ≡ refs.items → stmt_of a ≡ s.New at x fs rs
  new_is {at = at} {x = x} fields refs same first second = ap stmt_of same ∙ (λ i. s.New at x (sym first i) (sym second i))

  pub call_is : {xs : List ℕ} {es : List expr.Expr} {at : Pos} {m : ℕ} (targets : Vec ℕ Global) (args : Vec expr.Expr Global) → a ≡ stmt.Call at targets m args → xs ≡ targets.items → es ≡ args.items →
      stmt_of a ≡ s.Call at xs m (exprs_of es)
  call_is {at = at} {m = m} targets args same first second = ap stmt_of same ∙ (λ i. s.Call at (sym first i) m (exprs_of (sym second i)))

  pub if_is : {xs ys : List stmt.Stmt} {at : Pos} {e : expr.Expr} (first second : Vec stmt.Stmt Global) → a ≡ stmt.If at e first second → xs ≡ first.items → ys ≡ second.items → stmt_of a ≡ s.If at (expr_of e) (stmts_of xs) (stmts_of ys)
  if_is {at = at} {e = e} first second same here there =
      ap stmt_of same ∙ stmt_of-If at e first second ∙ (λ i. s.If at (expr_of e) (stmts_of (sym here i)) (stmts_of (sym there i)))

  pub while_is : (w : Loop) → a ≡ stmt.While w → stmt_of a ≡ s.While (loop_of w)
  while_is w same = ap stmt_of same ∙ stmt_of-While w
