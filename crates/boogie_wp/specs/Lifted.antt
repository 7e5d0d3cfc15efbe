-- An expression of a program as one of a formula, under other numbers of its variables.
use Rattle.std.specs.Prelude.{ℕ}
use Rattle.boogie_tree.specs.Expr as t
use Rattle.boogie_formula.specs.Formula as f
use Rattle.boogie_formula.specs.Formula.{FExpr, FExprs}

abbrev mutual
  pub lifted : (ℕ → ℕ) → t.BExpr → FExpr
  lifted g (t.Var i) = f.Var (g i)
  lifted g (t.Int n) = f.Int n
  lifted g (t.Real n) = f.Real n
  lifted g (t.Bool p) = f.Bool p
  lifted g t.Null = f.Null
  lifted g t.Unit = f.Unit
  lifted g (t.Neg a) = f.Neg (lifted g a)
  lifted g (t.Not a) = f.Not (lifted g a)
  lifted g (t.Bin o x y) = f.Bin o (lifted g x) (lifted g y)
  lifted g (t.If c x y) = f.If (lifted g c) (lifted g x) (lifted g y)
  lifted g (t.Forall us a) = f.Forall us (lifted g a)
  lifted g (t.ToReal a) = f.ToReal (lifted g a)
  lifted g (t.SInt a) = f.SInt (lifted g a)
  lifted g (t.SBool a) = f.SBool (lifted g a)
  lifted g (t.SRef a) = f.SRef (lifted g a)
  lifted g (t.SPerm a) = f.SPerm (lifted g a)
  lifted g (t.Pair x y) = f.Pair (lifted g x) (lifted g y)
  lifted g (t.At m es) = f.At (g m) (lifted_all g es)
  lifted g (t.AtBound m) = f.AtBound (g m)

  pub lifted_all : (ℕ → ℕ) → t.BExprs → FExprs
  lifted_all g t.none = f.none
  lifted_all g (t.more a es) = f.more (lifted g a) (lifted_all g es)
