-- What contracts see of the whole trees: the plain data of Formula.
use Rattle.std.specs.Prelude.{List, [], ◌∷◌, map}
use Rattle.boogie_tree.specs.Whole.{type_of}
use Rattle.boogie_formula.specs.Formula as f
use Rattle.boogie_formula.specs.declared.formulas.FExpr as expr
use Rattle.boogie_formula.specs.declared.formulas.Conditions.{Conditions}
use Rattle.boogie_formula.specs.declared.formulas.Formula.{Formula}

abbrev mutual
  pub fexpr_of : expr.FExpr → f.FExpr
  fexpr_of (expr.Var i) = f.Var i
  fexpr_of (expr.Int n) = f.Int n
  fexpr_of (expr.Real n) = f.Real n
  fexpr_of (expr.Bool b) = f.Bool b
  fexpr_of expr.Null = f.Null
  fexpr_of expr.Unit = f.Unit
  fexpr_of (expr.Neg' o a) = f.Neg (fexpr_of a)
  fexpr_of (expr.Not' o a) = f.Not (fexpr_of a)
  fexpr_of (expr.Bin' op o a r b) = f.Bin op (fexpr_of a) (fexpr_of b)
  fexpr_of (expr.If' o a r b u c) = f.If (fexpr_of a) (fexpr_of b) (fexpr_of c)
  fexpr_of (expr.Forall' us o a) = f.Forall us.items (fexpr_of a)
  fexpr_of (expr.ToReal' o a) = f.ToReal (fexpr_of a)
  fexpr_of (expr.SInt' o a) = f.SInt (fexpr_of a)
  fexpr_of (expr.SBool' o a) = f.SBool (fexpr_of a)
  fexpr_of (expr.SRef' o a) = f.SRef (fexpr_of a)
  fexpr_of (expr.SPerm' o a) = f.SPerm (fexpr_of a)
  fexpr_of (expr.Pair' o a r b) = f.Pair (fexpr_of a) (fexpr_of b)
  fexpr_of (expr.At' i shape es) = f.At i (fexpr_row es)
  fexpr_of (expr.AtBound i) = f.AtBound i
  fexpr_of (expr.With' o m shape es r e) = f.With (fexpr_of m) (fexpr_row es) (fexpr_of e)

  -- the keys inside a tree
  pub fexpr_row : {n : _} → expr.Row_of-FExpr n → f.FExprs
  fexpr_row expr.end_of-FExpr = f.none
  fexpr_row (expr.more_of-FExpr a rest) = f.more (fexpr_of a) (fexpr_row rest)

-- the items of a `Vec` or a slice, as keys
abbrev pub fexprs_of : List expr.FExpr → f.FExprs
fexprs_of [] = f.none
fexprs_of (e ∷ es) = f.more (fexpr_of e) (fexprs_of es)

abbrev pub formula_of : Formula → f.Formula
formula_of x = record { vars = map type_of x.vars.items; lets = map fexpr_of x.lets.items; goal = fexpr_of x.goal }

abbrev pub conditions_of : Conditions → f.Conditions
conditions_of x = record { vars = map type_of x.vars.items; lets = map fexpr_of x.lets.items; fails = x.fails.items }
