-- The lists of a formula and of conditions that code holds are no longer than can be numbered.
use Rattle.std.proofs.Common.{◌<◌, ◌^◌, arith, List, [], ◌∷◌, length, map}
use Rattle.std.proofs.lemmas.List.{length-map}
use Rattle.std.specs.declared.alloc.Global.{Global}
use Rattle.std.specs.declared.vec.Vec.{Vec}
use Rattle.boogie_print.proofs.ShortLaws.{few_bases}
use Rattle.boogie_tree.specs.Whole.{type_of}
use Rattle.boogie_tree.specs.declared.programs.BType.{BType}
use Rattle.boogie_formula.specs.View.{conditions_of, fexpr_of, fexpr_row, formula_of}
use Rattle.boogie_formula.specs.declared.formulas.FExpr as expr
use Rattle.boogie_formula.specs.declared.formulas.Conditions.{Conditions}
use Rattle.boogie_formula.specs.declared.formulas.Formula.{Formula}
use Rattle.boogie_formula_text.specs.Short.{ShortFExpr, ShortFExprs, ShortLets, AreShortConditions, IsShortFormula}

few_types : (v : Vec BType Global) → length v.items < 2 ^ 63
few_types v = omega arith

few_exprs : (v : Vec expr.FExpr Global) → length v.items < 2 ^ 63
few_exprs v = omega arith

mutual
  short_expr : (e : expr.FExpr) → ShortFExpr (fexpr_of e)
  short_expr (expr.Var i) = tt
  short_expr (expr.Int n) = tt
  short_expr (expr.Real n) = tt
  short_expr (expr.Bool b) = tt
  short_expr expr.Null = tt
  short_expr expr.Unit = tt
  short_expr (expr.Neg' o a) = short_expr a
  short_expr (expr.Not' o a) = short_expr a
  short_expr (expr.Bin' op o a r b) = (short_expr a, short_expr b)
  short_expr (expr.If' o a r b u c) = (short_expr a, short_expr b, short_expr c)
  short_expr (expr.Forall' us o a) = (few_bases us, short_expr a)
  short_expr (expr.ToReal' o a) = short_expr a
  short_expr (expr.SInt' o a) = short_expr a
  short_expr (expr.SBool' o a) = short_expr a
  short_expr (expr.SRef' o a) = short_expr a
  short_expr (expr.SPerm' o a) = short_expr a
  short_expr (expr.Pair' o a r b) = (short_expr a, short_expr b)
  short_expr (expr.At' i shape es) = short_row es
  short_expr (expr.AtBound i) = tt
  short_expr (expr.With' o m shape es r e) = (short_expr m, short_row es, short_expr e)

  short_row : {n : _} (r : expr.Row_of-FExpr n) → ShortFExprs (fexpr_row r)
  short_row expr.end_of-FExpr = tt
  short_row (expr.more_of-FExpr a rest) = (short_expr a, short_row rest)

short_lets : (es : List expr.FExpr) → ShortLets (map fexpr_of es)
short_lets [] = tt
short_lets (e ∷ es) = (short_expr e, short_lets es)

pub short_formula : (x : Formula) → IsShortFormula (formula_of x)
short_formula x = record {
  vars = let n = length-map x.vars.items type_of in let few = few_types x.vars in omega (arith, n, few);
  lets = let n = length-map x.lets.items fexpr_of in let few = few_exprs x.lets in omega (arith, n, few);
  values = short_lets x.lets.items;
  goal = short_expr x.goal;
}

pub short_conditions : (x : Conditions) → AreShortConditions (conditions_of x)
short_conditions x = record {
  vars = let n = length-map x.vars.items type_of in let few = few_types x.vars in omega (arith, n, few);
  lets = let n = length-map x.lets.items fexpr_of in let few = few_exprs x.lets in omega (arith, n, few);
  values = short_lets x.lets.items;
}
