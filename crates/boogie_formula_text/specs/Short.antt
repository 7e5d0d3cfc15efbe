-- What is numbered is fewer than 2^63, so that no two numerals are the same: variables, definitions, and what a `forall` binds.
use Rattle.std.specs.Prelude.{◌^◌, ◌<◌, ⊤, List, [], ◌∷◌, length}
use Rattle.boogie_formula.specs.Formula as f
use Rattle.boogie_formula.specs.Formula.{FExpr, FExprs, Formula, Conditions}

abbrev mutual
  pub ShortFExpr : FExpr → Type 0
  ShortFExpr (f.Neg a) = ShortFExpr a
  ShortFExpr (f.Not a) = ShortFExpr a
  ShortFExpr (f.Bin o a b) = ShortFExpr a × ShortFExpr b
  ShortFExpr (f.If a b c) = ShortFExpr a × ShortFExpr b × ShortFExpr c
  ShortFExpr (f.Forall us a) = (length us < 2 ^ 63) × ShortFExpr a
  ShortFExpr (f.ToReal a) = ShortFExpr a
  ShortFExpr (f.SInt a) = ShortFExpr a
  ShortFExpr (f.SBool a) = ShortFExpr a
  ShortFExpr (f.SRef a) = ShortFExpr a
  ShortFExpr (f.SPerm a) = ShortFExpr a
  ShortFExpr (f.Pair a b) = ShortFExpr a × ShortFExpr b
  ShortFExpr (f.At i es) = ShortFExprs es
  ShortFExpr (f.With m es e) = ShortFExpr m × ShortFExprs es × ShortFExpr e
  ShortFExpr _ = ⊤

  pub ShortFExprs : FExprs → Type 0
  ShortFExprs f.none = ⊤
  ShortFExprs (f.more a es) = ShortFExpr a × ShortFExprs es

abbrev pub ShortLets : List FExpr → Type 0
ShortLets [] = ⊤
ShortLets (e ∷ es) = ShortFExpr e × ShortLets es

pub record IsShortFormula (x : Formula) : Type 0 where
  pub vars : length x.vars < 2 ^ 63
  pub lets : length x.lets < 2 ^ 63
  pub values : ShortLets x.lets
  pub goal : ShortFExpr x.goal

pub record AreShortConditions (x : Conditions) : Type 0 where
  pub vars : length x.vars < 2 ^ 63
  pub lets : length x.lets < 2 ^ 63
  pub values : ShortLets x.lets
