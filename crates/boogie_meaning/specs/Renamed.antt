-- Expressions with other numbers of variables.
use Rattle.std.specs.Prelude.{⊤, ℕ}
use Rattle.boogie_tree.specs.Expr as t

abbrev mutual
  pub renamed : (ℕ → ℕ) → t.BExpr → t.BExpr
  renamed f (t.Var i) = t.Var (f i)
  renamed f (t.Int n) = t.Int n
  renamed f (t.Real n) = t.Real n
  renamed f (t.Bool p) = t.Bool p
  renamed f t.Null = t.Null
  renamed f t.Unit = t.Unit
  renamed f (t.Neg a) = t.Neg (renamed f a)
  renamed f (t.Not a) = t.Not (renamed f a)
  renamed f (t.Bin o x y) = t.Bin o (renamed f x) (renamed f y)
  renamed f (t.If c x y) = t.If (renamed f c) (renamed f x) (renamed f y)
  renamed f (t.Forall us a) = t.Forall us (renamed f a)
  renamed f (t.ToReal a) = t.ToReal (renamed f a)
  renamed f (t.SInt a) = t.SInt (renamed f a)
  renamed f (t.SBool a) = t.SBool (renamed f a)
  renamed f (t.SRef a) = t.SRef (renamed f a)
  renamed f (t.SPerm a) = t.SPerm (renamed f a)
  renamed f (t.Pair x y) = t.Pair (renamed f x) (renamed f y)
  renamed f (t.At m es) = t.At (f m) (renamed_in f es)
  renamed f (t.AtBound m) = t.AtBound (f m)

  pub renamed_in : (ℕ → ℕ) → t.BExprs → t.BExprs
  renamed_in f t.none = t.none
  renamed_in f (t.more a es) = t.more (renamed f a) (renamed_in f es)

-- what holds of each variable of an expression
abbrev mutual
  pub AllVariables : (ℕ → Type 0) → t.BExpr → Type 0
  AllVariables P (t.Var i) = P i
  AllVariables P (t.Int n) = ⊤
  AllVariables P (t.Real n) = ⊤
  AllVariables P (t.Bool p) = ⊤
  AllVariables P t.Null = ⊤
  AllVariables P t.Unit = ⊤
  AllVariables P (t.Neg a) = AllVariables P a
  AllVariables P (t.Not a) = AllVariables P a
  AllVariables P (t.Bin o x y) = AllVariables P x × AllVariables P y
  AllVariables P (t.If c x y) = AllVariables P c × AllVariables P x × AllVariables P y
  AllVariables P (t.Forall us a) = AllVariables P a
  AllVariables P (t.ToReal a) = AllVariables P a
  AllVariables P (t.SInt a) = AllVariables P a
  AllVariables P (t.SBool a) = AllVariables P a
  AllVariables P (t.SRef a) = AllVariables P a
  AllVariables P (t.SPerm a) = AllVariables P a
  AllVariables P (t.Pair x y) = AllVariables P x × AllVariables P y
  AllVariables P (t.At m es) = P m × AllVariablesIn P es
  AllVariables P (t.AtBound m) = P m

  pub AllVariablesIn : (ℕ → Type 0) → t.BExprs → Type 0
  AllVariablesIn P t.none = ⊤
  AllVariablesIn P (t.more a es) = AllVariables P a × AllVariablesIn P es
