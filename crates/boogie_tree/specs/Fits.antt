-- Which trees have a text that is read back as them: literals are from 0 to the greatest, the number of each variable exists, and
-- lists of keys, bound variables and indices are what a text can show. The rules on names are said elsewhere.
use Rattle.std.specs.Prelude.{◌≡◌, ◌≢◌, ◌<◌, ℕ, Bool as Truth, true, false, [], ⊤}
use Rattle.boogie_tree.specs.Expr as t
use Rattle.boogie_tree.specs.Stmt as s
use Rattle.boogie_tree.specs.Values.{AreKeys}
use Rattle.boogie_tree.specs.Literals.{IsLiteral}

-- with n locals, and inside a `forall` or not
abbrev mutual
  pub FitsExpr : ℕ → Truth → t.BExpr → Type 0
  FitsExpr n b (t.Var i) = i < n
  FitsExpr n b (t.Int k) = IsLiteral k
  FitsExpr n b (t.Real k) = IsLiteral k
  FitsExpr n b (t.Bool c) = ⊤
  FitsExpr n b t.Null = ⊤
  FitsExpr n b t.Unit = ⊤
  FitsExpr n b (t.Neg x) = FitsExpr n b x
  FitsExpr n b (t.Not x) = FitsExpr n b x
  FitsExpr n b (t.Bin o x y) = FitsExpr n b x × FitsExpr n b y
  FitsExpr n b (t.If x y z) = FitsExpr n b x × FitsExpr n b y × FitsExpr n b z
  FitsExpr n b (t.Forall us x) = (b ≡ false) × (us ≢ []) × AreKeys us × FitsExpr n true x
  FitsExpr n b (t.ToReal x) = FitsExpr n b x
  FitsExpr n b (t.SInt x) = FitsExpr n b x
  FitsExpr n b (t.SBool x) = FitsExpr n b x
  FitsExpr n b (t.SRef x) = FitsExpr n b x
  FitsExpr n b (t.SPerm x) = FitsExpr n b x
  FitsExpr n b (t.Pair x y) = FitsExpr n b x × FitsExpr n b y
  FitsExpr n b (t.At i xs) = (i < n) × (xs ≢ t.none) × FitExprs n b xs
  FitsExpr n b (t.AtBound i) = (i < n) × (b ≡ true)

  pub FitExprs : ℕ → Truth → t.BExprs → Type 0
  FitExprs n b t.none = ⊤
  FitExprs n b (t.more x xs) = FitsExpr n b x × FitExprs n b xs

abbrev mutual
  pub FitsStmt : ℕ → s.BStmt → Type 0
  FitsStmt n (s.Assign i x) = (i < n) × FitsExpr n false x
  FitsStmt n (s.Put i xs x) = (i < n) × (xs ≢ t.none) × FitExprs n false xs × FitsExpr n false x
  FitsStmt n (s.Havoc i) = i < n
  FitsStmt n (s.Assume x) = FitsExpr n false x
  FitsStmt n (s.Assert l x) = FitsExpr n false x
  FitsStmt n (s.If x a b) = FitsExpr n false x × FitStmts n a × FitStmts n b
  FitsStmt n (s.Either a b) = FitStmts n a × FitStmts n b

  pub FitStmts : ℕ → s.BStmts → Type 0
  FitStmts n s.skip = ⊤
  FitStmts n (s.first a rest) = FitsStmt n a × FitStmts n rest
