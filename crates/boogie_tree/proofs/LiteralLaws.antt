-- What is said of the literals of a tree and of the variables that each `forall` binds, by what is said elsewhere.
use Rattle.std.proofs.Common.{ℕ, ℤ, Bool as Truth, true, List}
use Rattle.boogie_tree.specs.Expr as t
use Rattle.boogie_tree.specs.Stmt as s
use Rattle.boogie_tree.specs.declared.exprs.BBase.{BBase}
use Rattle.boogie_tree.specs.Literals.{ExprHas, IndexHas, StmtHas, BlockHas, LiteralsFit, IndexLiteralsFit, StmtLiteralsFit, BlockLiteralsFit}
use Rattle.boogie_tree.specs.Fits.{FitsExpr, FitExprs, FitsStmt, FitStmts}

-- ---- where more is said of each

module _ (N M : ℤ → Type 0) (B C : List BBase → Type 0) (number : (n : ℤ) → N n → M n) (bound : (us : List BBase) → B us → C us) where
  mutual
    pub expr_has : (x : t.BExpr) → ExprHas N B x → ExprHas M C x
    expr_has (t.Var i) h = tt
    expr_has (t.Int n) h = number n h
    expr_has (t.Real n) h = number n h
    expr_has (t.Bool p) h = tt
    expr_has t.Null h = tt
    expr_has t.Unit h = tt
    expr_has (t.Neg a) h = expr_has a h
    expr_has (t.Not a) h = expr_has a h
    expr_has (t.Bin o a b) h = (expr_has a h.0, expr_has b h.1)
    expr_has (t.If a b c) h = (expr_has a h.0, expr_has b h.1, expr_has c h.2)
    expr_has (t.Forall us a) h = (bound us h.0, expr_has a h.1)
    expr_has (t.ToReal a) h = expr_has a h
    expr_has (t.SInt a) h = expr_has a h
    expr_has (t.SBool a) h = expr_has a h
    expr_has (t.SRef a) h = expr_has a h
    expr_has (t.SPerm a) h = expr_has a h
    expr_has (t.Pair a b) h = (expr_has a h.0, expr_has b h.1)
    expr_has (t.At i es) h = index_has es h
    expr_has (t.AtBound i) h = tt

    pub index_has : (es : t.BExprs) → IndexHas N B es → IndexHas M C es
    index_has t.none h = tt
    index_has (t.more a es) h = (expr_has a h.0, index_has es h.1)

  mutual
    pub stmt_has : (x : s.BStmt) → StmtHas N B x → StmtHas M C x
    stmt_has (s.Assign i a) h = expr_has a h
    stmt_has (s.Put i es a) h = (index_has es h.0, expr_has a h.1)
    stmt_has (s.Havoc i) h = tt
    stmt_has (s.Assume a) h = expr_has a h
    stmt_has (s.Assert l a) h = expr_has a h
    stmt_has (s.If a xs ys) h = (expr_has a h.0, block_has xs h.1, block_has ys h.2)
    stmt_has (s.Either xs ys) h = (block_has xs h.0, block_has ys h.1)

    pub block_has : (xs : s.BStmts) → BlockHas N B xs → BlockHas M C xs
    block_has s.skip h = tt
    block_has (s.first x xs) h = (stmt_has x h.0, block_has xs h.1)

-- ---- where the tree has a text

mutual
  pub literals_fit : (n : ℕ) (b : Truth) (e : t.BExpr) → FitsExpr n b e → LiteralsFit e
  literals_fit n b (t.Var i) h = tt
  literals_fit n b (t.Int k) h = h
  literals_fit n b (t.Real k) h = h
  literals_fit n b (t.Bool p) h = tt
  literals_fit n b t.Null h = tt
  literals_fit n b t.Unit h = tt
  literals_fit n b (t.Neg x) h = literals_fit n b x h
  literals_fit n b (t.Not x) h = literals_fit n b x h
  literals_fit n b (t.Bin o x y) h = (literals_fit n b x h.0, literals_fit n b y h.1)
  literals_fit n b (t.If x y z) h = (literals_fit n b x h.0, literals_fit n b y h.1, literals_fit n b z h.2)
  literals_fit n b (t.Forall us x) h = (h.1, literals_fit n true x h.3)
  literals_fit n b (t.ToReal x) h = literals_fit n b x h
  literals_fit n b (t.SInt x) h = literals_fit n b x h
  literals_fit n b (t.SBool x) h = literals_fit n b x h
  literals_fit n b (t.SRef x) h = literals_fit n b x h
  literals_fit n b (t.SPerm x) h = literals_fit n b x h
  literals_fit n b (t.Pair x y) h = (literals_fit n b x h.0, literals_fit n b y h.1)
  literals_fit n b (t.At i xs) h = all_literals_fit n b xs h.2
  literals_fit n b (t.AtBound i) h = tt

  pub all_literals_fit : (n : ℕ) (b : Truth) (es : t.BExprs) → FitExprs n b es → IndexLiteralsFit es
  all_literals_fit n b t.none h = tt
  all_literals_fit n b (t.more e es) h = (literals_fit n b e h.0, all_literals_fit n b es h.1)

mutual
  pub stmt_literals_fit : (n : ℕ) (x : s.BStmt) → FitsStmt n x → StmtLiteralsFit x
  stmt_literals_fit n (s.Assign i e) h = literals_fit n _ e h.1
  stmt_literals_fit n (s.Put i es e) h = (all_literals_fit n _ es h.2, literals_fit n _ e h.3)
  stmt_literals_fit n (s.Havoc i) h = tt
  stmt_literals_fit n (s.Assume e) h = literals_fit n _ e h
  stmt_literals_fit n (s.Assert l e) h = literals_fit n _ e h
  stmt_literals_fit n (s.If e xs ys) h = (literals_fit n _ e h.0, block_literals_fit n xs h.1, block_literals_fit n ys h.2)
  stmt_literals_fit n (s.Either xs ys) h = (block_literals_fit n xs h.0, block_literals_fit n ys h.1)

  pub block_literals_fit : (n : ℕ) (xs : s.BStmts) → FitStmts n xs → BlockLiteralsFit xs
  block_literals_fit n s.skip h = tt
  block_literals_fit n (s.first x xs) h = (stmt_literals_fit n x h.0, block_literals_fit n xs h.1)
