-- What types do not say of the literals of a tree and of the variables that each `forall` binds. In a tree that has a text each
-- literal is from 0 to the greatest, and each `forall` binds a variable.
use Rattle.std.specs.Prelude.{◌≡◌, ◌≢◌, ◌≤◌, ◌^◌, ◌-◌, pos, ℕ, ℤ, ⊤, List, []}
use Rattle.boogie_tree.specs.Expr as t
use Rattle.boogie_tree.specs.Stmt as s
use Rattle.boogie_tree.specs.declared.exprs.BBase.{BBase}

-- ---- each literal has one property, and the variables that each `forall` binds have another

abbrev mutual
  pub ExprHas : (ℤ → Type 0) → (List BBase → Type 0) → t.BExpr → Type 0
  ExprHas N B (t.Var i) = ⊤
  ExprHas N B (t.Int n) = N n
  ExprHas N B (t.Real n) = N n
  ExprHas N B (t.Bool p) = ⊤
  ExprHas N B t.Null = ⊤
  ExprHas N B t.Unit = ⊤
  ExprHas N B (t.Neg a) = ExprHas N B a
  ExprHas N B (t.Not a) = ExprHas N B a
  ExprHas N B (t.Bin o a b) = ExprHas N B a × ExprHas N B b
  ExprHas N B (t.If a b c) = ExprHas N B a × ExprHas N B b × ExprHas N B c
  ExprHas N B (t.Forall us a) = B us × ExprHas N B a
  ExprHas N B (t.ToReal a) = ExprHas N B a
  ExprHas N B (t.SInt a) = ExprHas N B a
  ExprHas N B (t.SBool a) = ExprHas N B a
  ExprHas N B (t.SRef a) = ExprHas N B a
  ExprHas N B (t.SPerm a) = ExprHas N B a
  ExprHas N B (t.Pair a b) = ExprHas N B a × ExprHas N B b
  ExprHas N B (t.At i es) = IndexHas N B es
  ExprHas N B (t.AtBound i) = ⊤

  pub IndexHas : (ℤ → Type 0) → (List BBase → Type 0) → t.BExprs → Type 0
  IndexHas N B t.none = ⊤
  IndexHas N B (t.more a es) = ExprHas N B a × IndexHas N B es

abbrev mutual
  pub StmtHas : (ℤ → Type 0) → (List BBase → Type 0) → s.BStmt → Type 0
  StmtHas N B (s.Assign i a) = ExprHas N B a
  StmtHas N B (s.Put i es a) = IndexHas N B es × ExprHas N B a
  StmtHas N B (s.Havoc i) = ⊤
  StmtHas N B (s.Assume a) = ExprHas N B a
  StmtHas N B (s.Assert l a) = ExprHas N B a
  StmtHas N B (s.If a xs ys) = ExprHas N B a × BlockHas N B xs × BlockHas N B ys
  StmtHas N B (s.Either xs ys) = BlockHas N B xs × BlockHas N B ys

  pub BlockHas : (ℤ → Type 0) → (List BBase → Type 0) → s.BStmts → Type 0
  BlockHas N B s.skip = ⊤
  BlockHas N B (s.first x xs) = StmtHas N B x × BlockHas N B xs

-- ---- in a tree that has a text

-- the greatest literal
abbrev pub max_literal : ℕ
max_literal = 2 ^ 127 - 1

-- a number from 0 to the greatest literal
pub record IsLiteral (n : ℤ) : Type 0 where
  pub natural : ℕ
  pub is : n ≡ pos natural
  pub within : natural ≤ max_literal

abbrev pub AreBound : List BBase → Type 0
AreBound us = us ≢ []

abbrev pub LiteralsFit : t.BExpr → Type 0
LiteralsFit = ExprHas IsLiteral AreBound

abbrev pub IndexLiteralsFit : t.BExprs → Type 0
IndexLiteralsFit = IndexHas IsLiteral AreBound

abbrev pub StmtLiteralsFit : s.BStmt → Type 0
StmtLiteralsFit = StmtHas IsLiteral AreBound

abbrev pub BlockLiteralsFit : s.BStmts → Type 0
BlockLiteralsFit = BlockHas IsLiteral AreBound
