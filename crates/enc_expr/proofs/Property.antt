-- What all trees have that are built of parts that have it. It is said of a tree and a number: how many brackets may be open in it
-- at once. A property for which brackets don't matter holds at each number alike.
use Rattle.std.proofs.Common.{◌≡◌, ◌+◌, ◌≤◌, max, ℕ, Bool, true, List}
use Rattle.std.specs.Prelude.{pos}
use Rattle.vb_base.specs.declared.labels.Label.{Label}
use Rattle.vb_value.specs.declared.values.Ty.{Ty}
use Rattle.boogie_tree.specs.Expr as t
use Rattle.boogie_tree.specs.Stmt as s
use Rattle.boogie_tree.specs.Stmt.{BStmts}
use Rattle.boogie_tree.specs.declared.exprs.BBase.{BBase}
use Rattle.boogie_tree.specs.declared.exprs.BOp.{BOp}
use Rattle.enc_expr.specs.Code.{join}
use Rattle.enc_expr.specs.Pieces.{is_atom}
use Rattle.enc_expr.specs.Encoding.{leaf}

pub record Property : Type 1 where
  pub expr : ℕ → t.BExpr → Type 0
  pub exprs : ℕ → t.BExprs → Type 0
  pub stmt : ℕ → s.BStmt → Type 0
  pub block : ℕ → BStmts → Type 0
  -- what has to be true of the variables that a `forall` binds
  pub keys : List BBase → Type 0
  -- what holds for fewer brackets holds for more, and an atom has none
  pub more_in : {d k : ℕ} {x : t.BExpr} → expr d x → d ≤ k → expr k x
  pub more_in_block : {d k : ℕ} {xs : BStmts} → block d xs → d ≤ k → block k xs
  pub atom : {d : ℕ} {x : t.BExpr} → is_atom x ≡ true → expr d x → expr 0 x
  -- expressions
  pub var : (i : ℕ) → expr 0 (t.Var i)
  pub zero : expr 0 (t.Int (pos 0))
  pub zero_real : expr 0 (t.Real (pos 0))
  pub one_real : expr 0 (t.Real (pos 1))
  pub truth : (q : Bool) → expr 0 (t.Bool q)
  pub null : expr 0 t.Null
  pub unit : expr 0 t.Unit
  pub not : {d : ℕ} {x : t.BExpr} → expr d x → expr (1 + d) (t.Not x)
  pub binary : {o : BOp} {d k : ℕ} {x y : t.BExpr} → expr d x → expr k y → expr (1 + max d k) (t.Bin o x y)
  pub at : {m d : ℕ} {es : t.BExprs} → exprs d es → expr (1 + d) (t.At m es)
  pub content : {d : ℕ} {x : t.BExpr} (u : Ty) → expr d x → expr (1 + d) (leaf u x)
  pub pair : {d k : ℕ} {x y : t.BExpr} → expr d x → expr k y → expr (1 + max d k) (t.Pair x y)
  pub quantified : {us : List BBase} {d : ℕ} {x : t.BExpr} → keys us → expr d x → expr (1 + d) (t.Forall us x)
  pub at_bound : (i : ℕ) → expr 1 (t.AtBound i)
  -- indices
  pub none : exprs 0 t.none
  pub more : {d k : ℕ} {x : t.BExpr} {es : t.BExprs} → expr d x → exprs k es → exprs (max d k) (t.more x es)
  -- statements
  pub assign : {i d : ℕ} {x : t.BExpr} → expr d x → stmt d (s.Assign i x)
  pub put : {m d k : ℕ} {es : t.BExprs} {x : t.BExpr} → exprs d es → expr k x → stmt (max (1 + d) k) (s.Put m es x)
  pub havoc : (i : ℕ) → stmt 0 (s.Havoc i)
  pub assume : {d : ℕ} {x : t.BExpr} → expr d x → stmt d (s.Assume x)
  pub assert : {l : Label} {d : ℕ} {x : t.BExpr} → expr d x → stmt (max 1 d) (s.Assert l x)
  pub branch : {d k j : ℕ} {x : t.BExpr} {xs ys : BStmts} → expr d x → block k xs → block j ys → stmt (1 + max d (max k j)) (s.If x xs ys)
  pub either : {k j : ℕ} {xs ys : BStmts} → block k xs → block j ys → stmt (1 + max k j) (s.Either xs ys)
  -- blocks
  pub skip : block 0 s.skip
  pub first : {d k : ℕ} {x : s.BStmt} {xs : BStmts} → stmt d x → block k xs → block (max d k) (s.first x xs)
  pub joined : {k : ℕ} (xs ys : BStmts) → block k xs → block k ys → block k (join xs ys)
