-- What is well-typed stays so when locals are added.
use Rattle.std.proofs.Common.{List, ◌++◌, Option, Some}
use Rattle.lemmas.proofs.Lists.{there_left}
use Rattle.boogie_tree.specs.Expr as t
use Rattle.boogie_tree.specs.Stmt as s
use Rattle.boogie_tree.specs.Program.{BType}
use Rattle.boogie_tree.specs.declared.exprs.BBase.{BBase}
use Rattle.boogie_meaning.specs.Types as b
use Rattle.boogie_meaning.specs.Types.{HasType, HaveTypes, SideHasType, IsTypedStmt, IsTyped}

module _ (ts us : List BType) where
  mutual
    typed_more : (o : Option (List BBase)) (e : t.BExpr) (u : BBase) → HasType ts o e u → HasType (ts ++ us) o e u
    typed_more o (t.Var i) u (b.var h) = b.var (there_left ts us _ _ h)
    typed_more o (t.Int n) _ b.int = b.int
    typed_more o (t.Real n) _ b.real = b.real
    typed_more o (t.Bool p) _ b.bool = b.bool
    typed_more o t.Null _ b.null = b.null
    typed_more o t.Unit _ b.unit = b.unit
    typed_more o (t.Neg a) u (b.neg n h) = b.neg n (typed_more o a _ h)
    typed_more o (t.Not a) _ (b.not_ h) = b.not_ (typed_more o a _ h)
    typed_more o (t.Bin p a c) u (b.binary k h i) = b.binary k (typed_more o a _ h) (typed_more o c _ i)
    typed_more o (t.If a c d) u (b.choose h i j) = b.choose (typed_more o a _ h) (typed_more o c u i) (typed_more o d u j)
    typed_more _ (t.Forall ks a) _ (b.forall_ keys h) = b.forall_ keys (typed_more (Some ks) a _ h)
    typed_more o (t.ToReal a) _ (b.to_real h) = b.to_real (typed_more o a _ h)
    typed_more o (t.SInt a) _ (b.s_int h) = b.s_int (typed_more o a _ h)
    typed_more o (t.SBool a) _ (b.s_bool h) = b.s_bool (typed_more o a _ h)
    typed_more o (t.SRef a) _ (b.s_ref h) = b.s_ref (typed_more o a _ h)
    typed_more o (t.SPerm a) _ (b.s_perm h) = b.s_perm (typed_more o a _ h)
    typed_more o (t.Pair a c) _ (b.pair h i) = b.pair (typed_more o a _ h) (typed_more o c _ i)
    typed_more o (t.At i es) u (b.at l h) = b.at (there_left ts us _ _ l) (indices_more o es _ h)
    typed_more _ (t.AtBound i) u (b.at_bound l) = b.at_bound (there_left ts us _ _ l)

    indices_more : (o : Option (List BBase)) (es : t.BExprs) (ws : List BBase) → HaveTypes ts o es ws → HaveTypes (ts ++ us) o es ws
    indices_more o t.none _ b.none = b.none
    indices_more o (t.more e es) _ (b.more k h hs) = b.more k (typed_more o e _ h) (indices_more o es _ hs)

  pub type_with_more : {o : Option (List BBase)} {e : t.BExpr} {u : BBase} → HasType ts o e u → HasType (ts ++ us) o e u
  type_with_more {o = o} {e = e} {u = u} h = typed_more o e u h

  pub types_with_more : {o : Option (List BBase)} {es : t.BExprs} {ws : List BBase} → HaveTypes ts o es ws → HaveTypes (ts ++ us) o es ws
  types_with_more {o = o} {es = es} {ws = ws} h = indices_more o es ws h

  side_with_more : {e : t.BExpr} {u : BType} → SideHasType ts e u → SideHasType (ts ++ us) e u
  side_with_more (b.whole l) = b.whole (there_left ts us _ _ l)
  side_with_more (b.value h) = b.value (type_with_more h)

  mutual
    pub stmt_with_more : {x : s.BStmt} → IsTypedStmt ts x → IsTypedStmt (ts ++ us) x
    stmt_with_more (b.assign l h) = b.assign (there_left ts us _ _ l) (side_with_more h)
    stmt_with_more (b.put l h i) = b.put (there_left ts us _ _ l) (types_with_more h) (type_with_more i)
    stmt_with_more (b.havoc l) = b.havoc (there_left ts us _ _ l)
    stmt_with_more (b.assume_ h) = b.assume_ (type_with_more h)
    stmt_with_more (b.assert_ h) = b.assert_ (type_with_more h)
    stmt_with_more (b.if_ h i j) = b.if_ (type_with_more h) (stmts_with_more i) (stmts_with_more j)
    stmt_with_more (b.either i j) = b.either (stmts_with_more i) (stmts_with_more j)

    pub stmts_with_more : {xs : s.BStmts} → IsTyped ts xs → IsTyped (ts ++ us) xs
    stmts_with_more b.skip = b.skip
    stmts_with_more (b.first h hs) = b.first (stmt_with_more h) (stmts_with_more hs)
