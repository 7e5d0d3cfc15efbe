-- What is well-typed has its variables and its indices, and names bound variables only under a `forall`. So where its literals
-- can be spelled, it can be.
use Rattle.std.proofs.Common.{◌≢◌, false, List, ◌∷◌, Option, Some, None, is_some, length, refl}
use Rattle.std.proofs.lemmas.Option.{slice_get_within as exists}
use Rattle.boogie_tree.specs.Expr as t
use Rattle.boogie_tree.specs.Stmt as s
use Rattle.boogie_tree.specs.Program.{BType}
use Rattle.boogie_tree.specs.declared.exprs.BBase.{BBase}
use Rattle.boogie_meaning.specs.Types as b
use Rattle.boogie_meaning.specs.Types.{HasType, HaveTypes, SideHasType, IsTypedStmt, IsTyped}
use Rattle.boogie_tree.specs.Fits.{FitsExpr, FitExprs, FitsStmt, FitStmts}
use Rattle.boogie_tree.specs.Literals.{LiteralsFit, IndexLiteralsFit, StmtLiteralsFit, BlockLiteralsFit}

module _ (ts : List BType) where
  some_index : (o : Option (List BBase)) (es : t.BExprs) (u : BBase) (us : List BBase) → HaveTypes ts o es (u ∷ us) → es ≢ t.none
  some_index o t.none u us h e = elim h [ ]
  some_index o (t.more a es) u us (b.more k h hs) e = absurd cc

  mutual
    fits : (o : Option (List BBase)) (x : t.BExpr) (u : BBase) → HasType ts o x u → LiteralsFit x → FitsExpr (length ts) (is_some o) x
    fits o (t.Var i) u (b.var there) l = exists ts i _ there
    fits o (t.Int n) _ b.int l = l
    fits o (t.Real n) _ b.real l = l
    fits o (t.Bool p) _ b.bool l = tt
    fits o t.Null _ b.null l = tt
    fits o t.Unit _ b.unit l = tt
    fits o (t.Neg a) u (b.neg n h) l = fits o a _ h l
    fits o (t.Not a) _ (b.not_ h) l = fits o a _ h l
    fits o (t.Bin p a c) u (b.binary k h i) l = (fits o a _ h l.0, fits o c _ i l.1)
    fits o (t.If a c d) u (b.choose h i j) l = (fits o a _ h l.0, fits o c u i l.1, fits o d u j l.2)
    fits _ (t.Forall us a) _ (b.forall_ keys h) l = (refl, l.0, keys, fits (Some us) a _ h l.1)
    fits o (t.ToReal a) _ (b.to_real h) l = fits o a _ h l
    fits o (t.SInt a) _ (b.s_int h) l = fits o a _ h l
    fits o (t.SBool a) _ (b.s_bool h) l = fits o a _ h l
    fits o (t.SRef a) _ (b.s_ref h) l = fits o a _ h l
    fits o (t.SPerm a) _ (b.s_perm h) l = fits o a _ h l
    fits o (t.Pair a c) _ (b.pair h i) l = (fits o a _ h l.0, fits o c _ i l.1)
    fits o (t.At i es) u (b.at there h) l = (exists ts i _ there, some_index o es _ _ h, all_fit o es _ h l)
    fits _ (t.AtBound i) u (b.at_bound there) l = (exists ts i _ there, refl)

    all_fit : (o : Option (List BBase)) (es : t.BExprs) (us : List BBase) → HaveTypes ts o es us → IndexLiteralsFit es → FitExprs (length ts) (is_some o) es
    all_fit o t.none _ b.none l = tt
    all_fit o (t.more a es) _ (b.more k h hs) l = (fits o a _ h l.0, all_fit o es _ hs l.1)

  pub expression_fits : (x : t.BExpr) (u : BBase) → HasType ts None x u → LiteralsFit x → FitsExpr (length ts) false x
  expression_fits x u h l = fits None x u h l

  side_fits : (x : t.BExpr) (u : BType) → SideHasType ts x u → LiteralsFit x → FitsExpr (length ts) false x
  side_fits _ u (b.whole {i = i} there) l = exists ts i u there
  side_fits x _ (b.value {u = u} h) l = fits None x u h l

  mutual
    stmt_fits : (x : s.BStmt) → IsTypedStmt ts x → StmtLiteralsFit x → FitsStmt (length ts) x
    stmt_fits (s.Assign i a) (b.assign there h) l = (exists ts i _ there, side_fits a _ h l)
    stmt_fits (s.Put i es a) (b.put there h k) l = (exists ts i _ there, some_index None es _ _ h, all_fit None es _ h l.0, fits None a _ k l.1)
    stmt_fits (s.Havoc i) (b.havoc there) l = exists ts i _ there
    stmt_fits (s.Assume a) (b.assume_ h) l = fits None a _ h l
    stmt_fits (s.Assert n a) (b.assert_ h) l = fits None a _ h l
    stmt_fits (s.If a xs ys) (b.if_ h i j) l = (fits None a _ h l.0, statements_fit xs i l.1, statements_fit ys j l.2)
    stmt_fits (s.Either xs ys) (b.either i j) l = (statements_fit xs i l.0, statements_fit ys j l.1)

    pub statements_fit : (xs : s.BStmts) → IsTyped ts xs → BlockLiteralsFit xs → FitStmts (length ts) xs
    statements_fit s.skip b.skip l = tt
    statements_fit (s.first x xs) (b.first h hs) l = (stmt_fits x h l.0, statements_fit xs hs l.1)
