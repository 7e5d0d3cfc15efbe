-- When pieces of text form statements: whole statements, and blocks in their brackets.
use Rattle.std.specs.Prelude.{List, [], ◌∷◌, ◌++◌}
use Rattle.boogie_tree.specs.Expr as t
use Rattle.boogie_tree.specs.Stmt as s
use Rattle.boogie_tree.specs.Stmt.{BStmts}
use Rattle.boogie_print.specs.Pieces.{Piece, Code, If, Either, Else, End}
use Rattle.enc_expr.specs.Code.{join}
use Rattle.enc_expr.specs.Pieces.{one}

pub data Forms : List Piece → BStmts → Type 0 where
  nothing : Forms [] s.skip
  code : (xs : BStmts) → Forms (Code xs ∷ []) xs
  both : {ps qs : List Piece} {xs ys : BStmts} → Forms ps xs → Forms qs ys → Forms (ps ++ qs) (join xs ys)
  branch : {ps qs : List Piece} {xs ys : BStmts} (c : t.BExpr) → Forms ps xs → Forms qs ys → Forms (If c ∷ (ps ++ (Else ∷ (qs ++ (End ∷ []))))) (one (s.If c xs ys))
  choice : {ps qs : List Piece} {xs ys : BStmts} → Forms ps xs → Forms qs ys → Forms (Either ∷ (ps ++ (Else ∷ (qs ++ (End ∷ []))))) (one (s.Either xs ys))
