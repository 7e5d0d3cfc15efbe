-- Statements behind others, in a list and as a block.
use Rattle.std.proofs.Common.{◌≡◌, ◌∙◌, List, [], ◌∷◌, ◌++◌, refl, ap}
use Rattle.boogie_tree.specs.Stmt as s
use Rattle.boogie_tree.specs.Whole.{stmt_of, stmts_of}
use Rattle.boogie_tree.specs.declared.stmts.BStmt.{BStmt}
use Rattle.enc_expr.specs.Code.{join}
use Rattle.enc_expr.specs.Pieces.{one}
use Rattle.enc_expr.proofs.RunLaws.{join_assoc}

pub stmts_of-append : (xs ys : List BStmt) → stmts_of (xs ++ ys) ≡ join (stmts_of xs) (stmts_of ys)
stmts_of-append [] ys = refl
stmts_of-append (x ∷ xs) ys = ap (s.first (stmt_of x)) (stmts_of-append xs ys)

-- one more statement, and more of them
pub added : (old : List BStmt) (x : BStmt) {new : List BStmt} {y : s.BStmt} → new ≡ old ++ x ∷ [] → stmt_of x ≡ y → stmts_of new ≡ join (stmts_of old) (one y)
added old x h k = ap stmts_of h ∙ stmts_of-append old (x ∷ []) ∙ ap (λ z. join (stmts_of old) (one z)) k

pub all_added : (old more : List BStmt) {new : List BStmt} {ys : s.BStmts} → new ≡ old ++ more → stmts_of more ≡ ys → stmts_of new ≡ join (stmts_of old) ys
all_added old more h k = ap stmts_of h ∙ stmts_of-append old more ∙ ap (join (stmts_of old)) k

-- and then others
pub then_added : (old xs ys : s.BStmts) {mid new : s.BStmts} → mid ≡ join old xs → new ≡ join mid ys → new ≡ join old (join xs ys)
then_added old xs ys h k = k ∙ ap (λ b. join b ys) h ∙ join_assoc old xs ys
