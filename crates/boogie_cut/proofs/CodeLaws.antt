-- What the code's steps say, over plain variables.
use Rattle.std.proofs.Common.{◌≡◌, ◌∙◌, ◌≤◌, ◌+◌, ℕ, List, [], ◌∷◌, ◌++◌, map, take, length, Vec, refl, sym, ap}
use Rattle.std.proofs.lemmas.List.{take_all}
use Rattle.std.specs.declared.alloc.Global.{Global}
use Rattle.boogie_tree.specs.Expr as t
use Rattle.boogie_tree.specs.Stmt as s
use Rattle.boogie_tree.specs.Whole.{expr_of, exprs_of, stmt_of, stmts_of}
use Rattle.boogie_tree.specs.declared.exprs.BExpr as expr
use Rattle.boogie_tree.specs.declared.stmts.BStmt as stmt
use Rattle.boogie_tree.proofs.WholeLaws.{expr_of-At, exprs_of-map}
use Rattle.boogie_meaning.specs.Renamed.{renamed, renamed_in}
use Rattle.boogie_cut.specs.Cut.{join}

-- ---- expressions

pub at_renamed : (g : ℕ → ℕ) (m : ℕ) (index : Vec expr.BExpr Global) (e : expr.BExpr) → e ≡ expr.At m index → (name : ℕ) → name ≡ g m → (keys : Vec expr.BExpr Global) →
    exprs_of keys.items ≡ renamed_in g (exprs_of index.items) → expr_of (expr.At name keys) ≡ renamed g (expr_of e)
at_renamed g m index e is name named keys same =
    expr_of-At name keys ∙ (λ i. t.At (named i) (same i)) ∙ ap (renamed g) (sym (ap expr_of is ∙ expr_of-At m index))

renamed_row : (g : ℕ → ℕ) (es : List expr.BExpr) → t.exprs (map (λ e. renamed g (expr_of e)) es) ≡ renamed_in g (exprs_of es)
renamed_row g [] = refl
renamed_row g (e ∷ es) = ap (t.more (renamed g (expr_of e))) (renamed_row g es)

pub keys_renamed : (g : ℕ → ℕ) (es : List expr.BExpr) (keys : List expr.BExpr) (i : ℕ) → length es ≤ i → map expr_of keys ≡ map (λ e. renamed g (expr_of e)) (take i es) →
    exprs_of keys ≡ renamed_in g (exprs_of es)
keys_renamed g es keys i end same =
    exprs_of-map keys ∙ ap t.exprs (same ∙ ap (map (λ e. renamed g (expr_of e))) (take_all i es end)) ∙ renamed_row g es

-- ---- blocks

pub join_skip : (xs : s.BStmts) → join xs s.skip ≡ xs
join_skip s.skip = refl
join_skip (s.first x xs) = ap (s.first x) (join_skip xs)

pub join_join : (xs ys zs : s.BStmts) → join (join xs ys) zs ≡ join xs (join ys zs)
join_join s.skip ys zs = refl
join_join (s.first x xs) ys zs = ap (s.first x) (join_join xs ys zs)

pub stmts_append : (xs ys : List stmt.BStmt) → stmts_of (xs ++ ys) ≡ join (stmts_of xs) (stmts_of ys)
stmts_append [] ys = refl
stmts_append (x ∷ xs) ys = ap (s.first (stmt_of x)) (stmts_append xs ys)

-- one more statement, and then those that are left
pub pushed : (old new : List stmt.BStmt) (x : stmt.BStmt) (y : s.BStmt) (rest all before : s.BStmts) → new ≡ old ++ x ∷ [] → stmt_of x ≡ y → join (stmts_of old) all ≡ before → all ≡ s.first y rest →
    join (stmts_of new) rest ≡ before
pushed old new x y rest all before push is so_far next =
    ap (λ xs. join (stmts_of xs) rest) push ∙ ap (λ xs. join xs rest) (stmts_append old (x ∷ [])) ∙ join_join (stmts_of old) (s.first (stmt_of x) s.skip) rest
    ∙ ap (λ z. join (stmts_of old) (s.first z rest)) is ∙ ap (join (stmts_of old)) (sym next) ∙ so_far
