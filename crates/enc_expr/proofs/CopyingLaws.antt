-- Copies of expressions in a row.
use Rattle.std.proofs.Common.{◌≡◌, ◌∙◌, ℕ, ◌+◌, List, [], ◌∷◌, ◌++◌, drop, ap, sym, append_assoc}
use Rattle.boogie_tree.specs.Expr as t
use Rattle.boogie_tree.specs.Whole.{expr_of, exprs_of}
use Rattle.boogie_tree.specs.declared.exprs.BExpr.{BExpr}

one_for_other : (xs : List BExpr) (y x : BExpr) (rest : List BExpr) → expr_of y ≡ expr_of x → exprs_of (xs ++ y ∷ rest) ≡ exprs_of (xs ++ x ∷ rest)
one_for_other [] y x rest same = λ i. t.more (same i) (exprs_of rest)
one_for_other (z ∷ xs) y x rest same = ap (t.more (expr_of z)) (one_for_other xs y x rest same)

pub one_more_copied : (copies more es : List BExpr) (i : ℕ) (x y : BExpr) → more ≡ copies ++ y ∷ [] → expr_of y ≡ expr_of x → drop i es ≡ x ∷ drop (i + 1) es → exprs_of (copies ++ drop i es) ≡ exprs_of es →
    exprs_of (more ++ drop (i + 1) es) ≡ exprs_of es
one_more_copied copies more es i x y added same split before =
    ap (λ (zs : List BExpr). exprs_of (zs ++ drop (i + 1) es)) added ∙ ap exprs_of (append_assoc copies (y ∷ []) (drop (i + 1) es)) ∙ one_for_other copies y x (drop (i + 1) es) same
    ∙ ap (λ (zs : List BExpr). exprs_of (copies ++ zs)) (sym split) ∙ before
