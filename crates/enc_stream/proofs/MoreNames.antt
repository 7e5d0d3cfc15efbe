-- Where each variable of code has a local, further locals behind these change nothing of its text.
use Rattle.std.proofs.Common.{◌≡◌, ◌∙◌, ◌+◌, ◌-◌, ◌<◌, ◌≤◌, ◌++◌, ℕ, zero, suc, Bool as Truth, true, false, List, [], ◌∷◌, length, filter, codes, refl, sym, ap, append_assoc, arith}
use Rattle.boogie_print.proofs.PrintLaws.{same_taken}
use Rattle.vb_base.specs.Labels.{text_of}
use Rattle.boogie_tree.specs.Expr as t
use Rattle.boogie_tree.specs.Fits.{FitsExpr, FitExprs, FitsStmt, FitStmts}
use Rattle.boogie_tree.specs.Stmt as s
use Rattle.boogie_grammar.specs.Naming.{temporary_name, temporary_names}
use Rattle.boogie_grammar.specs.Printed.{Naming, naming, is_q, name_at, bound_names, binders_text, names_text, operator_text, expr_text, exprs_text, stmt_text, stmts_text}

both : {a b c d : List ℕ} → a ≡ b → c ≡ d → a ++ c ≡ b ++ d
both {a} {b} {c} {d} h k = ap (λ (x : List ℕ). x ++ c) h ∙ ap (λ (x : List ℕ). b ++ x) k

after : (front : List ℕ) {a b : List ℕ} → a ≡ b → front ++ a ≡ front ++ b
after front h = ap (λ (x : List ℕ). front ++ x) h

before : {a b : List ℕ} → a ≡ b → (end : List ℕ) → a ++ end ≡ b ++ end
before h end = ap (λ (x : List ℕ). x ++ end) h

module _ (more : List (List ℕ)) where
  name_more : (ls : List (List ℕ)) (i : ℕ) → i < length ls → name_at (ls ++ more) i ≡ name_at ls i
  name_more [] i low = absurd (omega (arith, low))
  name_more (l ∷ ls) zero low = refl
  name_more (l ∷ ls) (suc i) low = name_more ls i (omega (arith, low))

  module _ (ls : List (List ℕ)) (taken : List (List ℕ)) where
    abbrev long : List (List ℕ) → Naming
    long bound = record { locals = ls ++ more; taken = taken; bound = bound }

    abbrev short : List (List ℕ) → Naming
    short bound = record { locals = ls; taken = taken; bound = bound }

    wrapped : (front : List ℕ) (bound : List (List ℕ)) (a : t.BExpr) → expr_text (long bound) a ≡ expr_text (short bound) a → front ++ expr_text (long bound) a ++ codes ")" ≡ front ++ expr_text (short bound) a ++ codes ")"
    wrapped front bound a h = before (after front h) (codes ")")

    mutual
      expr_more : (bound : List (List ℕ)) (b : Truth) (e : t.BExpr) → FitsExpr (length ls) b e → expr_text (long bound) e ≡ expr_text (short bound) e
      expr_more bound b (t.Var i) fits = name_more ls i fits
      expr_more bound b (t.Int k) fits = refl
      expr_more bound b (t.Real k) fits = refl
      expr_more bound b (t.Bool c) fits = refl
      expr_more bound b t.Null fits = refl
      expr_more bound b t.Unit fits = refl
      expr_more bound b (t.Neg x) fits = wrapped (codes "(- ") bound x (expr_more bound b x fits)
      expr_more bound b (t.Not x) fits = wrapped (codes "(! ") bound x (expr_more bound b x fits)
      expr_more bound b (t.Bin o x y) fits =
          before (both (before (before (before (after (codes "(") (expr_more bound b x fits.0)) (codes " ")) (operator_text o)) (codes " ")) (expr_more bound b y fits.1)) (codes ")")
      expr_more bound b (t.If x y z) fits =
          before (both (before (both (before (after (codes "(if ") (expr_more bound b x fits.0)) (codes " then ")) (expr_more bound b y fits.1)) (codes " else ")) (expr_more bound b z fits.2)) (codes ")")
      expr_more bound b (t.Forall us x) fits =
          before (after (codes "(forall " ++ binders_text [] (bound_names taken [] us) us ++ codes " :: ") (expr_more (bound_names taken [] us) true x fits.3)) (codes ")")
      expr_more bound b (t.ToReal x) fits = wrapped (codes "real(") bound x (expr_more bound b x fits)
      expr_more bound b (t.SInt x) fits = wrapped (codes "sInt(") bound x (expr_more bound b x fits)
      expr_more bound b (t.SBool x) fits = wrapped (codes "sBool(") bound x (expr_more bound b x fits)
      expr_more bound b (t.SRef x) fits = wrapped (codes "sRef(") bound x (expr_more bound b x fits)
      expr_more bound b (t.SPerm x) fits = wrapped (codes "sPerm(") bound x (expr_more bound b x fits)
      expr_more bound b (t.Pair x y) fits = before (both (before (after (codes "sPair(") (expr_more bound b x fits.0)) (codes ", ")) (expr_more bound b y fits.1)) (codes ")")
      expr_more bound b (t.At i xs) fits = before (both (before (name_more ls i fits.0) (codes "[")) (exprs_more bound b [] xs fits.2)) (codes "]")
      expr_more bound b (t.AtBound i) fits = before (before (before (name_more ls i fits.0) (codes "[")) (names_text [] bound)) (codes "]")

      exprs_more : (bound : List (List ℕ)) (b : Truth) (front : List ℕ) (es : t.BExprs) → FitExprs (length ls) b es → exprs_text (long bound) front es ≡ exprs_text (short bound) front es
      exprs_more bound b front t.none fits = refl
      exprs_more bound b front (t.more x xs) fits = both (after front (expr_more bound b x fits.0)) (exprs_more bound b (codes ", ") xs fits.1)

    mutual
      stmt_more : (x : s.BStmt) → FitsStmt (length ls) x → stmt_text (long []) x ≡ stmt_text (short []) x
      stmt_more (s.Assign i e) fits = before (both (before (name_more ls i fits.0) (codes " := ")) (expr_more [] false e fits.1)) (codes ";\n")
      stmt_more (s.Put i es e) fits =
          before (both (before (both (before (name_more ls i fits.0) (codes "[")) (exprs_more [] false [] es fits.2)) (codes "] := ")) (expr_more [] false e fits.3)) (codes ";\n")
      stmt_more (s.Havoc i) fits = before (after (codes "havoc ") (name_more ls i fits)) (codes ";\n")
      stmt_more (s.Assume e) fits = before (after (codes "assume ") (expr_more [] false e fits)) (codes ";\n")
      stmt_more (s.Assert l e) fits = before (after (codes "assert {:msg \"" ++ text_of l ++ codes "\"} ") (expr_more [] false e fits)) (codes ";\n")
      stmt_more (s.If e xs ys) fits =
          before (both (before (both (before (after (codes "if (") (expr_more [] false e fits.0)) (codes ") {\n")) (stmts_more xs fits.1)) (codes "} else {\n")) (stmts_more ys fits.2)) (codes "}\n")
      stmt_more (s.Either xs ys) fits = before (both (before (after (codes "if (*) {\n") (stmts_more xs fits.0)) (codes "} else {\n")) (stmts_more ys fits.1)) (codes "}\n")

      pub stmts_more : (xs : s.BStmts) → FitStmts (length ls) xs → stmts_text (long []) xs ≡ stmts_text (short []) xs
      stmts_more s.skip fits = refl
      stmts_more (s.first x xs) fits = both (stmt_more x fits.0) (stmts_more xs fits.1)

-- ---- more temporaries

temporaries_more : (n k d : ℕ) → temporary_names n (k + d) ≡ temporary_names n k ++ temporary_names (n + k) d
temporaries_more n zero d = ap (λ (m : ℕ). temporary_names n m) (let same : 0 + d ≡ d = omega arith in same) ∙ ap (λ (m : ℕ). temporary_names m d) (let same : n ≡ n + 0 = omega arith in same)
temporaries_more n (suc k) d =
    ap (λ (m : ℕ). temporary_names n m) (let same : suc k + d ≡ suc (k + d) = omega arith in same)
    ∙ ap (λ (xs : List (List ℕ)). temporary_name n ∷ xs) (temporaries_more (n + 1) k d ∙ ap (λ (m : ℕ). temporary_names (n + 1) k ++ temporary_names m d) (let same : n + 1 + k ≡ n + suc k = omega arith in same))

-- the text of code whose variables are these locals and so many temporaries, where names of more temporaries are there
pub text_more : (names : List (List ℕ)) (n k m : ℕ) (xs : s.BStmts) → k ≤ m → FitStmts (length (names ++ temporary_names n k)) xs →
    stmts_text (naming (names ++ temporary_names n m)) xs ≡ stmts_text (naming (names ++ temporary_names n k)) xs
text_more names n k m xs few fits =
    let ls = names ++ temporary_names n k in let more = temporary_names (n + k) (m - k) in
    let whole : names ++ temporary_names n m ≡ ls ++ more =
    ap (λ (j : ℕ). names ++ temporary_names n j) (let same : m ≡ k + (m - k) = omega (arith, few) in same)
    ∙ ap (λ (ys : List (List ℕ)). names ++ ys) (temporaries_more n k (m - k)) ∙ sym (append_assoc names (temporary_names n k) more) in
    let taken : filter is_q (names ++ temporary_names n m) ≡ filter is_q ls = same_taken names n m ∙ sym (same_taken names n k) in
    ap (λ (x : List (List ℕ)). stmts_text (record { locals = x; taken = filter is_q (names ++ temporary_names n m); bound = [] }) xs) whole
    ∙ ap (λ (x : List (List ℕ)). stmts_text (record { locals = ls ++ more; taken = x; bound = [] }) xs) taken
    ∙ stmts_more more ls (filter is_q ls) xs fits
