-- What is formed of pieces has their text, and as many asserts.
use Rattle.std.proofs.Common.{◌≡◌, ◌∙◌, ◌+◌, ◌++◌, ℕ, List, [], ◌∷◌, refl, ap, sym, append_assoc, append-nil, arith, codes}
use Rattle.boogie_print.proofs.PieceLaws.{pieces_text-append}
use Rattle.boogie_grammar.specs.Printed.{Naming, expr_text, stmt_text, stmts_text}
use Rattle.boogie_print.specs.Asserts.{asserts_in}
use Rattle.boogie_print.specs.Pieces.{Piece, Else, End, else_text, end_text, pieces_text}
use Rattle.boogie_tree.specs.Stmt as s
use Rattle.boogie_tree.specs.Stmt.{BStmts}
use Rattle.enc_expr.specs.Code.{join}
use Rattle.enc_units.specs.Forms as f
use Rattle.enc_units.specs.Forms.{Forms}
use Rattle.enc_units.specs.Rows.{pieces_asserts}

-- ---- text

text-join : (x : Naming) (xs ys : BStmts) → stmts_text x (join xs ys) ≡ stmts_text x xs ++ stmts_text x ys
text-join x s.skip ys = refl
text-join x (s.first a xs) ys = ap (λ (more : List ℕ). stmt_text x a ++ more) (text-join x xs ys) ∙ sym (append_assoc (stmt_text x a) (stmts_text x xs) (stmts_text x ys))

pub blocks_are : (x : Naming) (head : List ℕ) (ps qs : List Piece) (one two : List ℕ) → pieces_text x ps ≡ one → pieces_text x qs ≡ two →
    head ++ pieces_text x (ps ++ (Else ∷ (qs ++ (End ∷ [])))) ≡ head ++ one ++ else_text ++ two ++ end_text ++ []
blocks_are x head ps qs one two h k =
    let inner : pieces_text x (ps ++ (Else ∷ (qs ++ (End ∷ [])))) ≡ one ++ (else_text ++ (two ++ end_text)) =
    pieces_text-append x ps (Else ∷ (qs ++ (End ∷ []))) ∙ ap (λ (front : List ℕ). front ++ pieces_text x (Else ∷ (qs ++ (End ∷ [])))) h
    ∙ ap (λ (back : List ℕ). one ++ (else_text ++ back)) (pieces_text-append x qs (End ∷ []) ∙ ap (λ (front : List ℕ). front ++ pieces_text x (End ∷ [])) k ∙ ap (λ (last : List ℕ). two ++ last) (append-nil end_text)) in
    ap (λ (back : List ℕ). head ++ back) inner ∙ sym (append_assoc head one (else_text ++ (two ++ end_text))) ∙ sym (append_assoc (head ++ one) else_text (two ++ end_text))
    ∙ sym (append_assoc (head ++ one ++ else_text) two end_text) ∙ sym (append-nil (head ++ one ++ else_text ++ two ++ end_text))

pub text_is : (x : Naming) {ps : List Piece} {xs : BStmts} → Forms ps xs → pieces_text x ps ≡ stmts_text x xs
text_is x f.nothing = refl
text_is x (f.code xs) = append-nil (stmts_text x xs)
text_is x (f.both {ps = ps} {qs = qs} {xs = xs} {ys = ys} h k) =
    pieces_text-append x ps qs ∙ ap (λ (front : List ℕ). front ++ pieces_text x qs) (text_is x h) ∙ ap (λ (back : List ℕ). stmts_text x xs ++ back) (text_is x k) ∙ sym (text-join x xs ys)
text_is x (f.branch {ps = ps} {qs = qs} {xs = xs} {ys = ys} c h k) =
    blocks_are x (codes "if (" ++ expr_text x c ++ codes ") {\n") ps qs (stmts_text x xs) (stmts_text x ys) (text_is x h) (text_is x k)
text_is x (f.choice {ps = ps} {qs = qs} {xs = xs} {ys = ys} h k) = blocks_are x (codes "if (*) {\n") ps qs (stmts_text x xs) (stmts_text x ys) (text_is x h) (text_is x k)

-- ---- asserts

asserts-join : (xs ys : BStmts) → asserts_in (join xs ys) ≡ asserts_in xs + asserts_in ys
asserts-join s.skip ys = omega arith
asserts-join (s.first a xs) ys = let more = asserts-join xs ys in omega arith

pub asserts-append : (ps qs : List Piece) → pieces_asserts (ps ++ qs) ≡ pieces_asserts ps + pieces_asserts qs
asserts-append [] qs = omega arith
asserts-append (p ∷ ps) qs = let more = asserts-append ps qs in omega arith

blocks_count : (ps qs : List Piece) (m n : ℕ) → pieces_asserts ps ≡ m → pieces_asserts qs ≡ n → pieces_asserts (ps ++ (Else ∷ (qs ++ (End ∷ [])))) ≡ m + n
blocks_count ps qs m n h k = let first = asserts-append ps (Else ∷ (qs ++ (End ∷ []))) in let second = asserts-append qs (End ∷ []) in omega arith

pub asserts_are : {ps : List Piece} {xs : BStmts} → Forms ps xs → pieces_asserts ps ≡ asserts_in xs
asserts_are f.nothing = refl
asserts_are (f.code xs) = omega arith
asserts_are (f.both {ps = ps} {qs = qs} {xs = xs} {ys = ys} h k) =
    let one = asserts_are h in let two = asserts_are k in let pieces = asserts-append ps qs in let blocks = asserts-join xs ys in omega arith
asserts_are (f.branch {ps = ps} {qs = qs} {xs = xs} {ys = ys} c h k) = let all = blocks_count ps qs (asserts_in xs) (asserts_in ys) (asserts_are h) (asserts_are k) in omega arith
asserts_are (f.choice {ps = ps} {qs = qs} {xs = xs} {ys = ys} h k) = let all = blocks_count ps qs (asserts_in xs) (asserts_in ys) (asserts_are h) (asserts_are k) in omega arith
