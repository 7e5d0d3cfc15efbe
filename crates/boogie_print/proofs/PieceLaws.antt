-- Rows of pieces in which each block is closed are the text of statements.
use Rattle.std.proofs.Common.{◌≡◌, ◌∙◌, refl, sym, ap, ℕ, List, [], ◌∷◌, ◌++◌, append_assoc, append-nil}
use Rattle.std.specs.List.{flat_map}
use Rattle.boogie_tree.specs.Expr as t
use Rattle.boogie_tree.specs.Stmt as s
use Rattle.boogie_tree.specs.Program.{Proc, BProgram}
use Rattle.boogie_tree.specs.Text.{prelude}
use Rattle.boogie_grammar.specs.Grammar.{local_names}
use Rattle.boogie_grammar.specs.Printed.{Naming, naming, stmt_text, stmts_text, proc_text, procs_text, program_text}
use Rattle.boogie_print.specs.Pieces.{Piece, Code, If, Either, Else, End, head_text, else_text, end_text, piece_text, pieces_text}

pub pieces_text-append : (x : Naming) (ps qs : List Piece) → pieces_text x (ps ++ qs) ≡ pieces_text x ps ++ pieces_text x qs
pieces_text-append x [] qs = refl
pieces_text-append x (p ∷ ps) qs = ap (λ bytes. piece_text x p ++ bytes) (pieces_text-append x ps qs) ∙ sym (append_assoc (piece_text x p) (pieces_text x ps) (pieces_text x qs))

pub stmts_text-append : (x : Naming) (xs ys : List s.BStmt) → stmts_text x (s.stmts (xs ++ ys)) ≡ stmts_text x (s.stmts xs) ++ stmts_text x (s.stmts ys)
stmts_text-append x [] ys = refl
stmts_text-append x (a ∷ xs) ys = ap (λ bytes. stmt_text x a ++ bytes) (stmts_text-append x xs ys) ∙ sym (append_assoc (stmt_text x a) (stmts_text x (s.stmts xs)) (stmts_text x (s.stmts ys)))

pub whole_text : (x : Naming) (xs : s.BStmts) → pieces_text x (Code xs ∷ []) ≡ stmts_text x xs
whole_text x xs = append-nil (stmts_text x xs)

pub both_text : (x : Naming) (xs ys : List s.BStmt) (ps qs : List Piece) → pieces_text x ps ≡ stmts_text x (s.stmts xs) → pieces_text x qs ≡ stmts_text x (s.stmts ys) →
    pieces_text x (ps ++ qs) ≡ stmts_text x (s.stmts (xs ++ ys))
both_text x xs ys ps qs h i =
    pieces_text-append x ps qs ∙ ap (λ bytes. bytes ++ pieces_text x qs) h ∙ ap (λ bytes. stmts_text x (s.stmts xs) ++ bytes) i ∙ sym (stmts_text-append x xs ys)

-- a row and one piece more

ended : (x : Naming) (qs : List Piece) (p : Piece) → pieces_text x (qs ++ (p ∷ [])) ≡ pieces_text x qs ++ piece_text x p
ended x qs p = pieces_text-append x qs (p ∷ []) ∙ ap (λ bytes. pieces_text x qs ++ bytes) (append-nil (piece_text x p))

in_turn : (front a between b end : List ℕ) → front ++ (a ++ (between ++ (b ++ end))) ≡ front ++ a ++ between ++ b ++ end
in_turn front a between b end = simp append_assoc refl

blocks_text : (x : Naming) (front : Piece) (ps qs : List Piece) (a b : List ℕ) → pieces_text x ps ≡ a → pieces_text x qs ≡ b →
    pieces_text x (front ∷ (ps ++ (Else ∷ (qs ++ (End ∷ []))))) ≡ piece_text x front ++ a ++ else_text ++ b ++ end_text
blocks_text x front ps qs a b h i =
    ap (λ bytes. piece_text x front ++ bytes) (pieces_text-append x ps (Else ∷ (qs ++ (End ∷ []))))
    ∙ ap (λ bytes. piece_text x front ++ (bytes ++ (else_text ++ pieces_text x (qs ++ (End ∷ []))))) h
    ∙ ap (λ bytes. piece_text x front ++ (a ++ (else_text ++ bytes))) (ended x qs End ∙ ap (λ bytes. bytes ++ end_text) i)
    ∙ in_turn (piece_text x front) a else_text b end_text

pub branch_text : (x : Naming) (c : t.BExpr) (a b : s.BStmts) (ps qs : List Piece) → pieces_text x ps ≡ stmts_text x a → pieces_text x qs ≡ stmts_text x b →
    pieces_text x (If c ∷ (ps ++ (Else ∷ (qs ++ (End ∷ []))))) ≡ stmt_text x (s.If c a b)
branch_text x c a b ps qs = blocks_text x (If c) ps qs (stmts_text x a) (stmts_text x b)

pub choice_text : (x : Naming) (a b : s.BStmts) (ps qs : List Piece) → pieces_text x ps ≡ stmts_text x a → pieces_text x qs ≡ stmts_text x b →
    pieces_text x (Either ∷ (ps ++ (Else ∷ (qs ++ (End ∷ []))))) ≡ stmt_text x (s.Either a b)
choice_text x a b ps qs = blocks_text x Either ps qs (stmts_text x a) (stmts_text x b)

-- whole programs

pub procedure_text : (d : Proc) (ps : List Piece) → pieces_text (naming (local_names d.locals)) ps ≡ stmts_text (naming (local_names d.locals)) d.body →
    proc_text d ≡ head_text d.name d.locals ++ pieces_text (naming (local_names d.locals)) (ps ++ (End ∷ []))
procedure_text d ps h =
    let x = naming (local_names d.locals) in
    append_assoc (head_text d.name d.locals) (stmts_text x d.body) end_text
    ∙ ap (λ bytes. head_text d.name d.locals ++ (bytes ++ end_text)) (sym h) ∙ ap (λ bytes. head_text d.name d.locals ++ bytes) (sym (ended x ps End))

procs_in_turn : (ds : List Proc) → procs_text ds ≡ flat_map proc_text ds
procs_in_turn [] = refl
procs_in_turn (d ∷ ds) = ap (λ bytes. proc_text d ++ bytes) (procs_in_turn ds)

pub whole_program : (program : BProgram) → program_text program ≡ prelude ++ flat_map proc_text program.procs
whole_program program = ap (λ bytes. prelude ++ bytes) (procs_in_turn program.procs)
