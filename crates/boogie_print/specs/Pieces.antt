-- What is written of a procedure, piece by piece: its head up to its last local, whole statements, the brackets of blocks,
-- and its end.
use Rattle.std.specs.Prelude.{◌++◌, ℕ, List, [], ◌∷◌, Option, Some, None, codes}
use Rattle.boogie_tree.specs.Expr as t
use Rattle.boogie_tree.specs.Stmt as s
use Rattle.boogie_tree.specs.Program.{Local}
use Rattle.boogie_grammar.specs.Printed.{Naming, expr_text, stmts_text, locals_text}

pub data Piece : Type 0 where
  -- whole statements
  Code : s.BStmts → Piece
  -- an `if`, up to the `{` of its first block
  If : t.BExpr → Piece
  -- the same with `*`
  Either : Piece
  -- between the blocks of either
  Else : Piece
  -- the end of the second block, or of a procedure
  End : Piece

-- an `if` of this condition, or of `*` where there is none
abbrev pub if_piece : Option t.BExpr → Piece
if_piece (Some c) = If c
if_piece None = Either

-- `procedure NAME() {` and a line for each local
abbrev pub head_text : List ℕ → List Local → List ℕ
head_text name locals = codes "procedure " ++ name ++ codes "() {\n" ++ locals_text locals

-- what stands between the two blocks of an `if`
abbrev pub else_text : List ℕ
else_text = codes "} else {\n"

-- the end of an `if` or of a procedure
abbrev pub end_text : List ℕ
end_text = codes "}\n"

-- the text of a piece, where these names are written
abbrev pub piece_text : Naming → Piece → List ℕ
piece_text x (Code xs) = stmts_text x xs
piece_text x (If c) = codes "if (" ++ expr_text x c ++ codes ") {\n"
piece_text x Either = codes "if (*) {\n"
piece_text x Else = else_text
piece_text x End = end_text

-- the texts of pieces, one after the other
abbrev pub pieces_text : Naming → List Piece → List ℕ
pieces_text x [] = []
pieces_text x (p ∷ ps) = piece_text x p ++ pieces_text x ps
