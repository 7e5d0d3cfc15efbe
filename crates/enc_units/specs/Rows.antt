-- What a row of steps writes, one step after the other: the types of new locals, and pieces of text. Behind the statements of a
-- step stands its bracket.
use Rattle.std.specs.Prelude.{ℕ, ◌+◌, List, [], ◌∷◌, ◌++◌, length}
use Rattle.boogie_grammar.specs.Grammar.{local_names}
use Rattle.boogie_grammar.specs.Naming.{temporary_names}
use Rattle.boogie_grammar.specs.Printed.{Naming, naming, locals_text}
use Rattle.boogie_print.specs.Asserts.{asserts_in}
use Rattle.boogie_print.specs.Pieces as piece
use Rattle.boogie_print.specs.Pieces.{Piece, pieces_text, head_text, end_text}
use Rattle.boogie_tree.specs.Program.{BType, Local}
use Rattle.enc_expr.specs.Code.{Code, Emitting}
use Rattle.enc_expr.specs.Emits.{temporaries}
use Rattle.enc_units.specs.Steps.{RowStep, Bracket, Nothing, If, Either, Else, End}

abbrev pub bracket_pieces : Bracket → List Piece
bracket_pieces Nothing = []
bracket_pieces (If c) = piece.If c ∷ []
bracket_pieces Either = piece.Either ∷ []
bracket_pieces Else = piece.Else ∷ []
bracket_pieces End = piece.End ∷ []

abbrev pub code_pieces : Code Bracket → List Piece
code_pieces x = piece.Code x.stmts ∷ bracket_pieces x.value

-- how many asserts there are in pieces
abbrev pub asserts_of : Piece → ℕ
asserts_of (piece.Code xs) = asserts_in xs
asserts_of (piece.If c) = 0
asserts_of piece.Either = 0
asserts_of piece.Else = 0
asserts_of piece.End = 0

abbrev pub pieces_asserts : List Piece → ℕ
pieces_asserts [] = 0
pieces_asserts (p ∷ ps) = asserts_of p + pieces_asserts ps

-- ---- a row, with this code of each step, whose first new local has this number

abbrev pub row_next : (RowStep → Emitting Bracket) → List RowStep → ℕ → ℕ
row_next code [] n = n
row_next code (x ∷ xs) n = row_next code xs (code x n).next

abbrev pub row_types : (RowStep → Emitting Bracket) → List RowStep → ℕ → List BType
row_types code [] n = []
row_types code (x ∷ xs) n = (code x n).locals ++ row_types code xs (code x n).next

abbrev pub row_pieces : (RowStep → Emitting Bracket) → List RowStep → ℕ → List Piece
row_pieces code [] n = []
row_pieces code (x ∷ xs) n = code_pieces (code x n) ++ row_pieces code xs (code x n).next

-- a line for each local that the row declares
abbrev pub row_lines : (RowStep → Emitting Bracket) → List RowStep → ℕ → List ℕ
row_lines code row n = locals_text (temporaries n (row_types code row n))

-- the text of a row, with these names of locals, and how many asserts it has
abbrev pub row_text : (RowStep → Emitting Bracket) → Naming → List RowStep → ℕ → List ℕ
row_text code names row n = pieces_text names (row_pieces code row n)

abbrev pub row_asserts : (RowStep → Emitting Bracket) → List RowStep → ℕ → ℕ
row_asserts code row n = pieces_asserts (row_pieces code row n)

-- all locals of a procedure: the fixed ones, and those that the row declares behind them
abbrev pub laid_locals : (RowStep → Emitting Bracket) → List Local → List RowStep → List Local
laid_locals code fixed row = fixed ++ temporaries (length fixed) (row_types code row (length fixed))

-- what names are written in it
abbrev pub laid_names : (RowStep → Emitting Bracket) → List Local → List RowStep → Naming
laid_names code fixed row = naming (local_names (laid_locals code fixed row))

-- what names are written where so many temporaries may stand behind the fixed locals
abbrev pub names_with : List Local → ℕ → Naming
names_with fixed many = naming (local_names fixed ++ temporary_names (length fixed) many)

-- the text of a procedure, with these names of locals: its head, the row behind the fixed locals, and its end
abbrev pub named_text : (RowStep → Emitting Bracket) → Naming → List ℕ → List Local → List RowStep → List ℕ
named_text code names name fixed row = head_text name (laid_locals code fixed row) ++ (row_text code names row (length fixed) ++ end_text)

-- the same with the names of its locals
abbrev pub laid_text : (RowStep → Emitting Bracket) → List ℕ → List Local → List RowStep → List ℕ
laid_text code name fixed row = named_text code (laid_names code fixed row) name fixed row
