-- What the grammar builds besides the trees of programs, and the names in them.
use Rattle.std.specs.Prelude.{ℕ, zero, suc, List, [], ◌∷◌, ◌++◌, ◌-◌, length, map, Option}
use Rattle.boogie_tree.specs.Program.{Local}
use Rattle.boogie_tree.specs.declared.exprs.BBase.{BBase}
use Rattle.boogie_loops.specs.Wide as w
use Rattle.boogie_loops.specs.Wide.{Clause, WStmt, WStmts, WProc}

-- the clauses of a procedure, and the names that they bind
pub record Contract : Type 0 where
  pub preconditions : List Clause
  pub postconditions : List Clause
  pub bound : List (List ℕ)

abbrev pub no_clauses : Contract
no_clauses = record { preconditions = []; postconditions = []; bound = [] }

-- with one more, which binds these names
abbrev pub requiring : Contract → Clause → List (List ℕ) → Contract
requiring c more names = record { preconditions = c.preconditions ++ more ∷ []; postconditions = c.postconditions; bound = c.bound ++ names }

abbrev pub ensuring : Contract → Clause → List (List ℕ) → Contract
ensuring c more names = record { preconditions = c.preconditions; postconditions = c.postconditions ++ more ∷ []; bound = c.bound ++ names }

-- the statements of a list
abbrev pub block_of : List WStmt → WStmts
block_of [] = w.skip
block_of (x ∷ xs) = w.first x (block_of xs)

-- a parameter or a return
abbrev pub plain_local : List ℕ → BBase → Local
plain_local x u = record { name = x; ty = record { keys = []; base = u } }

-- the procedure of this name with these parameters, with these parameters and returns, with these locals, clauses and body
abbrev pub procedure : List ℕ → List Local → List Local → List Local → Contract → Option WStmts → WProc
procedure x params head locals c body = record {
  name = x;
  params = length params;
  returns = length head - length params;
  locals = locals;
  preconditions = c.preconditions;
  postconditions = c.postconditions;
  body = body;
}

abbrev pub procedure_names : List WProc → List (List ℕ)
procedure_names ps = map (λ (p : WProc). p.name) ps

-- the name of this number
abbrev pub name_at : List (List ℕ) → ℕ → List ℕ
name_at [] i = []
name_at (x ∷ xs) zero = x
name_at (x ∷ xs) (suc i) = name_at xs i
