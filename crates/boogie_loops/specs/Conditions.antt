-- What types do not say of a program that has a text: the names that have to differ do, each is of some kind, each literal is from 0
-- to the greatest, and each `forall` binds a variable.
use Rattle.std.specs.Prelude.{⊤, ℕ, List, map, All, Option, Some, None}
use Rattle.vb_base.specs.Names.{NamesDiffer}
use Rattle.boogie_tree.specs.Expr as t
use Rattle.boogie_tree.specs.Literals.{LiteralsFit, IndexLiteralsFit}
use Rattle.boogie_loops.specs.Wide as w
use Rattle.boogie_loops.specs.Wide.{Clause, WProc, WProgram}

-- ---- names

abbrev pub variable_names : WProc → List (List ℕ)
variable_names d = map (λ l. l.name) d.locals

abbrev pub procedure_names : List WProc → List (List ℕ)
procedure_names ps = map (λ d. d.name) ps

-- the names of a procedure and of its variables are of this kind
pub record HasNames (IsOfKind : List ℕ → Type 0) (d : WProc) : Type 0 where
  pub name : IsOfKind d.name
  pub variables : All IsOfKind (variable_names d)

-- The names of procedures differ, and so do those of the variables of a procedure.
pub record NamesAreApart (program : WProgram) : Type 0 where
  pub procedures : NamesDiffer (procedure_names program.procs)
  pub variables : All (λ d. NamesDiffer (variable_names d)) program.procs

-- ---- literals

abbrev pub ClauseLiteralsFit : List Clause → Type 0
ClauseLiteralsFit clauses = All (λ c. LiteralsFit c.e) clauses

abbrev pub GuardLiteralsFit : Option t.BExpr → Type 0
GuardLiteralsFit None = ⊤
GuardLiteralsFit (Some e) = LiteralsFit e

abbrev mutual
  pub WideStmtLiteralsFit : w.WStmt → Type 0
  WideStmtLiteralsFit (w.Assign i e) = LiteralsFit e
  WideStmtLiteralsFit (w.Put i es e) = IndexLiteralsFit es × LiteralsFit e
  WideStmtLiteralsFit (w.Havoc i) = ⊤
  WideStmtLiteralsFit (w.Assume e) = LiteralsFit e
  WideStmtLiteralsFit (w.Assert l e) = LiteralsFit e
  WideStmtLiteralsFit (w.If e xs ys) = LiteralsFit e × WideLiteralsFit xs × WideLiteralsFit ys
  WideStmtLiteralsFit (w.Either xs ys) = WideLiteralsFit xs × WideLiteralsFit ys
  WideStmtLiteralsFit (w.While g invariants xs) = GuardLiteralsFit g × ClauseLiteralsFit invariants × WideLiteralsFit xs
  WideStmtLiteralsFit (w.Call is name es) = IndexLiteralsFit es

  pub WideLiteralsFit : w.WStmts → Type 0
  WideLiteralsFit w.skip = ⊤
  WideLiteralsFit (w.first x xs) = WideStmtLiteralsFit x × WideLiteralsFit xs

abbrev pub BodyLiteralsFit : Option w.WStmts → Type 0
BodyLiteralsFit None = ⊤
BodyLiteralsFit (Some xs) = WideLiteralsFit xs

pub record ProcLiteralsFit (d : WProc) : Type 0 where
  pub preconditions : ClauseLiteralsFit d.preconditions
  pub postconditions : ClauseLiteralsFit d.postconditions
  pub body : BodyLiteralsFit d.body
