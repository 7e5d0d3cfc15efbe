-- What contracts see while a program is written.
use Rattle.std.specs.Prelude.{◌≡◌, ℕ, ◌||◌, ◌+◌, ◌++◌, List, [], ◌∷◌, map, length, if◌then◌else◌}
use Rattle.std.specs.List.{filter, list_any}
use Rattle.std.specs.Str.{bytes_eq}
use Rattle.boogie_tree.specs.Program as p
use Rattle.boogie_tree.specs.Stmt.{BStmts}
use Rattle.boogie_tree.specs.Whole.{type_of}
use Rattle.boogie_tree.specs.declared.programs.BType.{BType}
use Rattle.boogie_tree.specs.declared.programs.Local.{Local}
use Rattle.boogie_loops.specs.Procedures.{wide_types}
use Rattle.boogie_loops.specs.Wide as w
use Rattle.boogie_loops.specs.View.{clause_of}
use Rattle.boogie_loops.specs.declared.wide.Clause.{Clause}
use Rattle.boogie_loops.specs.declared.wide.WProc.{WProc}
use Rattle.boogie_cut.specs.Cut.{Written, join, stands_for, cut, cut_body}
use Rattle.boogie_cut.specs.Fresh.{is_a, is_among}
use Rattle.boogie_cut.specs.declared.copies.Renumbering.{Renumbering}
use Rattle.boogie_cut.specs.declared.copies.Renumbering.TheVariants.{Own, Of}

-- the number that a variable gets
abbrev pub number_by : Renumbering → ℕ → ℕ
number_by Own i = i
number_by (Of numbers) i = stands_for numbers.now i

abbrev pub clauses_of : List Clause → List w.Clause
clauses_of = map clause_of

abbrev pub types_in : List Local → List p.BType
types_in locals = map (λ l. type_of l.ty) locals

abbrev pub types_of_all : List BType → List p.BType
types_of_all = map type_of

-- these statements are written behind those before, and these further locals behind those before
pub record IsWritten (a : Written) (types : List p.BType) (before : BStmts) (new_types : List p.BType) (after : BStmts) : Type 0 where
  pub locals : new_types ≡ types ++ a.locals
  pub stmts : after ≡ join before a.stmts

-- the variables that statements change, in the order of the text
abbrev mutual
  pub changed_by_stmt : w.WStmt → List ℕ
  changed_by_stmt (w.Assign i e) = i ∷ []
  changed_by_stmt (w.Put i es e) = i ∷ []
  changed_by_stmt (w.Havoc i) = i ∷ []
  changed_by_stmt (w.Assume e) = []
  changed_by_stmt (w.Assert l e) = []
  changed_by_stmt (w.If e xs ys) = changed_by xs ++ changed_by ys
  changed_by_stmt (w.Either xs ys) = changed_by xs ++ changed_by ys
  changed_by_stmt (w.While g invariants xs) = changed_by xs
  changed_by_stmt (w.Call is name es) = is

  pub changed_by : w.WStmts → List ℕ
  changed_by w.skip = []
  changed_by (w.first x xs) = changed_by_stmt x ++ changed_by xs

-- ---- names

abbrev pub a_names : List Local → List (List ℕ)
a_names locals = filter is_a (map (λ l. l.name) locals)

-- these are all of the names, and there are so many of them
pub record AreNoted (keys : List (List ℕ)) (many : ℕ) (names : List (List ℕ)) : Type 0 where
  pub are : (name : List ℕ) → list_any (bytes_eq name) keys ≡ is_among name names
  pub count : many ≡ length names

-- the name is noted where it begins with an `a`
pub record IsNoted (name : List ℕ) (old new : List (List ℕ)) (n : ℕ) : Type 0 where
  pub are : (other : List ℕ) → list_any (bytes_eq other) new ≡ (if is_a name then bytes_eq other name || list_any (bytes_eq other) old else list_any (bytes_eq other) old)
  pub count : n ≡ (if is_a name then 1 else 0)

-- ---- procedures

-- the body of a procedure is written, with further locals of these types
pub record IsBody (ps : List w.WProc) (d : w.WProc) (body : w.WStmts) (types : List p.BType) (written : BStmts) : Type 0 where
  pub locals : types ≡ (cut ps (wide_types d) body (length d.locals)).locals
  pub stmts : written ≡ cut_body d (cut ps (wide_types d) body (length d.locals)).stmts
