-- What contracts see of the whole trees: the plain data of Wide.
use Rattle.std.specs.Prelude.{List, [], ◌∷◌, map}
use Rattle.std.specs.Option.{option_map}
use Rattle.boogie_tree.specs.Whole.{expr_of, exprs_of, locals_of}
use Rattle.boogie_loops.specs.Wide as w
use Rattle.boogie_loops.specs.declared.wide.Clause.{Clause}
use Rattle.boogie_loops.specs.declared.wide.WStmt as stmt
use Rattle.boogie_loops.specs.declared.wide.WProc.{WProc}
use Rattle.boogie_loops.specs.declared.wide.WProgram.{WProgram}

abbrev pub clause_of : Clause → w.Clause
clause_of c = record { label = c.label; e = expr_of c.e }

abbrev mutual
  pub wstmt_of : stmt.WStmt → w.WStmt
  wstmt_of (stmt.Assign i e) = w.Assign i (expr_of e)
  wstmt_of (stmt.Put i es e) = w.Put i (exprs_of es.items) (expr_of e)
  wstmt_of (stmt.Havoc i) = w.Havoc i
  wstmt_of (stmt.Assume e) = w.Assume (expr_of e)
  wstmt_of (stmt.Assert l e) = w.Assert l (expr_of e)
  wstmt_of (stmt.If' e shape a shape_b b) = w.If (expr_of e) (wstmt_row a) (wstmt_row b)
  wstmt_of (stmt.Either' shape a shape_b b) = w.Either (wstmt_row a) (wstmt_row b)
  wstmt_of (stmt.While' g invs shape a) = w.While (option_map expr_of g) (map clause_of invs.items) (wstmt_row a)
  wstmt_of (stmt.Call is f es) = w.Call is.items f (exprs_of es.items)

  -- the statements inside a statement
  pub wstmt_row : {n : _} → stmt.Row_of-WStmt n → w.WStmts
  wstmt_row stmt.end_of-WStmt = w.skip
  wstmt_row (stmt.more_of-WStmt a rest) = w.first (wstmt_of a) (wstmt_row rest)

-- the items of a `Vec` or a slice, as the statements of a block
abbrev pub wstmts_of : List stmt.WStmt → w.WStmts
wstmts_of [] = w.skip
wstmts_of (a ∷ rest) = w.first (wstmt_of a) (wstmts_of rest)

abbrev pub wproc_of : WProc → w.WProc
wproc_of d = record {
  name = d.name;
  params = d.params;
  returns = d.returns;
  locals = locals_of d.locals.items;
  preconditions = map clause_of d.preconditions.items;
  postconditions = map clause_of d.postconditions.items;
  body = option_map (λ xs. wstmts_of xs.items) d.body;
}

abbrev pub wprogram_of : WProgram → w.WProgram
wprogram_of program = record { procs = map wproc_of program.procs.items }
