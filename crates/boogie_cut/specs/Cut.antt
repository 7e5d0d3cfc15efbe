-- What is written for a program with loops, calls and contracts: each procedure that has a body, without loops and calls (Barnett
-- and Leino, Weakest-precondition of unstructured programs).
use Rattle.std.specs.Prelude.{ℕ, ◌+◌, false, List, [], ◌∷◌, ◌++◌, map, length, Option, Some, None, slice_get, unwrap_or}
use Rattle.std.specs.List.{filter, filter_map}
use Rattle.std.specs.Option.{option_map}
use Rattle.boogie_tree.specs.Expr as t
use Rattle.boogie_tree.specs.Stmt as s
use Rattle.boogie_tree.specs.Program.{BType, Proc, BProgram}
use Rattle.boogie_meaning.specs.Renamed.{renamed}
use Rattle.boogie_loops.specs.Wide as w
use Rattle.boogie_loops.specs.Wide.{Clause, WProc, WProgram}
use Rattle.boogie_loops.specs.Changed.{targets}
use Rattle.boogie_loops.specs.Conditions.{variable_names}
use Rattle.boogie_loops.specs.Procedures.{wide_types, param_types, proc_named}
use Rattle.boogie_cut.specs.Fresh.{fresh_locals, is_a}

-- ---- blocks

-- the statements of one block, and then those of another
abbrev pub join : s.BStmts → s.BStmts → s.BStmts
join s.skip ys = ys
join (s.first x xs) ys = s.first x (join xs ys)

abbrev pub alone : s.BStmt → s.BStmts
alone x = s.first x s.skip

abbrev pub asserts : List Clause → s.BStmts
asserts [] = s.skip
asserts (c ∷ rest) = s.first (s.Assert c.label c.e) (asserts rest)

abbrev pub assumes : List Clause → s.BStmts
assumes [] = s.skip
assumes (c ∷ rest) = s.first (s.Assume c.e) (assumes rest)

abbrev pub havocs : List ℕ → s.BStmts
havocs [] = s.skip
havocs (i ∷ is) = s.first (s.Havoc i) (havocs is)

-- the variables from n on get the values, one after the other
abbrev pub assigns : ℕ → t.BExprs → s.BStmts
assigns n t.none = s.skip
assigns n (t.more e es) = s.first (s.Assign n e) (assigns (n + 1) es)

-- ---- statements

-- statements, and the types of the further locals that they use
pub record Written : Type 0 where
  pub locals : List BType
  pub stmts : s.BStmts

-- no further locals
abbrev pub plainly : s.BStmts → Written
plainly xs = record { locals = []; stmts = xs }

-- ---- calls

-- a number from n on for each argument
abbrev pub argument_numbers : ℕ → t.BExprs → List ℕ
argument_numbers n t.none = []
argument_numbers n (t.more e es) = n ∷ argument_numbers (n + 1) es

-- the variable of the caller that stands for one of the callee, by the numbers of those for its parameters and returns
abbrev pub stands_for : List ℕ → ℕ → ℕ
stands_for numbers i = unwrap_or (slice_get numbers i) 0

abbrev pub renamed_clauses : (ℕ → ℕ) → List Clause → List Clause
renamed_clauses f clauses = map (λ c. record { label = c.label; e = renamed f c.e }) clauses

-- The arguments are kept in further locals, since the targets may stand in them. Over these the preconditions are asserted, the
-- targets are havocked, and over both the postconditions are assumed.
abbrev pub cut_call : List ℕ → t.BExprs → ℕ → Option WProc → Written
cut_call is es n None = plainly s.skip
cut_call is es n (Some d) =
    let f = stands_for (argument_numbers n es ++ is) in
    record {
      locals = param_types d;
      stmts = join (assigns n es) (join (asserts (renamed_clauses f d.preconditions)) (join (havocs is) (assumes (renamed_clauses f d.postconditions))));
    }

-- ---- loops

-- `if` with the guard of a loop
abbrev pub cut_guard : Option t.BExpr → s.BStmts → s.BStmt
cut_guard (Some e) xs = s.If e xs s.skip
cut_guard None xs = s.Either xs s.skip

-- the body, after which the invariants are asserted and no run continues
abbrev pub cut_turn : List Clause → s.BStmts → s.BStmts
cut_turn invariants xs = join xs (join (asserts invariants) (alone (s.Assume (t.Bool false))))

-- The invariants are asserted, the targets are havocked, and the invariants are assumed. Then there is one turn, or the loop is left.
abbrev pub cut_loop : Option t.BExpr → List Clause → List ℕ → s.BStmts → s.BStmts
cut_loop g invariants is xs =
    join (asserts invariants) (join (havocs is) (join (assumes invariants) (alone (cut_guard g (cut_turn invariants xs)))))

-- ---- blocks, with further locals from the number n on

abbrev mutual
  pub cut_stmt : List WProc → List BType → w.WStmt → ℕ → Written
  cut_stmt ps ls (w.Assign i e) n = plainly (alone (s.Assign i e))
  cut_stmt ps ls (w.Put i es e) n = plainly (alone (s.Put i es e))
  cut_stmt ps ls (w.Havoc i) n = plainly (alone (s.Havoc i))
  cut_stmt ps ls (w.Assume e) n = plainly (alone (s.Assume e))
  cut_stmt ps ls (w.Assert l e) n = plainly (alone (s.Assert l e))
  cut_stmt ps ls (w.If e xs ys) n =
      let a = cut ps ls xs n in
      let c = cut ps ls ys (n + length a.locals) in
      record { locals = a.locals ++ c.locals; stmts = alone (s.If e a.stmts c.stmts) }
  cut_stmt ps ls (w.Either xs ys) n =
      let a = cut ps ls xs n in
      let c = cut ps ls ys (n + length a.locals) in
      record { locals = a.locals ++ c.locals; stmts = alone (s.Either a.stmts c.stmts) }
  cut_stmt ps ls (w.While g invariants xs) n =
      let a = cut ps ls xs n in
      record { locals = a.locals; stmts = cut_loop g invariants (targets ls xs) a.stmts }
  cut_stmt ps ls (w.Call is name es) n = cut_call is es n (proc_named ps name)

  pub cut : List WProc → List BType → w.WStmts → ℕ → Written
  cut ps ls w.skip n = plainly s.skip
  cut ps ls (w.first x xs) n =
      let a = cut_stmt ps ls x n in
      let c = cut ps ls xs (n + length a.locals) in
      record { locals = a.locals ++ c.locals; stmts = join a.stmts c.stmts }

-- ---- programs

-- the body between its preconditions and its postconditions
abbrev pub cut_body : WProc → s.BStmts → s.BStmts
cut_body d xs = join (assumes d.preconditions) (join xs (asserts d.postconditions))

-- the locals of the procedure come first, under their names
abbrev pub cut_proc : List WProc → WProc → w.WStmts → Proc
cut_proc ps d body =
    let a = cut ps (wide_types d) body (length d.locals) in
    record {
      name = d.name;
      locals = d.locals ++ fresh_locals (filter is_a (variable_names d)) 0 a.locals;
      body = cut_body d a.stmts;
    }

-- a procedure without a body is only called
abbrev pub cut_procs : List WProc → List WProc → List Proc
cut_procs ps ds = filter_map (λ d. option_map (cut_proc ps d) d.body) ds

abbrev pub cut_program : WProgram → BProgram
cut_program program = record { procs = cut_procs program.procs program.procs }
