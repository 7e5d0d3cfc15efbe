-- How many `assert` statements there are.
use Rattle.std.specs.Prelude.{ℕ, ◌+◌, List, [], ◌∷◌}
use Rattle.boogie_tree.specs.Stmt as s
use Rattle.boogie_tree.specs.Program.{Proc, BProgram}

abbrev mutual
  pub asserts_at : s.BStmt → ℕ
  asserts_at (s.Assert l e) = 1
  asserts_at (s.If e a b) = asserts_in a + asserts_in b
  asserts_at (s.Either a b) = asserts_in a + asserts_in b
  asserts_at (s.Assign i e) = 0
  asserts_at (s.Put i es e) = 0
  asserts_at (s.Havoc i) = 0
  asserts_at (s.Assume e) = 0

  -- in these statements, also in their blocks
  pub asserts_in : s.BStmts → ℕ
  asserts_in s.skip = 0
  asserts_in (s.first a rest) = asserts_at a + asserts_in rest

abbrev pub asserts_in_procs : List Proc → ℕ
asserts_in_procs [] = 0
asserts_in_procs (d ∷ ds) = asserts_in d.body + asserts_in_procs ds

-- in the bodies of all procedures
abbrev pub asserts_in_program : BProgram → ℕ
asserts_in_program program = asserts_in_procs program.procs
