-- What the weight of statements does not count: how many targets calls have.
use Rattle.std.specs.Prelude.{ℕ, ◌+◌, length}
use Rattle.viper_core.specs.Stmt as v

abbrev mutual
  pub results_of : v.Stmt → ℕ
  results_of (v.Call at targets m args) = length targets
  results_of (v.If at c first second) = results_in first + results_in second
  results_of (v.While (v.loop at guard invariants body turn targets)) = results_in body
  results_of (v.Var at x init) = 0
  results_of (v.Assign at x a) = 0
  results_of (v.Write at a f name d) = 0
  results_of (v.New at x fields refs) = 0
  results_of (v.Inhale at a) = 0
  results_of (v.Exhale at a) = 0
  results_of (v.Assert at a) = 0
  results_of (v.Fold f) = 0
  results_of (v.Unfold f) = 0

  pub results_in : v.Stmts → ℕ
  results_in v.skip = 0
  results_in (v.next a rest) = results_of a + results_in rest
