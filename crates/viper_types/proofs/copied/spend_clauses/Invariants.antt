-- What was spent so far is what the clauses copy that were seen.
use Rattle.std.proofs.Common.{◌≡◌, ◌+◌, drop, map}
use Rattle.viper_syntax.specs.View.{clause_of}
use Rattle.viper_scope.specs.Answers.{world_of}
use Rattle.viper_types.specs.Answers.{optional_bodies_of}
use Rattle.viper_types.specs.Copied.{copied_by_clauses}
use Rattle.viper_types.proofs.copied.spend_clauses.Given as goal

abbrev pub invariant-loop-clause : goal.invariant-loop-clause
invariant-loop-clause l =
    l.left + copied_by_clauses (world_of l.world) (optional_bodies_of l.bodies) (map clause_of l.clauses) ≡ l.fn.budget + copied_by_clauses (world_of l.world) (optional_bodies_of l.bodies) (map clause_of (drop l.clause-index l.clauses))
