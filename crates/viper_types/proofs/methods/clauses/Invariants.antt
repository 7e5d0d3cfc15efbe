-- The clauses that are left follow those so far.
use Rattle.std.proofs.Common.{◌≡◌, drop, map}
use Rattle.viper_syntax.specs.View.{clause_of}
use Rattle.viper_scope.specs.Answers.{world_of}
use Rattle.viper_types.specs.Answers.{clause_typings_of, optional_bodies_of}
use Rattle.viper_types.specs.Declaring.{clauses}
use Rattle.viper_scope.specs.Outcome.{prefixed}
use Rattle.viper_types.proofs.methods.clauses.Given as goal

abbrev pub invariant-loop-next : goal.invariant-loop-next
invariant-loop-next l =
    prefixed (clause_typings_of l.typed) (clauses (world_of l.world) (optional_bodies_of l.bodies) l.params l.all (map clause_of (drop l.next-index l.clauses))) ≡
    clauses (world_of l.world) (optional_bodies_of l.bodies) l.params l.all (map clause_of l.clauses)
