-- The bodies so far, and then those of the declarations that are left.
use Rattle.std.proofs.Common.{◌≡◌, ◌++◌, drop, map}
use Rattle.viper_syntax.specs.View.{decl_of}
use Rattle.viper_scope.specs.Answers.{world_of}
use Rattle.viper_types.specs.Answers.{optional_bodies_of}
use Rattle.viper_types.specs.Declaring.{bodies_of}
use Rattle.viper_types.proofs.predicates.bodies_of.Given as goal

abbrev pub invariant-loop-decl : goal.invariant-loop-decl
invariant-loop-decl l =
    optional_bodies_of l.bodies.items ++ bodies_of (world_of l.world) (map decl_of (drop l.decl-index l.decls)) ≡ bodies_of (world_of l.world) (map decl_of l.decls)
