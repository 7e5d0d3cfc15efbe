-- The declarations that are left follow those so far.
use Rattle.std.proofs.Common.{◌≡◌, drop, map}
use Rattle.viper_syntax.specs.View.{decl_of}
use Rattle.viper_scope.specs.Answers.{world_of}
use Rattle.viper_types.specs.Answers.{optional_bodies_of, parts_of}
use Rattle.viper_types.specs.Declaring.{no_program}
use Rattle.viper_types.proofs.DeclLaws.{onto}
use Rattle.viper_types.proofs.declarations.declarations.Given as goal

abbrev pub invariant-loop-decl : goal.invariant-loop-decl
invariant-loop-decl l =
    onto l.lists (world_of l.world) (optional_bodies_of l.bodies) (parts_of l.parts) (map decl_of (drop l.decl-index l.decls)) ≡
    onto l.lists (world_of l.world) (optional_bodies_of l.bodies) no_program (map decl_of l.decls)
