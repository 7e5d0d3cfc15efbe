-- The declarations that are left follow those so far.
use Rattle.std.proofs.Common.{◌≡◌, drop, map}
use Rattle.viper_syntax.specs.View.{decl_of}
use Rattle.viper_scope.specs.Answers.{world_of}
use Rattle.viper_scope.specs.Naming.{naming}
use Rattle.viper_scope.proofs.world.declare_all.Given as goal

abbrev pub invariant-loop-decl : goal.invariant-loop-decl
invariant-loop-decl l = naming (world_of l.world) (map decl_of (drop l.decl-index l.decls)) ≡ naming (world_of l.fn.world) (map decl_of l.decls)
