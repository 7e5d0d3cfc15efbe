-- What was spent so far is what the declarations copy that were seen.
use Rattle.std.proofs.Common.{◌≡◌, ◌+◌, drop, map}
use Rattle.viper_syntax.specs.View.{decl_of}
use Rattle.viper_scope.specs.Answers.{world_of}
use Rattle.viper_types.specs.Answers.{optional_bodies_of}
use Rattle.viper_types.specs.Copied.{copied_by_decls}
use Rattle.viper_types.proofs.copied.spend_decls.Given as goal

abbrev pub invariant-loop-decl : goal.invariant-loop-decl
invariant-loop-decl l =
    l.left + copied_by_decls (world_of l.world) (optional_bodies_of l.bodies) (map decl_of l.decls) ≡ l.fn.budget + copied_by_decls (world_of l.world) (optional_bodies_of l.bodies) (map decl_of (drop l.decl-index l.decls))
