-- What was spent so far is what the arms or statements copy that were seen.
use Rattle.std.proofs.Common.{◌≡◌, ◌+◌, drop}
use Rattle.viper_syntax.specs.View.{arms_of, stmts_of}
use Rattle.viper_scope.specs.Answers.{world_of}
use Rattle.viper_types.specs.Answers.{optional_bodies_of}
use Rattle.viper_types.specs.Copied.{copied_by_arms, copied_by_stmts}
use Rattle.viper_types.proofs.copied.+stmts.Given as goal

abbrev pub invariant-spend_arms-loop-arm : goal.invariant-spend_arms-loop-arm
invariant-spend_arms-loop-arm l =
    l.left + copied_by_arms (world_of l.world) (optional_bodies_of l.bodies) l.refs (arms_of l.arms) ≡ l.fn.budget + copied_by_arms (world_of l.world) (optional_bodies_of l.bodies) l.refs (arms_of (drop l.arm-index l.arms))

abbrev pub invariant-spend_stmts-loop-stmt : goal.invariant-spend_stmts-loop-stmt
invariant-spend_stmts-loop-stmt l =
    l.left + copied_by_stmts (world_of l.world) (optional_bodies_of l.bodies) l.fn.refs (stmts_of l.stmts) ≡ l.fn.budget + copied_by_stmts (world_of l.world) (optional_bodies_of l.bodies) l.refs (stmts_of (drop l.stmt-index l.stmts))
