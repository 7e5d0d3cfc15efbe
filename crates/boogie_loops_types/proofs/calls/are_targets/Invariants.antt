-- The targets that are left have the types of the returns that are left.
use Rattle.std.proofs.Common.{◌≡◌, ◌≤◌, drop, length}
use Rattle.boogie_types.specs.Typed.{types_in}
use Rattle.boogie_loops.specs.WideTypes.{are_targets}
use Rattle.boogie_loops_types.proofs.calls.are_targets.Given as goal

abbrev pub invariant-loop-target : goal.invariant-loop-target
invariant-loop-target l = record {
  place : l.count ≡ l.target-index;
  within : l.count ≤ length l.returns;
  same : are_targets (types_in l.locals) l.targets (types_in l.returns) ≡
      are_targets (types_in l.locals) (drop l.target-index l.targets) (types_in (drop l.count l.returns));
}
